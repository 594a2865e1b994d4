-- The trees that statements are; tokens have the names that they have in Stmts.
use Rattle.std.specs.Prelude.{List, [], ◌∷◌, Option, Some, None}
use Rattle.hc_cast.specs.Primitives.{text_of}
use Rattle.hc_cast.specs.declared.expr.CExpr.{CExpr}
use Rattle.hc_cast.specs.declared.stmt.CStmt.{CStmt}
use Rattle.hc_cast.specs.declared.stmt.CStmt.TheVariants as s
use Rattle.hc_cast.specs.declared.stmt.CCase.{CCase, roll-CCase}
use Rattle.hc_cgrammar.specs.Leaves.{Word}
use Rattle.hc_cgrammar.specs.Exprs.{or_tree}
use Rattle.hc_cgrammar.specs.Stmts as g

-- the name of what is called
abbrev pub callee_name : g.Callee → Word
callee_name (g.function name) = name.1
callee_name (g.primitive name) = text_of name.1

-- { "," or }
abbrev pub more_arguments_tree : g.MoreArguments → List CExpr
more_arguments_tree g.no_argument = []
more_arguments_tree (g.next_argument comma x xs) = or_tree x ∷ more_arguments_tree xs

-- [ or { "," or } ]
abbrev pub arguments_tree : g.Arguments → List CExpr
arguments_tree g.without = []
arguments_tree (g.with x xs) = or_tree x ∷ more_arguments_tree xs

-- call = ( FNAME | PRIM ) "(" [ or { "," or } ] ")"
abbrev pub call_tree : Option Word → g.Call → CStmt
call_tree result (g.call callee left values right) = s.Call result (callee_name callee) (arguments_tree values)

abbrev mutual
  -- { stmt }
  pub stmts_tree : g.Stmts → List CStmt
  stmts_tree g.no_more = []
  stmts_tree (g.then x xs) = stmt_tree x ∷ stmts_tree xs

  -- stmt = VNAME "=" ( or | call ) ";" | ANAME "[" or "]" "=" or ";" | call ";"
  --      | "if" "(" or ")" block [ "else" block ] | "while" "(" or ")" block
  --      | "switch" "(" or ")" "{" { "case" NUM ":" block "break" ";" } "default" ":" block "break" ";" "}"
  --      | "return" [ or ] ";"
  pub stmt_tree : g.Stmt → CStmt
  stmt_tree (g.set target sign value semicolon) = s.Set target.1 (or_tree value)
  stmt_tree (g.set_call target sign value semicolon) = call_tree (Some target.1) value
  stmt_tree (g.store array left index right sign value semicolon) = s.Store array.1 (or_tree index) (or_tree value)
  stmt_tree (g.do_call c semicolon) = call_tree None c
  stmt_tree (g.when word left test right body) = s.If (or_tree test) (block_tree body) None
  stmt_tree (g.choose word left test right body else_word other) = s.If (or_tree test) (block_tree body) (Some (block_tree other))
  stmt_tree (g.loop word left test right body) = s.While (or_tree test) (block_tree body)
  stmt_tree (g.switch word left on right brace xs default_word colon otherwise break_word semicolon brace') =
      s.Switch (or_tree on) (cases_tree xs) (block_tree otherwise)
  stmt_tree (g.return word semicolon) = s.Return None
  stmt_tree (g.return_value word value semicolon) = s.Return (Some (or_tree value))

  -- block = "{" { stmt } "}"
  pub block_tree : g.Block → List CStmt
  block_tree (g.block brace ss brace') = stmts_tree ss

  -- { "case" NUM ":" block "break" ";" }
  pub cases_tree : g.Cases → List CCase
  cases_tree g.no_case = []
  cases_tree (g.next_case word numeral colon body break_word semicolon xs) =
      roll-CCase (record { number = numeral.1; body = block_tree body }) ∷ cases_tree xs
