-- How statements are spelled, each in front of w: their tokens in the order of the grammar, in their roles, with marks between them.
-- Marks say where an expression begins (`Fresh`), where an argument ends, and which statement ended last (Walk); the others serve
-- whoever builds the tree, and mean nothing for what a unit is.
use Rattle.std.specs.Prelude.{◌∷◌}
use Rattle.hc_grammar.specs.Texts.{Read, Did}
use Rattle.hc_cgrammar.specs.declared.role.Role.{Role}
use Rattle.hc_cgrammar.specs.declared.role.Role.TheVariants as r
use Rattle.hc_cgrammar.specs.declared.role.Mark.TheVariants as m
use Rattle.hc_cgrammar.specs.Leaves.{Spelled}
use Rattle.hc_cgrammar.specs.Exprs.{or}
use Rattle.hc_cgrammar.specs.Stmts as g

-- FNAME | PRIM
abbrev pub callee : Role → g.Callee → Spelled → Spelled
callee role (g.function name) w = Read name.0 role ∷ w
callee role (g.primitive name) w = Read name.0 role ∷ w

-- { "," or }
abbrev pub more_arguments : g.MoreArguments → Spelled → Spelled
more_arguments g.no_argument w = w
more_arguments (g.next_argument comma x xs) w =
    Read comma.0 r.NextArgument ∷ Did m.Fresh ∷ or x (Did m.Argument ∷ more_arguments xs w)

-- [ or { "," or } ]
abbrev pub arguments : g.Arguments → Spelled → Spelled
arguments g.without w = w
arguments (g.with x xs) w = or x (Did m.Argument ∷ more_arguments xs w)

-- call = ( FNAME | PRIM ) "(" [ or { "," or } ] ")"
abbrev pub call : Role → g.Call → Spelled → Spelled
call role (g.call named left values right) w =
    callee role named (Read left.0 r.OpenArguments ∷ Did m.Fresh ∷ arguments values (Read right.0 r.CloseArguments ∷ w))

abbrev mutual
  -- { stmt }
  pub stmts : g.Stmts → Spelled → Spelled
  stmts g.no_more w = w
  stmts (g.then x xs) w = stmt x (stmts xs w)

  -- stmt = VNAME "=" ( or | call ) ";" | ANAME "[" or "]" "=" or ";" | call ";"
  --      | "if" "(" or ")" block [ "else" block ] | "while" "(" or ")" block
  --      | "switch" "(" or ")" "{" { "case" NUM ":" block "break" ";" } "default" ":" block "break" ";" "}"
  --      | "return" [ or ] ";"
  pub stmt : g.Stmt → Spelled → Spelled
  stmt (g.set target sign value semicolon) w =
      Read target.0 r.Target ∷ Read sign.0 r.Plain ∷ Did m.Fresh ∷ or value (Read semicolon.0 r.Plain ∷ Did m.Set ∷ w)
  stmt (g.set_call target sign value semicolon) w =
      Read target.0 r.Target ∷ Read sign.0 r.Plain ∷ Did m.Fresh
      ∷ call r.GivingCallee value (Read semicolon.0 r.Plain ∷ Did m.SetCall ∷ w)
  stmt (g.store array left index right sign value semicolon) w =
      Read array.0 r.TargetArray ∷ Read left.0 r.Open
      ∷ Did m.Fresh ∷ or index
      (Read right.0 r.Close ∷ Read sign.0 r.Plain ∷ Did m.Fresh ∷ or value (Read semicolon.0 r.Plain ∷ Did m.Store ∷ w))
  stmt (g.do_call c semicolon) w = call r.Callee c (Read semicolon.0 r.Plain ∷ Did m.Call ∷ w)
  stmt (g.when word left test right body) w =
      Read word.0 r.Plain ∷ Read left.0 r.Open ∷ Did m.Fresh ∷ or test (Read right.0 r.Close ∷ block body (Did m.If ∷ w))
  stmt (g.choose word left test right body else_word other) w =
      Read word.0 r.Plain ∷ Read left.0 r.Open
      ∷ Did m.Fresh ∷ or test
      (Read right.0 r.Close ∷ block body (Read else_word.0 r.Plain ∷ block other (Did m.IfElse ∷ w)))
  stmt (g.loop word left test right body) w =
      Read word.0 r.Plain ∷ Read left.0 r.Open ∷ Did m.Fresh ∷ or test (Read right.0 r.Close ∷ block body (Did m.While ∷ w))
  stmt (g.switch word left on right brace xs default_word colon otherwise break_word semicolon brace') w =
      Read word.0 r.Plain ∷ Read left.0 r.Open
      ∷ Did m.Fresh ∷ or on
      (Read right.0 r.Close ∷ Read brace.0 r.OpenCases ∷ Did m.Cases
      ∷ cases xs
      (Read default_word.0 r.Plain ∷ Read colon.0 r.Plain
      ∷ block otherwise
      (Read break_word.0 r.Plain ∷ Read semicolon.0 r.Plain ∷ Read brace'.0 r.CloseCases ∷ Did m.Switch ∷ w)))
  stmt (g.return word semicolon) w = Read word.0 r.Plain ∷ Did m.Fresh ∷ Read semicolon.0 r.EndReturn ∷ Did m.Return ∷ w
  stmt (g.return_value word value semicolon) w =
      Read word.0 r.Plain ∷ Did m.Fresh ∷ or value (Read semicolon.0 r.EndValueReturn ∷ Did m.ValueReturn ∷ w)

  -- block = "{" { stmt } "}"
  pub block : g.Block → Spelled → Spelled
  block (g.block brace ss brace') w = Read brace.0 r.Open ∷ Did m.Statements ∷ stmts ss (Read brace'.0 r.Close ∷ w)

  -- { "case" NUM ":" block "break" ";" }
  pub cases : g.Cases → Spelled → Spelled
  cases g.no_case w = w
  cases (g.next_case word numeral colon body break_word semicolon xs) w =
      Read word.0 r.Plain ∷ Read numeral.0 r.CaseNumber ∷ Read colon.0 r.Plain
      ∷ block body (Read break_word.0 r.Plain ∷ Read semicolon.0 r.Plain ∷ Did m.Case ∷ cases xs w)
