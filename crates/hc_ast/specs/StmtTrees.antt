-- The trees that statements are; tokens have the names that they have in Stmts.
use Rattle.std.specs.Prelude.{List, [], ◌∷◌, Some, None}
use Rattle.hc_frac.specs.declared.place.Place.{Place}
use Rattle.hc_ast.specs.declared.stmt.IoTree.{IoTree}
use Rattle.hc_ast.specs.declared.stmt.IoTree.TheVariants as io_of
use Rattle.hc_ast.specs.declared.stmt.RateTree.{RateTree}
use Rattle.hc_ast.specs.declared.stmt.StmtTree.{StmtTree}
use Rattle.hc_ast.specs.declared.stmt.StmtKind.{StmtKind}
use Rattle.hc_ast.specs.declared.stmt.StmtKind.TheVariants as s
use Rattle.hc_ast.specs.declared.stmt.BranchTree.{BranchTree, roll-BranchTree}
use Rattle.hc_ast.specs.Exprs.{expr_tree}
use Rattle.hc_ast.specs.Conds.{cond_tree}
use Rattle.hc_ast.specs.Stmts as g

-- io = NAME "!" expr | NAME "?" NAME
abbrev pub io_tree : g.Io → IoTree
io_tree (g.send channel sign value) = io_of.Send channel.1 (expr_tree value)
io_tree (g.receive channel sign target) = io_of.Receive channel.1 target.1

-- the first token of a communication
abbrev pub io_place : g.Io → Place
io_place (g.send channel sign value) = channel.0.place
io_place (g.receive channel sign target) = channel.0.place

-- rate = RATE "=" expr
abbrev pub rate_tree : g.Rate → RateTree
rate_tree (g.rate variable sign value) =
    record { place = variable.0.place; variable = variable.1; value = expr_tree value }

-- { "," rate }
abbrev pub rates_tree : g.Rates → List RateTree
rates_tree g.no_rate = []
rates_tree (g.next_rate comma x xs) = rate_tree x ∷ rates_tree xs

-- a statement at a place
abbrev pub stmt_at : Place → StmtKind → StmtTree
stmt_at p x = record { place = p; kind = x }

-- a branch at a place
abbrev pub branch_at : Place → IoTree → List StmtTree → BranchTree
branch_at p i ss = roll-BranchTree (record { place = p; io = i; body = ss })

abbrev mutual
  -- seq = stmt { ";" stmt }
  pub seq_tree : g.Seq → List StmtTree
  seq_tree (g.seq x xs) = stmt_tree x ∷ more_tree xs

  pub more_tree : g.More → List StmtTree
  more_tree g.no_more = []
  more_tree (g.next semicolon x xs) = stmt_tree x ∷ more_tree xs

  -- stmt = "skip" | NAME ":=" expr | "wait" "(" expr ")" | "log" "(" expr ")" | io | "if" cond "then" seq [ "else" seq ] "endif"
  --      | "(" seq ")" ( "++" "(" seq ")" | "**" | "{" cond "}" "**" ) | choice | "<" rate { "," rate } "&" cond ">" [ "|>" choice ]
  pub stmt_tree : g.Stmt → StmtTree
  stmt_tree (g.skip word) = stmt_at word.0.place s.Skip
  stmt_tree (g.assign target sign value) = stmt_at target.0.place (s.Assign target.1 (expr_tree value))
  stmt_tree (g.wait word left time right) = stmt_at word.0.place (s.Wait (expr_tree time))
  stmt_tree (g.log word left value right) = stmt_at word.0.place (s.Log (expr_tree value))
  stmt_tree (g.communicate i) = stmt_at (io_place i) (s.Io (io_tree i))
  stmt_tree (g.when word test then_word body end_word) =
      stmt_at word.0.place (s.If (cond_tree test) (seq_tree body) None)
  stmt_tree (g.choose word test then_word body else_word other end_word) =
      stmt_at word.0.place (s.If (cond_tree test) (seq_tree body) (Some (seq_tree other)))
  stmt_tree (g.pick left first right sign left' second right') =
      stmt_at left.0.place (s.Pick (seq_tree first) (seq_tree second))
  stmt_tree (g.forever left body right stars) = stmt_at left.0.place (s.Forever (seq_tree body))
  stmt_tree (g.loop left body right brace test brace' stars) =
      stmt_at left.0.place (s.Loop (cond_tree test) (seq_tree body))
  stmt_tree (g.select (g.choice box left x xs right)) =
      stmt_at box.0.place (s.Choice (branch_tree x ∷ branches_tree xs))
  stmt_tree (g.evolve less x xs sign domain greater i) =
      stmt_at less.0.place (s.Evolve (rate_tree x ∷ rates_tree xs) (cond_tree domain) (interrupt_tree i))

  -- [ "|>" choice ], choice = "[]" "(" branch { "," branch } ")"
  pub interrupt_tree : g.Interrupt → List BranchTree
  interrupt_tree g.none = []
  interrupt_tree (g.on sign (g.choice box left x xs right)) = branch_tree x ∷ branches_tree xs

  -- { "," branch }
  pub branches_tree : g.Branches → List BranchTree
  branches_tree g.no_other = []
  branches_tree (g.other comma x xs) = branch_tree x ∷ branches_tree xs

  -- branch = io "-->" seq
  pub branch_tree : g.Branch → BranchTree
  branch_tree (g.branch i arrow body) = branch_at (io_place i) (io_tree i) (seq_tree body)
