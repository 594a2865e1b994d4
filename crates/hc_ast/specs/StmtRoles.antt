-- How statements are spelled, each in front of w: their tokens in the order of the grammar, in their roles, with marks between them.
-- Of the marks only `Fresh`, `Negate` and `Not` change a count; the others, and whether a token is kept, serve whoever builds
-- the tree, and mean nothing for what a source is. Of the roles only what they open, close and count as nodes means something (Counts).
use Rattle.std.specs.Prelude.{◌∷◌}
use Rattle.hc_grammar.specs.Texts.{Read, Did}
use Rattle.hc_ast.specs.declared.role.Role.TheVariants as r
use Rattle.hc_ast.specs.declared.role.Mark.TheVariants as m
use Rattle.hc_ast.specs.Leaves.{Spelled}
use Rattle.hc_ast.specs.Exprs.{expr}
use Rattle.hc_ast.specs.Conds.{cond}
use Rattle.hc_ast.specs.Stmts as g

-- io = NAME "!" expr | NAME "?" NAME
abbrev pub io : g.Io → Spelled → Spelled
io (g.send channel sign value) w =
    Read channel.0 r.Keep ∷ Read sign.0 r.Plain ∷ Did m.Fresh ∷ expr value (Did m.Send ∷ w)
io (g.receive channel sign target) w =
    Read channel.0 r.Keep ∷ Read sign.0 r.Plain ∷ Read target.0 r.Keep ∷ Did m.Receive ∷ w

-- rate = RATE "=" expr
abbrev pub rate : g.Rate → Spelled → Spelled
rate (g.rate variable sign value) w =
    Read variable.0 r.Keep ∷ Read sign.0 r.Plain ∷ Did m.Fresh ∷ expr value (Did m.Rate ∷ w)

-- { "," rate }
abbrev pub rates : g.Rates → Spelled → Spelled
rates g.no_rate w = w
rates (g.next_rate comma x xs) w = Read comma.0 r.Plain ∷ rate x (rates xs w)

abbrev mutual
  -- seq = stmt { ";" stmt }
  pub seq : g.Seq → Spelled → Spelled
  seq (g.seq x xs) w = Did m.Body ∷ stmt x (more xs w)

  pub more : g.More → Spelled → Spelled
  more g.no_more w = w
  more (g.next semicolon x xs) w = Read semicolon.0 r.Plain ∷ stmt x (more xs w)

  -- stmt = "skip" | NAME ":=" expr | "wait" "(" expr ")" | "log" "(" expr ")" | io | "if" cond "then" seq [ "else" seq ] "endif"
  --      | "(" seq ")" ( "++" "(" seq ")" | "**" | "{" cond "}" "**" ) | choice | "<" rate { "," rate } "&" cond ">" [ "|>" choice ]
  pub stmt : g.Stmt → Spelled → Spelled
  stmt (g.skip word) w = Read word.0 r.Keep ∷ Did m.Skip ∷ w
  stmt (g.assign target sign value) w =
      Read target.0 r.Keep ∷ Read sign.0 r.Plain ∷ Did m.Fresh ∷ expr value (Did m.Assign ∷ w)
  stmt (g.wait word left time right) w =
      Read word.0 r.Keep ∷ Read left.0 r.Plain ∷ Did m.Fresh ∷ expr time (Read right.0 r.Plain ∷ Did m.Wait ∷ w)
  stmt (g.log word left value right) w =
      Read word.0 r.Keep ∷ Read left.0 r.Plain ∷ Did m.Fresh ∷ expr value (Read right.0 r.Plain ∷ Did m.Log ∷ w)
  stmt (g.communicate i) w = io i (Did m.Io ∷ w)
  stmt (g.when word test then_word body end_word) w =
      Read word.0 r.Begin ∷ Did m.Fresh
      ∷ cond test (Read then_word.0 r.Plain ∷ seq body (Read end_word.0 r.Close ∷ Did m.If ∷ w))
  stmt (g.choose word test then_word body else_word other end_word) w =
      Read word.0 r.Begin ∷ Did m.Fresh
      ∷ cond test
      (Read then_word.0 r.Plain ∷ seq body (Read else_word.0 r.Plain ∷ seq other (Read end_word.0 r.Close ∷ Did m.Else ∷ w)))
  stmt (g.pick left first right sign left' second right') w =
      Read left.0 r.Begin ∷ seq first
      (Read right.0 r.Close ∷ Read sign.0 r.Plain ∷ Read left'.0 r.Open
      ∷ seq second (Read right'.0 r.Close ∷ Did m.Pick ∷ w))
  stmt (g.forever left body right stars) w =
      Read left.0 r.Begin ∷ seq body (Read right.0 r.Close ∷ Read stars.0 r.Plain ∷ Did m.Forever ∷ w)
  stmt (g.loop left body right brace test brace' stars) w =
      Read left.0 r.Begin ∷ seq body
      (Read right.0 r.Close ∷ Read brace.0 r.Open ∷ Did m.Fresh
      ∷ cond test (Read brace'.0 r.Close ∷ Read stars.0 r.Plain ∷ Did m.Loop ∷ w))
  stmt (g.select (g.choice box left x xs right)) w =
      Read box.0 r.Keep ∷ Read left.0 r.Open ∷ Did m.Branches
      ∷ branch x (branches xs (Read right.0 r.Close ∷ Did m.Choice ∷ w))
  stmt (g.evolve less x xs sign domain greater i) w =
      Read less.0 r.Begin ∷ Did m.Rates
      ∷ rate x (rates xs
      (Read sign.0 r.Plain ∷ Did m.Fresh ∷ cond domain (Read greater.0 r.Close ∷ interrupt i (Did m.Evolve ∷ w))))

  -- [ "|>" choice ], choice = "[]" "(" branch { "," branch } ")"
  pub interrupt : g.Interrupt → Spelled → Spelled
  interrupt g.none w = w
  interrupt (g.on sign (g.choice box left x xs right)) w =
      Read sign.0 r.Plain ∷ Read box.0 r.Plain ∷ Read left.0 r.Open ∷ branch x (branches xs (Read right.0 r.Close ∷ w))

  -- { "," branch }
  pub branches : g.Branches → Spelled → Spelled
  branches g.no_other w = w
  branches (g.other comma x xs) w = Read comma.0 r.Plain ∷ branch x (branches xs w)

  -- branch = io "-->" seq
  pub branch : g.Branch → Spelled → Spelled
  branch (g.branch i arrow body) w = io i (Read arrow.0 r.Plain ∷ seq body (Did m.Branch ∷ w))
