-- How sources are spelled, each in front of w: their tokens in the order of the grammar, in their roles, with marks between them.
-- Of the marks only `Fresh`, `Negate` and `Not` change a count; the others, and whether a token is kept, serve whoever builds
-- the tree, and mean nothing for what a source is. Of the roles only what they open, close and count as nodes means something (Counts).
use Rattle.std.specs.Prelude.{[], ◌∷◌}
use Rattle.hc_grammar.specs.Texts.{Read, Did}
use Rattle.hc_ast.specs.declared.role.Role.TheVariants as r
use Rattle.hc_ast.specs.declared.role.Mark.TheVariants as m
use Rattle.hc_ast.specs.Leaves.{Spelled}
use Rattle.hc_ast.specs.Exprs.{expr}
use Rattle.hc_ast.specs.StmtRoles.{seq}
use Rattle.hc_ast.specs.Sources as g

-- param = ( "ch" | "val" ) NAME
abbrev pub param : g.Param → Spelled → Spelled
param (g.param word name) w = Read word.0 r.Keep ∷ Read name.0 r.Keep ∷ Did m.Param ∷ w

-- { "," param }
abbrev pub more_params : g.MoreParams → Spelled → Spelled
more_params g.no_param w = w
more_params (g.next_param comma x xs) w = Read comma.0 r.Plain ∷ param x (more_params xs w)

-- [ param { "," param } ]
abbrev pub params : g.Params → Spelled → Spelled
params g.none w = w
params (g.some x xs) w = param x (more_params xs w)

-- module = "module" NAME "(" [ param { "," param } ] ")" ":" "begin" seq "end" "endmodule"
abbrev pub module_of : g.Module → Spelled → Spelled
module_of (g.module_of word name left ps right colon begin_word ss end_word last_word) w =
    Read word.0 r.Plain ∷ Read name.0 r.Keep ∷ Read left.0 r.Plain ∷ Did m.Params
    ∷ params ps
    (Read right.0 r.Plain ∷ Read colon.0 r.Plain ∷ Read begin_word.0 r.Plain
    ∷ seq ss (Read end_word.0 r.Plain ∷ Read last_word.0 r.Plain ∷ Did m.Module ∷ w))

-- { "," expr }
abbrev pub more_arguments : g.MoreArguments → Spelled → Spelled
more_arguments g.no_argument w = w
more_arguments (g.next_argument comma x xs) w =
    Read comma.0 r.Plain ∷ Did m.Fresh ∷ expr x (Did m.Argument ∷ more_arguments xs w)

-- [ expr { "," expr } ]
abbrev pub arguments : g.Arguments → Spelled → Spelled
arguments g.without w = w
arguments (g.with x xs) w = expr x (Did m.Argument ∷ more_arguments xs w)

-- process = NAME "=" ( "(" seq ")" | NAME "(" [ expr { "," expr } ] ")" )
abbrev pub process : g.Process → Spelled → Spelled
process (g.inline name sign left ss right) w =
    Read name.0 r.Keep ∷ Read sign.0 r.Plain ∷ Read left.0 r.Plain ∷ seq ss (Read right.0 r.Plain ∷ Did m.Inline ∷ w)
process (g.call name sign callee left values right) w =
    Read name.0 r.Keep ∷ Read sign.0 r.Plain ∷ Read callee.0 r.Keep ∷ Read left.0 r.Plain ∷ Did m.Arguments ∷ Did m.Fresh
    ∷ arguments values (Read right.0 r.Plain ∷ Did m.Call ∷ w)

-- { "||" process }
abbrev pub processes : g.Processes → Spelled → Spelled
processes g.no_process w = w
processes (g.next_process bars x xs) w = Read bars.0 r.Plain ∷ process x (processes xs w)

-- source = { module } system, system = "system" process { "||" process } "endsystem"
abbrev pub source : g.Source → Spelled → Spelled
source (g.after_module x xs) w = module_of x (source xs w)
source (g.system word x xs end_word) w = Read word.0 r.Plain ∷ process x (processes xs (Read end_word.0 r.Plain ∷ w))

-- a source, and then the end of the text
abbrev pub whole : g.Whole → Spelled
whole (g.whole x last) = source x (Read last.0 r.Plain ∷ [])
