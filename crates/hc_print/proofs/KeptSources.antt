-- What a tree of a source keeps.
use Rattle.std.proofs.Common.{ℕ, List, [], ◌∷◌, arith}
use Rattle.hc_grammar.specs.Texts.{Read, Did}
use Rattle.hc_ast.specs.declared.role.Role.TheVariants as r
use Rattle.hc_ast.specs.declared.role.Mark.TheVariants as m
use Rattle.hc_ast.specs.Bare.{BareExpr, BareParam, BareModule, BareBody, inline, call, BareProcess, BareTree}
use Rattle.hc_ast.specs.Leaves.{Spelled}
use Rattle.hc_ast.specs.StmtRoles.{seq}
use Rattle.hc_ast.specs.Sources as g
use Rattle.hc_ast.specs.SourceRoles.{param, more_params, params, module_of, more_arguments, arguments, process, processes, source, whole}
use Rattle.hc_print.proofs.BareSources.{param_bare, more_params_bare, params_bare, module_bare, more_arguments_bare, arguments_bare, process_bare, processes_bare, source_bare, whole_bare}
use Rattle.hc_print.proofs.OkStmts.{OkExpr, AreSome, OkStmts}
use Rattle.hc_print.proofs.KeptStmts.{Left, expr_ok, seq_kept}
use Rattle.hc_print.proofs.Sound.{GoodName, IsSound, sound_name}
use Rattle.hc_print.proofs.Walking.{Walks}

abbrev pub OkParams : List BareParam → Type 0
OkParams [] = Unit {0}
OkParams (p ∷ ps) = GoodName p.name × OkParams ps

abbrev pub OkModule : BareModule → Type 0
OkModule x = GoodName x.name × OkParams x.params × (AreSome x.body × OkStmts x.body 0)

abbrev pub OkModules : List BareModule → Type 0
OkModules [] = Unit {0}
OkModules (x ∷ xs) = OkModule x × OkModules xs

abbrev pub OkArguments : List BareExpr → Type 0
OkArguments [] = Unit {0}
OkArguments (e ∷ es) = OkExpr e 0 × OkArguments es

abbrev pub OkBody : BareBody → Type 0
OkBody (inline ss) = AreSome ss × OkStmts ss 0
OkBody (call x es) = GoodName x × OkArguments es

abbrev pub OkProcess : BareProcess → Type 0
OkProcess p = GoodName p.name × OkBody p.body

abbrev pub OkProcesses : List BareProcess → Type 0
OkProcesses [] = Unit {0}
OkProcesses (p ∷ ps) = OkProcess p × OkProcesses ps

-- there is one process at least
abbrev pub OkSystem : List BareProcess → Type 0
OkSystem [] = ⊥
OkSystem (p ∷ ps) = OkProcess p × OkProcesses ps

abbrev pub OkTree : BareTree → Type 0
OkTree t = OkModules t.modules × OkSystem t.processes

param_kept : (x : g.Param) (v : Spelled) (n : ℕ) → Walks IsSound (param x v) 0 n → GoodName (param_bare x).name × Left v 0
param_kept (g.param t x) v n (_, _, (sx, _, w)) = (sound_name x sx, (n, w))

more_params_kept : (xs : g.MoreParams) (v : Spelled) (n : ℕ) → Walks IsSound (more_params xs v) 0 n
    → OkParams (more_params_bare xs) × Left v 0
more_params_kept g.no_param v n w = (tt, (n, w))
more_params_kept (g.next_param t x xs) v n (_, _, w) =
    let p = param_kept x (more_params xs v) n w in
    let q = more_params_kept xs v p.1.0 p.1.1 in
    ((p.0, q.0), q.1)

params_kept : (xs : g.Params) (v : Spelled) (n : ℕ) → Walks IsSound (params xs v) 0 n → OkParams (params_bare xs) × Left v 0
params_kept g.none v n w = (tt, (n, w))
params_kept (g.some x xs) v n w =
    let p = param_kept x (more_params xs v) n w in
    let q = more_params_kept xs v p.1.0 p.1.1 in
    ((p.0, q.0), q.1)

module_kept : (x : g.Module) (v : Spelled) (n : ℕ) → Walks IsSound (module_of x v) 0 n → OkModule (module_bare x) × Left v 0
module_kept (g.module_of t x a ps b c d ss f l) v n (_, _, (sx, _, (_, _, w))) =
    let last = Read f.0 r.Plain ∷ Read l.0 r.Plain ∷ Did m.Module ∷ v in
    let p = params_kept ps (Read b.0 r.Plain ∷ Read c.0 r.Plain ∷ Read d.0 r.Plain ∷ seq ss last) n w in
    let q = seq_kept ss last 0 p.1.0 (omega arith) p.1.1.2.2.2 in
    ((sound_name x sx, p.0, q.0), (q.1.0, q.1.1.2.2))

more_arguments_kept : (es : g.MoreArguments) (v : Spelled) (n : ℕ) → Walks IsSound (more_arguments es v) 0 n
    → OkArguments (more_arguments_bare es) × Left v 0
more_arguments_kept g.no_argument v n w = (tt, (n, w))
more_arguments_kept (g.next_argument t e es) v n (_, _, w) =
    let p = expr_ok e (Did m.Argument ∷ more_arguments es v) 0 (omega arith) w in
    let q = more_arguments_kept es v p.1.0 p.1.1 in
    ((p.0, q.0), q.1)

arguments_kept : (es : g.Arguments) (v : Spelled) → Walks IsSound (arguments es v) 0 0 → OkArguments (arguments_bare es) × Left v 0
arguments_kept g.without v w = (tt, (0, w))
arguments_kept (g.with e es) v w =
    let p = expr_ok e (Did m.Argument ∷ more_arguments es v) 0 (omega arith) w in
    let q = more_arguments_kept es v p.1.0 p.1.1 in
    ((p.0, q.0), q.1)

process_kept : (x : g.Process) (v : Spelled) (n : ℕ) → Walks IsSound (process x v) 0 n → OkProcess (process_bare x) × Left v 0
process_kept (g.inline x t a ss b) v n (sx, _, (_, _, (_, _, w))) =
    let p = seq_kept ss (Read b.0 r.Plain ∷ Did m.Inline ∷ v) 0 n (omega arith) w in
    ((sound_name x sx, p.0), (p.1.0, p.1.1.2))
process_kept (g.call x t y a es b) v n (sx, _, (_, _, (sy, _, (_, _, w)))) =
    let p = arguments_kept es (Read b.0 r.Plain ∷ Did m.Call ∷ v) w in
    ((sound_name x sx, (sound_name y sy, p.0)), (p.1.0, p.1.1.2))

processes_kept : (xs : g.Processes) (v : Spelled) (n : ℕ) → Walks IsSound (processes xs v) 0 n
    → OkProcesses (processes_bare xs) × Left v 0
processes_kept g.no_process v n w = (tt, (n, w))
processes_kept (g.next_process t x xs) v n (_, _, w) =
    let p = process_kept x (processes xs v) n w in
    let q = processes_kept xs v p.1.0 p.1.1 in
    ((p.0, q.0), q.1)

source_kept : (x : g.Source) (v : Spelled) (n : ℕ) → Walks IsSound (source x v) 0 n → OkTree (source_bare x)
source_kept (g.after_module x xs) v n w =
    let p = module_kept x (source xs v) n w in
    let q = source_kept xs v p.1.0 p.1.1 in
    ((p.0, q.0), q.1)
source_kept (g.system t x xs b) v n (_, _, w) =
    let p = process_kept x (processes xs (Read b.0 r.Plain ∷ v)) n w in
    let q = processes_kept xs (Read b.0 r.Plain ∷ v) p.1.0 p.1.1 in
    (tt, (p.0, q.0))

pub whole_kept : (x : g.Whole) → Walks IsSound (whole x) 0 0 → OkTree (whole_bare x)
whole_kept (g.whole s t) w = source_kept s (Read t.0 r.Plain ∷ []) 0 w
