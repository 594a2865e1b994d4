-- What the phrases of sources say without places, and that their trees say it.
use Rattle.std.proofs.Common.{◌≡◌, refl, ap, ap₂, List, [], ◌∷◌, map}
use Rattle.hc_ast.specs.Bare.{BareExpr, BareParam, BareModule, inline, call, BareProcess, BareTree}
use Rattle.hc_ast.specs.Unplaced.{bare_expr, bare_param, bare_module, bare_process, bare}
use Rattle.hc_ast.specs.Sources as g
use Rattle.hc_ast.specs.SourceTrees.{param_tree, more_params_tree, params_tree, module_tree, more_arguments_tree, arguments_tree, process_tree, processes_tree, source_tree, whole_tree}
use Rattle.hc_print.proofs.BareExprs.{expr_bare}
use Rattle.hc_print.proofs.BareTrees.{expr_same}
use Rattle.hc_print.proofs.BareStmts.{seq_bare}
use Rattle.hc_print.proofs.StmtTrees.{seq_same}

abbrev pub param_bare : g.Param → BareParam
param_bare (g.param t x) = record { kind = t.1; name = x.1 }

abbrev pub more_params_bare : g.MoreParams → List BareParam
more_params_bare g.no_param = []
more_params_bare (g.next_param t x xs) = param_bare x ∷ more_params_bare xs

abbrev pub params_bare : g.Params → List BareParam
params_bare g.none = []
params_bare (g.some x xs) = param_bare x ∷ more_params_bare xs

abbrev pub module_bare : g.Module → BareModule
module_bare (g.module_of t x a ps b c d ss f l) =
    record { name = x.1; params = params_bare ps; body = seq_bare ss }

abbrev pub more_arguments_bare : g.MoreArguments → List BareExpr
more_arguments_bare g.no_argument = []
more_arguments_bare (g.next_argument t e es) = expr_bare e ∷ more_arguments_bare es

abbrev pub arguments_bare : g.Arguments → List BareExpr
arguments_bare g.without = []
arguments_bare (g.with e es) = expr_bare e ∷ more_arguments_bare es

abbrev pub process_bare : g.Process → BareProcess
process_bare (g.inline x t a ss b) = record { name = x.1; body = inline (seq_bare ss) }
process_bare (g.call x t y a es b) =
    record { name = x.1; body = call y.1 (arguments_bare es) }

abbrev pub processes_bare : g.Processes → List BareProcess
processes_bare g.no_process = []
processes_bare (g.next_process t x xs) = process_bare x ∷ processes_bare xs

-- a module in front of a source
abbrev pub in_front : BareModule → BareTree → BareTree
in_front m t = record { modules = m ∷ t.modules; processes = t.processes }

abbrev pub source_bare : g.Source → BareTree
source_bare (g.after_module x xs) = in_front (module_bare x) (source_bare xs)
source_bare (g.system t x xs b) = record { modules = []; processes = process_bare x ∷ processes_bare xs }

abbrev pub whole_bare : g.Whole → BareTree
whole_bare (g.whole s t) = source_bare s

param_same : (x : g.Param) → bare_param (param_tree x) ≡ param_bare x
param_same (g.param t x) = refl

more_params_same : (xs : g.MoreParams) → map bare_param (more_params_tree xs) ≡ more_params_bare xs
more_params_same g.no_param = refl
more_params_same (g.next_param t x xs) = ap₂ ◌∷◌ (param_same x) (more_params_same xs)

params_same : (xs : g.Params) → map bare_param (params_tree xs) ≡ params_bare xs
params_same g.none = refl
params_same (g.some x xs) = ap₂ ◌∷◌ (param_same x) (more_params_same xs)

module_same : (x : g.Module) → bare_module (module_tree x) ≡ module_bare x
module_same (g.module_of t x a ps b c d ss f l) =
    ap₂ (λ qs rs. let one : BareModule = record { name = x.1; params = qs; body = rs } in one)
    (params_same ps) (seq_same ss)

more_arguments_same : (es : g.MoreArguments) → map bare_expr (more_arguments_tree es) ≡ more_arguments_bare es
more_arguments_same g.no_argument = refl
more_arguments_same (g.next_argument t e es) = ap₂ ◌∷◌ (expr_same e) (more_arguments_same es)

arguments_same : (es : g.Arguments) → map bare_expr (arguments_tree es) ≡ arguments_bare es
arguments_same g.without = refl
arguments_same (g.with e es) = ap₂ ◌∷◌ (expr_same e) (more_arguments_same es)

process_same : (x : g.Process) → bare_process (process_tree x) ≡ process_bare x
process_same (g.inline x t a ss b) =
    ap (λ rs. let one : BareProcess = record { name = x.1; body = inline rs } in one) (seq_same ss)
process_same (g.call x t y a es b) =
    ap (λ rs. let one : BareProcess = record { name = x.1; body = call y.1 rs } in one)
    (arguments_same es)

processes_same : (xs : g.Processes) → map bare_process (processes_tree xs) ≡ processes_bare xs
processes_same g.no_process = refl
processes_same (g.next_process t x xs) = ap₂ ◌∷◌ (process_same x) (processes_same xs)

source_same : (x : g.Source) → bare (source_tree x) ≡ source_bare x
source_same (g.after_module x xs) = ap₂ in_front (module_same x) (source_same xs)
source_same (g.system t x xs b) =
    ap (λ ps. let one : BareTree = record { modules = []; processes = ps } in one) (ap₂ ◌∷◌ (process_same x) (processes_same xs))

pub whole_same : (x : g.Whole) → bare (whole_tree x) ≡ whole_bare x
whole_same (g.whole s t) = source_same s
