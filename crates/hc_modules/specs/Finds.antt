-- What each phase of expansion finds, in the order of the text.
use Rattle.std.specs.Prelude.{Bool, true, false, not, ◌||◌, ◌==◌, nat_lt, List, [], ◌∷◌, ◌++◌, map, drop, length, zip, flat_map, Option, Some, None, is_none}
use Rattle.std.specs.List.{list_any}
use Rattle.hc_limits.specs.Limits.{most_processes, most_statements, most_nodes_in_all}
use Rattle.hc_frac.specs.declared.place.Place.{Place}
use Rattle.hc_ast.specs.declared.expr.ExprKind.TheOpen.{ExprKind-F}
use Rattle.hc_ast.specs.declared.expr.ExprTree.{ExprTree, fold-ExprTree}
use Rattle.hc_ast.specs.declared.tree.Param.{Param}
use Rattle.hc_ast.specs.declared.tree.ParamKind.{ParamKind}
use Rattle.hc_ast.specs.declared.tree.ParamKind.TheVariants as p
use Rattle.hc_ast.specs.declared.tree.ModuleDef.{ModuleDef}
use Rattle.hc_ast.specs.declared.tree.Body.{Body}
use Rattle.hc_ast.specs.declared.tree.Body.TheVariants as body
use Rattle.hc_ast.specs.declared.tree.ProcessDef.{ProcessDef}
use Rattle.hc_modules.specs.declared.flat.FlatProcess.{FlatProcess}
use Rattle.hc_modules.specs.Bindings.{same_word, is_value_of, bare_name}
use Rattle.hc_modules.specs.Expansion.{module_of}
use Rattle.hc_modules.specs.Sizes.{all_statements}
use Rattle.hc_modules.specs.Outermost.{Outermost, total_size, Written, written}

-- the place, where the test holds
abbrev pub only_if : Bool → Place → List Place
only_if true p = p ∷ []
only_if false p = []

-- what is found along a list, where each element is looked at with those before it
abbrev pub along : {X : Type 0} → (List X → X → List Place) → List X → List X → List Place
along look before [] = []
along look before (x ∷ xs) = look before x ++ along look (before ++ x ∷ []) xs

-- ---- names

-- a module with the name of an earlier one
abbrev pub repeated_modules : List ModuleDef → List Place
repeated_modules ms = along (λ before m. only_if (list_any (λ n. same_word n.name m.name) before) m.place) [] ms

-- a parameter with the name of an earlier one of its module, of either kind
abbrev pub repeated_params : List Param → List Place
repeated_params ps = along (λ before x. only_if (list_any (λ y. same_word y.name x.name) before) x.place) [] ps

abbrev pub repeated_parameters : List ModuleDef → List Place
repeated_parameters ms = flat_map (λ m. repeated_params m.params) ms

-- a statement, branch or rate that writes a value parameter of its module
abbrev pub writes_parameter : List Param → Written → List Place
writes_parameter ps w = only_if (list_any (is_value_of w.variable) ps) w.place

abbrev pub parameters_written : List ModuleDef → List Place
parameters_written ms = flat_map (λ m. flat_map (writes_parameter m.params) (flat_map written m.body)) ms

-- the processes beyond the limit
abbrev pub processes_too_many : List ProcessDef → List Place
processes_too_many ps = map (λ p. p.place) (drop most_processes ps)

-- a process with the name of an earlier one
abbrev pub repeated_processes : List ProcessDef → List Place
repeated_processes ps = along (λ before p. only_if (list_any (λ q. same_word q.name p.name) before) p.place) [] ps

-- ---- calls

-- a call of a name that no module has
abbrev pub unknown_in : List ModuleDef → Body → List Place
unknown_in ms (body.Inline ss) = []
unknown_in ms (body.Call place x arguments) = only_if (is_none (module_of ms x)) place

abbrev pub unknown_modules : List ModuleDef → List ProcessDef → List Place
unknown_modules ms ps = flat_map (λ p. unknown_in ms p.body) ps

-- the parameters of the module that is called, of which there are none without one
abbrev pub params_of : Option ModuleDef → List Param
params_of None = []
params_of (Some m) = m.params

-- a call with more arguments than parameters, or fewer
abbrev pub miscounted_in : List ModuleDef → Body → List Place
miscounted_in ms (body.Inline ss) = []
miscounted_in ms (body.Call place x arguments) =
    only_if (not (length (params_of (module_of ms x)) == length arguments)) place

abbrev pub arguments_miscounted : List ModuleDef → List ProcessDef → List Place
arguments_miscounted ms ps = flat_map (λ p. miscounted_in ms p.body) ps

-- whether an expression has a name in it
abbrev pub has_name_layer : ExprKind-F Bool Bool → Bool
has_name_layer (ExprKind-F.Number d) = false
has_name_layer (ExprKind-F.Name x) = true
has_name_layer (ExprKind-F.Neg a) = a
has_name_layer (ExprKind-F.Binary op a b) = a || b

abbrev pub has_name : ExprTree → Bool
has_name a = fold-ExprTree Bool Bool has_name_layer (λ t. t.kind) a

-- whether an argument can't stand for a parameter: for a channel it is no bare name, for a value it has a name in it
abbrev pub is_misfit : ParamKind → ExprTree → Bool
is_misfit p.Channel a = is_none (bare_name a)
is_misfit p.Value a = has_name a

abbrev pub misfits : Param × ExprTree → List Place
misfits b = only_if (is_misfit b.0.kind b.1) b.1.place

abbrev pub misfits_in : List ModuleDef → Body → List Place
misfits_in ms (body.Inline ss) = []
misfits_in ms (body.Call place x arguments) = flat_map misfits (zip (params_of (module_of ms x)) arguments)

abbrev pub arguments_misfit : List ModuleDef → List ProcessDef → List Place
arguments_misfit ms ps = flat_map (λ p. misfits_in ms p.body) ps

-- ---- sizes after expansion

-- a process with which there are more than 10,000 statements
abbrev pub statements_too_many : List FlatProcess → List Place
statements_too_many ps = along (λ before p. only_if (nat_lt most_statements (all_statements (before ++ p ∷ []))) p.place) [] ps

-- an outermost expression or condition with which there are more than 50,000 nodes
abbrev pub nodes_too_many : List Outermost → List Place
nodes_too_many xs = along (λ before x. only_if (nat_lt most_nodes_in_all (total_size (before ++ x ∷ []))) x.place) [] xs
