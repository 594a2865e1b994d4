-- The trees that sources are; tokens have the names that they have in Sources.
use Rattle.std.specs.Prelude.{List, [], ◌∷◌}
use Rattle.hc_ast.specs.declared.expr.ExprTree.{ExprTree}
use Rattle.hc_ast.specs.declared.tree.Param.{Param}
use Rattle.hc_ast.specs.declared.tree.ModuleDef.{ModuleDef}
use Rattle.hc_ast.specs.declared.tree.Body.TheVariants as body
use Rattle.hc_ast.specs.declared.tree.ProcessDef.{ProcessDef}
use Rattle.hc_ast.specs.declared.tree.Tree.{Tree}
use Rattle.hc_ast.specs.Exprs.{expr_tree}
use Rattle.hc_ast.specs.StmtTrees.{seq_tree}
use Rattle.hc_ast.specs.Sources as g

-- param = ( "ch" | "val" ) NAME
abbrev pub param_tree : g.Param → Param
param_tree (g.param word name) = record { place = word.0.place; kind = word.1; name = name.1 }

-- { "," param }
abbrev pub more_params_tree : g.MoreParams → List Param
more_params_tree g.no_param = []
more_params_tree (g.next_param comma x xs) = param_tree x ∷ more_params_tree xs

-- [ param { "," param } ]
abbrev pub params_tree : g.Params → List Param
params_tree g.none = []
params_tree (g.some x xs) = param_tree x ∷ more_params_tree xs

-- module = "module" NAME "(" [ param { "," param } ] ")" ":" "begin" seq "end" "endmodule"
abbrev pub module_tree : g.Module → ModuleDef
module_tree (g.module_of word name left ps right colon begin_word ss end_word last_word) =
    record { place = name.0.place; name = name.1; params = params_tree ps; body = seq_tree ss }

-- { "," expr }
abbrev pub more_arguments_tree : g.MoreArguments → List ExprTree
more_arguments_tree g.no_argument = []
more_arguments_tree (g.next_argument comma x xs) = expr_tree x ∷ more_arguments_tree xs

-- [ expr { "," expr } ]
abbrev pub arguments_tree : g.Arguments → List ExprTree
arguments_tree g.without = []
arguments_tree (g.with x xs) = expr_tree x ∷ more_arguments_tree xs

-- process = NAME "=" ( "(" seq ")" | NAME "(" [ expr { "," expr } ] ")" )
abbrev pub process_tree : g.Process → ProcessDef
process_tree (g.inline name sign left ss right) =
    record { place = name.0.place; name = name.1; body = body.Inline (seq_tree ss) }
process_tree (g.call name sign callee left values right) =
    record {
      place = name.0.place;
      name = name.1;
      body = body.Call callee.0.place callee.1 (arguments_tree values);
    }

-- { "||" process }
abbrev pub processes_tree : g.Processes → List ProcessDef
processes_tree g.no_process = []
processes_tree (g.next_process bars x xs) = process_tree x ∷ processes_tree xs

-- a module in front of a tree
abbrev pub with_module : ModuleDef → Tree → Tree
with_module x t = record { modules = x ∷ t.modules; processes = t.processes }

-- source = { module } system, system = "system" process { "||" process } "endsystem"
abbrev pub source_tree : g.Source → Tree
source_tree (g.after_module x xs) = with_module (module_tree x) (source_tree xs)
source_tree (g.system word x xs end_word) = record { modules = []; processes = process_tree x ∷ processes_tree xs }

-- a source, and then the end of the text
abbrev pub whole_tree : g.Whole → Tree
whole_tree (g.whole x last) = source_tree x
