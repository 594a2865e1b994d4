-- The processes of a source, each by itself.
use Rattle.std.specs.Prelude.{List, [], map, find, zip, Option, Some, None}
use Rattle.hc_ast.specs.declared.expr.ExprTree.{ExprTree}
use Rattle.hc_ast.specs.declared.stmt.StmtTree.{StmtTree}
use Rattle.hc_ast.specs.declared.tree.ModuleDef.{ModuleDef}
use Rattle.hc_ast.specs.declared.tree.Body.{Body}
use Rattle.hc_ast.specs.declared.tree.Body.TheVariants as body
use Rattle.hc_ast.specs.declared.tree.ProcessDef.{ProcessDef}
use Rattle.hc_ast.specs.declared.tree.Tree.{Tree}
use Rattle.hc_ast.specs.Bare.{Word}
use Rattle.hc_modules.specs.declared.flat.FlatProcess.{FlatProcess}
use Rattle.hc_modules.specs.Bindings.{same_word}
use Rattle.hc_modules.specs.Replaced.{stmt_in}

-- the module of a name
abbrev pub module_of : List ModuleDef → Word → Option ModuleDef
module_of ms x = find (λ m. same_word m.name x) ms

-- a module's statements with these arguments; without a module there are none
abbrev pub called : Option ModuleDef → List ExprTree → List StmtTree
called None arguments = []
called (Some m) arguments = map (stmt_in (zip m.params arguments)) m.body

-- what a process does: its own statements, or those of the module that it calls
abbrev pub statements_of : List ModuleDef → Body → List StmtTree
statements_of ms (body.Inline ss) = ss
statements_of ms (body.Call place x arguments) = called (module_of ms x) arguments

abbrev pub flat_process : List ModuleDef → ProcessDef → FlatProcess
flat_process ms p = record { place = p.place; name = p.name; body = statements_of ms p.body }

-- each process of the system by itself, in order
abbrev pub expansion : Tree → List FlatProcess
expansion t = map (flat_process t.modules) t.processes
