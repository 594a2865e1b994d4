-- What the processes of a source are by themselves, and where a source has none.
use Rattle.std.specs.Prelude.{◌≡◌, List, [], ◌++◌, map, slice_get, Some, IfSome, Result}
use Rattle.hc_grammar.specs.Exact as exact
use Rattle.hc_token.specs.declared.token.Token.{Token}
use Rattle.hc_ast.specs.declared.tree.Tree.{Tree}
use Rattle.hc_ast.specs.Source.{IsTreeOf}
use Rattle.hc_modules.specs.declared.flat.Flat.{Flat}
use Rattle.hc_modules.specs.declared.flat.ModuleStop.{ModuleStop}
use Rattle.hc_modules.specs.declared.flat.ModuleStop.TheVariants as stop
use Rattle.hc_modules.specs.Found.{told}
use Rattle.hc_modules.specs.Expansion.{expansion}
use Rattle.hc_modules.specs.Sizes.{all_statements}
use Rattle.hc_modules.specs.Outermost.{all_outermost}
use Rattle.hc_modules.specs.Finds as finds

-- the grammar has the tree
abbrev pub HasText : Tree → Type 0
HasText t = (ts : List Token) × IsTreeOf ts t

-- what is found, phase after phase, and in each phase in the order of the text: of modules,
abbrev pub module_refusals : Tree → List ModuleStop
module_refusals t =
    map stop.RepeatedModule (finds.repeated_modules t.modules)
    ++ map stop.RepeatedParameter (finds.repeated_parameters t.modules)
    ++ map stop.ParameterWritten (finds.parameters_written t.modules)

-- of processes,
abbrev pub process_refusals : Tree → List ModuleStop
process_refusals t =
    map stop.TooManyProcesses (finds.processes_too_many t.processes)
    ++ map stop.RepeatedProcess (finds.repeated_processes t.processes)

-- of calls,
abbrev pub call_refusals : Tree → List ModuleStop
call_refusals t =
    map stop.UnknownModule (finds.unknown_modules t.modules t.processes)
    ++ map stop.WrongArgumentCount (finds.arguments_miscounted t.modules t.processes)
    ++ map stop.WrongArgumentKind (finds.arguments_misfit t.modules t.processes)

-- of sizes after expansion,
abbrev pub size_refusals : Tree → List ModuleStop
size_refusals t =
    map stop.TooManyStatements (finds.statements_too_many (expansion t))
    ++ map stop.TooManyNodes (finds.nodes_too_many (all_outermost (expansion t)))

-- and all of it
abbrev pub refusals : Tree → List ModuleStop
refusals t = module_refusals t ++ process_refusals t ++ call_refusals t ++ size_refusals t

-- the tree is refused: the first phase that finds something finds this first
abbrev pub IsRefused : Tree → ModuleStop → Type 0
IsRefused t s = slice_get (refusals t) 0 ≡ Some s

-- these are the processes of the tree by themselves: no phase finds anything
pub record IsExpansion (t : Tree) (flat : Flat) : Type 0 where
  pub nothing_found : refusals t ≡ []
  pub processes : flat.processes ≡ expansion t
  pub statements : flat.statements ≡ all_statements (expansion t)

-- these are the processes of some tree that the grammar has
pub record IsFlat (flat : Flat) : Type 0 where
  pub tree : Tree
  pub written : HasText tree
  pub expanded : IsExpansion tree flat

-- the tree is refused so; want of memory says nothing of it
abbrev pub IsStop : Tree → ModuleStop → Type 0
IsStop t s = IfSome (told s) (IsRefused t)

-- the answer to a tree is its processes by themselves, or its refusal, and both are answered unless memory runs out
abbrev pub IsExact : Tree → Result Flat ModuleStop → Type 0
IsExact t = exact.IsExact (λ f. f) told (IsExpansion t) (IsRefused t)
