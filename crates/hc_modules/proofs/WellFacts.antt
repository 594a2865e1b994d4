-- Every expansion is well.
use Rattle.std.proofs.Common.{◌≡◌, refl, ap, sym, ◌∙◌, subst, ◌≤◌, Bool, true, false, not, ◌&&◌, List, [], ◌∷◌, ◌++◌, map, drop, length, find, zip, Option, Some, None, is_none, cond, ◌||◌, length-drop, arith}
use Rattle.std.specs.List.{list_all, list_any}
use Rattle.std.proofs.lemmas.List.{length-map}
use Rattle.hc_ast.specs.declared.expr.ExprTree.{ExprTree}
use Rattle.hc_ast.specs.declared.tree.ModuleDef.{ModuleDef}
use Rattle.hc_ast.specs.declared.tree.Body.{Body}
use Rattle.hc_ast.specs.declared.tree.Body.TheVariants as body
use Rattle.hc_ast.specs.declared.tree.ProcessDef.{ProcessDef}
use Rattle.hc_ast.specs.declared.tree.Tree.{Tree}
use Rattle.hc_ast.specs.Bare.{Word}
use Rattle.hc_ast.specs.Stmts.{Seq}
use Rattle.hc_ast.specs.StmtTrees.{seq_tree}
use Rattle.hc_ast.specs.Sources as g
use Rattle.hc_ast.specs.SourceTrees.{module_tree, process_tree, processes_tree, source_tree, whole_tree}
use Rattle.hc_modules.specs.declared.flat.Flat.{Flat}
use Rattle.hc_modules.specs.declared.flat.ModuleStop.TheVariants as stop
use Rattle.hc_modules.specs.Bindings.{same_word}
use Rattle.hc_modules.specs.Expansion.{module_of, called, statements_of, flat_process, expansion}
use Rattle.hc_modules.specs.Finds as finds
use Rattle.hc_modules.specs.Outermost.{all_outermost, total_size}
use Rattle.hc_modules.specs.Refusals.{module_refusals, process_refusals, call_refusals, size_refusals, HasText, IsFlat}
use Rattle.hc_modules.specs.Replaced.{stmt_in}
use Rattle.hc_modules.specs.Sizes.{all_statements}
use Rattle.hc_modules.specs.Well.{is_full_process, names_apart, IsWell}
use Rattle.hc_modules.proofs.Full.{all_full}
use Rattle.hc_modules.proofs.FullTrees.{seq_full}
use Rattle.hc_modules.proofs.Induction.{Each}
use Rattle.hc_modules.proofs.Nothing.{left_empty, right_empty, unmapped_empty, each_empty, not_found, within_all, apart, all_apart}
use Rattle.hc_modules.proofs.Unbound.{stmts_unbound}

-- ---- what the grammar gives

-- a module has a list of statements of the grammar
abbrev HasSeq : ModuleDef → Type 0
HasSeq m = (x : Seq) × (m.body ≡ seq_tree x)

-- so has a process with statements of its own
abbrev BodyHasSeq : Body → Type 0
BodyHasSeq (body.Inline ss) = (x : Seq) × (ss ≡ seq_tree x)
BodyHasSeq (body.Call place x arguments) = Unit {0}

abbrev ProcessHasSeq : ProcessDef → Type 0
ProcessHasSeq p = BodyHasSeq p.body

module_has : (x : g.Module) → HasSeq (module_tree x)
module_has (g.module_of t x a ps b c d ss f l) = (ss, refl)

process_has : (x : g.Process) → ProcessHasSeq (process_tree x)
process_has (g.inline x t a ss b) = (ss, refl)
process_has (g.call x t y a es b) = tt

processes_have : (xs : g.Processes) → Each ProcessHasSeq (processes_tree xs)
processes_have g.no_process = tt
processes_have (g.next_process t x xs) = (process_has x, processes_have xs)

-- modules and processes have, and there is a process
record Made (t : Tree) : Type 0 where
  modules : Each HasSeq t.modules
  processes : Each ProcessHasSeq t.processes
  some : 1 ≤ length t.processes

source_made : (x : g.Source) → Made (source_tree x)
source_made (g.after_module x xs) =
    let rest = source_made xs in record { modules = (module_has x, rest.modules); processes = rest.processes; some = rest.some }
source_made (g.system t x xs b) =
    record { modules = tt; processes = (process_has x, processes_have xs); some = omega arith }

made : (t : Tree) → HasText t → Made t
made t (ts, text) = subst Made text.tree (of_whole text.written)
  where
    of_whole : (w : g.Whole) → Made (whole_tree w)
    of_whole (g.whole s e) = source_made s

-- ---- bodies are full

-- what holds of each element holds of the one that is found
first_has : {X : Type 0} (P : X → Type 0) (x y : X) (b : Bool) (rest : Option X) → P y → (rest ≡ Some x → P x) → cond b (Some y) rest ≡ Some x → P x
first_has P x y true rest h more e = let same : y ≡ x = cc in subst P same h
first_has P x y false rest h more e = more e

found_has : {X : Type 0} (P : X → Type 0) (test : X → Bool) (xs : List X) → Each P xs → (x : X) → find test xs ≡ Some x → P x
found_has P test [] es x e = absurd (cc)
found_has P test (y ∷ ys) es x e = first_has P x y (test y) (find test ys) es.0 (λ f. found_has P test ys es.1 x f) e

module _ (ms : List ModuleDef) (has : Each HasSeq ms) where
  called_full : (x : Word) (arguments : List ExprTree) (o : Option ModuleDef) → module_of ms x ≡ o → is_none o ≡ false
      → all_full (called o arguments) ≡ true
  called_full x arguments None e f = absurd (cc)
  called_full x arguments (Some m) e f =
      let h = found_has HasSeq (λ m. same_word m.name x) ms has m e in
      ap (λ ss. all_full (map (stmt_in (zip m.params arguments)) ss)) h.1 ∙ seq_full (zip m.params arguments) h.0

  body_full : (b : Body) → BodyHasSeq b → finds.unknown_in ms b ≡ [] → all_full (statements_of ms b) ≡ true
  body_full (body.Inline ss) h e =
      ap all_full (sym (stmts_unbound ss)) ∙ ap (λ us. all_full (map (stmt_in []) us)) h.1 ∙ seq_full [] h.0
  body_full (body.Call place x arguments) h e =
      called_full x arguments (module_of ms x) refl (not_found (is_none (module_of ms x)) place e)

  processes_full : (ps : List ProcessDef) → Each ProcessHasSeq ps → Each (λ p. finds.unknown_in ms p.body ≡ []) ps
      → list_all is_full_process (map (flat_process ms) ps) ≡ true
  processes_full [] es fs = refl
  processes_full (p ∷ ps) es fs = let e = body_full p.body es.0 fs.0 in let f = processes_full ps es.1 fs.1 in cc

-- ---- names differ

any_mapped : {X Y : Type 0} (test : Y → Bool) (f : X → Y) (xs : List X) → list_any test (map f xs) ≡ list_any (λ x. test (f x)) xs
any_mapped test f [] = refl
any_mapped test f (x ∷ xs) = ap (λ b. test (f x) || b) (any_mapped test f xs)

flat_names : (ms : List ModuleDef) (ps : List ProcessDef)
    → names_apart (map (flat_process ms) ps) ≡ apart (λ p q. same_word p.name q.name) (λ p. p.place) ps
flat_names ms [] = refl
flat_names ms (p ∷ ps) =
    ap (λ b. not b && names_apart (map (flat_process ms) ps)) (any_mapped (λ q. same_word p.name q.name) (flat_process ms) ps)
    ∙ ap (λ b. not (list_any (λ q. same_word p.name q.name) ps) && b) (flat_names ms ps)

at_most_64 : (ps : List ProcessDef) → finds.processes_too_many ps ≡ [] → length ps ≤ 64
at_most_64 ps e =
    let h : drop 64 ps ≡ [] = unmapped_empty (λ p. p.place) (drop 64 ps) e in
    omega (arith, length-drop 64 ps, ap length h)

pub well : (flat : Flat) → IsFlat flat → IsWell flat
well flat is =
    let t = is.tree in
    let ms = t.modules in
    let ps = t.processes in
    let made_of = made t is.written in
    let same = is.expanded.processes in
    let nothing = is.expanded.nothing_found in
    let before_sizes = left_empty (module_refusals t ++ process_refusals t ++ call_refusals t) (size_refusals t) nothing in
    let no_size = right_empty (module_refusals t ++ process_refusals t ++ call_refusals t) (size_refusals t) nothing in
    let no_call = right_empty (module_refusals t ++ process_refusals t) (call_refusals t) before_sizes in
    let no_process = right_empty (module_refusals t) (process_refusals t)
    (left_empty (module_refusals t ++ process_refusals t) (call_refusals t) before_sizes) in
    let few = unmapped_empty stop.TooManyProcesses (finds.processes_too_many ps)
    (left_empty (map stop.TooManyProcesses (finds.processes_too_many ps)) (map stop.RepeatedProcess (finds.repeated_processes ps)) no_process) in
    let once = unmapped_empty stop.RepeatedProcess (finds.repeated_processes ps)
    (right_empty (map stop.TooManyProcesses (finds.processes_too_many ps)) (map stop.RepeatedProcess (finds.repeated_processes ps)) no_process) in
    let known = unmapped_empty stop.UnknownModule (finds.unknown_modules ms ps)
    (left_empty (map stop.UnknownModule (finds.unknown_modules ms ps)) (map stop.WrongArgumentCount (finds.arguments_miscounted ms ps))
    (left_empty (map stop.UnknownModule (finds.unknown_modules ms ps) ++ map stop.WrongArgumentCount (finds.arguments_miscounted ms ps))
    (map stop.WrongArgumentKind (finds.arguments_misfit ms ps)) no_call)) in
    let short = unmapped_empty stop.TooManyStatements (finds.statements_too_many (expansion t))
    (left_empty (map stop.TooManyStatements (finds.statements_too_many (expansion t)))
    (map stop.TooManyNodes (finds.nodes_too_many (all_outermost (expansion t)))) no_size) in
    let small = unmapped_empty stop.TooManyNodes (finds.nodes_too_many (all_outermost (expansion t)))
    (right_empty (map stop.TooManyStatements (finds.statements_too_many (expansion t)))
    (map stop.TooManyNodes (finds.nodes_too_many (all_outermost (expansion t)))) no_size) in
    let long : length flat.processes ≡ length ps = ap length same ∙ length-map ps (flat_process ms) in
    record {
      some = omega (arith, made_of.some, long);
      few = omega (arith, at_most_64 ps few, long);
      apart = ap names_apart same ∙ flat_names ms ps ∙ all_apart (λ p q. same_word p.name q.name) (λ p. p.place) ps once;
      full = ap (list_all is_full_process) same
          ∙ processes_full ms made_of.modules ps made_of.processes (each_empty (λ p. finds.unknown_in ms p.body) ps known);
      counted = is.expanded.statements ∙ ap all_statements (sym same);
      statements = subst (λ fs. all_statements fs ≤ 10000) (sym same)
          (within_all all_statements 10000 (λ p. p.place) [] (expansion t) (omega arith) short);
      nodes = subst (λ fs. total_size (all_outermost fs) ≤ 50000) (sym same)
          (within_all total_size 50000 (λ x. x.place) [] (all_outermost (expansion t)) (omega arith) small);
    }
