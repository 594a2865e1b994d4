-- The program of a task, out of its threads.
use Rattle.std.specs.Prelude.{◌≡◌, ◌≤◌, ◌<◌, ℕ, zero, suc, ◌+◌, true, List, [], ◌∷◌, ◌++◌, length, map, slice_get, Some}
use Rattle.std.proofs.Common.{refl, sym, ap, ap₂, ◌∙◌, subst, arith, take, get_or}
use Rattle.std.specs.List.{list_all}
use Rattle.std.proofs.lemmas.List.{take_more, length-take-le}
use Rattle.std.proofs.lemmas.Option.{same_Some}
use Rattle.hc_term.specs.declared.system.Process.{Process}
use Rattle.hc_term.specs.declared.task.Task.{Task}
use Rattle.hc_term.specs.Rules.{is_process}
use Rattle.hc_runs.specs.Fractions.{task_numbers}
use Rattle.hc_code.specs.declared.code.Instr.{Instr}
use Rattle.hc_code.specs.Stands.{Stands}
use Rattle.hc_code.specs.Kept.{KeepsRules, is_instr}
use Rattle.hc_code.specs.Measure.{IsMeasured}
use Rattle.hc_cast.specs.declared.program.CArray.{CArray}
use Rattle.hc_cast.specs.declared.program.CBody.{CBody}
use Rattle.hc_cast.specs.declared.program.CFunction.{CFunction}
use Rattle.hc_cast.specs.declared.program.CProgram.{CProgram}
use Rattle.hc_cmach.specs.State.{Word}
use Rattle.hc_core_c.specs.Code.{core_arrays, core_functions}
use Rattle.hc_cprivate.proofs.Bodies as bodies
use Rattle.hc_csection.specs.Code.{section_functions}
use Rattle.hc_csection.specs.Words.{processes, channels}
use Rattle.hc_cgen.specs.Program.{Codes, thread_of, threads_from, program}
use Rattle.hc_cgen.specs.Made.{IsThreadFor, AreThreadsFor, IsProgramFor}
use Rattle.hc_cgen.specs.Generated.{IsGenerated}
use Rattle.hc_cgen.proofs.Joined.{is_generated}

-- one thread more
pub threads_more : (t : Task) (p : ℕ) (xs : List Process) (bs : List CBody) (x : Process) (b : CBody) → AreThreadsFor t p xs bs → IsThreadFor t (p + length xs) x b →
    AreThreadsFor t p (xs ++ x ∷ []) (bs ++ b ∷ [])
threads_more t p [] [] x b h k = let same : p + 0 ≡ p = omega arith in (subst (λ (n : ℕ). IsThreadFor t n x b) same k, tt)
threads_more t p [] (c ∷ bs) x b h k = absurd h
threads_more t p (y ∷ xs) [] x b h k = absurd h
threads_more t p (y ∷ xs) (c ∷ bs) x b h k =
    let same : p + length (y ∷ xs) ≡ suc p + length xs = omega arith in
    (h.0, threads_more t (suc p) xs bs x b h.1 (subst (λ (n : ℕ). IsThreadFor t n x b) same k))

-- the code of the k-th of them
abbrev pub code_of : (t : Task) (p : ℕ) (xs : List Process) (bs : List CBody) → AreThreadsFor t p xs bs → Codes
code_of t p [] [] h k = []
code_of t p [] (b ∷ bs) h k = []
code_of t p (x ∷ xs) [] h k = []
code_of t p (x ∷ xs) (b ∷ bs) h zero = h.0.code
code_of t p (x ∷ xs) (b ∷ bs) h (suc k) = code_of t (suc p) xs bs h.1 k

-- it is what the process is compiled to
pub record IsItsCode (x : Process) (code : List Instr) : Type 0 where
  pub stands : Stands code x.body
  pub keeps : KeepsRules x.body code
  pub measured : IsMeasured x code

pub its_code : (t : Task) (p : ℕ) (xs : List Process) (bs : List CBody) (h : AreThreadsFor t p xs bs) (k : ℕ) (x : Process) → slice_get xs k ≡ Some x →
    IsItsCode x (code_of t p xs bs h k)
its_code t p [] bs h k x e = absurd cc
its_code t p (y ∷ xs) [] h k x e = absurd h
its_code t p (y ∷ xs) (b ∷ bs) h zero x e =
    subst (λ (z : Process). IsItsCode z h.0.code) (same_Some y x e) (record { stands = h.0.stands; keeps = h.0.keeps; measured = h.0.measured })
its_code t p (y ∷ xs) (b ∷ bs) h (suc k) x e = its_code t (suc p) xs bs h.1 k x e

-- by their codes they are the threads of the definition
pub are_threads : (t : Task) (p : ℕ) (xs : List Process) (bs : List CBody) (h : AreThreadsFor t p xs bs) (code : Codes) →
    ((k : ℕ) → code (p + k) ≡ code_of t p xs bs h k) → bs ≡ threads_from t code p xs
are_threads t p [] [] h code same = refl
are_threads t p [] (b ∷ bs) h code same = absurd h
are_threads t p (x ∷ xs) [] h code same = absurd h
are_threads t p (x ∷ xs) (b ∷ bs) h code same =
    let here : p + 0 ≡ p = omega arith in
    let own : h.0.code ≡ code p = sym (same 0) ∙ ap code here in
    let rest : (k : ℕ) → code (suc p + k) ≡ code_of t (suc p) xs bs h.1 k =
    λ k. let next : suc p + k ≡ p + suc k = omega arith in ap code next ∙ same (suc k) in
    ap₂ (λ (c : CBody) (cs : List CBody). c ∷ cs) (h.0.made ∙ ap (thread_of t p) own) (are_threads t (suc p) xs bs h.1 code rest)

-- what a process that keeps the rules gives its thread
pub few_variables : (channels : ℕ) (x : Process) → is_process channels x ≡ true → length x.variables ≤ 64
few_variables = bodies.few_variables

pub ruled_code : (channels : ℕ) (x : Process) → is_process channels x ≡ true → (code : List Instr) → KeepsRules x.body code →
    list_all (is_instr channels (length x.variables)) code ≡ true
ruled_code = bodies.ruled_code

-- the thread of the next process
pub next_thread : (t : Task) (ps : List Process) (i : ℕ) (x : Process) (bs new : List CBody) (b : CBody) (number : ℕ) → i < length ps → x ≡ get_or ps i x →
    length bs ≡ i → number ≡ length bs → AreThreadsFor t 0 (take i ps) bs → IsThreadFor t number x b → new ≡ bs ++ b ∷ [] → AreThreadsFor t 0 (take (i + 1) ps) new
next_thread t ps i x bs new b number less at counted number_is so_far made new_is =
    let front : take (i + 1) ps ≡ take i ps ++ x ∷ [] = take_more ps i x less ∙ ap (λ (y : Process). take i ps ++ y ∷ []) (sym at) in
    let long : length (take i ps) ≡ i = length-take-le i ps (omega (arith, less)) in
    let here : number ≡ 0 + length (take i ps) = omega (arith, number_is, counted, long) in
    let all = threads_more t 0 (take i ps) bs x b so_far (subst (λ (n : ℕ). IsThreadFor t n x b) here made) in
    subst (λ (cs : List CBody). AreThreadsFor t 0 (take (i + 1) ps) cs) (sym new_is) (subst (λ (ys : List Process). AreThreadsFor t 0 ys (bs ++ b ∷ [])) (sym front) all)

-- ---- the program

made_program : List CArray → List Word → List Word → List CFunction → List CBody → CProgram
made_program arrays names processes functions threads =
    record { arrays = arrays; channels = names; processes = processes; functions = functions; threads = threads }

module _ (t : Task) where
  head_is : (code : Codes) (arrays : List CArray) (names ps : List Word) (functions : List CFunction) (threads : List CBody) →
      arrays ≡ core_arrays (processes t) (channels t) → names ≡ t.system.channels → ps ≡ map (λ (x : Process). x.name) t.system.processes →
      functions ≡ core_functions (processes t) (channels t) ++ section_functions → threads ≡ threads_from t code 0 t.system.processes →
      made_program arrays names ps functions threads ≡ program t code
  unfolding made_program
  head_is code arrays names ps functions threads arrays_are names_are ps_are functions_are threads_are =
      let own_arrays = core_arrays (processes t) (channels t) in
      let own_functions = core_functions (processes t) (channels t) ++ section_functions in
      let own_names = map (λ (x : Process). x.name) t.system.processes in
      ap (λ (a : List CArray). made_program a names ps functions threads) arrays_are
      ∙ ap (λ (ws : List Word). made_program own_arrays ws ps functions threads) names_are
      ∙ ap (λ (ws : List Word). made_program own_arrays t.system.channels ws functions threads) ps_are
      ∙ ap (λ (fs : List CFunction). made_program own_arrays t.system.channels own_names fs threads) functions_are
      ∙ ap (λ (bs : List CBody). made_program own_arrays t.system.channels own_names own_functions bs) threads_are

  pub program_for : (ps : List Process) (cs : List Word) (arrays : List CArray) (names own_names : List Word) (functions more all : List CFunction) (threads : List CBody) →
      ps ≡ t.system.processes → cs ≡ t.system.channels → AreThreadsFor t 0 ps threads → arrays ≡ core_arrays (length ps) (length cs) →
      functions ≡ core_functions (length ps) (length cs) → more ≡ section_functions → all ≡ functions ++ more → names ≡ cs → own_names ≡ map (λ (x : Process). x.name) ps →
      IsProgramFor t (record { arrays = arrays; channels = names; processes = own_names; functions = all; threads = threads })
  unfolding made_program
  program_for ps cs arrays names own_names functions more all threads ps_are cs_are made arrays_are functions_are more_is all_is names_are own_are =
      let h : AreThreadsFor t 0 t.system.processes threads = subst (λ (xs : List Process). AreThreadsFor t 0 xs threads) ps_are made in
      let code : Codes = code_of t 0 t.system.processes threads h in
      let many = ap length ps_are in
      let ways = ap length cs_are in
      let core : functions ≡ core_functions (processes t) (channels t) = functions_are ∙ ap (λ (n : ℕ). core_functions n (length cs)) many ∙ ap (core_functions (processes t)) ways in
      record {
        code = code;
        compiled = record {
          stands = λ p x e. (its_code t 0 t.system.processes threads h p x e).stands;
          keeps = λ p x e. (its_code t 0 t.system.processes threads h p x e).keeps;
        };
        measured = λ p x e. (its_code t 0 t.system.processes threads h p x e).measured;
        is =
            head_is code arrays names own_names all threads
            (arrays_are ∙ ap (λ (n : ℕ). core_arrays n (length cs)) many ∙ ap (core_arrays (processes t)) ways)
            (names_are ∙ cs_are)
            (own_are ∙ ap (map (λ (x : Process). x.name)) ps_are)
            (all_is ∙ ap (λ (fs : List CFunction). fs ++ more) core ∙ ap (λ (fs : List CFunction). core_functions (processes t) (channels t) ++ fs) more_is)
            (
            are_threads t 0 t.system.processes threads h code
            (λ k. let same : 0 + k ≡ k = omega arith in ap code same)
            );
      }

  -- and it keeps its promises
  pub generated_by : (g : CProgram) → IsProgramFor t g → task_numbers t ≡ true → IsGenerated t g
  generated_by g h numbers = subst (λ (f : CProgram). IsGenerated t f) (sym h.is) (is_generated t h.code h.compiled h.measured numbers)
