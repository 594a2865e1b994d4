-- The program of a task has at most 200 statements for each unit of the task's size.
use Rattle.std.specs.Prelude.{pos, ◌≡◌, ◌≤◌, ℕ, zero, suc, ◌+◌, ◌-◌, ◌*◌, List, [], ◌∷◌, ◌++◌, map, length, slice_get, Option, Some, None, codes}
use Rattle.std.proofs.Common.{refl, sym, ap, ◌∙◌, subst, arith, sum_by}
use Rattle.std.proofs.lemmas.List.Sums.{sum_by-cons}
use Rattle.std.proofs.lemmas.Option.{same_Some}
use Rattle.hc_limits.specs.Limits.{most_nodes}
use Rattle.hc_term.specs.declared.system.Process.{Process}
use Rattle.hc_term.specs.declared.task.Task.{Task}
use Rattle.hc_code.specs.declared.code.Instr.{Instr}
use Rattle.hc_cast.specs.declared.stmt.CStmt.{CStmt}
use Rattle.hc_cast.specs.declared.program.CBody.{CBody}
use Rattle.hc_clogic.specs.Cases.{cases_from, case_of}
use Rattle.hc_cthreads.specs.Bodies.{Pieces, body_of, round, waiting, locks, unlocks}
use Rattle.hc_cstep.specs.Size.{total, size, case_size, sizes, parts_size}
use Rattle.hc_cstep.proofs.Sizes.{sizes-append, private_size, total-append}
use Rattle.hc_cprivate.specs.Whole.{parts}
use Rattle.hc_csection.specs.Words.{processes, channels, variables, variables_by}
use Rattle.hc_csection.specs.Code.{section_functions, no_stop, has_room, enter_steps, pass_call, idle_test}
use Rattle.hc_core_c.specs.Code.{core_functions}
use Rattle.hc_cpost.specs.Parts.{own_registers}
use Rattle.hc_cpost.specs.Written.{copies, phases, show_case, show_cases, post_code}
use Rattle.hc_cast.specs.declared.stmt.CStmt.TheVariants.{Switch}
use Rattle.hc_cstep.specs.Locals.{v_place}
use Rattle.hc_cbuild.specs.Written.{number, local, call, if_then, above_zero}
use Rattle.hc_cpost.specs.Taking.{met_of, fetches, fetch_clock, take_case, take_cases, goes_again, take_parts, take_code}
use Rattle.hc_cgen.specs.Program.{Codes, private_of, thread_pieces, thread, threads_from, program}
use Rattle.hc_code.specs.Measure.{measure, weight}
use Rattle.hc_cgen.specs.Size.{body_sizes, function_sizes, all_statements, task_size, AreMeasured, HasFewStatements}
use Rattle.hc_cgen.proofs.Forms.{all_forms, case_is}
use Rattle.hc_cgen.proofs.CoreSize.{functions_few}
use Rattle.hc_cgen.proofs.CodeSize.{own_copies, own_fetches, in_threes, instr_few}

-- ---- the three switches of a thread

abbrev weights : List Instr → ℕ
weights code = total (map weight code)

abbrev privates : ℕ → ℕ → List Instr → ℕ
privates p vars code = total (map (λ (i : Instr). parts_size (parts p vars most_nodes) i + 31) code)

abbrev shown : ℕ → ℕ → List Instr → ℕ
shown p from code = total (map case_size (show_cases p from code))

abbrev taken : ℕ → ℕ → List Instr → ℕ
taken p from code = total (map case_size (take_cases p from code))

switches_few : (p vars from : ℕ) (code : List Instr) → privates p vars code + shown p from code + taken p from code ≤ 110 * weights code
switches_few p vars from [] = omega arith
switches_few p vars from (i ∷ code) =
    let rest = switches_few p vars (suc from) code in
    let one = instr_few p vars i in
    let show = case_is from (show_case p i) in
    let take = case_is from (take_case p i) in
    omega (arith, rest, one, show, take)

-- ---- a thread

post_few : (p n : ℕ) (code : List Instr) → sizes (post_code p n code) ≡ n + 6 + shown p 0 code
post_few p n code =
    let rest : List CStmt = phases p ++ Switch (local v_place) (show_cases p 0 code) [] ∷ [] in
    let first : size (call (codes "f_go") (number p ∷ [])) ≡ 1 = simp all_forms in
    let front = own_copies p n in
    let parted = sizes-append (copies p (own_registers n)) rest in
    let last : sizes rest ≡ 4 + shown p 0 code = simp all_forms (omega arith) in
    omega (arith, first, front, parted, last)

take_few : (p n : ℕ) (code : List Instr) → sizes (take_code p n code) ≡ n + 8 + taken p 0 code
take_few p n code =
    let rest : List CStmt = fetch_clock p ∷ if_then (above_zero (met_of p)) (goes_again p code) ∷ [] in
    let front = own_fetches p n in
    let parted = sizes-append (fetches p (own_registers n)) rest in
    let last : sizes rest ≡ 5 + taken p 0 code = simp all_forms (omega arith) in
    let whole : sizes (take_code p n code) ≡ 2 + sizes (take_parts p n code) = simp all_forms (omega arith) in
    omega (arith, front, parted, last, whole)

-- any thread of five pieces
round_size : (p : ℕ) (b : Pieces) → sizes (round p b) ≡ sizes b.stretch + sizes b.report + 2 * sizes b.idle + sizes b.take + 4
round_size p b =
    let end : List CStmt = unlocks ∷ [] in
    let from_take : List CStmt = waiting p b ∷ (b.take ++ end) in
    let from_idle : List CStmt = b.idle ++ from_take in
    let from_lock : List CStmt = locks ∷ (b.report ++ from_idle) in
    let one : sizes end ≡ 1 = simp all_forms in
    let two = sizes-append b.take end in
    let three : sizes from_take ≡ 2 + sizes b.idle + sizes (b.take ++ end) = simp all_forms (omega arith) in
    let four = sizes-append b.idle from_take in
    let five = sizes-append b.report from_idle in
    let six : sizes from_lock ≡ 1 + sizes (b.report ++ from_idle) = simp all_forms in
    let seven = sizes-append b.stretch from_lock in
    omega (arith, one, two, three, four, five, six, seven)

body_size : (p : ℕ) (b : Pieces) → sizes (body_of p b) ≡ 2 + sizes (round p b)
body_size p b = simp all_forms (omega arith)

module _ (t : Task) (code : Codes) where
  thread_few : (p : ℕ) → sizes (thread t code p).statements ≤ 110 * weights (code p) + 2 * variables t p + 40
  thread_few p =
      let vars = variables t p in
      let b : Pieces = thread_pieces t p (code p) in
      let show = post_code p vars (code p) in
      let whole = body_size p b in
      let turn = round_size p b in
      let private_steps = private_size (parts p vars most_nodes) p t.seed (code p) in
      let stretch : sizes b.stretch ≡ 1 + sizes (private_of t p (code p)) = simp all_forms in
      let report : sizes b.report ≡ 8 + sizes show = simp all_forms (omega arith) in
      let idle : sizes b.idle ≡ 1 = simp all_forms in
      let posted = post_few p vars (code p) in
      let took = take_few p vars (code p) in
      let all = switches_few p vars 0 (code p) in
      omega (arith, whole, turn, private_steps, stretch, report, idle, posted, took, all)

  -- of these processes, of which the first has this number
  abbrev AreHere : ℕ → List Process → Type 0
  AreHere from xs =
      (k : ℕ) (x : Process) → slice_get xs k ≡ Some x → (weights (code (from + k)) ≤ measure x + 1) × (variables t (from + k) ≡ length x.variables)

  threads_few : (from : ℕ) (xs : List Process) → AreHere from xs →
      body_sizes (threads_from t code from xs) ≤ 110 * total (map measure xs) + 2 * total (map (λ (x : Process). length x.variables) xs) + 150 * length xs
  threads_few from [] h = omega arith
  threads_few from (x ∷ xs) h =
      let here : from + 0 ≡ from = omega arith in
      let first = h 0 x refl in
      let light : weights (code from) ≤ measure x + 1 = subst (λ (p : ℕ). weights (code p) ≤ measure x + 1) here first.0 in
      let many : variables t from ≡ length x.variables = subst (λ (p : ℕ). variables t p ≡ length x.variables) here first.1 in
      let one = thread_few from in
      let rest = threads_few (suc from) xs
      (λ k y e.
      let next : from + suc k ≡ suc from + k = omega arith in
      subst (λ (p : ℕ). (weights (code p) ≤ measure y + 1) × (variables t p ≡ length y.variables)) next (h (suc k) y e)) in
      omega (arith, light, many, one, rest)

  -- ---- the program

  as_total : {X : Type 0} (f : X → ℕ) (xs : List X) → total (map f xs) ≡ sum_by f xs
  as_total f [] = refl
  as_total f (x ∷ xs) = omega (arith, as_total f xs, sum_by-cons f x xs)

  all_here : AreMeasured t code → AreHere 0 t.system.processes
  all_here measured k x e =
      let same : k ≡ 0 + k = omega arith in
      subst (λ (p : ℕ). (weights (code p) ≤ measure x + 1) × (variables t p ≡ length x.variables)) same
      (omega (arith, measured k x e, as_total weight (code k)), ap variables_by e)

  pub program_few : AreMeasured t code → HasFewStatements t (program t code)
  program_few measured =
      let called = functions_few (processes t) (channels t) in
      let run = threads_few 0 t.system.processes (all_here measured) in
      omega (arith, called, run)
