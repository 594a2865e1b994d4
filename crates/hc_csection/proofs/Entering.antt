-- f_enter does what entering does to the board.
use Rattle.std.specs.Prelude.{◌≡◌, ◌<◌, ◌≤◌, ◌+◌, ◌-◌, ◌-ℤ◌, ◌^◌, ◌==◌, ℕ, Bool, true, false, ◌&&◌, nat_lt, List, [], ◌∷◌, ℤ, pos, Some, codes}
use Rattle.std.proofs.Common.{refl, ap, ◌∙◌, arith}
use Rattle.hc_rational.specs.Words.{Rational}
use Rattle.hc_term.specs.declared.run.StretchEnd.{StretchEnd}
use Rattle.hc_term.specs.declared.run.StretchEnd.TheVariants.{Waits, Ended, Logged, Unfit, Spent}
use Rattle.hc_cast.specs.declared.program.CProgram.{CProgram}
use Rattle.hc_cast.specs.declared.program.CFunction.{CFunction}
use Rattle.hc_cast.specs.declared.expr.CExpr.{CExpr}
use Rattle.hc_cast.specs.declared.stmt.CStmt.TheVariants.{Store}
use Rattle.hc_cmach.specs.State.{Word, function_among}
use Rattle.hc_cmach.specs.Expression.{int_of}
use Rattle.hc_cmach.proofs.Named.{named-function}
use Rattle.hc_cmach.proofs.Worths.{forms}
use Rattle.hc_clogic.specs.Runs.{View, Runs, Is, Are}
use Rattle.hc_clogic.proofs.Runs.{call_ends, runs_on, runs_longer, runs_straight}
use Rattle.hc_cbuild.specs.Written.{number, local, first_of, sum, difference, less, equals, both, call, if_then}
use Rattle.hc_core_c.specs.Twin.{Board64, stopped}
use Rattle.hc_core_c.specs.Code.{p, k, w, f_stop}
use Rattle.hc_core_c.proofs.Base.{is_below, minus-nat, when_runs, when_else_runs, both_is}
use Rattle.hc_core_c.specs.Owner.{core, Has}
use Rattle.hc_core_c.proofs.Wakes.{call_wakes, wake_cost}
use Rattle.hc_cstep.specs.Locals.{v_steps, v_end}
use Rattle.hc_cstep.specs.Law.{end_number}
use Rattle.hc_csection.specs.Entering.{is_unfit, with_log, overflowed, with_stop, entered_all, entered}
use Rattle.hc_csection.specs.Code.{logs, overflows, has_room, enters_all, f_enter, HasSections}

abbrev pub enter_cost : CProgram → ℕ → ℕ → ℕ
enter_cost g t P = 1 + ((1 + (1 + (2 + (1 + (4 + wake_cost g t P))))) + 1)

module _ (g : CProgram) (t P C : ℕ) (with_sections : HasSections g P C) (own : List Rational) (low : t < P) where
  abbrev has : Has g P C
  has = with_sections.has

  -- ---- the stop of a process

  stop_body : (b : Board64) → Runs g t 2 f_stop.body.statements (core own (k ∷ w ∷ []) (pos 4 ∷ pos t ∷ []) b) (core own (k ∷ w ∷ []) (pos 4 ∷ pos t ∷ []) (stopped 4 (Some t) b))
  stop_body b =
      let arrays = has.declared in
      let processes = has.processes in
      let there : nat_lt t P ≡ true = is_below t P low in
      runs_straight g t 2 f_stop.body.statements _ _ (λ rest target gives below. simp (forms, arrays, processes, there))

  call_stop_own : (names : List Word) (values : List ℤ) (b : Board64) (es : List CExpr) → Are g t (core own names values b) es (pos 4 ∷ pos t ∷ []) →
      Runs g t 4 (call (codes "f_stop") es ∷ []) (core own names values b) (core own names values (stopped 4 (Some t) b))
  call_stop_own names values b es are =
      call_ends g t 2 (core own names values b) _ f_stop (codes "f_stop") es (pos 4 ∷ pos t ∷ []) (named-function (codes "stop")) (ap (function_among (codes "f_stop")) has.functions) are refl
      (stop_body b)

  -- ---- inside f_enter

  module _ (n : ℕ) (end : StretchEnd) where
    abbrev here : Board64 → View
    here b = core own (p ∷ v_steps ∷ v_end ∷ []) (pos t ∷ pos n ∷ pos (end_number end) ∷ []) b

    room_is : (b : Board64) (is : Bool) → nat_lt b.steps b.limit ≡ is → Is g t (here b) has_room (int_of is)
    room_is b is h rest target gives = (let arrays = has.declared in simp (forms, arrays, h))

    overflow_runs : (b : Board64) → Runs g t (4 + wake_cost g t P) overflows (here b) (here (overflowed P t b))
    overflow_runs b =
        runs_on g t 4 (wake_cost g t P) (call (codes "f_stop") (number 4 ∷ local p ∷ []) ∷ []) (call (codes "f_wakes") [] ∷ []) _ _ _
        (call_stop_own (p ∷ v_steps ∷ v_end ∷ []) (pos t ∷ pos n ∷ pos (end_number end) ∷ []) b _ (λ rest target gives. simp forms))
        (call_wakes g t P C has own (p ∷ v_steps ∷ v_end ∷ []) (pos t ∷ pos n ∷ pos (end_number end) ∷ []) (stopped 4 (Some t) b))

  -- ---- the log

  log_runs : (n : ℕ) (end : StretchEnd) (b : Board64) → Runs g t 2 (logs ∷ []) (here n end b) (here n end (with_log own t end b))
  log_runs n (Logged v) b =
      let arrays = has.declared in
      let processes = has.processes in
      let few : P ≤ 64 = has.few in
      let there : nat_lt t P ≡ true = is_below t P low in
      let row : nat_lt t 65 ≡ true = is_below t 65 (omega (arith, low, few)) in
      let self : (t == t) ≡ true = grind arith in
      let not_common : (t == 64) ≡ false = grind (arith, low, few) in
      runs_straight g t 2 (logs ∷ []) _ _ (λ rest target gives below. simp (forms, arrays, processes, there, row, self, not_common))
  log_runs n Waits b = runs_longer g t 1 2 _ _ _ (omega arith) (runs_straight g t 1 (logs ∷ []) _ _ (λ rest target gives below. simp forms))
  log_runs n Ended b = runs_longer g t 1 2 _ _ _ (omega arith) (runs_straight g t 1 (logs ∷ []) _ _ (λ rest target gives below. simp forms))
  log_runs n Unfit b = runs_longer g t 1 2 _ _ _ (omega arith) (runs_straight g t 1 (logs ∷ []) _ _ (λ rest target gives below. simp forms))
  log_runs n Spent b = runs_longer g t 1 2 _ _ _ (omega arith) (runs_straight g t 1 (logs ∷ []) _ _ (λ rest target gives below. simp forms))

  -- ---- the overflow

  abbrev unfit_test : CExpr
  unfit_test = equals (local v_end) (number 3)

  unfit_is : (n : ℕ) (end : StretchEnd) (b : Board64) → Is g t (here n end b) unfit_test (int_of (is_unfit end))
  unfit_is n Waits b rest target gives = simp forms
  unfit_is n Ended b rest target gives = simp forms
  unfit_is n (Logged v) b rest target gives = simp forms
  unfit_is n Unfit b rest target gives = simp forms
  unfit_is n Spent b rest target gives = simp forms

  stop_runs : (n : ℕ) (end : StretchEnd) (b : Board64) →
      Runs g t (1 + (4 + wake_cost g t P)) (if_then (both unfit_test has_room) overflows ∷ []) (here n end b) (here n end (with_stop P t end b))
  stop_runs n end b =
      when_runs g t (here n end) (4 + wake_cost g t P) (both unfit_test has_room) overflows b (overflowed P t b) (is_unfit end && nat_lt b.steps b.limit)
      (both_is g t (here n end b) unfit_test has_room (is_unfit end) (nat_lt b.steps b.limit) (unfit_is n end b) (room_is n end b _ refl))
      (λ is. overflow_runs n end b)

  -- ---- all of it

  counts_runs : (n : ℕ) (end : StretchEnd) (b : Board64) → b.steps + n < 2 ^ 31 →
      Runs g t 1 (Store (codes "a_steps") (number 0) (sum (first_of (codes "a_steps")) (local v_steps)) ∷ []) (here n end b) (here n end (record b { steps = b.steps + n }))
  counts_runs n end b small =
      let arrays = has.declared in
      let fits : nat_lt (b.steps + n) (2 ^ 31) ≡ true = is_below (b.steps + n) (2 ^ 31) small in
      runs_straight g t 1 _ _ _ (λ rest target gives below. simp (forms, arrays, fits))

  all_runs : (n : ℕ) (end : StretchEnd) (b : Board64) → b.steps + n < 2 ^ 31 →
      Runs g t (1 + (2 + (1 + (4 + wake_cost g t P)))) enters_all (here n end b) (here n end (entered_all P own t n end b))
  all_runs n end b small =
      runs_on g t 1 (2 + (1 + (4 + wake_cost g t P))) (Store (codes "a_steps") (number 0) (sum (first_of (codes "a_steps")) (local v_steps)) ∷ [])
      (logs ∷ if_then (both unfit_test has_room) overflows ∷ []) _ _ _ (counts_runs n end b small)
      (
      runs_on g t 2 (1 + (4 + wake_cost g t P)) (logs ∷ []) (if_then (both unfit_test has_room) overflows ∷ []) _ _ _ (log_runs n end (record b { steps = b.steps + n }))
      (stop_runs n end (with_log own t end (record b { steps = b.steps + n })))
      )

  cut_runs : (n : ℕ) (end : StretchEnd) (b : Board64) →
      Runs g t 1 (Store (codes "a_steps") (number 0) (first_of (codes "a_limit")) ∷ []) (here n end b) (here n end (record b { steps = b.limit }))
  cut_runs n end b = let arrays = has.declared in runs_straight g t 1 _ _ _ (λ rest target gives below. simp (forms, arrays))

  -- what the board must be to enter n steps: as many and no more than the limit are counted, and the sums are ints
  pub record Enterable (n : ℕ) (b : Board64) : Type 0 where
    pub within : b.steps ≤ b.limit
    pub small : b.limit < 2 ^ 31
    pub few : b.steps + n < 2 ^ 31

  abbrev too_many : CExpr
  too_many = less (difference (first_of (codes "a_limit")) (first_of (codes "a_steps"))) (local v_steps)

  too_many_is : (n : ℕ) (end : StretchEnd) (b : Board64) → Enterable n b → (is : Bool) → nat_lt (b.limit - b.steps) n ≡ is → Is g t (here n end b) too_many (int_of is)
  too_many_is n end b h is e rest target gives =
      (
      let arrays = has.declared in
      let left : pos b.limit -ℤ pos b.steps ≡ pos (b.limit - b.steps) = minus-nat b.limit b.steps h.within in
      let fits : nat_lt (b.limit - b.steps) (2 ^ 31) ≡ true = is_below (b.limit - b.steps) (2 ^ 31) (omega (arith, h.small)) in
      simp (forms, arrays, left, fits, e)
      )

  body_runs : (n : ℕ) (end : StretchEnd) (b : Board64) → Enterable n b →
      Runs g t (1 + (1 + (2 + (1 + (4 + wake_cost g t P))))) f_enter.body.statements (here n end b) (here n end (entered P own t n end b))
  body_runs n end b h =
      when_else_runs g t (here n end) (1 + (2 + (1 + (4 + wake_cost g t P)))) too_many (Store (codes "a_steps") (number 0) (first_of (codes "a_limit")) ∷ []) enters_all (here n end b)
      (record b { steps = b.limit }) (entered_all P own t n end b) (nat_lt (b.limit - b.steps) n) (too_many_is n end b h _ refl)
      (λ is. runs_longer g t 1 _ _ _ _ (omega arith) (cut_runs n end b))
      (λ is. all_runs n end b h.few)

  found : function_among (codes "f_enter") g.functions ≡ Some f_enter
  found =
      ap (function_among (codes "f_enter")) has.functions
      ∙ ap (λ (fs : List CFunction). function_among (codes "f_enter") fs) with_sections.sections

  -- A call of f_enter by the owner of the mutex.
  pub call_enter : (names : List Word) (values : List ℤ) (b : Board64) (es : List CExpr) (n : ℕ) (end : StretchEnd) → Enterable n b →
      Are g t (core own names values b) es (pos t ∷ pos n ∷ pos (end_number end) ∷ []) →
      Runs g t (enter_cost g t P) (call (codes "f_enter") es ∷ []) (core own names values b) (core own names values (entered P own t n end b))
  call_enter names values b es n end h are =
      call_ends g t (1 + (1 + (2 + (1 + (4 + wake_cost g t P))))) (core own names values b) (here n end (entered P own t n end b)) f_enter (codes "f_enter") es
      (pos t ∷ pos n ∷ pos (end_number end) ∷ []) (named-function (codes "enter")) found are refl (body_runs n end b h)
