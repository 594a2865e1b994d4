-- f_pass: one pass of the core.
use Rattle.std.specs.Prelude.{◌≡◌, ◌<◌, ◌≤◌, ◌+◌, ◌*◌, ◌-◌, ◌^◌, ℕ, Bool, true, false, not, ◌&&◌, if◌then◌else◌, nat_lt, List, [], ◌∷◌, slice_set, ℤ, pos, Some, None, codes, ⊤}
use Rattle.std.proofs.Common.{refl, sym, ap, subst, arith}
use Rattle.hc_rational.specs.Words.{Rational}
use Rattle.hc_cast.specs.declared.program.CProgram.{CProgram}
use Rattle.hc_cast.specs.declared.expr.CExpr.{CExpr}
use Rattle.hc_cast.specs.declared.stmt.CStmt.{CStmt}
use Rattle.hc_cast.specs.declared.stmt.CStmt.TheVariants.{Store}
use Rattle.hc_cmach.specs.State.{Word, function_among}
use Rattle.hc_cmach.specs.Expression.{int_of}
use Rattle.hc_cmach.proofs.Named.{named-function}
use Rattle.hc_cmach.proofs.Worths.{forms}
use Rattle.hc_clogic.specs.Runs.{View, Runs, Is}
use Rattle.hc_clogic.proofs.Runs.{call_ends, runs_none, runs_on, runs_longer, runs_straight, loop_cost}
use Rattle.hc_cbuild.specs.Written.{number, local, first_of, less, both, below_one, call, take_call, if_then, if_else, count_to, round}
use Rattle.std.proofs.lemmas.Bool.{ltb-true}
use Rattle.hc_core_c.specs.Twin.{Board64, rounds, nth, stopped, sleep_step, limited, fire, any_able, elapse, timed, wake, pass}
use Rattle.hc_core_c.specs.Code.{p, x, stops, f_pass}
use Rattle.hc_core_c.proofs.Base.{is_below, element_set, loop_runs, when_runs, when_else_runs, both_is, kept_fits}
use Rattle.hc_core_c.specs.Owner.{core, Has, Sane}
use Rattle.hc_core_c.proofs.Stops.{stop_here}
use Rattle.hc_core_c.proofs.Any.{call_any, any_cost}
use Rattle.hc_core_c.proofs.Meet.{call_fire, fire_cost}
use Rattle.hc_core_c.proofs.Elapse.{call_elapse, elapse_cost, sound_going, none_is}
use Rattle.hc_core_c.proofs.Wakes.{call_wakes, wake_cost}
use Rattle.hc_core_c.proofs.Keeping.{Sound, fire_sound}

-- `Sane` of the channels that there are
pub record Within (P C : ℕ) (b : Board64) : Type 0 where
  pub sends : (c : ℕ) → c < C → nth b.send c ≤ P * 32
  pub receives : (c : ℕ) → c < C → nth b.receive c ≤ P * 32
  pub into : (c : ℕ) → nth b.into c < 64
  pub limit : b.limit < 2 ^ 31

-- c is b with other wakes to give
abbrev IsWoke : Board64 → Board64 → Type 0
IsWoke b c = c ≡ record b { woke = c.woke }

slept : (P : ℕ) (b : Board64) → IsWoke b (rounds sleep_step P b)
slept P b =
    kept_fits sleep_step (λ i (c : Board64). IsWoke b c) P b refl (λ p c low h. ap (λ (z : Board64). record z { woke = slice_set c.woke p 0 }) h) P (omega arith)

limited_by : (P C : ℕ) (b : Board64) (is : Bool) → nat_lt b.steps b.limit ≡ is → Within P C b → Sound P C (if is then b else stopped 3 None b)
limited_by P C b true e s = record { sends = s.sends; receives = s.receives; into = s.into; limit = s.limit; few = λ going. ltb-true b.steps b.limit e }
limited_by P C b false e s = record {
  sends = s.sends;
  receives = s.receives;
  into = s.into;
  limit = s.limit;
  few = λ going. (let low = ltb-true 4 1 going in absurd (omega (arith, low)));
}

woke_within : (P C : ℕ) (b c : Board64) → IsWoke b c → Within P C b → Within P C c
woke_within P C b c h s = subst (λ (z : Board64). Within P C z) (sym h) (record { sends = s.sends; receives = s.receives; into = s.into; limit = s.limit })

abbrev rest_cost : CProgram → ℕ → ℕ → ℕ → ℕ
rest_cost g t P C = fire_cost g t P C + (any_cost g t P + ((1 + elapse_cost g t P C) + wake_cost g t P))

abbrev pub pass_cost : CProgram → ℕ → ℕ → ℕ → ℕ
pass_cost g t P C = 1 + ((loop_cost g t 2 P + (5 + rest_cost g t P C)) + 1)

first_true : (x y : Bool) → (x && y) ≡ true → x ≡ true
first_true true y h = refl
first_true false y h = absurd cc

module _ (g : CProgram) (t P C : ℕ) (has : Has g P C) (own : List Rational) where
  abbrev here : ℤ → ℕ → Board64 → View
  here z j b = core own (p ∷ x ∷ []) (pos j ∷ z ∷ []) b

  sleeps : (j : ℕ) (b : Board64) → j < P → Runs g t 2 (round p (Store (codes "a_woke") (local p) (number 0) ∷ [])) (here (pos 0) j b) (here (pos 0) (j + 1) (sleep_step j b))
  sleeps j b low =
      let arrays = has.declared in
      let few = has.few in
      let inside = is_below j P low in
      let next : nat_lt (j + 1) (2 ^ 31) ≡ true = is_below (j + 1) (2 ^ 31) (omega (arith, low, few)) in
      runs_straight g t 2 _ _ _ (λ rest target gives below. simp (forms, arrays, inside, next, element_set))

  abbrev within : CExpr
  within = less (first_of (codes "a_steps")) (first_of (codes "a_limit"))

  within_is : (j : ℕ) (b : Board64) (is : Bool) → nat_lt b.steps b.limit ≡ is → Is g t (here (pos 0) j b) within (int_of is)
  within_is j b is e rest target gives = (let arrays = has.declared in simp (forms, arrays, e))

  limits : (j : ℕ) (b : Board64) → Runs g t 5 (if_else within [] (stops 3 ∷ []) ∷ []) (here (pos 0) j b) (here (pos 0) j (limited b))
  limits j b =
      when_else_runs g t (here (pos 0) j) 4 within [] (stops 3 ∷ []) (here (pos 0) j b) b (stopped 3 None b) (nat_lt b.steps b.limit) (within_is j b _ refl)
      (λ is. runs_longer g t 0 4 _ _ _ (omega arith) (runs_none g t (here (pos 0) j b)))
      (λ is. stop_here g t P C has own (p ∷ x ∷ []) (pos j ∷ pos 0 ∷ []) b 3 (omega arith))

  abbrev passes : CStmt
  passes = if_then (both (below_one (first_of (codes "a_stop"))) (below_one (local x))) (call (codes "f_elapse") [] ∷ [])

  stop_is : (z : ℤ) (j : ℕ) (b : Board64) (is : Bool) → nat_lt b.stop 1 ≡ is → Is g t (here z j b) (below_one (first_of (codes "a_stop"))) (int_of is)
  stop_is z j b is e rest target gives = (let arrays = has.declared in simp (forms, arrays, e))

  times_on : (j : ℕ) (b : Board64) → Sound P C b → Runs g t (1 + elapse_cost g t P C) (passes ∷ []) (here (int_of (any_able P b)) j b) (here (int_of (any_able P b)) j (timed P C b))
  times_on j b sound =
      when_runs g t (here (int_of (any_able P b)) j) (elapse_cost g t P C) (both (below_one (first_of (codes "a_stop"))) (below_one (local x))) (call (codes "f_elapse") [] ∷ []) b (elapse P C b) (nat_lt b.stop 1 && not (any_able P b))
      (
      both_is g t (here (int_of (any_able P b)) j b) (below_one (first_of (codes "a_stop"))) (below_one (local x)) (nat_lt b.stop 1) (not (any_able P b))
      (stop_is (int_of (any_able P b)) j b _ refl)
      (none_is g t (here (int_of (any_able P b)) j b) x (any_able P b) (λ rest target gives. simp forms))
      )
      (λ is. call_elapse g t P C has own (p ∷ x ∷ []) (pos j ∷ int_of (any_able P b) ∷ []) b (sound_going P C b (first_true (nat_lt b.stop 1) (not (any_able P b)) is) sound))

  abbrev rests : List CStmt
  rests = call (codes "f_fire") [] ∷ take_call x (codes "f_any") [] ∷ passes ∷ call (codes "f_wakes") [] ∷ []

  rest_runs : (j : ℕ) (b : Board64) → Sound P C b →
      Runs g t (rest_cost g t P C) rests (here (pos 0) j b) (here (int_of (any_able P (fire P C b))) j (wake P (timed P C (fire P C b))))
  rest_runs j b sound =
      runs_on g t (fire_cost g t P C) (any_cost g t P + ((1 + elapse_cost g t P C) + wake_cost g t P)) (call (codes "f_fire") [] ∷ []) (take_call x (codes "f_any") [] ∷ passes ∷ call (codes "f_wakes") [] ∷ []) _ _ _
      (call_fire g t P C has own (p ∷ x ∷ []) (pos j ∷ pos 0 ∷ []) b sound)
      (
      runs_on g t (any_cost g t P) ((1 + elapse_cost g t P C) + wake_cost g t P) (take_call x (codes "f_any") [] ∷ []) (passes ∷ call (codes "f_wakes") [] ∷ []) _ _ _
      (call_any g t P C has own (fire P C b) (p ∷ x ∷ []) (pos j ∷ pos 0 ∷ []) (Some x))
      (
      runs_on g t (1 + elapse_cost g t P C) (wake_cost g t P) (passes ∷ []) (call (codes "f_wakes") [] ∷ []) _ _ _
      (times_on j (fire P C b) (fire_sound P C b sound))
      (call_wakes g t P C has own (p ∷ x ∷ []) (pos j ∷ int_of (any_able P (fire P C b)) ∷ []) (timed P C (fire P C b)))
      )
      )

  body_runs : (b : Board64) → Within P C b →
      Runs g t (loop_cost g t 2 P + (5 + rest_cost g t P C)) (f_pass P).body.statements (here (pos 0) 0 b) (here (int_of (any_able P (fire P C (limited (rounds sleep_step P b))))) P (pass P C b))
  body_runs b sane =
      runs_on g t (loop_cost g t 2 P) (5 + rest_cost g t P C) (count_to p P (Store (codes "a_woke") (local p) (number 0) ∷ []) ∷ []) (if_else within [] (stops 3 ∷ []) ∷ rests) _ _ _
      (loop_runs g t sleep_step (λ j b. ⊤) (here (pos 0)) p P 2 (Store (codes "a_woke") (local p) (number 0) ∷ []) b (λ j b rest target gives. simp forms) tt (λ j b low h. tt) (λ j b low h. sleeps j b low))
      (
      runs_on g t 5 (rest_cost g t P C) (if_else within [] (stops 3 ∷ []) ∷ []) rests _ _ _
      (limits P (rounds sleep_step P b))
      (rest_runs P (limited (rounds sleep_step P b)) (limited_by P C (rounds sleep_step P b) _ refl (woke_within P C b (rounds sleep_step P b) (slept P b) sane)))
      )

  -- a call of f_pass by the owner of the mutex: it comes to its end, in so many steps at most, without an undefined one, and leaves the board as
  -- the twin has it, and the thread's row and locals as they were
  pub runs_pass : (names : List Word) (values : List ℤ) (b : Board64) → Within P C b →
      Runs g t (pass_cost g t P C) (call (codes "f_pass") [] ∷ []) (core own names values b) (core own names values (pass P C b))
  runs_pass names values b sane =
      call_ends g t (loop_cost g t 2 P + (5 + rest_cost g t P C)) (core own names values b) (here (int_of (any_able P (fire P C (limited (rounds sleep_step P b))))) P (pass P C b)) (f_pass P) (codes "f_pass") [] []
      (named-function (codes "pass")) (ap (function_among (codes "f_pass")) has.functions) (λ rest target gives. refl) refl (body_runs b sane)

  pub call_pass : (names : List Word) (values : List ℤ) (b : Board64) → Sane P b →
      Runs g t (pass_cost g t P C) (call (codes "f_pass") [] ∷ []) (core own names values b) (core own names values (pass P C b))
  call_pass names values b s =
      runs_pass names values b (record { sends = λ c low. s.sends c; receives = λ c low. s.receives c; into = s.into; limit = s.limit })
