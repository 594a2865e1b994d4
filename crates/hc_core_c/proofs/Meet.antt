-- f_meet and f_fire: offers meet.
use Rattle.std.specs.Prelude.{◌≡◌, ◌<◌, ◌+◌, ◌*◌, ◌-◌, ◌^◌, ℕ, max, Bool, true, false, ◌&&◌, nat_lt, List, [], ◌∷◌, ℤ, pos, Some, codes}
use Rattle.std.proofs.Common.{refl, sym, ap, subst, arith}
use Rattle.hc_rational.specs.Words.{Rational, fits}
use Rattle.hc_cast.specs.declared.program.CProgram.{CProgram}
use Rattle.hc_cast.specs.declared.expr.CExpr.{CExpr}
use Rattle.hc_cast.specs.declared.stmt.CStmt.{CStmt}
use Rattle.hc_cast.specs.declared.stmt.CStmt.TheVariants.{Set, Store}
use Rattle.hc_cmach.specs.State.{Word, function_among}
use Rattle.hc_cmach.specs.Expression.{int_of}
use Rattle.hc_cmach.proofs.Named.{named-function}
use Rattle.hc_cmach.proofs.Worths.{forms}
use Rattle.hc_clogic.specs.Runs.{View, Runs, Is, Are}
use Rattle.hc_clogic.proofs.Runs.{call_ends, runs_on, runs_straight, loop_cost}
use Rattle.hc_cbuild.specs.Written.{number, local, element, first_of, sum, times, both, above_zero, below_one, call, take_call, if_then, round}
use Rattle.hc_core_c.specs.Twin.{Board64, nth, sender, receiver, handed, go, counted, meet, is_ready, fire_step, fire, value_of}
use Rattle.hc_core_c.specs.Code.{c, s, r, at, its, send_of, receive_of, branch_of, f_meet, f_fire}
use Rattle.hc_core_c.proofs.Base.{is_below, minus-nat, element_is, element_set, loop_runs, when_runs, both_is}
use Rattle.hc_core_c.specs.Owner.{core, Has}
use Rattle.hc_core_c.proofs.Owned.{OwnerOf, owner_of}
use Rattle.hc_core_c.proofs.Owner.{call_owner, owner_cost}
use Rattle.hc_core_c.proofs.Going.{call_go, go_cost}
use Rattle.hc_core_c.proofs.Count.{call_count}
use Rattle.hc_core_c.proofs.Keeping.{Sound, met_fewer, fire_step_sound}

abbrev two_owners : CProgram → ℕ → ℕ → ℕ
two_owners g t P = owner_cost (loop_cost g t 3 P) + owner_cost (loop_cost g t 3 P)

abbrev going_cost : CProgram → ℕ → ℕ → ℕ
going_cost g t C = go_cost g t C + (go_cost g t C + 8)

abbrev pub meet_cost : CProgram → ℕ → ℕ → ℕ → ℕ
meet_cost g t P C = 1 + ((two_owners g t P + (6 + going_cost g t C)) + 1)

abbrev pub fire_cost : CProgram → ℕ → ℕ → ℕ → ℕ
fire_cost g t P C = 1 + (loop_cost g t ((1 + meet_cost g t P C) + 1) C + 1)

module _ (g : CProgram) (t P C : ℕ) (has : Has g P C) (own : List Rational) where
  module _ (ch : ℕ) (low : ch < C) (b : Board64) (sound : Sound P C b) where
    abbrev names : List Word
    names = c ∷ s ∷ r ∷ at ∷ []

    -- the sender, the receiver, and what stands in at
    abbrev here : ℕ → ℕ → ℕ → Board64 → View
    here q p z b = core own names (pos ch ∷ pos q ∷ pos p ∷ pos z ∷ []) b

    abbrev owners : List CStmt
    owners = take_call s (codes "f_owner") (send_of ∷ []) ∷ take_call r (codes "f_owner") (receive_of ∷ []) ∷ []

    finds : Runs g t (two_owners g t P) owners (here 0 0 0 b) (here (sender P ch b) (receiver P ch b) 0 b)
    finds =
        let arrays = has.declared in
        let inside = is_below ch (max C 1) (omega (arith, low)) in
        runs_on g t (owner_cost (loop_cost g t 3 P)) (owner_cost (loop_cost g t 3 P)) (take_call s (codes "f_owner") (send_of ∷ []) ∷ []) (take_call r (codes "f_owner") (receive_of ∷ []) ∷ []) _ _ _
        (call_owner g t P C has own names (pos ch ∷ pos 0 ∷ pos 0 ∷ pos 0 ∷ []) b (Some s) send_of (nth b.send ch) (λ rest target gives. simp (forms, arrays, element_is, inside)))
        (call_owner g t P C has own names (pos ch ∷ pos (sender P ch b) ∷ pos 0 ∷ pos 0 ∷ []) b (Some r) receive_of (nth b.receive ch) (λ rest target gives. simp (forms, arrays, element_is, inside)))

    abbrev hands : List CStmt
    hands =
        Set at (branch_of send_of s)
        ∷ Store (codes "a_met") (local s) (local at)
        ∷ Store (codes "a_met") (local r) (branch_of receive_of r)
        ∷ Set at (sum (its s 191) (local at))
        ∷ call (codes "out_comm") (number 64 ∷ number 64 ∷ local c ∷ local s ∷ local r ∷ local at ∷ [])
        ∷ call (codes "fr_move") (number 64 ∷ sum (times (local r) 320) (element (codes "a_into") (local c)) ∷ number 64 ∷ local at ∷ [])
        ∷ []

    handing :
        (q p x y into : ℕ) → OwnerOf P x q → OwnerOf P y p → nth b.send ch ≡ x → nth b.receive ch ≡ y → nth b.into ch ≡ into → into < 64 →
        Runs g t 6 hands (here q p 0 b) (here q p (value_of q (x - q * 32)) (handed ch q (x - q * 32) p (y - p * 32) b))
    handing q p x y into h k ex ey ei into_low =
        let arrays = has.declared in
        let channels = has.channels in
        let processes = has.processes in
        let few = has.few in
        let inside = is_below ch (max C 1) (omega (arith, low)) in
        let channel = is_below ch C low in
        let q_low = h.low in
        let p_low = k.low in
        let q_under = h.under in
        let p_under = k.under in
        let q_over = h.over in
        let p_over = k.over in
        let q_in = is_below q P q_low in
        let p_in = is_below p P p_low in
        let first = minus-nat x (q * 32) q_under in
        let second = minus-nat y (p * 32) p_under in
        let k1 : nat_lt (q * 32) (2 ^ 31) ≡ true = is_below _ (2 ^ 31) (omega (arith, q_low, few)) in
        let k2 : nat_lt (p * 32) (2 ^ 31) ≡ true = is_below _ (2 ^ 31) (omega (arith, p_low, few)) in
        let k3 : nat_lt (x - q * 32) (2 ^ 31) ≡ true = is_below _ (2 ^ 31) (omega (arith, q_low, few, q_over)) in
        let k4 : nat_lt (y - p * 32) (2 ^ 31) ≡ true = is_below _ (2 ^ 31) (omega (arith, p_low, few, p_over)) in
        let k5 : nat_lt (q * 320) (2 ^ 31) ≡ true = is_below _ (2 ^ 31) (omega (arith, q_low, few)) in
        let k6 : nat_lt (q * 320 + 191) (2 ^ 31) ≡ true = is_below _ (2 ^ 31) (omega (arith, q_low, few)) in
        let k7 : nat_lt (q * 320 + 191 + (x - q * 32)) (2 ^ 31) ≡ true = is_below _ (2 ^ 31) (omega (arith, q_low, few, q_over)) in
        let k8 : nat_lt (q * 320 + 191 + (x - q * 32)) 20480 ≡ true = is_below _ 20480 (omega (arith, q_low, few, q_over)) in
        let k9 : nat_lt (p * 320) (2 ^ 31) ≡ true = is_below _ (2 ^ 31) (omega (arith, p_low, few)) in
        let k10 : nat_lt (p * 320 + into) (2 ^ 31) ≡ true = is_below _ (2 ^ 31) (omega (arith, p_low, few, into_low)) in
        let k11 : nat_lt (p * 320 + into) 20480 ≡ true = is_below _ 20480 (omega (arith, p_low, few, into_low)) in
        runs_straight g t 6 _ _ _
        (λ rest target gives below. simp (forms, arrays, channels, processes, element_is, element_set, inside, channel, q_in, p_in, first, second, ex, ey, ei, k1, k2, k3, k4, k5, k6, k7, k8, k9, k10, k11))

    abbrev goes : List CStmt
    goes = call (codes "f_go") (local s ∷ []) ∷ call (codes "f_go") (local r ∷ []) ∷ call (codes "f_count") [] ∷ []

    going : (q p z : ℕ) (d : Board64) → q < P → p < P → (go C p (go C q d)).steps + 1 < 2 ^ 31 → Runs g t (going_cost g t C) goes (here q p z d) (here q p z (counted (go C p (go C q d))))
    going q p z d q_low p_low fits =
        runs_on g t (go_cost g t C) (go_cost g t C + 8) (call (codes "f_go") (local s ∷ []) ∷ []) (call (codes "f_go") (local r ∷ []) ∷ call (codes "f_count") [] ∷ []) _ _ _
        (call_go g t P C has own q q_low names (pos ch ∷ pos q ∷ pos p ∷ pos z ∷ []) d (local s) (λ rest target gives. simp forms))
        (
        runs_on g t (go_cost g t C) 8 (call (codes "f_go") (local r ∷ []) ∷ []) (call (codes "f_count") [] ∷ []) _ _ _
        (call_go g t P C has own p p_low names (pos ch ∷ pos q ∷ pos p ∷ pos z ∷ []) (go C q d) (local r) (λ rest target gives. simp forms))
        (call_count g t P C has own names (pos ch ∷ pos q ∷ pos p ∷ pos z ∷ []) (go C p (go C q d)) fits)
        )

    body_runs : nat_lt b.stop 1 ≡ true → (z : ℕ) × Runs g t (two_owners g t P + (6 + going_cost g t C)) f_meet.body.statements (here 0 0 0 b) (here (sender P ch b) (receiver P ch b) z (meet P C ch b))
    body_runs still =
        let h = owner_of P (nth b.send ch) has.some (sound.sends ch low) in
        let k = owner_of P (nth b.receive ch) has.some (sound.receives ch low) in
        let q = sender P ch b in
        let p = receiver P ch b in
        let x = nth b.send ch - q * 32 in
        let y = nth b.receive ch - p * 32 in
        let steps = (met_fewer C ch (sender P ch b) (nth b.send ch - sender P ch b * 32) (receiver P ch b) (nth b.receive ch - receiver P ch b * 32) b).steps in
        let few = sound.few still in
        let limit = sound.limit in
        let small : b.steps + 1 < 2 ^ 31 = omega (arith, few, limit) in (
          value_of (sender P ch b) (nth b.send ch - sender P ch b * 32),
          runs_on g t (two_owners g t P) (6 + going_cost g t C) owners _ _ _ _ finds
              (
              runs_on g t 6 (going_cost g t C) hands goes _ _ _
              (handing (sender P ch b) (receiver P ch b) (nth b.send ch) (nth b.receive ch) (nth b.into ch) h k refl refl refl (sound.into ch))
              (
              going (sender P ch b) (receiver P ch b) (value_of (sender P ch b) (nth b.send ch - sender P ch b * 32))
              (handed ch (sender P ch b) (nth b.send ch - sender P ch b * 32) (receiver P ch b) (nth b.receive ch - receiver P ch b * 32) b) h.low k.low
              (subst (λ n. n + 1 < 2 ^ 31) (sym steps) small)
              )
              ),
        )

    pub call_meet : (names : List Word) (values : List ℤ) (e : CExpr) → nat_lt b.stop 1 ≡ true → Are g t (core own names values b) (e ∷ []) (pos ch ∷ []) →
        Runs g t (meet_cost g t P C) (call (codes "f_meet") (e ∷ []) ∷ []) (core own names values b) (core own names values (meet P C ch b))
    call_meet names values e still are =
        let k = body_runs still in
        call_ends g t (two_owners g t P + (6 + going_cost g t C)) (core own names values b) (here (sender P ch b) (receiver P ch b) k.0 (meet P C ch b)) f_meet (codes "f_meet") (e ∷ []) (pos ch ∷ [])
        (named-function (codes "meet")) (ap (function_among (codes "f_meet")) has.functions) are refl k.1

  -- ---- f_fire

  abbrev there : ℕ → Board64 → View
  there j b = core own (c ∷ []) (pos j ∷ []) b

  abbrev ready : CExpr
  ready = both (both (below_one (first_of (codes "a_stop"))) (above_zero send_of)) (above_zero receive_of)

  abbrev meets : List CStmt
  meets = if_then ready (call (codes "f_meet") (local c ∷ []) ∷ []) ∷ []

  stop_is : (j : ℕ) (b : Board64) (is : Bool) → nat_lt b.stop 1 ≡ is → Is g t (there j b) (below_one (first_of (codes "a_stop"))) (int_of is)
  stop_is j b is e rest target gives = (let arrays = has.declared in simp (forms, arrays, e))

  send_is : (j : ℕ) (b : Board64) (is : Bool) → j < C → nat_lt 0 (nth b.send j) ≡ is → Is g t (there j b) (above_zero send_of) (int_of is)
  send_is j b is low e rest target gives = (let arrays = has.declared in let inside = is_below j (max C 1) (omega (arith, low)) in simp (forms, arrays, element_is, inside, e))

  receive_is : (j : ℕ) (b : Board64) (is : Bool) → j < C → nat_lt 0 (nth b.receive j) ≡ is → Is g t (there j b) (above_zero receive_of) (int_of is)
  receive_is j b is low e rest target gives = (let arrays = has.declared in let inside = is_below j (max C 1) (omega (arith, low)) in simp (forms, arrays, element_is, inside, e))

  first_true : (x y z : Bool) → ((x && y) && z) ≡ true → x ≡ true
  first_true true y z h = refl
  first_true false y z h = absurd cc

  one : (j : ℕ) (b : Board64) → j < C → Sound P C b → Runs g t ((1 + meet_cost g t P C) + 1) (round c meets) (there j b) (there (j + 1) (fire_step P C j b))
  one j b low sound =
      let small = has.small in
      let next : nat_lt (j + 1) (2 ^ 31) ≡ true = is_below (j + 1) (2 ^ 31) (omega (arith, low, small)) in
      runs_on g t (1 + meet_cost g t P C) 1 meets (round c []) _ _ _
      (
      when_runs g t (there j) (meet_cost g t P C) ready (call (codes "f_meet") (local c ∷ []) ∷ []) b (meet P C j b) (is_ready j b)
      (
      both_is g t (there j b) (both (below_one (first_of (codes "a_stop"))) (above_zero send_of)) (above_zero receive_of) (nat_lt b.stop 1 && nat_lt 0 (nth b.send j)) (nat_lt 0 (nth b.receive j))
      (both_is g t (there j b) (below_one (first_of (codes "a_stop"))) (above_zero send_of) (nat_lt b.stop 1) (nat_lt 0 (nth b.send j)) (stop_is j b _ refl) (send_is j b _ low refl))
      (receive_is j b _ low refl)
      )
      (λ is. call_meet j low b sound (c ∷ []) (pos j ∷ []) (local c) (first_true (nat_lt b.stop 1) (nat_lt 0 (nth b.send j)) (nat_lt 0 (nth b.receive j)) is) (λ rest target gives. simp forms))
      )
      (runs_straight g t 1 _ (there j (fire_step P C j b)) (there (j + 1) (fire_step P C j b)) (λ rest target gives below. simp (forms, next)))

  pub call_fire : (names : List Word) (values : List ℤ) (b : Board64) → Sound P C b →
      Runs g t (fire_cost g t P C) (call (codes "f_fire") [] ∷ []) (core own names values b) (core own names values (fire P C b))
  call_fire names values b sound =
      call_ends g t (loop_cost g t ((1 + meet_cost g t P C) + 1) C) (core own names values b) (there C (fire P C b)) (f_fire C) (codes "f_fire") [] []
      (named-function (codes "fire")) (ap (function_among (codes "f_fire")) has.functions) (λ rest target gives. refl) refl
      (loop_runs g t (fire_step P C) (λ j (d : Board64). Sound P C d) there c C ((1 + meet_cost g t P C) + 1) meets b (λ j d rest target gives. simp forms) sound (λ j d low h. fire_step_sound P C j d h) (λ j d low h. one j d low h))
