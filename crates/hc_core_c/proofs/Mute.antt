-- f_mute: the offers of a process go.
use Rattle.std.specs.Prelude.{◌≡◌, ◌<◌, ◌≤◌, ◌+◌, ◌*◌, ◌^◌, ℕ, max, Bool, true, false, ◌&&◌, if◌then◌else◌, nat_lt, List, [], ◌∷◌, slice_set, ℤ, pos, codes}
use Rattle.std.proofs.Common.{refl, sym, ap, subst, arith}
use Rattle.hc_rational.specs.Words.{Rational}
use Rattle.hc_cast.specs.declared.program.CProgram.{CProgram}
use Rattle.hc_cast.specs.declared.expr.CExpr.{CExpr}
use Rattle.hc_cast.specs.declared.stmt.CStmt.{CStmt}
use Rattle.hc_cast.specs.declared.stmt.CStmt.TheVariants.{Set}
use Rattle.hc_cmach.specs.State.{Word, function_among}
use Rattle.hc_cmach.proofs.Named.{named-function}
use Rattle.hc_cmach.proofs.Worths.{forms}
use Rattle.hc_clogic.specs.Runs.{View, Runs, Are}
use Rattle.hc_clogic.proofs.Runs.{call_ends, runs_on, runs_longer, runs_straight, loop_cost}
use Rattle.hc_core_c.specs.Twin.{Board64, rounds, nth, cleared, mute, mute_step}
use Rattle.hc_cbuild.specs.Written.{number, local, sum, less, round, call}
use Rattle.hc_core_c.specs.Code.{p, c, clears, f_mute}
use Rattle.hc_core_c.proofs.Base.{is_below, is_not_below, element_is, element_set, no_round, one_more, Rounds, rounds_run}
use Rattle.hc_core_c.specs.Owner.{core, Has}

abbrev pub mute_cost : CProgram → ℕ → ℕ → ℕ
mute_cost g t C = 1 + (loop_cost g t 5 C + 1)

module _ (g : CProgram) (t P C : ℕ) (has : Has g P C) (own : List Rational) (process : ℕ) (low : process < 64) where
  abbrev here : ℕ → Board64 → View
  here i b = core own (p ∷ c ∷ []) (pos process ∷ pos i ∷ []) b

  small : nat_lt (process * 32) (2 ^ 31) ≡ true
  small = is_below (process * 32) (2 ^ 31) (omega (arith, low))

  fits : nat_lt (process * 32 + 33) (2 ^ 31) ≡ true
  fits = is_below (process * 32 + 33) (2 ^ 31) (omega (arith, low))

  inside : (i : ℕ) → i < C → nat_lt i (max C 1) ≡ true
  inside i there = is_below i (max C 1) (omega (arith, there))

  send_by : (b : Board64) (i : ℕ) → i < C → (above below : Bool) → nat_lt (process * 32) (nth b.send i) ≡ above → nat_lt (nth b.send i) (process * 32 + 33) ≡ below →
      Runs g t 2 (clears (codes "a_send") ∷ []) (here i b) (here i (record b { send = if above && below then slice_set b.send i 0 else b.send }))
  send_by b i there true true e f =
      let arrays = has.declared in
      let there = inside i there in
      runs_straight g t 2 (clears (codes "a_send") ∷ []) _ _ (λ rest target gives below. simp (forms, arrays, small, fits, there, e, f, element_is, element_set))
  send_by b i there true false e f =
      let arrays = has.declared in
      let there = inside i there in
      runs_longer g t 1 2 (clears (codes "a_send") ∷ []) _ _ (omega arith)
      (runs_straight g t 1 (clears (codes "a_send") ∷ []) _ _ (λ rest target gives below. simp (forms, arrays, small, fits, there, e, f, element_is)))
  send_by b i there false below e f =
      let arrays = has.declared in
      let there = inside i there in
      runs_longer g t 1 2 (clears (codes "a_send") ∷ []) _ _ (omega arith)
      (runs_straight g t 1 (clears (codes "a_send") ∷ []) _ _ (λ rest target gives below. simp (forms, arrays, small, fits, there, e, f, element_is)))

  receive_by : (b : Board64) (i : ℕ) → i < C → (above below : Bool) → nat_lt (process * 32) (nth b.receive i) ≡ above → nat_lt (nth b.receive i) (process * 32 + 33) ≡ below →
      Runs g t 2 (clears (codes "a_receive") ∷ []) (here i b) (here i (record b { receive = if above && below then slice_set b.receive i 0 else b.receive }))
  receive_by b i there true true e f =
      let arrays = has.declared in
      let there = inside i there in
      runs_straight g t 2 (clears (codes "a_receive") ∷ []) _ _ (λ rest target gives below. simp (forms, arrays, small, fits, there, e, f, element_is, element_set))
  receive_by b i there true false e f =
      let arrays = has.declared in
      let there = inside i there in
      runs_longer g t 1 2 (clears (codes "a_receive") ∷ []) _ _ (omega arith)
      (runs_straight g t 1 (clears (codes "a_receive") ∷ []) _ _ (λ rest target gives below. simp (forms, arrays, small, fits, there, e, f, element_is)))
  receive_by b i there false below e f =
      let arrays = has.declared in
      let there = inside i there in
      runs_longer g t 1 2 (clears (codes "a_receive") ∷ []) _ _ (omega arith)
      (runs_straight g t 1 (clears (codes "a_receive") ∷ []) _ _ (λ rest target gives below. simp (forms, arrays, small, fits, there, e, f, element_is)))

  abbrev turn : List CStmt
  turn = round c (clears (codes "a_send") ∷ clears (codes "a_receive") ∷ [])

  counts : (b : Board64) (i : ℕ) → i < C → Runs g t 1 (Set c (sum (local c) (number 1)) ∷ []) (here i b) (here (i + 1) b)
  counts b i there =
      let small : C ≤ 256 = has.small in
      let next : nat_lt (i + 1) (2 ^ 31) ≡ true = is_below (i + 1) (2 ^ 31) (omega (arith, there, small)) in
      runs_straight g t 1 _ _ _ (λ rest target gives below. simp (forms, next))

  one : (b : Board64) (i : ℕ) → i < C → Runs g t 5 turn (here i b) (here (i + 1) (mute_step process i b))
  one b i there =
      runs_on g t 2 3 (clears (codes "a_send") ∷ []) _ _ _ _ (send_by b i there _ _ refl refl)
      (runs_on g t 2 1 (clears (codes "a_receive") ∷ []) _ _ _ _ (receive_by (record b { send = cleared process i b.send }) i there _ _ refl refl)
      (counts (mute_step process i b) i there))

  loops : (b : Board64) → Rounds g t C 5 (less (local c) (number C)) turn (λ i. here i (rounds (mute_step process) i b))
  loops b = record {
    goes = λ i low rest target gives. (let e : nat_lt i C ≡ true = is_below i C low in simp (forms, e));
    ends = λ rest target gives. (let e : nat_lt C C ≡ false = is_not_below C C (omega arith) in simp (forms, e));
    turns =
        λ i low.
        subst (λ next. Runs g t 5 turn (here i (rounds (mute_step process) i b)) (here (i + 1) next)) (sym (one_more (mute_step process) i b))
        (one (rounds (mute_step process) i b) i low);
  }

  body_runs : (b : Board64) → Runs g t (loop_cost g t 5 C) (f_mute C).body.statements (here 0 b) (here C (mute C process b))
  body_runs b =
      subst (λ first. Runs g t (loop_cost g t 5 C) (f_mute C).body.statements (here 0 first) (here C (mute C process b))) (no_round (mute_step process) b)
      (rounds_run g t C 5 _ _ _ (loops b))

  pub call_mute : (names : List Word) (values : List ℤ) (b : Board64) (e : CExpr) → Are g t (core own names values b) (e ∷ []) (pos process ∷ []) →
      Runs g t (mute_cost g t C) (call (codes "f_mute") (e ∷ []) ∷ []) (core own names values b) (core own names values (mute C process b))
  call_mute names values b e are =
      call_ends g t (loop_cost g t 5 C) (core own names values b) (here C (mute C process b)) (f_mute C) (codes "f_mute") (e ∷ []) (pos process ∷ [])
      (named-function (codes "mute")) (ap (function_among (codes "f_mute")) has.functions) are refl (body_runs b)
