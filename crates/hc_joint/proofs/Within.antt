-- A stretch that took few steps is the same where no more were allowed.
use Rattle.std.proofs.Common.{◌≡◌, refl, ap, ℕ, zero, suc, ◌≤◌, min, length, Some, None, arith}
use Rattle.hc_limits.specs.Limits.{most_silent_steps}
use Rattle.hc_rational.specs.Words.{Rational}
use Rattle.hc_term.specs.declared.model.ProcessState.{ProcessState}
use Rattle.hc_term.specs.Silent.{Outcome, Idle, Unfit, Did, silent}
use Rattle.hc_term.specs.Event.{progress, progress_by, spent_by, with_silent}

module _ (seed p : ℕ) (clock : Rational) where
  few_by : (n : ℕ) (q : ProcessState) (o : Outcome) → ((next : ProcessState) → length (progress n seed p clock next).logs ≤ n) →
      length (progress_by q (progress n seed p clock) o).logs ≤ suc n
  few_by n q Idle few = omega arith
  few_by n q Unfit few = omega arith
  few_by n q (Did (Some v) next) few = omega arith
  few_by n q (Did None next) few = let h = few next in omega (arith, h)

  none_by : (q : ProcessState) (o : Outcome) → length (spent_by q o).logs ≤ 0
  none_by q Idle = omega arith
  none_by q Unfit = omega arith
  none_by q (Did logged next) = omega arith

  -- no more steps than are allowed
  pub few_steps : (n : ℕ) (q : ProcessState) → length (progress n seed p clock q).logs ≤ n
  few_steps zero q = none_by q (silent seed p clock q)
  few_steps (suc n) q = few_by n q (silent seed p clock q) (few_steps n)

  at_once : (n : ℕ) (q : ProcessState) (o : Outcome) → length (progress_by q (progress n seed p clock) o).logs ≤ 0 →
      spent_by q o ≡ progress_by q (progress n seed p clock) o
  at_once n q Idle h = refl
  at_once n q Unfit h = refl
  at_once n q (Did (Some v) next) h = absurd (omega (arith, h))
  at_once n q (Did None next) h = absurd (omega (arith, h))

  after_one : (m n : ℕ) (q : ProcessState) (o : Outcome) →
      ((next : ProcessState) → length (progress n seed p clock next).logs ≤ m → progress m seed p clock next ≡ progress n seed p clock next) →
      length (progress_by q (progress n seed p clock) o).logs ≤ suc m →
      progress_by q (progress m seed p clock) o ≡ progress_by q (progress n seed p clock) o
  after_one m n q Idle same h = refl
  after_one m n q Unfit same h = refl
  after_one m n q (Did (Some v) next) same h = refl
  after_one m n q (Did None next) same h = ap with_silent (same next (omega (arith, h)))

  same_within : (m n : ℕ) (q : ProcessState) → m ≤ n → length (progress n seed p clock q).logs ≤ m →
      progress m seed p clock q ≡ progress n seed p clock q
  same_within zero zero q le h = refl
  same_within zero (suc n) q le h = at_once n q (silent seed p clock q) h
  same_within (suc m) zero q le h = absurd (omega (arith, le))
  same_within (suc m) (suc n) q le h =
      after_one m n q (silent seed p clock q) (λ next few. same_within m n next (omega (arith, le)) few) h

  -- where no more steps were taken than are left to the limit, the limit changed nothing
  pub fits_limit : (left : ℕ) (q : ProcessState) → length (progress most_silent_steps seed p clock q).logs ≤ left →
      progress (min most_silent_steps left) seed p clock q ≡ progress most_silent_steps seed p clock q
  fits_limit left q h =
      let few = few_steps most_silent_steps q in
      same_within (min most_silent_steps left) most_silent_steps q (omega arith) (omega (arith, h, few))
