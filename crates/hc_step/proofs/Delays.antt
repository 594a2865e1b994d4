-- What a delay leaves to wait.
use Rattle.std.proofs.Common.{◌≡◌, refl, sym, ap, ◌∙◌, subst, Bool, true, false, if◌then◌else◌, ◌⊎◌, inl, inr, Some, None}
use Rattle.std.proofs.lemmas.Bool.{false≢true}
use Rattle.hc_rational.specs.Words.{Rational, ◌-ℚ◌, ◌≤ℚ◌, ◌<ℚ◌, greater, is_positive}
use Rattle.hc_rational.specs.Rational.{zero_ℚ}
use Rattle.hc_rational.proofs.FieldLaws.{+ℚ-zero, -ℚ-+ℚ}
use Rattle.hc_rational.proofs.OrderLaws.{≤ℚ_antisymm, ≤ℚ_trans, <ℚ_irrefl, ≤ℚ-or-<ℚ}
use Rattle.hc_rational.proofs.RankLaws.{is_positive_is, greater_is}
use Rattle.hc_term.specs.declared.model.Mark.TheVariants.{Arrived}
use Rattle.hc_step.specs.Delaying.{left_of, with_left}

greater_positive_by : (q s : Rational) → is_positive s ≡ true → (s ≡ zero_ℚ) ⊎ (s ≡ q) → s ≡ q
greater_positive_by q s h (inl e) = absurd (<ℚ_irrefl zero_ℚ (subst (λ (r : Rational). zero_ℚ <ℚ r) e ((is_positive_is s).0 h)))
greater_positive_by q s h (inr e) = e

-- where the greater of 0 and q is greater than 0, it is q
greater_positive : (q : Rational) → is_positive (greater zero_ℚ q) ≡ true → greater zero_ℚ q ≡ q
greater_positive q h = greater_positive_by q (greater zero_ℚ q) h (greater_is zero_ℚ q).one

none_left_by : (d b : Rational) → is_positive b ≡ false → zero_ℚ ≤ℚ d → d ≤ℚ b → (b ≤ℚ zero_ℚ) ⊎ (zero_ℚ <ℚ b) → d ≡ zero_ℚ
none_left_by d b n h k (inl e) = ≤ℚ_antisymm d zero_ℚ (≤ℚ_trans d b zero_ℚ k e) h
none_left_by d b n h k (inr e) = absurd (false≢true (sym n ∙ (is_positive_is b).1 e))

-- a delay up to a bound that has run out lasts no time
none_left : (d b : Rational) → is_positive b ≡ false → zero_ℚ ≤ℚ d → d ≤ℚ b → d ≡ zero_ℚ
none_left d b n h k = none_left_by d b n h k (≤ℚ-or-<ℚ b zero_ℚ)

minus_none : (q : Rational) → q -ℚ zero_ℚ ≡ q
minus_none q = sym (+ℚ-zero (q -ℚ zero_ℚ)) ∙ -ℚ-+ℚ q zero_ℚ

waits_by : (d left limit : Rational) (b : Bool) → is_positive limit ≡ b → zero_ℚ ≤ℚ d → d ≤ℚ limit → (is_positive limit ≡ true → limit ≡ left) →
    with_left (if b then Some (limit -ℚ d) else None) (Arrived left) ≡ Arrived (left -ℚ d)
waits_by d left limit true is h k same = ap (λ (r : Rational). Arrived (r -ℚ d)) (same is)
waits_by d left limit false is h k same = ap Arrived (sym (ap (λ (r : Rational). left -ℚ r) (none_left d limit is h k) ∙ minus_none left))

-- a wait has less left to wait by the delay, be it one whose bound has run out
pub wait_left : (d left : Rational) → zero_ℚ ≤ℚ d → d ≤ℚ greater zero_ℚ left →
    with_left (left_of d (Some (greater zero_ℚ left))) (Arrived left) ≡ Arrived (left -ℚ d)
wait_left d left h k =
    let limit = greater zero_ℚ left in
    waits_by d left limit (is_positive limit) refl h k (greater_positive left)
