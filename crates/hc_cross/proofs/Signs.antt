-- The signs of a value and of its slope, and of the value some time later.
use Rattle.std.proofs.Common.{◌≡◌, ◌≢◌, ◌⊎◌, inl, inr, refl, sym, ap, subst, ◌∙◌, pos, true, false}
use Rattle.std.specs.declared.cmp.Ordering.{Ordering}
use Rattle.std.specs.declared.cmp.Ordering.TheVariants as side
use Rattle.hc_rational.specs.Words.{Rational, zero_ℚ, ◌+ℚ◌, ◌*ℚ◌, ◌/ℚ◌, neg_ℚ, ◌≤ℚ◌, ◌<ℚ◌, rank}
use Rattle.hc_rational.proofs.FieldLaws.{zero-from_num, zero-*ℚ, zero-+ℚ, +ℚ-neg, +ℚ_comm, /ℚ-*ℚ, *ℚ_comm, neg-neg, neg-zero, neg-*ℚ}
use Rattle.hc_rational.proofs.OrderLaws.{*ℚ-<ℚ, *ℚ-≤ℚ, +ℚ-<ℚ, neg-<ℚ, ≤ℚ-or-<ℚ, ≤ℚ_antisymm, <ℚ-≤ℚ_trans, ≤ℚ-<ℚ_trans}
use Rattle.hc_rational.proofs.RankLaws.{rank_is}
use Rattle.hc_term.specs.EndMoment.{opposite}

pub is_under : (q : Rational) → q <ℚ zero_ℚ → rank q zero_ℚ ≡ side.Less
is_under q h = (rank_is q zero_ℚ).less.1 h

pub is_over : (q : Rational) → zero_ℚ <ℚ q → rank q zero_ℚ ≡ side.Greater
is_over q h = (rank_is q zero_ℚ).greater.1 h

pub is_on : (q : Rational) → q ≡ zero_ℚ → rank q zero_ℚ ≡ side.Equal
is_on q h = (rank_is q zero_ℚ).equal.1 h

pub under : (q : Rational) → rank q zero_ℚ ≡ side.Less → q <ℚ zero_ℚ
under q h = (rank_is q zero_ℚ).less.0 h

pub over : (q : Rational) → rank q zero_ℚ ≡ side.Greater → zero_ℚ <ℚ q
over q h = (rank_is q zero_ℚ).greater.0 h

pub on : (q : Rational) → rank q zero_ℚ ≡ side.Equal → q ≡ zero_ℚ
on q h = (rank_is q zero_ℚ).equal.0 h

none_opposite : (o : Ordering) → opposite o side.Equal ≡ false
none_opposite side.Less = refl
none_opposite side.Equal = refl
none_opposite side.Greater = refl

-- a slope of the opposite sign isn't 0
pub slope_apart : (u w : Rational) → opposite (rank u zero_ℚ) (rank w zero_ℚ) ≡ true → w ≢ zero_ℚ
slope_apart u w h e =
    let none : opposite (rank u zero_ℚ) (rank w zero_ℚ) ≡ false =
    ap (opposite (rank u zero_ℚ)) (is_on w e) ∙ none_opposite (rank u zero_ℚ) in
    absurd (cc (sym h ∙ none))

pub numerator_apart : (u w : Rational) → opposite (rank u zero_ℚ) (rank w zero_ℚ) ≡ true → w.num ≢ pos 0
numerator_apart u w h e = slope_apart u w h (zero-from_num w e)

pub from_start : (t : Rational) → zero_ℚ ≤ℚ t → (t ≡ zero_ℚ) ⊎ (zero_ℚ <ℚ t)
from_start t h = elim (≤ℚ-or-<ℚ t zero_ℚ) [
  | inl k ↦ inl (≤ℚ_antisymm t zero_ℚ k h)
  | inr k ↦ inr k
]

-- ---- products and sums

pub product_over : (w t : Rational) → zero_ℚ <ℚ t → zero_ℚ <ℚ w → zero_ℚ <ℚ w *ℚ t
product_over w t k h = subst (λ z. z <ℚ w *ℚ t) (zero-*ℚ t) (*ℚ-<ℚ zero_ℚ w t k h)

pub product_under : (w t : Rational) → zero_ℚ <ℚ t → w <ℚ zero_ℚ → w *ℚ t <ℚ zero_ℚ
product_under w t k h = subst (λ z. w *ℚ t <ℚ z) (zero-*ℚ t) (*ℚ-<ℚ w zero_ℚ t k h)

product_not_under : (w t : Rational) → zero_ℚ ≤ℚ t → zero_ℚ ≤ℚ w → zero_ℚ ≤ℚ w *ℚ t
product_not_under w t k h = subst (λ z. z ≤ℚ w *ℚ t) (zero-*ℚ t) (*ℚ-≤ℚ zero_ℚ w t k h)

product_not_over : (w t : Rational) → zero_ℚ ≤ℚ t → w ≤ℚ zero_ℚ → w *ℚ t ≤ℚ zero_ℚ
product_not_over w t k h = subst (λ z. w *ℚ t ≤ℚ z) (zero-*ℚ t) (*ℚ-≤ℚ w zero_ℚ t k h)

pub stays_under : (u w t : Rational) → zero_ℚ ≤ℚ t → u <ℚ zero_ℚ → w ≤ℚ zero_ℚ → u +ℚ w *ℚ t <ℚ zero_ℚ
stays_under u w t k h j =
    <ℚ-≤ℚ_trans (u +ℚ w *ℚ t) (w *ℚ t) zero_ℚ
    (subst (λ z. u +ℚ w *ℚ t <ℚ z) (zero-+ℚ (w *ℚ t)) (+ℚ-<ℚ u zero_ℚ (w *ℚ t) h)) (product_not_over w t k j)

pub stays_over : (u w t : Rational) → zero_ℚ ≤ℚ t → zero_ℚ <ℚ u → zero_ℚ ≤ℚ w → zero_ℚ <ℚ u +ℚ w *ℚ t
stays_over u w t k h j =
    ≤ℚ-<ℚ_trans zero_ℚ (w *ℚ t) (u +ℚ w *ℚ t) (product_not_under w t k j)
    (subst (λ z. z <ℚ u +ℚ w *ℚ t) (zero-+ℚ (w *ℚ t)) (+ℚ-<ℚ zero_ℚ u (w *ℚ t) h))

-- ---- before and after the crossing

sum_of_less : (u q : Rational) → q <ℚ neg_ℚ u → u +ℚ q <ℚ zero_ℚ
sum_of_less u q h =
    subst (λ z. z <ℚ zero_ℚ) (+ℚ_comm q u)
    (subst (λ z. q +ℚ u <ℚ z) (+ℚ_comm (neg_ℚ u) u ∙ +ℚ-neg u) (+ℚ-<ℚ q (neg_ℚ u) u h))

sum_of_more : (u q : Rational) → neg_ℚ u <ℚ q → zero_ℚ <ℚ u +ℚ q
sum_of_more u q h =
    subst (λ z. zero_ℚ <ℚ z) (+ℚ_comm q u)
    (subst (λ z. z <ℚ q +ℚ u) (+ℚ_comm (neg_ℚ u) u ∙ +ℚ-neg u) (+ℚ-<ℚ (neg_ℚ u) q u h))

-- what the slope makes of the crossing time
way : (u w : Rational) → w ≢ zero_ℚ → w *ℚ (neg_ℚ u /ℚ w) ≡ neg_ℚ u
way u w n = *ℚ_comm w (neg_ℚ u /ℚ w) ∙ /ℚ-*ℚ (neg_ℚ u) w n

pub at_crossing : (u w : Rational) → w ≢ zero_ℚ → u +ℚ w *ℚ (neg_ℚ u /ℚ w) ≡ zero_ℚ
at_crossing u w n = ap (λ z. u +ℚ z) (way u w n) ∙ +ℚ-neg u

rising : (w p t : Rational) → zero_ℚ <ℚ w → p <ℚ t → w *ℚ p <ℚ w *ℚ t
rising w p t k h =
    subst (λ z. z <ℚ w *ℚ t) (*ℚ_comm p w) (subst (λ z. p *ℚ w <ℚ z) (*ℚ_comm t w) (*ℚ-<ℚ p t w k h))

falling : (w p t : Rational) → w <ℚ zero_ℚ → p <ℚ t → w *ℚ t <ℚ w *ℚ p
falling w p t k h =
    let turned : zero_ℚ <ℚ neg_ℚ w = subst (λ z. z <ℚ neg_ℚ w) neg-zero (neg-<ℚ w zero_ℚ k) in
    let back : (x : Rational) → neg_ℚ (neg_ℚ w *ℚ x) ≡ w *ℚ x = λ x. ap neg_ℚ (neg-*ℚ w x) ∙ neg-neg (w *ℚ x) in
    let rises : neg_ℚ w *ℚ p <ℚ neg_ℚ w *ℚ t = rising (neg_ℚ w) p t turned h in
    subst (λ z. z <ℚ w *ℚ p) (back t)
    (subst (λ z. neg_ℚ (neg_ℚ w *ℚ t) <ℚ z) (back p) (neg-<ℚ (neg_ℚ w *ℚ p) (neg_ℚ w *ℚ t) rises))

pub rising_before : (u w t : Rational) → zero_ℚ <ℚ w → w ≢ zero_ℚ → t <ℚ neg_ℚ u /ℚ w → u +ℚ w *ℚ t <ℚ zero_ℚ
rising_before u w t k n h =
    sum_of_less u (w *ℚ t) (subst (λ z. w *ℚ t <ℚ z) (way u w n) (rising w t (neg_ℚ u /ℚ w) k h))

pub rising_after : (u w t : Rational) → zero_ℚ <ℚ w → w ≢ zero_ℚ → neg_ℚ u /ℚ w <ℚ t → zero_ℚ <ℚ u +ℚ w *ℚ t
rising_after u w t k n h =
    sum_of_more u (w *ℚ t) (subst (λ z. z <ℚ w *ℚ t) (way u w n) (rising w (neg_ℚ u /ℚ w) t k h))

pub falling_before : (u w t : Rational) → w <ℚ zero_ℚ → w ≢ zero_ℚ → t <ℚ neg_ℚ u /ℚ w → zero_ℚ <ℚ u +ℚ w *ℚ t
falling_before u w t k n h =
    sum_of_more u (w *ℚ t) (subst (λ z. z <ℚ w *ℚ t) (way u w n) (falling w t (neg_ℚ u /ℚ w) k h))

pub falling_after : (u w t : Rational) → w <ℚ zero_ℚ → w ≢ zero_ℚ → neg_ℚ u /ℚ w <ℚ t → u +ℚ w *ℚ t <ℚ zero_ℚ
falling_after u w t k n h =
    sum_of_less u (w *ℚ t) (subst (λ z. w *ℚ t <ℚ z) (way u w n) (falling w (neg_ℚ u /ℚ w) t k h))
