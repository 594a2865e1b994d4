-- Where no crossing comes between two moments, a value lies at the later one as just after the earlier one.
use Rattle.std.proofs.Common.{◌≡◌, inl, inr, refl, sym, ap, ◌∙◌, Bool, true, false}
use Rattle.std.specs.declared.cmp.Ordering.{Ordering}
use Rattle.std.specs.declared.cmp.Ordering.TheVariants as side
use Rattle.hc_rational.specs.Words.{Rational, zero_ℚ, ◌≤ℚ◌, ◌<ℚ◌, rank}
use Rattle.hc_rational.proofs.OrderLaws.{≤ℚ-or-<ℚ, ≤ℚ_antisymm, ≤ℚ-<ℚ_trans, ≤ℚ-from_<ℚ, <ℚ_trans}
use Rattle.hc_term.specs.EndMoment.{opposite, or_else, side_at, side_after, side_when}
use Rattle.hc_cross.proofs.Signs.{from_start}
use Rattle.hc_cross.proofs.Sides.{meets, root, at_start, stays, before, beyond, at_root}

twice : (a b : Ordering) → or_else (or_else a b) b ≡ or_else a b
twice side.Less b = refl
twice side.Greater b = refl
twice side.Equal side.Less = refl
twice side.Equal side.Equal = refl
twice side.Equal side.Greater = refl

both_same : (b : Ordering) → or_else b b ≡ b
both_same side.Less = refl
both_same side.Equal = refl
both_same side.Greater = refl

first_stays : (a b : Ordering) → opposite a b ≡ true → or_else a b ≡ a
first_stays side.Less b h = refl
first_stays side.Greater b h = refl
first_stays side.Equal side.Less h = cc
first_stays side.Equal side.Equal h = cc
first_stays side.Equal side.Greater h = cc

-- ---- just after a moment

followed : (u w t : Rational) (o : Ordering) → side_at u w t ≡ o →
    side_after u w t ≡ or_else o (rank w zero_ℚ)
followed u w t o e = ap (λ z. or_else z (rank w zero_ℚ)) e

after_stays : (u w t : Rational) → zero_ℚ ≤ℚ t → meets u w ≡ false →
    side_after u w t ≡ or_else (rank u zero_ℚ) (rank w zero_ℚ)
after_stays u w t k n = elim (from_start t k) [
  | inl e ↦ followed u w t (rank u zero_ℚ) (ap (side_at u w) e ∙ at_start u w)
  | inr l ↦
      followed u w t (or_else (rank u zero_ℚ) (rank w zero_ℚ)) (stays u w t l n)
      ∙ twice (rank u zero_ℚ) (rank w zero_ℚ)
]

after_before : (u w t : Rational) → meets u w ≡ true → t <ℚ root u w → side_after u w t ≡ rank u zero_ℚ
after_before u w t o l =
    followed u w t (rank u zero_ℚ) (before u w t o l) ∙ first_stays (rank u zero_ℚ) (rank w zero_ℚ) o

after_root : (u w t : Rational) → meets u w ≡ true → root u w ≤ℚ t → side_after u w t ≡ rank w zero_ℚ
after_root u w t o k = elim (≤ℚ-or-<ℚ t (root u w)) [
  | inl j ↦ followed u w t side.Equal (ap (side_at u w) (≤ℚ_antisymm t (root u w) j k) ∙ at_root u w o)
  | inr l ↦ followed u w t (rank w zero_ℚ) (beyond u w t o l) ∙ both_same (rank w zero_ℚ)
]

-- ---- from one moment to the other

-- no crossing comes after p and up to t
pub data Clear (u w p t : Rational) : Type 0 where
  Never : meets u w ≡ false → Clear u w p t
  Past : meets u w ≡ true → root u w ≤ℚ p → Clear u w p t
  Ahead : meets u w ≡ true → t <ℚ root u w → Clear u w p t

-- how it lies at t, or just after t
lies_never : (u w t : Rational) → zero_ℚ <ℚ t → meets u w ≡ false → (just_after : Bool) →
    side_when just_after u w t ≡ or_else (rank u zero_ℚ) (rank w zero_ℚ)
lies_never u w t k n false = stays u w t k n
lies_never u w t k n true = after_stays u w t (≤ℚ-from_<ℚ zero_ℚ t k) n

lies_past : (u w t : Rational) → meets u w ≡ true → root u w <ℚ t → (just_after : Bool) →
    side_when just_after u w t ≡ rank w zero_ℚ
lies_past u w t o l false = beyond u w t o l
lies_past u w t o l true = after_root u w t o (≤ℚ-from_<ℚ (root u w) t l)

lies_ahead : (u w t : Rational) → meets u w ≡ true → t <ℚ root u w → (just_after : Bool) →
    side_when just_after u w t ≡ rank u zero_ℚ
lies_ahead u w t o l false = before u w t o l
lies_ahead u w t o l true = after_before u w t o l

pub steady : (u w p t : Rational) → zero_ℚ ≤ℚ p → p <ℚ t → Clear u w p t → (just_after : Bool) →
    side_when just_after u w t ≡ side_after u w p
steady u w p t k l (Never n) b =
    lies_never u w t (≤ℚ-<ℚ_trans zero_ℚ p t k l) n b ∙ sym (after_stays u w p k n)
steady u w p t k l (Past o j) b =
    lies_past u w t o (≤ℚ-<ℚ_trans (root u w) p t j l) b ∙ sym (after_root u w p o j)
steady u w p t k l (Ahead o j) b =
    lies_ahead u w t o j b ∙ sym (after_before u w p o (<ℚ_trans p t (root u w) l j))
