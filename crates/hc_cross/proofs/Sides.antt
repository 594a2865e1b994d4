-- Where a value u with slope w lies to 0 at a moment, told from its signs now: before, at and after its crossing.
use Rattle.std.proofs.Common.{◌≡◌, ◌≢◌, inl, inr, refl, sym, ap, subst, ◌∙◌, Bool, true, false, Some, None, if◌then◌else◌}
use Rattle.std.specs.declared.cmp.Ordering.{Ordering}
use Rattle.std.specs.declared.cmp.Ordering.TheVariants as side
use Rattle.hc_rational.specs.Words.{Rational, zero_ℚ, ◌+ℚ◌, ◌*ℚ◌, ◌/ℚ◌, neg_ℚ, ◌≤ℚ◌, ◌<ℚ◌, rank, is_zero}
use Rattle.hc_rational.proofs.FieldLaws.{zero-+ℚ, *ℚ-zero, +ℚ-zero, zero-*ℚ}
use Rattle.hc_rational.proofs.OrderLaws.{≤ℚ-from_<ℚ, ≤ℚ-from_≡, ≤ℚ-or-<ℚ}
use Rattle.hc_rational.proofs.RankLaws.{rank_is, is_zero_is}
use Rattle.hc_term.specs.EndMoment.{opposite, or_else, side_at, crossing}
use Rattle.hc_cross.proofs.Signs.{is_under, is_over, is_on, under, over, on, slope_apart, from_start, product_over, product_under, stays_under, stays_over, at_crossing, rising_before, rising_after, falling_before, falling_after}

-- whether it becomes 0 later, and when
abbrev pub meets : Rational → Rational → Bool
meets u w = opposite (rank u zero_ℚ) (rank w zero_ℚ)

abbrev pub root : Rational → Rational → Rational
root u w = neg_ℚ u /ℚ w

pub at_start : (u w : Rational) → side_at u w zero_ℚ ≡ rank u zero_ℚ
at_start u w = ap (λ z. rank z zero_ℚ) (ap (λ z. u +ℚ z) (*ℚ-zero w) ∙ +ℚ-zero u)

-- ---- without a crossing

-- from 0 on, the slope tells
from_zero : (u w t : Rational) → zero_ℚ <ℚ t → u ≡ zero_ℚ → (b : Ordering) → rank w zero_ℚ ≡ b →
    side_at u w t ≡ b
from_zero u w t k e b h =
    ap (λ z. rank (z +ℚ w *ℚ t) zero_ℚ) e ∙ ap (λ z. rank z zero_ℚ) (zero-+ℚ (w *ℚ t)) ∙ signed b h
  where
    signed : (b : Ordering) → rank w zero_ℚ ≡ b → rank (w *ℚ t) zero_ℚ ≡ b
    signed side.Less h = is_under (w *ℚ t) (product_under w t k (under w h))
    signed side.Equal h = is_on (w *ℚ t) (ap (λ z. z *ℚ t) (on w h) ∙ zero-*ℚ t)
    signed side.Greater h = is_over (w *ℚ t) (product_over w t k (over w h))

under_stays : (u w t : Rational) → zero_ℚ <ℚ t → rank u zero_ℚ ≡ side.Less → w ≤ℚ zero_ℚ →
    side_at u w t ≡ side.Less
under_stays u w t k h j = is_under (u +ℚ w *ℚ t) (stays_under u w t (≤ℚ-from_<ℚ zero_ℚ t k) (under u h) j)

over_stays : (u w t : Rational) → zero_ℚ <ℚ t → rank u zero_ℚ ≡ side.Greater → zero_ℚ ≤ℚ w →
    side_at u w t ≡ side.Greater
over_stays u w t k h j = is_over (u +ℚ w *ℚ t) (stays_over u w t (≤ℚ-from_<ℚ zero_ℚ t k) (over u h) j)

stays_by : (u w t : Rational) → zero_ℚ <ℚ t → (a b : Ordering) → rank u zero_ℚ ≡ a → rank w zero_ℚ ≡ b →
    opposite a b ≡ false → side_at u w t ≡ or_else a b
stays_by u w t k side.Less side.Less h j n = under_stays u w t k h (≤ℚ-from_<ℚ w zero_ℚ (under w j))
stays_by u w t k side.Less side.Equal h j n = under_stays u w t k h (≤ℚ-from_≡ w zero_ℚ (on w j))
stays_by u w t k side.Less side.Greater h j n = cc
stays_by u w t k side.Greater side.Less h j n = cc
stays_by u w t k side.Greater side.Equal h j n = over_stays u w t k h (≤ℚ-from_≡ zero_ℚ w (sym (on w j)))
stays_by u w t k side.Greater side.Greater h j n = over_stays u w t k h (≤ℚ-from_<ℚ zero_ℚ w (over w j))
stays_by u w t k side.Equal b h j n = from_zero u w t k (on u h) b j

-- a value that doesn't go towards 0 lies later as just after now
pub stays : (u w t : Rational) → zero_ℚ <ℚ t → meets u w ≡ false →
    side_at u w t ≡ or_else (rank u zero_ℚ) (rank w zero_ℚ)
stays u w t k n = stays_by u w t k (rank u zero_ℚ) (rank w zero_ℚ) refl refl n

-- ---- with a crossing

-- the two ways towards 0
data Towards (u w : Rational) : Type 0 where
  Rising : rank u zero_ℚ ≡ side.Less → rank w zero_ℚ ≡ side.Greater → Towards u w
  Falling : rank u zero_ℚ ≡ side.Greater → rank w zero_ℚ ≡ side.Less → Towards u w

towards_by : (u w : Rational) (a b : Ordering) → rank u zero_ℚ ≡ a → rank w zero_ℚ ≡ b → opposite a b ≡ true →
    Towards u w
towards_by u w side.Less side.Greater h j o = Rising h j
towards_by u w side.Greater side.Less h j o = Falling h j
towards_by u w side.Less side.Less h j o = cc
towards_by u w side.Less side.Equal h j o = cc
towards_by u w side.Equal side.Less h j o = cc
towards_by u w side.Equal side.Equal h j o = cc
towards_by u w side.Equal side.Greater h j o = cc
towards_by u w side.Greater side.Equal h j o = cc
towards_by u w side.Greater side.Greater h j o = cc

towards : (u w : Rational) → meets u w ≡ true → Towards u w
towards u w o = towards_by u w (rank u zero_ℚ) (rank w zero_ℚ) refl refl o

before_by : (u w t : Rational) → Towards u w → w ≢ zero_ℚ → t <ℚ root u w → side_at u w t ≡ rank u zero_ℚ
before_by u w t (Rising h j) n l = is_under (u +ℚ w *ℚ t) (rising_before u w t (over w j) n l) ∙ sym h
before_by u w t (Falling h j) n l = is_over (u +ℚ w *ℚ t) (falling_before u w t (under w j) n l) ∙ sym h

pub before : (u w t : Rational) → meets u w ≡ true → t <ℚ root u w → side_at u w t ≡ rank u zero_ℚ
before u w t o l = before_by u w t (towards u w o) (slope_apart u w o) l

beyond_by : (u w t : Rational) → Towards u w → w ≢ zero_ℚ → root u w <ℚ t → side_at u w t ≡ rank w zero_ℚ
beyond_by u w t (Rising h j) n l = is_over (u +ℚ w *ℚ t) (rising_after u w t (over w j) n l) ∙ sym j
beyond_by u w t (Falling h j) n l = is_under (u +ℚ w *ℚ t) (falling_after u w t (under w j) n l) ∙ sym j

pub beyond : (u w t : Rational) → meets u w ≡ true → root u w <ℚ t → side_at u w t ≡ rank w zero_ℚ
beyond u w t o l = beyond_by u w t (towards u w o) (slope_apart u w o) l

pub at_root : (u w : Rational) → meets u w ≡ true → side_at u w (root u w) ≡ side.Equal
at_root u w o = is_on (u +ℚ w *ℚ root u w) (at_crossing u w (slope_apart u w o))

none_its_own : (a : Ordering) → opposite a a ≡ false
none_its_own side.Less = refl
none_its_own side.Equal = refl
none_its_own side.Greater = refl

-- the crossing isn't past
pub root-not_past : (u w : Rational) → meets u w ≡ true → zero_ℚ ≤ℚ root u w
root-not_past u w o = elim (≤ℚ-or-<ℚ zero_ℚ (root u w)) [
  | inl k ↦ k
  | inr l ↦
      let same : rank u zero_ℚ ≡ rank w zero_ℚ = sym (at_start u w) ∙ beyond u w zero_ℚ o l in
      let none : meets u w ≡ false = ap (λ z. opposite z (rank w zero_ℚ)) same ∙ none_its_own (rank w zero_ℚ) in
      absurd (cc (sym o ∙ none))
]

-- ---- the crossing, as it is found

crossing_if : (u w : Rational) (b : Bool) → meets u w ≡ b →
    crossing u w ≡ (if b then Some (root u w) else None)
crossing_if u w b o = ap (λ (z : Bool). if z then Some (root u w) else None) o

pub crossing_at : (u w : Rational) → meets u w ≡ true → crossing u w ≡ Some (root u w)
crossing_at u w o = crossing_if u w true o

found_if : (u w x : Rational) (b : Bool) → meets u w ≡ b → crossing u w ≡ Some x →
    (meets u w ≡ true) × (x ≡ root u w)
found_if u w x true o e =
    let same : Some x ≡ Some (root u w) = sym e ∙ crossing_if u w true o in
    (o, cc same)
found_if u w x false o e =
    let same : Some x ≡ None = sym e ∙ crossing_if u w false o in
    absurd (cc same)

crossing_is : (u w x : Rational) → crossing u w ≡ Some x → (meets u w ≡ true) × (x ≡ root u w)
crossing_is u w x e = found_if u w x (meets u w) refl e

none_if : (u w : Rational) (b : Bool) → meets u w ≡ b → crossing u w ≡ None → meets u w ≡ false
none_if u w false o e = o
none_if u w true o e =
    let same : None ≡ Some (root u w) = sym e ∙ crossing_if u w true o in
    absurd (cc same)

pub crossing-not_past : (u w x : Rational) → crossing u w ≡ Some x → zero_ℚ ≤ℚ x
crossing-not_past u w x e =
    let is = crossing_is u w x e in
    subst (λ z. zero_ℚ ≤ℚ z) (sym is.1) (root-not_past u w is.0)

-- ---- the side, as it is told

pub told_before : (u w t x : Rational) → crossing u w ≡ Some x → rank t x ≡ side.Less →
    side_at u w t ≡ rank u zero_ℚ
told_before u w t x e h =
    let is = crossing_is u w x e in
    before u w t is.0 (subst (λ z. t <ℚ z) is.1 ((rank_is t x).less.0 h))

pub told_there : (u w t x : Rational) → crossing u w ≡ Some x → rank t x ≡ side.Equal →
    side_at u w t ≡ side.Equal
told_there u w t x e h =
    let is = crossing_is u w x e in
    ap (side_at u w) ((rank_is t x).equal.0 h ∙ is.1) ∙ at_root u w is.0

pub told_beyond : (u w t x : Rational) → crossing u w ≡ Some x → rank t x ≡ side.Greater →
    side_at u w t ≡ rank w zero_ℚ
told_beyond u w t x e h =
    let is = crossing_is u w x e in
    beyond u w t is.0 (subst (λ z. z <ℚ t) is.1 ((rank_is t x).greater.0 h))

pub told_now : (u w t : Rational) → is_zero t ≡ true → side_at u w t ≡ rank u zero_ℚ
told_now u w t h = ap (side_at u w) ((is_zero_is t).0 h) ∙ at_start u w

pub told_later : (u w t : Rational) → crossing u w ≡ None → zero_ℚ ≤ℚ t → is_zero t ≡ false →
    side_at u w t ≡ or_else (rank u zero_ℚ) (rank w zero_ℚ)
told_later u w t e k h = elim (from_start t k) [
  | inl z ↦
      let now : is_zero t ≡ true = (is_zero_is t).1 z in
      absurd (cc (sym now ∙ h))
  | inr l ↦ stays u w t l (none_if u w (meets u w) refl e)
]
