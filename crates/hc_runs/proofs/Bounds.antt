-- What a delay leaves of a bound, and when it runs out.
use Rattle.std.proofs.Common.{◌≡◌, refl, sym, ap, ◌∙◌, subst, Bool, true, false, not, if◌then◌else◌, ◌⊎◌, inl, inr, Option, Some, None}
use Rattle.std.proofs.lemmas.Bool.{false≢true}
use Rattle.hc_rational.specs.Words.{Rational, ◌+ℚ◌, ◌-ℚ◌, ◌≤ℚ◌, ◌<ℚ◌, greater, is_positive, is_zero, is_negative}
use Rattle.hc_rational.specs.Rational.{zero_ℚ}
use Rattle.hc_rational.proofs.FieldLaws.{+ℚ_assoc, +ℚ_comm, +ℚ-zero, -ℚ-+ℚ, -ℚ-self}
use Rattle.hc_rational.proofs.OrderLaws.{≤ℚ_antisymm, ≤ℚ-<ℚ_trans, <ℚ_irrefl, ≤ℚ-or-<ℚ, ≤ℚ-not_<ℚ, ≤ℚ--ℚ, <ℚ--ℚ}
use Rattle.hc_rational.proofs.RankLaws.{is_positive_is, is_negative_is, is_zero_is, greater_is}
use Rattle.hc_term.specs.Process.{is_due}
use Rattle.hc_term.specs.Offers.{due_of}
use Rattle.hc_term.specs.Moved.{IsWithin, less_by}

-- a bound runs out at the same moment whatever part of it has passed
pub same_moment : (clock d b : Rational) → (clock +ℚ d) +ℚ (b -ℚ d) ≡ clock +ℚ b
same_moment clock d b =
    +ℚ_assoc clock d (b -ℚ d) ∙ ap (λ (r : Rational). clock +ℚ r) (+ℚ_comm d (b -ℚ d) ∙ -ℚ-+ℚ b d)

-- ---- the bound of a wait

greater_at_least_by : (q s : Rational) → zero_ℚ ≤ℚ q → q ≤ℚ s → (s ≡ zero_ℚ) ⊎ (s ≡ q) → s ≡ q
greater_at_least_by q s h k (inl e) = e ∙ ≤ℚ_antisymm zero_ℚ q h (subst (λ (r : Rational). q ≤ℚ r) e k)
greater_at_least_by q s h k (inr e) = e

greater_at_least : (q : Rational) → zero_ℚ ≤ℚ q → greater zero_ℚ q ≡ q
greater_at_least q h = greater_at_least_by q (greater zero_ℚ q) h (greater_is zero_ℚ q).second (greater_is zero_ℚ q).one

pub minus_none : (q : Rational) → q -ℚ zero_ℚ ≡ q
minus_none q = sym (+ℚ-zero (q -ℚ zero_ℚ)) ∙ -ℚ-+ℚ q zero_ℚ

wait_by : (d left : Rational) → zero_ℚ ≤ℚ d → d ≤ℚ greater zero_ℚ left → (greater zero_ℚ left ≡ zero_ℚ) ⊎ (greater zero_ℚ left ≡ left) →
    greater zero_ℚ (left -ℚ d) ≡ greater zero_ℚ left -ℚ d
wait_by d left k w (inl e) =
    let none : d ≡ zero_ℚ = ≤ℚ_antisymm d zero_ℚ (subst (λ (r : Rational). d ≤ℚ r) e w) k in
    ap (λ (r : Rational). greater zero_ℚ (left -ℚ r)) none ∙ ap (greater zero_ℚ) (minus_none left) ∙ sym (minus_none (greater zero_ℚ left))
    ∙ ap (λ (r : Rational). greater zero_ℚ left -ℚ r) (sym none)
wait_by d left k w (inr e) =
    greater_at_least (left -ℚ d) ((≤ℚ--ℚ d left).1 (subst (λ (r : Rational). d ≤ℚ r) e w)) ∙ ap (λ (r : Rational). r -ℚ d) (sym e)

pub wait_after : (d left : Rational) → zero_ℚ ≤ℚ d → d ≤ℚ greater zero_ℚ left → greater zero_ℚ (left -ℚ d) ≡ greater zero_ℚ left -ℚ d
wait_after d left k w = wait_by d left k w (greater_is zero_ℚ left).one

-- ---- whether a bound has run out

not_zero_positive_by : (b : Rational) → zero_ℚ ≤ℚ b → is_zero b ≡ false → (b ≤ℚ zero_ℚ) ⊎ (zero_ℚ <ℚ b) → is_positive b ≡ true
not_zero_positive_by b h n (inl e) = absurd (false≢true (sym n ∙ (is_zero_is b).1 (≤ℚ_antisymm b zero_ℚ e h)))
not_zero_positive_by b h n (inr e) = (is_positive_is b).1 e

not_zero_positive : (b : Rational) → zero_ℚ ≤ℚ b → is_zero b ≡ false → is_positive b ≡ true
not_zero_positive b h n = not_zero_positive_by b h n (≤ℚ-or-<ℚ b zero_ℚ)

zero_not_positive_by : (b : Rational) (p : Bool) → is_zero b ≡ true → is_positive b ≡ p → p ≡ false
zero_not_positive_by b true z h = absurd (<ℚ_irrefl zero_ℚ (subst (λ (r : Rational). zero_ℚ <ℚ r) ((is_zero_is b).0 z) ((is_positive_is b).0 h)))
zero_not_positive_by b false z h = refl

zero_not_positive : (b : Rational) → is_zero b ≡ true → is_positive b ≡ false
zero_not_positive b z = zero_not_positive_by b (is_positive b) z refl

unless : (b p : Bool) (x y : Option Rational) → (b ≡ true → p ≡ false) → (b ≡ false → (p ≡ true) × (x ≡ y)) → (if p then x else None) ≡ (if b then None else y)
unless true p x y h k = ap (λ (q : Bool). if q then x else None) (h refl)
unless false p x y h k = ap (λ (q : Bool). if q then x else None) (k refl).0 ∙ (k refl).1

when : (p : Bool) (x : Option Rational) → p ≡ true → x ≡ (if p then x else None)
when true x h = refl
when false x h = cc

-- the moment at which a bound runs out stays, and is gone where it has come
pub due_moves : (clock d : Rational) (b : Option Rational) → zero_ℚ ≤ℚ d → IsWithin d b →
    due_of (clock +ℚ d) (less_by d b) ≡ (if is_due (less_by d b) then None else due_of clock b)
due_moves clock d None k w = refl
due_moves clock d (Some b) k w =
    let rest : zero_ℚ ≤ℚ b -ℚ d = (≤ℚ--ℚ d b).1 w in
    unless (is_zero (b -ℚ d)) (is_positive (b -ℚ d)) _ _ (zero_not_positive (b -ℚ d))
    (λ n.
    let over = not_zero_positive (b -ℚ d) rest n in
    let before : zero_ℚ <ℚ b = ≤ℚ-<ℚ_trans zero_ℚ d b k ((<ℚ--ℚ d b).0 ((is_positive_is (b -ℚ d)).0 over)) in
    (over, ap Some (same_moment clock d b) ∙ when (is_positive b) (Some (clock +ℚ b)) ((is_positive_is b).1 before)))

not_due_by : (d b : Rational) (z : Bool) → zero_ℚ ≤ℚ d → d ≤ℚ b → is_zero (b -ℚ d) ≡ false → is_zero b ≡ z → z ≡ false
not_due_by d b false k w n h = refl
not_due_by d b true k w n h =
    let nought = (is_zero_is b).0 h in
    let none : d ≡ zero_ℚ = ≤ℚ_antisymm d zero_ℚ (subst (λ (r : Rational). d ≤ℚ r) nought w) k in
    let over : b -ℚ d ≡ zero_ℚ = ap (λ (r : Rational). b -ℚ r) none ∙ minus_none b ∙ nought in
    absurd (false≢true (sym n ∙ (is_zero_is (b -ℚ d)).1 over))

-- a bound that hasn't run out after a delay hadn't before
pub not_due_before : (d : Rational) (b : Option Rational) → zero_ℚ ≤ℚ d → IsWithin d b → is_due (less_by d b) ≡ false → is_due b ≡ false
not_due_before d None k w n = refl
not_due_before d (Some b) k w n = not_due_by d b (is_zero b) k w n refl

-- a bound has run out after a delay as long as it
pub due_after_bound : (b : Rational) → is_due (less_by b (Some b)) ≡ true
due_after_bound b = (is_zero_is (b -ℚ b)).1 (-ℚ-self b)

-- ---- how long a delay may last

negative_by : (q : Rational) (b : Bool) → zero_ℚ ≤ℚ q → is_negative q ≡ b → not b ≡ true
negative_by q true h e = absurd (≤ℚ-not_<ℚ zero_ℚ q h ((is_negative_is q).0 e))
negative_by q false h e = refl

pub not_negative : (q : Rational) → zero_ℚ ≤ℚ q → not (is_negative q) ≡ true
not_negative q h = negative_by q (is_negative q) h refl
