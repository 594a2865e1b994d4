-- The rates of an evolution by their variables: each variable has the rate that its one entry says, and which of them evolve is
-- told by the entries alone.
use Rattle.std.proofs.Common.{◌≡◌, ◌≢◌, nat_lt, refl, sym, ap, ap₂, ◌∙◌, ℕ, zero, suc, ◌<◌, ◌==◌, Bool, true, false, not, List, [], ◌∷◌, map, length, replicate, slice_set, slice_index_or, Option, Some, None, arith}
use Rattle.std.specs.List.{list_all, list_any}
use Rattle.std.proofs.lemmas.List.{length-replicate}
use Rattle.std.proofs.lemmas.Bool.{false≢true, and_parts, not-true, ltb-true, eq-eqb}
use Rattle.hc_rational.specs.Words.{Rational, zero_ℚ, ◌+ℚ◌, ◌*ℚ◌}
use Rattle.hc_rational.proofs.FieldLaws.{+ℚ-zero, zero-*ℚ}
use Rattle.hc_term.specs.declared.stmt.Rate.{Rate}
use Rattle.hc_term.specs.declared.post.Moving.{Moving}
use Rattle.hc_term.specs.Value.{Store, val}
use Rattle.hc_term.specs.Motion.{Rates, with_rates, rates_in, value_after, after, rate_of, evolves}
use Rattle.hc_term.specs.Offers.{moving_of}
use Rattle.hc_term.specs.Profile.{all_apart, pattern_from, pattern_of, same_variable}
use Rattle.hc_term.specs.Moved.{moving_after}
use Rattle.hc_runs.proofs.Basics.{neither_of, length-set}

-- ---- a place of a list that is set

module _ {A : Type 0} (d v : A) where
  set_other : (xs : List A) (x y : ℕ) → x ≢ y → slice_index_or (slice_set xs y v) x d ≡ slice_index_or xs x d
  set_other [] x y h = refl
  set_other (z ∷ xs) zero zero h = absurd (h refl)
  set_other (z ∷ xs) zero (suc y) h = refl
  set_other (z ∷ xs) (suc x) zero h = refl
  set_other (z ∷ xs) (suc x) (suc y) h = set_other xs x y (λ e. h (ap suc e))

  set_same : (xs : List A) (x : ℕ) → x < length xs → slice_index_or (slice_set xs x v) x d ≡ v
  set_same [] x h = absurd (omega (arith, h))
  set_same (z ∷ xs) zero h = refl
  set_same (z ∷ xs) (suc x) h = set_same xs x (omega (arith, h))

map-set : {A B : Type 0} (f : A → B) (xs : List A) (y : ℕ) (v : A) → map f (slice_set xs y v) ≡ slice_set (map f xs) y (f v)
map-set f [] y v = refl
map-set f (x ∷ xs) zero v = refl
map-set f (x ∷ xs) (suc y) v = ap (λ l. f x ∷ l) (map-set f xs y v)

abbrev nothing : ℕ → Rates
nothing n = replicate n None

-- ---- rates

length-with : (before : Rates) (rs : List Rate) (s : Store) → length (with_rates before rs s) ≡ length before
length-with before [] s = refl
length-with before (r ∷ rs) s = length-with (slice_set before r.variable (Some (val s r.value))) rs s ∙ length-set before r.variable (Some (val s r.value))

pub length-rates_in : (rs : List Rate) (s : Store) → length (rates_in rs s) ≡ length s
length-rates_in rs s = length-with (replicate (length s) None) rs s ∙ length-replicate (length s) None

same_pattern : (s : Store) (rs : List Rate) (before pattern : Rates) → map evolves before ≡ map evolves pattern →
    map evolves (with_rates before rs s) ≡ map evolves (pattern_from pattern rs)
same_pattern s [] before pattern h = h
same_pattern s (r ∷ rs) before pattern h =
    same_pattern s rs (slice_set before r.variable (Some (val s r.value))) (slice_set pattern r.variable (Some zero_ℚ))
    (map-set evolves before r.variable (Some (val s r.value)) ∙ ap (λ es. slice_set es r.variable true) h
    ∙ sym (map-set evolves pattern r.variable (Some zero_ℚ)))

-- the pattern by which a system is checked says which variables evolve
pub alike : (rs : List Rate) (s : Store) → map evolves (rates_in rs s) ≡ map evolves (pattern_of (length s) rs)
alike rs s = same_pattern s rs (replicate (length s) None) (replicate (length s) None) refl

-- each entry stands at its variable
abbrev pub AllStand : Rates → Store → List Rate → Type 0
AllStand k s [] = Unit {0}
AllStand k s (r ∷ rs) = (slice_index_or k r.variable None ≡ Some (val s r.value)) × AllStand k s rs

abbrev pub below : ℕ → Rate → Bool
below n r = nat_lt r.variable n

apart_is : (x y : ℕ) → (x == y) ≡ false → x ≢ y
apart_is x y h e = false≢true (sym h ∙ ap (λ (z : ℕ). x == z) (sym e) ∙ eq-eqb x x refl)

others_leave : (s : Store) (r : Rate) (rs : List Rate) (before : Rates) → list_any (same_variable r) rs ≡ false →
    slice_index_or (with_rates before rs s) r.variable None ≡ slice_index_or before r.variable None
others_leave s r [] before h = refl
others_leave s r (q ∷ rs) before h =
    let parts = neither_of (r.variable == q.variable) (list_any (same_variable r) rs) h in
    others_leave s r rs (slice_set before q.variable (Some (val s q.value))) parts.1
    ∙ set_other None (Some (val s q.value)) before r.variable q.variable (apart_is r.variable q.variable parts.0)

with_stand : (s : Store) (rs : List Rate) (before : Rates) → list_all (below (length before)) rs ≡ true → all_apart same_variable rs ≡ true →
    AllStand (with_rates before rs s) s rs
with_stand s [] before h k = tt
with_stand s (r ∷ rs) before h k =
    let in_range = and_parts (below (length before) r) (list_all (below (length before)) rs) h in
    let apart = and_parts (not (list_any (same_variable r) rs)) (all_apart same_variable rs) k in
    let v : Option Rational = Some (val s r.value) in
    let next : Rates = slice_set before r.variable v in (
      others_leave s r rs next (not-true _ apart.0) ∙ set_same None v before r.variable (ltb-true r.variable (length before) in_range.0),
      with_stand s rs next (ap (λ (n : ℕ). list_all (below n) rs) (length-set before r.variable v) ∙ in_range.1) apart.1,
    )

pub stand : (s : Store) (rs : List Rate) → list_all (below (length s)) rs ≡ true → all_apart same_variable rs ≡ true → AllStand (rates_in rs s) s rs
stand s rs h k =
    with_stand s rs (replicate (length s) None) (ap (λ (n : ℕ). list_all (below n) rs) (length-replicate (length s) None) ∙ h) k

-- ---- after a delay

-- the rates keep their values
abbrev pub AllStay : Store → Store → List Rate → Type 0
AllStay s s₁ [] = Unit {0}
AllStay s s₁ (r ∷ rs) = (val s₁ r.value ≡ val s r.value) × AllStay s s₁ rs

with_stays : (s s₁ : Store) (rs : List Rate) (before : Rates) → AllStay s s₁ rs → with_rates before rs s₁ ≡ with_rates before rs s
with_stays s s₁ [] before h = refl
with_stays s s₁ (r ∷ rs) before h =
    ap (λ (v : Rational). with_rates (slice_set before r.variable (Some v)) rs s₁) h.0
    ∙ with_stays s s₁ rs (slice_set before r.variable (Some (val s r.value))) h.1

pub rates_stay : (s s₁ : Store) (rs : List Rate) → length s₁ ≡ length s → AllStay s s₁ rs → rates_in rs s₁ ≡ rates_in rs s
rates_stay s s₁ rs n h = ap (λ (m : ℕ). with_rates (replicate m None) rs s₁) n ∙ with_stays s s₁ rs (replicate (length s) None) h

value_line : (v : Rational) (k : Option Rational) (t : Rational) → value_after v k t ≡ v +ℚ rate_of k *ℚ t
value_line v None t = sym (ap (λ z. v +ℚ z) (zero-*ℚ t) ∙ +ℚ-zero v)
value_line v (Some k) t = refl

at_variable : (s : Store) (r : Rates) (t : Rational) (x : ℕ) → length r ≡ length s →
    slice_index_or (after s r t) x zero_ℚ ≡ slice_index_or s x zero_ℚ +ℚ rate_of (slice_index_or r x None) *ℚ t
at_variable [] [] t x h = sym (ap (λ z. zero_ℚ +ℚ z) (zero-*ℚ t) ∙ +ℚ-zero zero_ℚ)
at_variable [] (k ∷ r) t x h = absurd (omega (arith, h))
at_variable (v ∷ s) [] t x h = absurd (omega (arith, h))
at_variable (v ∷ s) (k ∷ r) t zero h = value_line v k t
at_variable (v ∷ s) (k ∷ r) t (suc x) h = at_variable s r t x (omega (arith, h))

moving_entry : (x : ℕ) (a b m n : Rational) → a ≡ b → m ≡ n →
    ◌≡◌ {A = Moving} (record { variable = x; at = a; rate = m }) (record { variable = x; at = b; rate = n })
moving_entry x a b m n h k = cc

-- each evolving variable has moved by its rate
pub moving_moves : (s : Store) (k : Rates) (d : Rational) (rs : List Rate) → length k ≡ length s → AllStand k s rs → AllStay s (after s k d) rs →
    moving_of (after s k d) rs ≡ map (moving_after d) (moving_of s rs)
moving_moves s k d [] n h j = refl
moving_moves s k d (r ∷ rs) n h j =
    ap₂ (λ (m : Moving) (ms : List Moving). m ∷ ms)
    (moving_entry r.variable _ _ _ _ (at_variable s k d r.variable n ∙ ap (λ (o : Option Rational). slice_index_or s r.variable zero_ℚ +ℚ rate_of o *ℚ d) h.0) j.0)
    (moving_moves s k d rs n h.1 j.1)
