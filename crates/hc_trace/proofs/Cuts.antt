-- Bytes are cut at the first place of a byte in one way.
use Rattle.std.proofs.Common.{◌≡◌, ◌≢◌, ℕ, ◌+◌, ◌<◌, ◌≤◌, ◌==◌, ltb, cond, Some, None, Bool, true, false, List, [], ◌∷◌, ◌++◌, length, get_or, take, drop, zero, suc, refl, sym, ap, ap₂, ◌∙◌, arith}
use Rattle.std.specs.List.{list_all, position, position_or_len}
use Rattle.std.proofs.lemmas.List.{drop_more, take-append-drop}
use Rattle.std.proofs.lemmas.List.Quantifiers.{position-Some}
use Rattle.std.proofs.lemmas.List.Sums.{fails_before_first}
use Rattle.std.proofs.lemmas.Bool.{and_parts, eqb-true, eqb-false, ltb-false}
use Rattle.hc_trace.specs.Reading.{Lacks}

pub lacks_append : (b : ℕ) (xs ys : List ℕ) → Lacks b xs → Lacks b ys → Lacks b (xs ++ ys)
lacks_append b [] ys h k = k
lacks_append b (x ∷ xs) ys h k = (h.0, lacks_append b xs ys h.1 k)

-- bytes that pass a test which b fails
pub lacks_from : (p : ℕ → Bool) (b : ℕ) (xs : List ℕ) → p b ≡ false → list_all p xs ≡ true → Lacks b xs
lacks_from p b [] fails all = tt
lacks_from p b (x ∷ xs) fails all =
    let both = and_parts (p x) (list_all p xs) all in
    let other : x ≢ b = λ e. let clash : true ≡ false = sym both.0 ∙ ap p e ∙ fails in absurd (cc clash) in
    (other, lacks_from p b xs fails both.1)

-- the same, from each place
pub lacks_at : (b : ℕ) (xs : List ℕ) → ((i : ℕ) → i < length xs → get_or xs i 0 ≢ b) → Lacks b xs
lacks_at b [] each = tt
lacks_at b (x ∷ xs) each = (each 0 (omega arith), lacks_at b xs (λ i h. each (suc i) (omega arith)))

first_of : {x y : ℕ} {xs ys : List ℕ} → x ∷ xs ≡ y ∷ ys → x ≡ y
first_of e = ap (λ w. get_or w 0 0) e

-- what lacks a byte isn't cut at it
pub not_cut : (b : ℕ) (xs us vs : List ℕ) → Lacks b xs → xs ≡ us ++ b ∷ vs → ⊥
not_cut b [] [] vs h e = absurd (cc e)
not_cut b [] (u ∷ us) vs h e = absurd (cc e)
not_cut b (x ∷ xs) [] vs h e = h.0 (first_of e)
not_cut b (x ∷ xs) (u ∷ us) vs h e = not_cut b xs us vs h.1 (ap (drop 1) e)

pub one_cut : (b : ℕ) (xs us ys vs : List ℕ) → Lacks b xs → Lacks b us → xs ++ b ∷ ys ≡ us ++ b ∷ vs → (xs ≡ us) × (ys ≡ vs)
one_cut b [] [] ys vs h k e = (refl, ap (drop 1) e)
one_cut b [] (u ∷ us) ys vs h k e = absurd (k.0 (sym (first_of e)))
one_cut b (x ∷ xs) [] ys vs h k e = absurd (h.0 (first_of e))
one_cut b (x ∷ xs) (u ∷ us) ys vs h k e =
    let rest = one_cut b xs us ys vs h.1 k.1 (ap (drop 1) e) in
    (ap₂ ◌∷◌ (first_of e) rest.0, rest.1)

-- ---- a cut at the first place of a byte

lacks_before : (b : ℕ) (xs : List ℕ) (i : ℕ) → ((k : ℕ) → k < i → get_or xs k 0 ≢ b) → Lacks b (take i xs)
lacks_before b xs zero each = tt
lacks_before b [] (suc i) each = tt
lacks_before b (x ∷ xs) (suc i) each = (each 0 (omega arith), lacks_before b xs i (λ k h. each (suc k) (omega arith)))

pub cut_at : (b : ℕ) (xs : List ℕ) (i : ℕ) → position (λ c. c == b) xs ≡ Some i →
    (i < length xs) × Lacks b (take i xs) × (xs ≡ take i xs ++ b ∷ drop (i + 1) xs)
cut_at b xs i found =
    let at = position-Some (λ c. c == b) xs i 0 found in
    let parts : xs ≡ take i xs ++ (get_or xs i 0 ∷ drop (i + 1) xs) = sym (take-append-drop i xs) ∙ ap (λ s. take i xs ++ s) (drop_more xs i 0 at.0) in
    (at.0, lacks_before b xs i (λ k h. eqb-false (get_or xs k 0) b (at.2 k h)), parts ∙ ap (λ c. take i xs ++ c ∷ drop (i + 1) xs) (eqb-true (get_or xs i 0) b at.1))

none_within : (test : Bool) (n : ℕ) → cond test (Some n) None ≡ None → test ≡ false
none_within true n e = absurd (cc e)
none_within false n e = refl

pub uncut_at : (b : ℕ) (xs : List ℕ) → position (λ c. c == b) xs ≡ None → Lacks b xs
uncut_at b xs none =
    let past : length xs ≤ position_or_len (λ c. c == b) xs = ltb-false (position_or_len (λ c. c == b) xs) (length xs) (none_within (ltb (position_or_len (λ c. c == b) xs) (length xs)) (position_or_len (λ c. c == b) xs) none) in
    lacks_at b xs (λ k h. eqb-false (get_or xs k 0) b (fails_before_first (λ c. c == b) xs k 0 (omega arith)))
