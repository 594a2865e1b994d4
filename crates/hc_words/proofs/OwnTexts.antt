-- A fraction's own text is no other fraction's.
use lib.Signed.{mag}
use Rattle.std.proofs.Common.{◌≡◌, ◌<◌, ◌^◌, ◌==◌, ℕ, ℤ, pos, negsuc, suc, Bool, true, false, ◌||◌, cond, List, [], ◌∷◌, ◌++◌, drop, refl, sym, ap, ap₂, ◌∙◌, arith}
use Rattle.std.specs.Prelude.{decimal, slice_index, unsigned_abs}
use Rattle.std.specs.Char.{is_ascii_digit}
use Rattle.std.specs.Fmt.{signed_decimal}
use Rattle.std.specs.List.{list_all}
use Rattle.std.proofs.lemmas.Bool.{and_parts, and_from}
use Rattle.std.proofs.lemmas.Fmt.{signed_decimal_injective}
use Rattle.std.proofs.lemmas.List.Folds.{list_all-append}
use borrow.Author.Tests.{eqb-true}
use Rattle.hc_rational.specs.Words.{Rational, IsFrac}
use Rattle.hc_rational.specs.Code.{same_rational}
use Rattle.hc_rational.proofs.FitsLaws.{num_fits, den_fits}
use Rattle.hc_frac.specs.Text.{text_of}
use Rattle.hc_words.proofs.Numerals.{digits_alone, same_digits}

-- a digit, or the sign in front: no slash
abbrev in_numeral : ℕ → Bool
in_numeral b = is_ascii_digit b || b == 45

digits_too : (xs : List ℕ) → list_all is_ascii_digit xs ≡ true → list_all in_numeral xs ≡ true
digits_too [] h = refl
digits_too (x ∷ xs) h =
    let both = and_parts (is_ascii_digit x) (list_all is_ascii_digit xs) h in
    and_from (in_numeral x) (list_all in_numeral xs) (ap (λ b. b || x == 45) both.0) (digits_too xs both.1)

no_slash : (z : ℤ) → unsigned_abs z < 2 ^ 63 → list_all in_numeral (signed_decimal z) ≡ true
no_slash (pos n) h = digits_too (decimal n) (digits_alone n (omega arith))
no_slash (negsuc n) h = digits_too (decimal (suc n)) (digits_alone (suc n) (omega arith))

not_cut : (xs us vs : List ℕ) → list_all in_numeral xs ≡ true → xs ≡ us ++ 47 ∷ vs → ⊥
not_cut xs us vs h e =
    let both = and_parts (list_all in_numeral us) false (sym (list_all-append in_numeral us (47 ∷ vs)) ∙ sym (ap (list_all in_numeral) e) ∙ h) in
    cc both.1

-- texts are cut alike at their first slashes
one_cut : (xs us ys vs : List ℕ) → list_all in_numeral xs ≡ true → list_all in_numeral us ≡ true →
    xs ++ 47 ∷ ys ≡ us ++ 47 ∷ vs → (xs ≡ us) × (ys ≡ vs)
one_cut [] [] ys vs h k e = (refl, ap (drop 1) e)
one_cut [] (u ∷ us) ys vs h k e =
    let slash : false ≡ in_numeral u = ap (λ w. in_numeral (slice_index w 0)) e in
    let fine = (and_parts (in_numeral u) (list_all in_numeral us) k).0 in
    absurd (cc (slash ∙ fine))
one_cut (x ∷ xs) [] ys vs h k e =
    let slash : in_numeral x ≡ false = ap (λ w. in_numeral (slice_index w 0)) e in
    let fine = (and_parts (in_numeral x) (list_all in_numeral xs) h).0 in
    absurd (cc (sym slash ∙ fine))
one_cut (x ∷ xs) (u ∷ us) ys vs h k e =
    let first : x ≡ u = ap (λ w. slice_index w 0) e in
    let mine = and_parts (in_numeral x) (list_all in_numeral xs) h in
    let yours = and_parts (in_numeral u) (list_all in_numeral us) k in
    let rest = one_cut xs us ys vs mine.1 yours.1 (ap (drop 1) e) in
    (ap₂ ◌∷◌ first rest.0, rest.1)

small_mag : (z : ℤ) → unsigned_abs z < 2 ^ 63 → mag z < 2 ^ 63
small_mag (pos n) h = h
small_mag (negsuc n) h = omega arith

same_number : (z y : ℤ) → unsigned_abs z < 2 ^ 63 → unsigned_abs y < 2 ^ 63 → signed_decimal z ≡ signed_decimal y → z ≡ y
same_number z y h k e = signed_decimal_injective z y (small_mag z h) (small_mag y k) e

-- the text of z / d, which is whole or isn't
abbrev pub text_by : Bool → ℤ → ℕ → List ℕ
text_by whole z d = cond whole (signed_decimal z) (signed_decimal z ++ 47 ∷ decimal d)

same_parts : (whole other : Bool) (z y : ℤ) (d c : ℕ) → (d == 1) ≡ whole → (c == 1) ≡ other →
    unsigned_abs z < 2 ^ 63 → unsigned_abs y < 2 ^ 63 → d < 2 ^ 63 → c < 2 ^ 63 →
    text_by whole z d ≡ text_by other y c → (z ≡ y) × (d ≡ c)
same_parts true true z y d c is_one one h k below under e = (same_number z y h k e, eqb-true d 1 is_one ∙ sym (eqb-true c 1 one))
same_parts true false z y d c is_one one h k below under e = absurd (not_cut (signed_decimal z) (signed_decimal y) (decimal c) (no_slash z h) e)
same_parts false true z y d c is_one one h k below under e = absurd (not_cut (signed_decimal y) (signed_decimal z) (decimal d) (no_slash y k) (sym e))
same_parts false false z y d c is_one one h k below under e =
    let both = one_cut (signed_decimal z) (signed_decimal y) (decimal d) (decimal c) (no_slash z h) (no_slash y k) e in
    (same_number z y h k both.0, same_digits d c (omega arith) (omega arith) both.1)

pub own_text : (q r : Rational) → IsFrac q → IsFrac r → text_of q ≡ text_of r → q ≡ r
own_text q r f g e =
    let both = same_parts (q.den == 1) (r.den == 1) q.num r.num q.den r.den refl refl (num_fits q f) (num_fits r g) (den_fits q f) (den_fits r g) e in
    same_rational q r both.0 both.1
