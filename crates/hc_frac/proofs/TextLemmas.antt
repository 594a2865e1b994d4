-- The text of a fraction, cut at its slash and read back.
use Rattle.std.proofs.Common.{◌≡◌, ℕ, ◌<◌, ◌^◌, Bool, true, false, cond, List, [], ◌∷◌, ◌++◌, length, get_or, zero, suc, ℤ, pos, negsuc, Some, None, Ok, Option, Result, Bor, to_z, of_z, refl, sym, ap, ap₂, ◌∙◌, subst, arith, length-append}
use Rattle.std.specs.Prelude.{◌≢◌, ◌==◌, unsigned_abs, SomeIff, unwrap_or, decimal, IsUtf8, IsAscii}
use Rattle.std.specs.Fmt.{signed_decimal}
use Rattle.std.specs.Int.{w64, IsInRange}
use lib.Signed.{mag}
use Rattle.std.specs.Str.Parse.{AllDigits, digits_value, ParsesSigned}
use Rattle.std.proofs.lemmas.Fmt.{digits_decimal, decimal_digit, IsAscii-decimal, IsAscii-signed, parse-signed_decimal}
use Rattle.std.proofs.lemmas.Int.{ints, fits_signed_from_abs}
use Rattle.std.proofs.lemmas.Str.{IsUtf8-from_ascii, IsAscii-append}
use Rattle.std.proofs.lemmas.Str.Ascii.{IsAscii-cons}
use Rattle.std.proofs.lemmas.Str.Parse.{IsNumeralModel, numerals_by_value, tells_digits, not_in_digits}
use Rattle.std.proofs.lemmas.Str.Pattern.{IsSplitOnceResult, split_after, split_parts}
use Rattle.std.proofs.Math.Seq.{get_or-append_seam}
use borrow.Author.Tests.{eqb-true}
use Rattle.hc_rational.specs.Words.{Rational, ratio, IsFrac}
use Rattle.hc_rational.specs.Code.{den-pos}
use Rattle.hc_rational.proofs.FieldLaws.{ratio-own}
use Rattle.hc_frac.proofs.Kept.{read_num}
use Rattle.hc_rational.proofs.FitsLaws.{num_fits, den_fits}
use Rattle.hc_frac.specs.Text.{text_of}

-- ---- a numeral has no slash

own : IsNumeralModel (AllDigits 10) (digits_value 10)
own = numerals_by_value (AllDigits 10) tells_digits

not_a_digit : ¬ (IsInRange 48 57 47)
not_a_digit h = omega arith

decimal_no_slash : (n : ℕ) → n < 2 ^ 64 → (i : ℕ) → i < length (decimal n) → get_or (decimal n) i 0 ≢ 47
decimal_no_slash n small = not_in_digits own (decimal n) 47 (digits_decimal own n small) not_a_digit

no_slash : (z : ℤ) → unsigned_abs z < 2 ^ 63 → (i : ℕ) → i < length (signed_decimal z) →
    get_or (signed_decimal z) i 0 ≢ 47
no_slash (pos n) small i h = decimal_no_slash n (omega arith) i h
no_slash (negsuc n) small zero h = λ e. omega (arith, e)
no_slash (negsuc n) small (suc i) h = decimal_no_slash (suc n) (omega arith) i (omega arith)

-- ---- the text is ASCII

small_mag : (z : ℤ) → unsigned_abs z < 2 ^ 63 → mag z < 2 ^ 63
small_mag (pos n) h = h
small_mag (negsuc n) h = omega arith

text_ascii_by : (whole : Bool) (z : ℤ) (d : ℕ) → unsigned_abs z < 2 ^ 63 → d < 2 ^ 63 →
    IsAscii (cond whole (signed_decimal z) (signed_decimal z ++ 47 ∷ decimal d))
text_ascii_by true z d h k = IsAscii-signed z (small_mag z h)
text_ascii_by false z d h k =
    IsAscii-append (signed_decimal z) (47 ∷ decimal d) (IsAscii-signed z (small_mag z h)) (IsAscii-cons 47 (decimal d) (omega arith) (IsAscii-decimal d (omega arith)))

pub text_utf8 : (q : Rational) (bs : List ℕ) → IsFrac q → text_of q ≡ bs → IsUtf8 bs
text_utf8 q bs fits e =
    subst IsUtf8 e (IsUtf8-from_ascii (text_of q) (text_ascii_by (q.den == 1) q.num q.den (num_fits q fits) (den_fits q fits)))

-- ---- the cut

seam : (z : ℤ) (xs ys : List ℕ) → unsigned_abs z < 2 ^ 63 → signed_decimal z ≢ xs ++ 47 ∷ ys
seam z xs ys h e =
    let at_seam : get_or (signed_decimal z) (length xs) 0 ≡ 47 = ap (λ bs. get_or bs (length xs) 0) e ∙ get_or-append_seam xs 47 ys 0 in
    no_slash z h (length xs) (omega (arith, ap length e, length-append xs (47 ∷ ys))) at_seam

cut_by : (whole : Bool) (z : ℤ) (d : ℕ) (bs : List ℕ) (r : Option (Bor (List ℕ) × Bor (List ℕ))) (uncut : Bor (List ℕ) × Bor (List ℕ)) →
    (d == 1) ≡ whole → unsigned_abs z < 2 ^ 63 →
    cond whole (signed_decimal z) (signed_decimal z ++ 47 ∷ decimal d) ≡ bs → IsSplitOnceResult 47 bs r →
    uncut.0.now ≡ bs → uncut.1.now ≡ 49 ∷ [] →
    (unwrap_or r uncut).0.now ≡ signed_decimal z × (unwrap_or r uncut).1.now ≡ decimal d
cut_by true z d bs None uncut t h e s p q = (p ∙ sym e, q ∙ sym (ap decimal (eqb-true d 1 t) ∙ decimal_digit 1 (omega arith)))
cut_by true z d bs (Some x) uncut t h e s p q = absurd (seam z x.0.now x.1.now h (e ∙ (split_parts 47 bs (Some x) s (omega arith)).0))
cut_by false z d bs None uncut t h e s p q = absurd (split_after 47 bs (signed_decimal z) (decimal d) None s (omega arith) (sym e) (no_slash z h))
cut_by false z d bs (Some x) uncut t h e s p q = split_after 47 bs (signed_decimal z) (decimal d) (Some x) s (omega arith) (sym e) (no_slash z h)

pub cut : (q : Rational) (bs : List ℕ) (r : Option (Bor (List ℕ) × Bor (List ℕ))) (uncut : Bor (List ℕ) × Bor (List ℕ)) →
    IsFrac q → text_of q ≡ bs → IsSplitOnceResult 47 bs r → uncut.0.now ≡ bs → uncut.1.now ≡ 49 ∷ [] →
    (unwrap_or r uncut).0.now ≡ signed_decimal q.num × (unwrap_or r uncut).1.now ≡ decimal q.den
cut q bs r uncut fits e s p t = cut_by (q.den == 1) q.num q.den bs r uncut refl (num_fits q fits) e s p t

-- ---- the halves read as numbers

pub num_parsed : {E : Type 0} (q : Rational) (bs : List ℕ) (r : Result ℤ E) → IsFrac q →
    bs ≡ signed_decimal q.num → ParsesSigned w64 10 bs r → r ≡ Ok q.num
num_parsed q bs r fits e h =
    parse-signed_decimal w64 q.num bs r (fits_signed_from_abs w64 q.num (num_fits q fits)) (small_mag q.num (num_fits q fits)) e h

pub den_parsed : {E : Type 0} (q : Rational) (bs : List ℕ) (r : Result ℤ E) → IsFrac q →
    bs ≡ decimal q.den → ParsesSigned w64 10 bs r → r ≡ Ok (pos q.den)
den_parsed q bs r fits e h =
    parse-signed_decimal w64 (pos q.den) bs r (fits_signed_from_abs w64 (pos q.den) (den_fits q fits)) (den_fits q fits) e h

found_from : (q : Rational) (P : Type 0) (v : Rational) (r : Option Rational) → SomeIff r P v → P →
    v ≡ q → r ≡ Some q
found_from q P v None never p e = absurd (never p)
found_from q P v (Some x) some p e = ap Some (some.1 ∙ e)

pub found : (q : Rational) (n d n' d' : ℤ) (r : Option Rational) → IsFrac q → n ≡ q.num → d ≡ pos q.den →
    n' ≡ to_z w64 (of_z w64 n) → d' ≡ to_z w64 (of_z w64 d) →
    SomeIff r ((d' ≢ pos 0) × IsFrac (ratio n' d')) (ratio n' d') → r ≡ Some q
found q n d n' d' r fits e f g h answered =
    let num : n' ≡ q.num = g ∙ ap (λ z. to_z w64 (of_z w64 z)) e ∙ read_num q.num (num_fits q fits) in
    let den : d' ≡ pos q.den = h ∙ ap (λ z. to_z w64 (of_z w64 z)) f ∙ read_num (pos q.den) (den_fits q fits) in
    let same : ratio n' d' ≡ q = ap₂ ratio num den ∙ ratio-own q in
    let some : d' ≢ pos 0 = λ zero_den. omega (arith, ints, zero_den, den, den-pos q) in
    found_from q _ (ratio n' d') r answered (some, subst IsFrac (sym same) fits) same
