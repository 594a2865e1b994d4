-- A text writes one fraction at most.
use Rattle.std.proofs.Common.{◌≡◌, ◌<◌, ◌^◌, ◌==◌, ℕ, ℤ, pos, negsuc, Bool, true, false, List, ◌∷◌, refl, sym, ap, ap₂, subst, ◌∙◌, arith}
use Rattle.std.specs.Prelude.{decimal, unsigned_abs}
use Rattle.std.specs.Fmt.{signed_decimal}
use Rattle.std.specs.List.{list_all}
use Rattle.std.specs.Str.Parse.{digits_value}
use Rattle.std.proofs.lemmas.Bool.{and_parts}
use Rattle.std.proofs.lemmas.List.Folds.{list_all-append}
use borrow.Author.Tests.{eqb-true}
use Rattle.hc_rational.specs.Words.{Rational, IsFrac, quotient}
use Rattle.hc_rational.specs.Code.{quotient-own}
use Rattle.hc_rational.proofs.FitsLaws.{num_fits}
use Rattle.hc_frac.specs.declared.decimal.Decimal.{Decimal}
use Rattle.hc_frac.specs.Text.{text_of}
use Rattle.hc_words.specs.Numbers as words
use Rattle.hc_words.specs.Numbers.{in_decimal, IsDecimalText, IsFractionText, fraction}
use Rattle.hc_words.proofs.Numerals.{some_digits, digits_alone, read_again}
use Rattle.hc_words.proofs.OwnTexts.{text_by, own_text}
use Rattle.hc_words.proofs.DecimalTexts.{digits_read, one_number}

-- z / d is the whole number n, whose digits are the text
record IsWhole (z : ℤ) (d : ℕ) (t : List ℕ) : Type 0 where
  value : ℕ
  num : z ≡ pos value
  den : d ≡ 1
  small : value < 2 ^ 63
  text : t ≡ decimal value

-- with neither slash nor sign it is whole
is_whole : (whole : Bool) (z : ℤ) (d : ℕ) → (d == 1) ≡ whole → unsigned_abs z < 2 ^ 63 →
    list_all in_decimal (text_by whole z d) ≡ true → IsWhole z d (text_by whole z d)
is_whole true (pos n) d one small plain = record { value = n; num = refl; den = eqb-true d 1 one; small = small; text = refl }
is_whole true (negsuc n) d one small plain = absurd (cc plain)
is_whole false z d one small plain =
    let both = and_parts (list_all in_decimal (signed_decimal z)) false
    (sym (list_all-append in_decimal (signed_decimal z) (47 ∷ decimal d)) ∙ plain) in
    absurd (cc both.1)

-- both ways to write it
both_ways : (t : List ℕ) (q : Rational) (d : Decimal) → IsFrac q → text_of q ≡ t → IsDecimalText t d → q ≡ quotient d.digits (10 ^ d.places)
both_ways t q d fits e is =
    let w : IsWhole q.num q.den (text_of q) =
    is_whole (q.den == 1) q.num q.den refl (num_fits q fits) (ap (list_all in_decimal) e ∙ is.plain) in
    let below : w.value < 2 ^ 64 = omega (arith, w.small) in
    let again : digits_value 10 (decimal w.value) ≡ w.value = read_again w.value below in
    let read : IsDecimalText (decimal w.value) d = subst (λ u. IsDecimalText u d) (sym e ∙ w.text) is in
    let parts = digits_read (decimal w.value) (some_digits w.value below) (digits_alone w.value below) (omega (arith, again, w.small)) d read in
    sym (quotient-own q) ∙ ap₂ quotient w.num w.den
    ∙ sym (ap₂ (λ z k. quotient z (10 ^ k)) (parts.0 ∙ ap pos again) parts.1)

pub one_fraction : (t : List ℕ) (q r : Rational) → IsFractionText t q → IsFractionText t r → q ≡ r
one_fraction t q r (fraction f e) (fraction g h) = own_text q r f g (e ∙ sym h)
one_fraction t q r (fraction f e) (words.decimal d is v) = both_ways t q d f e is ∙ sym v
one_fraction t q r (words.decimal d is v) (fraction f e) = v ∙ sym (both_ways t r d f e is)
one_fraction t q r (words.decimal d is v) (words.decimal c other w) =
    v ∙ ap (λ (x : Decimal). quotient x.digits (10 ^ x.places)) (one_number t d c is other) ∙ sym w
