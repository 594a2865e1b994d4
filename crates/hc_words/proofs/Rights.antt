-- A value that is right isn't empty, and doesn't begin with `-`.
use Rattle.std.proofs.Common.{rules, ◌≡◌, ◌<◌, ◌^◌, ◌==◌, refl, ap, sym, subst, ℕ, ℤ, pos, negsuc, Bool, true, false, ◌&&◌, nat_le, List, [], ◌∷◌, ◌++◌, length, get_or, Some, None, arith, if◌then◌else◌, suc, zero}
use Rattle.std.specs.Prelude.{int_lt, unsigned_abs, decimal}
use Rattle.std.specs.Fmt.{signed_decimal}
use Rattle.std.specs.Char.{is_ascii_digit}
use Rattle.std.specs.List.{list_all}
use Rattle.std.specs.Str.Parse.{digits_value}
use Rattle.std.proofs.lemmas.Bool.{and_parts}
use Rattle.std.proofs.lemmas.Fmt.{first_decimal}
use Rattle.hc_limits.specs.Limits.{most_pairs, most_steps, most_machine_steps, most_workers}
use Rattle.clap.specs.Walk.{Text}
use Rattle.hc_rational.specs.Words.{Rational, is_positive, IsFrac}
use Rattle.hc_rational.proofs.FitsLaws.{num_fits}
use Rattle.hc_frac.specs.Text.{text_of}
use Rattle.hc_token.specs.declared.token.Token.{Token}
use Rattle.hc_token.specs.Tokens.{tokens_of}
use Rattle.hc_words.specs.Numbers.{is_digits, in_decimal, number_within, IsFractionText, fraction, decimal as of_decimal}
use Rattle.hc_words.specs.Order.{Setting, number, seed, horizon, limit, workers, steps, report, channels, IsRight}

-- the text isn't empty, and doesn't begin with `-`
abbrev pub BeginsPlain : Text → Type 0
BeginsPlain [] = ⊥
BeginsPlain (x ∷ v) = (x == 45) ≡ false

digit_plain : (x : ℕ) → is_ascii_digit x ≡ true → (x == 45) ≡ false
digit_plain x t = search (rules, arith)

in_decimal_plain : (x : ℕ) → in_decimal x ≡ true → (x == 45) ≡ false
in_decimal_plain x t = search (rules, arith)

digits_plain : (t : Text) → is_digits t ≡ true → BeginsPlain t
digits_plain [] e = cc e
digits_plain (x ∷ v) e =
    let outer = and_parts (nat_le 1 (length (x ∷ v)) && nat_le (length (x ∷ v)) 20) (list_all is_ascii_digit (x ∷ v)) e in
    digit_plain x (and_parts (is_ascii_digit x) (list_all is_ascii_digit v) outer.1).0

within_digits : (least most n : ℕ) (t : Text) → number_within least most t ≡ Some n → is_digits t ≡ true
within_digits least most n t e = go (is_digits t) (nat_le least (digits_value 10 t) && nat_le (digits_value 10 t) most) refl e
  where
    go : (d a : Bool) → is_digits t ≡ d → (if d && a then Some (digits_value 10 t) else None) ≡ Some n → is_digits t ≡ true
    go true a i e = i
    go false a i e = cc e

number_plain : (least most n : ℕ) (t : Text) → number_within least most t ≡ Some n → BeginsPlain t
number_plain least most n t e = digits_plain t (within_digits least most n t e)

above_plain : (x : ℕ) → 48 < x → (x == 45) ≡ false
above_plain x h = search (rules, arith)

first_plain : (t : Text) → 48 < get_or t 0 0 → BeginsPlain t
first_plain [] h = omega arith
first_plain (x ∷ v) h = above_plain x h

front_first : (xs ys : List ℕ) → 48 < get_or xs 0 0 → 48 < get_or (xs ++ ys) 0 0
front_first [] ys h = absurd (omega arith)
front_first (x ∷ xs) ys h = h

signed_first : (z : ℤ) → int_lt (pos 0) z ≡ true → unsigned_abs z < 2 ^ 63 → 48 < get_or (signed_decimal z) 0 0
signed_first (pos zero) t small = cc t
signed_first (pos (suc n)) t small = first_decimal (suc n) (omega arith) (omega (arith, small))
signed_first (negsuc n) t small = cc t

text_first : (b : Bool) (z : ℤ) (rest : List ℕ) → 48 < get_or (signed_decimal z) 0 0 → 48 < get_or (if b then signed_decimal z else (signed_decimal z ++ rest)) 0 0
text_first true z rest h = h
text_first false z rest h = front_first (signed_decimal z) rest h

text_plain : (q : Rational) (t : Text) → IsFrac q → text_of q ≡ t → is_positive q ≡ true → BeginsPlain t
text_plain q t fits e positive =
    subst BeginsPlain e (first_plain (text_of q) (text_first (q.den == 1) q.num (47 ∷ decimal q.den) (signed_first q.num positive (num_fits q fits))))

decimal_plain : (t : Text) (first end : Token) → list_all in_decimal t ≡ true → tokens_of t ≡ first ∷ end ∷ [] → BeginsPlain t
decimal_plain [] first end all e = absurd (omega (arith, ap length e))
decimal_plain (x ∷ v) first end all e = in_decimal_plain x (and_parts (in_decimal x) (list_all in_decimal v) all).0

fraction_plain : (t : Text) (q : Rational) → IsFractionText t q → is_positive q ≡ true → BeginsPlain t
fraction_plain t q (fraction fits e) positive = text_plain q t fits e positive
fraction_plain t q (of_decimal d is e) positive = decimal_plain t is.number is.end is.plain is.tokens

pub right_plain : (k : Setting) (t : Text) → IsRight k t → BeginsPlain t
right_plain number t h = number_plain 1 most_pairs h.0 t h.1
right_plain seed t h = number_plain 0 18446744073709551615 h.0 t h.1
right_plain horizon t h = fraction_plain t h.0 h.1 h.2
right_plain limit t h = number_plain 1 most_steps h.0 t h.1
right_plain workers t h = number_plain 1 most_workers h.0 t h.1
right_plain steps t h = number_plain 1 most_machine_steps h.0 t h.1
right_plain report t h = subst BeginsPlain (sym h) refl
right_plain channels t h = subst BeginsPlain (sym h) refl
