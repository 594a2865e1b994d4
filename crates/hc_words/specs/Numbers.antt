-- The numbers of the command line.
use Rattle.std.specs.Prelude.{◌≡◌, ◌≤◌, ◌^◌, ℕ, Bool, ◌&&◌, ◌||◌, ◌==◌, nat_le, List, [], ◌∷◌, length, Option, Some, None, if◌then◌else◌, IsTrue}
use Rattle.std.specs.List.{list_all}
use Rattle.std.specs.Char.{is_ascii_digit}
use Rattle.std.specs.Str.Parse.{digits_value}
use Rattle.hc_limits.specs.Limits.{most_source_bytes}
use Rattle.hc_rational.specs.Words.{Rational}
use Rattle.hc_frac.specs.Words.{IsFrac, quotient}
use Rattle.hc_frac.specs.Text.{text_of}
use Rattle.hc_frac.specs.declared.decimal.Decimal.{Decimal}
use Rattle.hc_token.specs.declared.token.Lexeme.TheVariants as lex
use Rattle.hc_token.specs.declared.token.Token.{Token}
use Rattle.hc_token.specs.Tokens.{tokens_of}

-- one to twenty decimal digits
abbrev pub is_digits : List ℕ → Bool
is_digits t = nat_le 1 (length t) && nat_le (length t) 20 && list_all is_ascii_digit t

-- the number that a text writes in digits, where it lies in this range
abbrev pub number_within : ℕ → ℕ → List ℕ → Option ℕ
number_within least most t =
    if is_digits t && (nat_le least (digits_value 10 t) && nat_le (digits_value 10 t) most) then Some (digits_value 10 t) else None

-- a digit or a point
abbrev pub in_decimal : ℕ → Bool
in_decimal b = is_ascii_digit b || b == 46

-- the text is exactly this number of the source language: digits, and points among them, and beside its end one token;
-- like a source it has at most 1,048,576 bytes
pub record IsDecimalText (t : List ℕ) (d : Decimal) : Type 0 where
  pub short : length t ≤ most_source_bytes
  pub plain : IsTrue (list_all in_decimal t)
  pub number : Token
  pub end : Token
  pub tokens : tokens_of t ≡ number ∷ end ∷ []
  pub says : number.lexeme ≡ lex.Number d

-- a fraction by its own text, or by a number of the source language
pub data IsFractionText (t : List ℕ) (q : Rational) : Type 0 where
  fraction : IsFrac q → text_of q ≡ t → IsFractionText t q
  decimal : (d : Decimal) → IsDecimalText t d → q ≡ quotient d.digits (10 ^ d.places) → IsFractionText t q
