-- Numbers: digits. The grammar has those without a leading zero, and `0` itself; limits ask after the value of any.
use Rattle.std.specs.Prelude.{ℕ, pos, Bool, ◌&&◌, if◌then◌else◌, ◌==◌, List, length, slice_index, nat_lt}
use Rattle.std.specs.Str.Parse.{digits_value}
use Rattle.hc_ctoken.specs.declared.token.Lexeme.{Lexeme}
use Rattle.hc_ctoken.specs.declared.token.Lexeme.TheVariants as lex

-- the greatest number of all: 2^63 - 1
abbrev pub greatest_number : ℕ
greatest_number = 9223372036854775807

-- digits with a zero in front of others
abbrev pub is_padded : List ℕ → Bool
is_padded ds = slice_index ds 0 == 48 && nat_lt 1 (length ds)

-- a number in range, with a leading zero or not
abbrev pub in_range : Bool → ℕ → Lexeme
in_range padded n = if padded then lex.Padded (pos n) else lex.Number (pos n)

unfoldable pub number_of : Bool → ℕ → Lexeme
number_of padded n = if nat_lt greatest_number n then lex.LargeNumber else in_range padded n

-- the number that is written by digits
abbrev pub number : List ℕ → Lexeme
number ds = number_of (is_padded ds) (digits_value 10 ds)
