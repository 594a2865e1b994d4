-- Numbers: digits, and then, where a point and a digit come next, the point and digits.
use Rattle.std.specs.Prelude.{ℕ, ◌+◌, if◌then◌else◌, ◌==◌, List, [], ◌∷◌, ◌++◌, length, drop, slice_index, take_while}
use Rattle.std.specs.Char.{is_ascii_digit}
use Rattle.std.specs.Str.Parse.{digits_value}
use Rattle.hc_token.specs.declared.token.Lexeme.{Lexeme}
use Rattle.hc_token.specs.declared.token.Lexeme.TheVariants as lex
use Rattle.hc_token.specs.Decimals.{Ranged, fits, unfit}
use Rattle.hc_token.specs.Ranged.{ranged}

-- the digits at the front of a text
abbrev pub front_digits : List ℕ → List ℕ
front_digits z = take_while is_ascii_digit z

-- the digits behind a point at the front of a text
abbrev pub point_digits : List ℕ → List ℕ
point_digits z = if slice_index z 0 == 46 then front_digits (drop 1 z) else []

-- the digits of the number at the front of a text that stand behind its point
abbrev pub places_digits : List ℕ → List ℕ
places_digits z = point_digits (drop (length (front_digits z)) z)

-- how many bytes a point and the digits behind it are: none where there is no digit
abbrev pub point_len : List ℕ → ℕ
point_len [] = 0
point_len (d ∷ ds) = 2 + length ds

-- how many bytes the number at the front of a text has
abbrev pub number_len : List ℕ → ℕ
number_len z = length (front_digits z) + point_len (places_digits z)

-- what a number says, or that it is out of range
abbrev pub said : {digits places : ℕ} → Ranged digits places → Lexeme
said (fits e d has_digits has_places) = lex.Number d
said (unfit e) = lex.LargeNumber

-- a number with these digits and places; which it is, the type of `ranged` tells
unfoldable pub number_of : ℕ → ℕ → Lexeme
number_of digits places = said (ranged digits places)

-- the number at the front of a text
abbrev pub number : List ℕ → Lexeme
number z = number_of (digits_value 10 (front_digits z ++ places_digits z)) (length (places_digits z))
