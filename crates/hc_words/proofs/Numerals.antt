-- What `decimal` writes: digits alone, and another text for each number.
use Rattle.std.proofs.Common.{◌≡◌, ◌<◌, ◌^◌, ℕ, true, List, [], ◌∷◌, length, refl, sym, ap, ◌∙◌, arith}
use Rattle.std.specs.Prelude.{decimal}
use Rattle.std.specs.Char.{is_ascii_digit, digit_value}
use Rattle.std.specs.List.{list_all}
use Rattle.std.specs.Str.Parse.{AllDigits, digits_value}
use Rattle.std.proofs.lemmas.Bool.{and_from}
use Rattle.std.proofs.lemmas.Bool.Decides.{nat_tests}
use Rattle.std.proofs.lemmas.Fmt.{decimal_is_IsNumeral}
use Rattle.std.proofs.lemmas.Str.Parse.{digit_from_value}

is_digit : (x : ℕ) → digit_value x < 10 → is_ascii_digit x ≡ true
is_digit x h = let range = digit_from_value x h in grind (arith, nat_tests, range)

are_digits : (xs : List ℕ) → AllDigits 10 xs → list_all is_ascii_digit xs ≡ true
are_digits [] h = refl
are_digits (x ∷ xs) h = and_from (is_ascii_digit x) (list_all is_ascii_digit xs) (is_digit x h.0) (are_digits xs h.1)

pub some_digits : (n : ℕ) → n < 2 ^ 64 → 0 < length (decimal n)
some_digits n h = (decimal_is_IsNumeral n h).0.0

pub digits_alone : (n : ℕ) → n < 2 ^ 64 → list_all is_ascii_digit (decimal n) ≡ true
digits_alone n h = are_digits (decimal n) (decimal_is_IsNumeral n h).0.1

pub read_again : (n : ℕ) → n < 2 ^ 64 → digits_value 10 (decimal n) ≡ n
read_again n h = (decimal_is_IsNumeral n h).1

pub same_digits : (n m : ℕ) → n < 2 ^ 64 → m < 2 ^ 64 → decimal n ≡ decimal m → n ≡ m
same_digits n m h k e = sym (read_again n h) ∙ ap (digits_value 10) e ∙ read_again m k
