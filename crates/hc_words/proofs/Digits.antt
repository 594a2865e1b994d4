-- What `parse` reads of digits alone.
use Rattle.std.proofs.Common.{rules, ◌≡◌, ◌<◌, ◌≤◌, ◌^◌, ◌==◌, refl, ap, sym, subst, ℕ, Bool, true, false, ◌&&◌, nat_le, List, [], ◌∷◌, length, drop, Some, None, arith, cond, if◌then◌else◌}
use Rattle.std.specs.Char.{is_ascii_digit, digit_value}
use Rattle.std.specs.List.{list_all}
use Rattle.std.specs.Str.Parse.{AllDigits, IsNumeral, digits_value, without_leading_plus}
use Rattle.std.proofs.lemmas.Bool.{and_parts, leb-true}
use Rattle.hc_words.specs.Numbers.{is_digits, number_within}

digit_below : (x : ℕ) → is_ascii_digit x ≡ true → digit_value x < 10
digit_below x t = search (rules, arith)

not_plus : (x : ℕ) → is_ascii_digit x ≡ true → (x == 43) ≡ false
not_plus x t = search (rules, arith)

all_digits : (xs : List ℕ) → list_all is_ascii_digit xs ≡ true → AllDigits 10 xs
all_digits [] t = tt
all_digits (x ∷ xs) t =
    let both = and_parts (is_ascii_digit x) (list_all is_ascii_digit xs) t in
    (digit_below x both.0, all_digits xs both.1)

no_plus : (xs : List ℕ) → list_all is_ascii_digit xs ≡ true → without_leading_plus xs ≡ xs
no_plus [] t = refl
no_plus (x ∷ xs) t =
    let both = and_parts (is_ascii_digit x) (list_all is_ascii_digit xs) t in
    ap (λ b. drop (cond b 1 0) (x ∷ xs)) (not_plus x both.0)

numeral : (xs : List ℕ) → is_digits xs ≡ true → (1 ≤ length xs) × (list_all is_ascii_digit xs ≡ true)
numeral xs t =
    let outer = and_parts (nat_le 1 (length xs) && nat_le (length xs) 20) (list_all is_ascii_digit xs) t in
    let inner = and_parts (nat_le 1 (length xs)) (nat_le (length xs) 20) outer.0 in
    (leb-true 1 (length xs) inner.0, outer.1)

none_where : (d a b : Bool) (n : ℕ) → b ≡ false → None ≡ (if d && (a && b) then Some n else None)
none_where true true b n e = cc
none_where true false b n e = refl
none_where false a b n e = refl

-- where a number of so few bits isn't parsed, it lies beyond each range within them
pub too_large : (xs : List ℕ) (least most : ℕ) → is_digits xs ≡ true → most < 2 ^ 64
    → (IsNumeral 10 (without_leading_plus xs) × (digits_value 10 (without_leading_plus xs) < 2 ^ 64) → ⊥)
    → None ≡ number_within least most xs
too_large xs least most t small not_parsed =
    let facts = numeral xs t in
    let plain = no_plus xs facts.1 in
    go facts plain (nat_le (digits_value 10 xs) most) refl
  where
    go : (1 ≤ length xs) × (list_all is_ascii_digit xs ≡ true) → without_leading_plus xs ≡ xs → (b : Bool) → nat_le (digits_value 10 xs) most ≡ b → None ≡ number_within least most xs
    go facts plain true e =
        let reads : IsNumeral 10 xs = (omega (arith, facts.0), all_digits xs facts.1) in
        let few = leb-true (digits_value 10 xs) most e in
        absurd (not_parsed (subst (λ ys. IsNumeral 10 ys × (digits_value 10 ys < 2 ^ 64)) (sym plain) (reads, omega (arith, small, few))))
    go facts plain false e = none_where (is_digits xs) (nat_le least (digits_value 10 xs)) (nat_le (digits_value 10 xs) most) (digits_value 10 xs) e
