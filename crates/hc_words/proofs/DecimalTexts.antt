-- A text of digits alone, as a number of the source language.
use Rattle.std.proofs.Common.{◌≡◌, ◌<◌, ◌≤◌, ◌-◌, ℕ, pos, Bool, true, cond, List, [], ◌∷◌, ◌++◌, length, drop, Some, refl, sym, ap, ap₂, ◌∙◌, arith}
use Rattle.std.specs.Prelude.{take_while}
use Rattle.std.specs.Char.{is_ascii_digit}
use Rattle.std.specs.List.{list_all}
use Rattle.std.specs.Str.Parse.{digits_value}
use Rattle.std.proofs.lemmas.Bool.{and_parts}
use Rattle.std.proofs.lemmas.Bool.Decides.{nat_tests}
use Rattle.std.proofs.lemmas.List.{append-nil}
use Rattle.std.proofs.lemmas.List.Sums.{take_while-cons}
use Rattle.hc_frac.specs.declared.decimal.Decimal.{Decimal}
use Rattle.hc_token.specs.declared.token.Lexeme.TheVariants as lex
use Rattle.hc_token.specs.declared.token.Token.{Token}
use Rattle.hc_token.specs.Decimals.{in_range}
use Rattle.hc_token.specs.Ranged as numbers
use Rattle.hc_token.specs.Numbers.{point_digits, places_digits, number_of}
use Rattle.hc_token.specs.Pieces.{piece}
use Rattle.hc_token.specs.Tokens.{after, first_place, token_at, tokens_from, tokens_of, with_piece}
use Rattle.hc_token.proofs.Digits.{digit_in_front}
use Rattle.hc_token.proofs.Ranges.{number_in_range}
use Rattle.hc_words.specs.Numbers.{IsDecimalText}

-- ---- one text says one number

first_same : (a b : Token) (ts us : List Token) → a ∷ ts ≡ b ∷ us → a ≡ b
first_same a b ts us e = cc e

same_said : (d c : Decimal) → lex.Number d ≡ lex.Number c → d ≡ c
same_said d c e = cc e

pub one_number : (t : List ℕ) (d c : Decimal) → IsDecimalText t d → IsDecimalText t c → d ≡ c
one_number t d c is other =
    let same = first_same is.number other.number (is.end ∷ []) (other.end ∷ []) (sym is.tokens ∙ other.tokens) in
    same_said d c (sym is.says ∙ ap (λ (x : Token). x.lexeme) same ∙ other.says)

-- ---- digits alone are one token

all_taken : (p : ℕ → Bool) (xs : List ℕ) → list_all p xs ≡ true → take_while p xs ≡ xs
all_taken p [] h = refl
all_taken p (x ∷ xs) h =
    let both = and_parts (p x) (list_all p xs) h in
    take_while-cons p x xs ∙ ap (λ b. cond b (x ∷ take_while p xs) []) both.0 ∙ ap (λ ys. x ∷ ys) (all_taken p xs both.1)

all_dropped : (xs : List ℕ) → drop (length xs) xs ≡ []
all_dropped [] = refl
all_dropped (x ∷ xs) = all_dropped xs

no_places : (xs : List ℕ) → list_all is_ascii_digit xs ≡ true → places_digits xs ≡ []
no_places xs h = ap (λ ys. point_digits (drop (length ys) xs)) (all_taken is_ascii_digit xs h) ∙ ap point_digits (all_dropped xs)

digits_in_front : (b : ℕ) (y : List ℕ) → list_all is_ascii_digit (b ∷ y) ≡ true →
    (piece (b ∷ y)).lexeme ≡ Some (number_of (digits_value 10 (b ∷ y)) 0)
digits_in_front b y h =
    let first = (and_parts (is_ascii_digit b) (list_all is_ascii_digit y) h).0 in
    ap (λ p. p.lexeme) (digit_in_front b y first)
    ∙ ap₂ (λ us vs. Some (number_of (digits_value 10 (us ++ vs)) (length vs))) (all_taken is_ascii_digit (b ∷ y) h) (no_places (b ∷ y) h)
    ∙ ap (λ us. Some (number_of (digits_value 10 us) 0)) (append-nil (b ∷ y))

whole_in_range : (n : ℕ) → n ≤ 9223372036854775807 → in_range n 0 ≡ true
whole_in_range n h = grind (arith, nat_tests)

-- digits alone are their value, with no places
pub digits_read : (t : List ℕ) → 0 < length t → list_all is_ascii_digit t ≡ true → digits_value 10 t ≤ 9223372036854775807 →
    (d : Decimal) → IsDecimalText t d → (d.digits ≡ pos (digits_value 10 t)) × (d.places ≡ 0)
digits_read [] some digits small d is = absurd (omega arith)
digits_read (b ∷ y) some digits small d is =
    let n : ℕ = digits_value 10 (b ∷ y) in
    let own : Decimal = numbers.decimal n 0 (whole_in_range n small) in
    let lexeme : (piece (b ∷ y)).lexeme ≡ Some (lex.Number own) =
    digits_in_front b y digits ∙ ap Some (sym (number_in_range own n 0 small (omega arith) refl refl)) in
    let rest : List Token = tokens_from ((piece (b ∷ y)).len - 1) (after first_place b) y in
    let tokens : tokens_of (b ∷ y) ≡ token_at first_place (lex.Number own) ∷ rest =
    ap (λ l. with_piece first_place l rest) lexeme in
    let same = first_same is.number (token_at first_place (lex.Number own)) (is.end ∷ []) rest (sym is.tokens ∙ tokens) in
    let said = same_said d own (sym is.says ∙ ap (λ (x : Token). x.lexeme) same) in
    (ap (λ (x : Decimal). x.digits) said, ap (λ (x : Decimal). x.places) said)
