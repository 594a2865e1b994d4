-- Numbers are read as they are written.
use Rattle.std.proofs.Common.{◌≡◌, ◌<◌, ◌≤◌, ℕ, ℤ, zero, suc, ◌+◌, ◌*◌, ◌/◌, ◌%◌, ◌^◌, true, List, [], ◌∷◌, ◌++◌, length, drop, Some, refl, ap, ap₂, sym, ◌∙◌, append_assoc, length-append, arith}
use Rattle.std.specs.Prelude.{nat_le, slice_index, decimal, unsigned_abs}
use Rattle.std.specs.Char.{is_ascii_digit, digit_value}
use Rattle.std.specs.List.{list_all}
use Rattle.std.specs.Str.Parse.{digits_value, digits_value_after}
use Rattle.std.proofs.lemmas.Bool.{and_parts, and_from, leb-true}
use Rattle.std.proofs.lemmas.Bool.Decides.{nat_tests}
use Rattle.std.proofs.lemmas.Fmt.{decimal_by_steps}
use Rattle.std.proofs.lemmas.List.Folds.{list_all-append}
use Rattle.std.proofs.Math.Arith.{mod-mul}
use Rattle.std.proofs.Math.Nat.{one-le-pow, div-add-mod, div-le_self, pow-succ'}
use Rattle.std.proofs.Math.Seq.{drop-append_seam}
use Rattle.hc_frac.specs.declared.place.Place.{Place}
use Rattle.hc_token.specs.declared.token.Lexeme.TheVariants as lex
use Rattle.hc_token.specs.Decimals.{in_range}
use Rattle.hc_token.specs.Ranged as numbers
use Rattle.hc_token.specs.Numbers.{front_digits, point_digits, places_digits, point_len, number_of}
use Rattle.hc_token.specs.Pieces.{piece}
use Rattle.hc_token.specs.Tokens.{token_at, tokens_from}
use Rattle.hc_token.proofs.Digits.{digit_in_front}
use Rattle.hc_token.proofs.Ranges.{number_in_range}
use Rattle.hc_print.specs.Lexemes.{numbered}
use Rattle.hc_print.specs.Numerals.{last_digits, numeral}
use Rattle.hc_print.specs.Written.{token_text}
use Rattle.hc_print.proofs.Printed.{Reads, one_token}
use Rattle.hc_print.proofs.PrintedWords.{run_before}
use Rattle.hc_print.proofs.Sound.{GoodNumber}

-- the digits of a number
record IsNumeralOf (n : ℕ) (ds : List ℕ) : Type 0 where
  some : 0 < length ds
  digits : list_all is_ascii_digit ds ≡ true
  value : digits_value 10 ds ≡ n

is_digit : (d : ℕ) → d < 10 → is_ascii_digit (48 + d) ≡ true
is_digit d h = grind (arith, nat_tests)

worth : (d : ℕ) → d < 10 → digit_value (48 + d) ≡ d
worth d h = grind (arith, nat_tests)

after_both : (n : ℕ) (ds es : List ℕ)
    → digits_value_after 10 n (ds ++ es) ≡ digits_value_after 10 (digits_value_after 10 n ds) es
after_both n [] es = refl
after_both n (d ∷ ds) es = after_both (n * 10 + digit_value d) ds es

one_digit : (n : ℕ) → n < 10 → IsNumeralOf n ((48 + n) ∷ [])
one_digit n h = record {
  some = omega arith;
  digits = and_from (is_ascii_digit (48 + n)) true (is_digit n h) refl;
  value = omega (arith, worth n h);
}

more_digits : (n : ℕ) (ds : List ℕ) → 10 ≤ n → IsNumeralOf (n / 10) ds → IsNumeralOf n (ds ++ ((48 + n % 10) ∷ []))
more_digits n ds h p =
    let small : n % 10 < 10 = omega arith in record {
      some = simp length-append (omega (arith, p.some));
      digits = list_all-append is_ascii_digit ds ((48 + n % 10) ∷ [])
          ∙ and_from (list_all is_ascii_digit ds) (list_all is_ascii_digit ((48 + n % 10) ∷ [])) p.digits
          (and_from (is_ascii_digit (48 + n % 10)) true (is_digit (n % 10) small) refl);
      value = after_both 0 ds ((48 + n % 10) ∷ []) ∙ omega (arith, p.value, worth (n % 10) small);
    }

decimal_is : (n : ℕ) → n < 2 ^ 64 → IsNumeralOf n (decimal n)
decimal_is n h = decimal_by_steps IsNumeralOf one_digit more_digits n h

-- the last digits
last_in_front : (k n : ℕ) (z : List ℕ) → last_digits k n z ≡ last_digits k n [] ++ z
last_in_front zero n z = refl
last_in_front (suc k) n z = ap (λ x. (48 + n / 10 ^ k % 10) ∷ x) (last_in_front k n z)

last_length : (k n : ℕ) → length (last_digits k n []) ≡ k
last_length zero n = refl
last_length (suc k) n = ap suc (last_length k n)

last_are_digits : (k n : ℕ) → list_all is_ascii_digit (last_digits k n []) ≡ true
last_are_digits zero n = refl
last_are_digits (suc k) n =
    and_from (is_ascii_digit (48 + n / 10 ^ k % 10)) (list_all is_ascii_digit (last_digits k n []))
    (is_digit (n / 10 ^ k % 10) (omega arith)) (last_are_digits k n)

shifted : (a d m r s : ℕ) → s ≡ d * m + r → (a * 10 + d) * m + r ≡ a * (10 * m) + s
shifted a d m r s e = omega arith

last_value : (k n a : ℕ) → digits_value_after 10 a (last_digits k n []) ≡ a * 10 ^ k + n % 10 ^ k
last_value zero n a = omega arith
last_value (suc k) n a =
    let m = 10 ^ k in
    let d = n / m % 10 in
    let some : 0 < m = one-le-pow k 10 (omega arith) in
    let split : n % (10 * m) ≡ d * m + n % m = mod-mul n {m = 10} {c = m} (omega arith) some in
    let rest : digits_value_after 10 (a * 10 + digit_value (48 + d)) (last_digits k n [])
    ≡ (a * 10 + digit_value (48 + d)) * m + n % m = last_value k n (a * 10 + digit_value (48 + d)) in
    let is : digit_value (48 + d) ≡ d = worth d (omega arith) in
    let power : 10 ^ suc k ≡ 10 * m = pow-succ' 10 k in
    rest ∙ ap (λ x. (a * 10 + x) * m + n % m) is ∙ shifted a d m (n % m) (n % (10 * m)) split
    ∙ ap (λ x. a * x + n % x) (sym power)

-- the digits of a whole number and those behind its point
both_value : (n places : ℕ) → n < 2 ^ 64
    → digits_value 10 (decimal (n / 10 ^ places) ++ last_digits places n []) ≡ n
both_value n places h =
    let q = n / 10 ^ places in
    let small : q < 2 ^ 64 = omega (arith, div-le_self n (10 ^ places)) in
    after_both 0 (decimal q) (last_digits places n [])
    ∙ ap (λ a. digits_value_after 10 a (last_digits places n [])) (decimal_is q small).value
    ∙ last_value places n q ∙ omega (arith, div-add-mod n (10 ^ places))

-- a text whose digits before and behind the point are known
number_front : (x ds es : List ℕ) → 0 < length ds → list_all is_ascii_digit ds ≡ true
    → slice_index x 0 ≡ slice_index ds 0 → 0 < length x
    → front_digits x ≡ ds → places_digits x ≡ es
    → ((piece x).len ≡ length ds + point_len es)
    × ((piece x).lexeme ≡ Some (number_of (digits_value 10 (ds ++ es)) (length es)))
number_front [] ds es some digits first long whole places = absurd (omega arith)
number_front (b ∷ y) [] es some digits first long whole places = absurd (omega arith)
number_front (b ∷ y) (d ∷ ds) es some digits first long whole places =
    let is : is_ascii_digit b ≡ true = ap is_ascii_digit first ∙ (and_parts (is_ascii_digit d) (list_all is_ascii_digit ds) digits).0 in (
      rw (digit_in_front b y is) (ap₂ (λ u v. length u + point_len v) whole places),
      rw (digit_in_front b y is) (ap₂ (λ u v. Some (number_of (digits_value 10 (u ++ v)) (length v))) whole places),
    )

first_same : (ds z : List ℕ) → 0 < length ds → slice_index (ds ++ z) 0 ≡ slice_index ds 0
first_same [] z h = absurd (omega arith)
first_same (d ∷ ds) z h = refl

-- a number without places
whole_front : (ds z : List ℕ) → 0 < length ds → list_all is_ascii_digit ds ≡ true
    → ((piece (ds ++ 32 ∷ z)).len ≡ length ds)
    × ((piece (ds ++ 32 ∷ z)).lexeme ≡ Some (number_of (digits_value 10 (ds ++ [])) 0))
whole_front ds z some digits =
    let x = ds ++ 32 ∷ z in
    let whole : front_digits x ≡ ds = run_before is_ascii_digit ds 32 z digits refl in
    let places : places_digits x ≡ [] =
    ap (λ u. point_digits (drop (length u) x)) whole ∙ ap point_digits (drop-append_seam ds (32 ∷ z)) in
    let long : 0 < length x = simp length-append (omega arith) in
    let p = number_front x ds [] some digits (first_same ds (32 ∷ z) some) long whole places in
    (p.0 ∙ omega arith, p.1)

-- a number with places
point_front : (ds es z : List ℕ) → 0 < length ds → 0 < length es → list_all is_ascii_digit ds ≡ true
    → list_all is_ascii_digit es ≡ true
    → ((piece (ds ++ 46 ∷ (es ++ 32 ∷ z))).len ≡ length ds + (1 + length es))
    × ((piece (ds ++ 46 ∷ (es ++ 32 ∷ z))).lexeme ≡ Some (number_of (digits_value 10 (ds ++ es)) (length es)))
point_front ds es z some more digits behind =
    let x = ds ++ 46 ∷ (es ++ 32 ∷ z) in
    let whole : front_digits x ≡ ds = run_before is_ascii_digit ds 46 (es ++ 32 ∷ z) digits refl in
    let places : places_digits x ≡ es =
    ap (λ u. point_digits (drop (length u) x)) whole ∙ ap point_digits (drop-append_seam ds (46 ∷ (es ++ 32 ∷ z)))
    ∙ run_before is_ascii_digit es 32 z behind refl in
    let long : 0 < length x = simp length-append (omega arith) in
    let p = number_front x ds es some digits (first_same ds (46 ∷ (es ++ 32 ∷ z)) some) long whole places in
    (p.0 ∙ ap (λ k. length ds + k) (point_length es more), p.1)
  where
    point_length : (es : List ℕ) → 0 < length es → point_len es ≡ 1 + length es
    point_length [] h = absurd (omega arith)
    point_length (e ∷ es) h = omega arith

-- the number that is read
read_number : (n places : ℕ) (e : in_range n places ≡ true)
    → number_of n places ≡ lex.Number (numbers.decimal n places e)
read_number n places e =
    let parts = and_parts (nat_le n 9223372036854775807) (nat_le places 18) e in
    sym (number_in_range (numbers.decimal n places e) n places (leb-true n 9223372036854775807 parts.0)
    (leb-true places 18 parts.1) refl refl)

below_64 : (n places : ℕ) → in_range n places ≡ true → n < 2 ^ 64
below_64 n places e =
    let parts = and_parts (nat_le n 9223372036854775807) (nat_le places 18) e in
    omega (arith, leb-true n 9223372036854775807 parts.0)

numeral_read : (n places : ℕ) (e : in_range n places ≡ true) (p : Place) (z : List ℕ)
    → (q : Place) × (tokens_from 0 p (numeral n places (32 ∷ z))
    ≡ token_at p (lex.Number (numbers.decimal n places e)) ∷ tokens_from 0 q z)
numeral_read n zero e p z =
    let small = below_64 n zero e in
    let ds = decimal (n / 10 ^ 0) in
    let is = decimal_is (n / 10 ^ 0) (omega (arith, div-le_self n (10 ^ 0))) in
    let f = whole_front ds z is.some is.digits in (
      _,
      one_token ds z (lex.Number (numbers.decimal n zero e)) p is.some f.0
          (f.1 ∙ ap (λ v. Some (number_of v 0)) (both_value n zero small) ∙ ap Some (read_number n zero e)),
    )
numeral_read n (suc more) e p z =
    let small = below_64 n (suc more) e in
    let ds = decimal (n / 10 ^ suc more) in
    let es = last_digits (suc more) n [] in
    let is = decimal_is (n / 10 ^ suc more) (omega (arith, div-le_self n (10 ^ suc more))) in
    let len : length es ≡ suc more = last_length (suc more) n in
    let f = point_front ds es z is.some (omega (arith, len)) is.digits (last_are_digits (suc more) n) in
    let text = ds ++ 46 ∷ es in
    let one : numeral n (suc more) (32 ∷ z) ≡ text ++ 32 ∷ z =
    ap (λ x. ds ++ 46 ∷ x) (last_in_front (suc more) n (32 ∷ z)) ∙ sym (append_assoc ds (46 ∷ es) (32 ∷ z)) in
    let same : ds ++ 46 ∷ (es ++ 32 ∷ z) ≡ text ++ 32 ∷ z = sym (append_assoc ds (46 ∷ es) (32 ∷ z)) in
    let long : length text ≡ length ds + (1 + length es) = length-append ds (46 ∷ es) ∙ omega arith in (
      _,
      ap (tokens_from 0 p) one
          ∙ one_token text z (lex.Number (numbers.decimal n (suc more) e)) p (omega (arith, long, is.some))
          (ap (λ x. (piece x).len) (sym same) ∙ f.0 ∙ sym long)
          (ap (λ x. (piece x).lexeme) (sym same) ∙ f.1 ∙ ap₂ (λ v c. Some (number_of v c)) (both_value n (suc more) small) len
          ∙ ap Some (read_number n (suc more) e)),
    )

pub numbered_read : (digits : ℤ) (places : ℕ) → GoodNumber digits places → (p : Place) (z : List ℕ)
    → Reads (numbered digits places) z (tokens_from 0 p (token_text (numbered digits places) z))
numbered_read digits places good p z =
    let r = numeral_read good.value places good.fits p z in
    let d = numbers.decimal good.value places good.fits in record {
      first = token_at p (lex.Number d);
      place = r.0;
      is = (d, refl, sym good.is, refl);
      all = ap (λ x. tokens_from 0 p (numeral (unsigned_abs x) places (32 ∷ z))) good.is ∙ r.1;
    }
