-- The tokens of what is written are what was written.
use Rattle.std.proofs.Common.{◌≡◌, ◌<◌, ◌≤◌, ℕ, ℤ, ◌+◌, ◌*◌, ◌/◌, ◌%◌, ◌^◌, pos, min, Bool, true, false, cond, List, [], ◌∷◌, ◌++◌, length, take, drop, fold, Some, None, refl, ap, ap₂, sym, ◌∙◌, subst, append_assoc, length-append, arith}
use Rattle.std.specs.Prelude.{◌==◌, ◌&&◌, nat_lt, slice_index, take_while, decimal}
use Rattle.std.specs.Char.{is_ascii_alphabetic, is_ascii_digit, digit_value}
use Rattle.std.specs.List.{list_all, prefix_len}
use Rattle.std.specs.Str.Parse.{digits_value, digits_value_after}
use Rattle.std.proofs.lemmas.Bool.{false≢true, and_parts, and_from}
use Rattle.std.proofs.lemmas.Bool.Decides.{nat_tests}
use Rattle.std.proofs.lemmas.Fmt.{decimal_by_steps, length-decimal-le}
use Rattle.std.proofs.lemmas.List.Folds.{list_all-append}
use Rattle.std.proofs.Math.Seq.{drop-append_seam, take-append_seam}
use Rattle.hc_frac.specs.declared.place.Place.{Place}
use Rattle.hc_frac.specs.Word.{word_byte}
use Rattle.hc_scan.proofs.Passing.{piece_passed}
use Rattle.hc_scan.specs.Places.{after}
use Rattle.hc_scan.specs.Tokens as scan
use Rattle.hc_token.specs.Pieces.{is_blank}
use Rattle.hc_cast.specs.declared.primitive.Primitive.{Primitive}
use Rattle.hc_cast.specs.declared.primitive.Primitive.TheVariants as primitive
use Rattle.hc_cast.specs.Primitives.{primitives, primitive_named, text_of}
use Rattle.hc_ctoken.specs.declared.fixed.Fixed.{Fixed}
use Rattle.hc_ctoken.specs.declared.fixed.Fixed.TheVariants as fix
use Rattle.hc_ctoken.specs.declared.token.Lexeme.{Lexeme}
use Rattle.hc_ctoken.specs.declared.token.Lexeme.TheVariants as lex
use Rattle.hc_ctoken.specs.declared.token.Token.{Token}
use Rattle.hc_ctoken.specs.Kinds.{keyword, keywords, sign, signs}
use Rattle.hc_ctoken.specs.Kinds as kinds
use Rattle.hc_ctoken.specs.Numbers.{greatest_number, is_padded, in_range, number_of, number}
use Rattle.hc_ctoken.specs.Strings.{quoted, other, is_word_or_none, in_quote, string_piece}
use Rattle.hc_ctoken.specs.Words as words
use Rattle.hc_ctoken.specs.Words.{is_numeral, thread_number}
use Rattle.hc_ctoken.specs.Pieces.{word_piece, number_piece, piece}
use Rattle.hc_ctoken.specs.Tokens.{token_at, tokens_from}
use Rattle.hc_cspell.specs.Tokens.{Lexemes, token_text, written}
use Rattle.hc_cwrite.proofs.Saying.{Says}
use Rattle.hc_cwrite.proofs.Fine.{IsReadAs, IsQuoted, IsFine, AreFine}

-- the tokens of a text are one that says a lexeme, and then those of z
record Reads (l : Lexeme) (z : List ℕ) (ts : List Token) : Type 0 where
  first : Token
  place : Place
  is : first.lexeme ≡ l
  all : ts ≡ first ∷ tokens_from place z

-- a blank is passed
space_passed : (p : Place) (z : List ℕ) → tokens_from p (32 ∷ z) ≡ tokens_from (after p 32) z
unfolding piece
space_passed p z = refl

-- a text that is one token up to its blank
one_token : (x z : List ℕ) (l : Lexeme) (p : Place) → 0 < length x
    → (piece (x ++ 32 ∷ z)).len ≡ length x → (piece (x ++ 32 ∷ z)).lexeme ≡ Some l
    → tokens_from p (x ++ 32 ∷ z) ≡ token_at p l ∷ tokens_from (after (fold after p (take (length x) (x ++ 32 ∷ z))) 32) z
one_token x z l p some n is =
    let whole = x ++ 32 ∷ z in
    let has : 0 < length whole = simp length-append (omega arith) in
    piece_passed piece token_at lex.End p whole has (rw n (omega arith))
    ∙ ap (λ o. scan.with_piece piece token_at lex.End p o (tokens_from (fold after p (take (piece whole).len whole)) (drop (piece whole).len whole))) is
    ∙ ap (λ k. token_at p l ∷ tokens_from (fold after p (take k whole)) (drop k whole)) n
    ∙ ap (λ y. token_at p l ∷ tokens_from (fold after p (take (length x) whole)) y) (drop-append_seam x (32 ∷ z))
    ∙ ap (λ ts. token_at p l ∷ ts) (space_passed (fold after p (take (length x) whole)) z)

-- a text that is one token, and a blank
read_one : (x z : List ℕ) (l : Lexeme) (p : Place) → 0 < length x
    → (piece (x ++ 32 ∷ z)).len ≡ length x → (piece (x ++ 32 ∷ z)).lexeme ≡ Some l → Reads l z (tokens_from p (x ++ 32 ∷ z))
read_one x z l p some n is = record { first = token_at p l; place = _; is = refl; all = one_token x z l p some n is }

-- a text begins with one token up to a blank
abbrev Front : List ℕ → List ℕ → Lexeme → Type 0
Front x z l = (0 < length x) × ((piece (x ++ 32 ∷ z)).len ≡ length x) × ((piece (x ++ 32 ∷ z)).lexeme ≡ Some l)

read_front : (x z : List ℕ) (l : Lexeme) (p : Place) → Front x z l → Reads l z (tokens_from p (x ++ 32 ∷ z))
read_front x z l p h = read_one x z l p h.0 h.1 h.2

-- a keyword or a sign
fixed_read : (one : Fixed) (p : Place) (z : List ℕ) → Reads (lex.Fixed one) z (tokens_from p (token_text (lex.Fixed one) z))
unfolding piece keyword keywords sign signs words.word
fixed_read fix.Static p z = record { first = token_at p (lex.Fixed fix.Static); place = _; is = refl; all = refl }
fixed_read one p z = record { first = token_at p (lex.Fixed one); place = _; is = refl; all = refl }

-- ---- words

-- a run of elements that pass a test ends where one doesn't
prefix_before : (p : ℕ → Bool) (w : List ℕ) (b : ℕ) (z : List ℕ) → list_all p w ≡ true → p b ≡ false
    → prefix_len p (w ++ b ∷ z) ≡ length w
prefix_before p [] b z h e = ap (λ c. cond c (1 + prefix_len p z) 0) e
prefix_before p (x ∷ w) b z h e =
    let parts = and_parts (p x) (list_all p w) h in
    let rest : 1 + prefix_len p (w ++ b ∷ z) ≡ length (x ∷ w) = omega (arith, prefix_before p w b z parts.1 e) in
    ap (λ c. cond c (1 + prefix_len p (w ++ b ∷ z)) 0) parts.0 ∙ rest

run_before : (p : ℕ → Bool) (w : List ℕ) (b : ℕ) (z : List ℕ) → list_all p w ≡ true → p b ≡ false
    → take_while p (w ++ b ∷ z) ≡ w
run_before p w b z h e =
    ap (λ n. take n (w ++ b ∷ z)) (prefix_before p w b z h e) ∙ take-append_seam w (b ∷ z)

second : {X : Type 0} (a b : Bool) (x y z : X) → a ≡ false → b ≡ true → cond a x (cond b y z) ≡ y
second a b x y z e f = rw (e, f)

third : {X : Type 0} (a b c : Bool) (x y z w : X) → a ≡ false → b ≡ false → c ≡ true → cond a x (cond b y (cond c z w)) ≡ z
third a b c x y z w e f g = rw (e, f, g)

not_blank : (b : ℕ) → is_ascii_alphabetic b ≡ true → is_blank b ≡ false
not_blank b h = grind (arith, nat_tests)

word_in_front : (b : ℕ) (y : List ℕ) → is_ascii_alphabetic b ≡ true → piece (b ∷ y) ≡ word_piece (take_while word_byte (b ∷ y))
unfolding piece
word_in_front b y h = second (is_blank b) (is_ascii_alphabetic b) _ _ _ (not_blank b h) h

word_says : (w z : List ℕ) (l : Lexeme) → IsReadAs w l → Front w z l
word_says [] z l good = absurd (false≢true good.letter_first)
word_says (b ∷ w) z l good =
    let run = run_before word_byte (b ∷ w) 32 z good.all refl in (
      omega arith,
      rw (word_in_front b (w ++ 32 ∷ z) good.letter_first) (ap length run),
      rw (word_in_front b (w ++ 32 ∷ z) good.letter_first) (ap (λ x. Some (words.word x)) run ∙ ap Some good.reads),
    )

word_read : (w z : List ℕ) (l : Lexeme) → IsReadAs w l → (p : Place) → Reads l z (tokens_from p (w ++ 32 ∷ z))
word_read w z l good p = read_front w z l p (word_says w z l good)

primitive_good : (p : Primitive) → IsReadAs (text_of p) (lex.Primitive p)
unfolding words.word keyword keywords primitive_named primitives
primitive_good primitive.FrSet = record { letter_first = refl; all = refl; reads = refl }
primitive_good p = record { letter_first = refl; all = refl; reads = refl }

-- ---- numbers

-- the digits of a number, without a leading zero
record IsNumeralOf (n : ℕ) (ds : List ℕ) : Type 0 where
  some : 0 < length ds
  digits : list_all is_ascii_digit ds ≡ true
  value : digits_value 10 ds ≡ n
  unpadded : is_padded ds ≡ false
  not_zero : 0 < n → (slice_index ds 0 == 48) ≡ false

is_digit : (d : ℕ) → d < 10 → is_ascii_digit (48 + d) ≡ true
is_digit d h = grind (arith, nat_tests)

worth : (d : ℕ) → d < 10 → digit_value (48 + d) ≡ d
worth d h = grind (arith, nat_tests)

above : (d : ℕ) → 0 < d → (48 + d == 48) ≡ false
above d h = grind (arith, nat_tests)

after_both : (n : ℕ) (ds es : List ℕ) → digits_value_after 10 n (ds ++ es) ≡ digits_value_after 10 (digits_value_after 10 n ds) es
after_both n [] es = refl
after_both n (d ∷ ds) es = after_both (n * 10 + digit_value d) ds es

and_right : (a : Bool) → a && false ≡ false
and_right true = refl
and_right false = refl

and_left : (a b : Bool) → a ≡ false → a && b ≡ false
and_left true b h = absurd (cc)
and_left false b h = refl

first_of : (ds es : List ℕ) → 0 < length ds → slice_index (ds ++ es) 0 ≡ slice_index ds 0
first_of [] es h = absurd (omega arith)
first_of (d ∷ ds) es h = refl

one_digit : (n : ℕ) → n < 10 → IsNumeralOf n ((48 + n) ∷ [])
one_digit n h = record {
  some = omega arith;
  digits = and_from (is_ascii_digit (48 + n)) true (is_digit n h) refl;
  value = omega (arith, worth n h);
  unpadded = and_right (48 + n == 48);
  not_zero = λ some. above n some;
}

more_digits : (n : ℕ) (ds : List ℕ) → 10 ≤ n → IsNumeralOf (n / 10) ds → IsNumeralOf n (ds ++ ((48 + n % 10) ∷ []))
more_digits n ds h p =
    let small : n % 10 < 10 = omega arith in
    let es = (48 + n % 10) ∷ [] in
    let nonzero : (slice_index (ds ++ es) 0 == 48) ≡ false =
    ap (λ b. b == 48) (first_of ds es p.some) ∙ p.not_zero (omega arith) in
    record {
      some = simp length-append (omega arith);
      digits = list_all-append is_ascii_digit ds es
          ∙ and_from (list_all is_ascii_digit ds) (list_all is_ascii_digit es) p.digits
          (and_from (is_ascii_digit (48 + n % 10)) true (is_digit (n % 10) small) refl);
      value = after_both 0 ds es ∙ omega (arith, p.value, worth (n % 10) small);
      unpadded = and_left (slice_index (ds ++ es) 0 == 48) _ nonzero;
      not_zero = λ some. nonzero;
    }

decimal_is : (n : ℕ) → n < 2 ^ 64 → IsNumeralOf n (decimal n)
decimal_is n h = decimal_by_steps IsNumeralOf one_digit more_digits n h

digit_no_blank : (b : ℕ) → is_ascii_digit b ≡ true → is_blank b ≡ false
digit_no_blank b h = grind (arith, nat_tests)

digit_no_letter : (b : ℕ) → is_ascii_digit b ≡ true → is_ascii_alphabetic b ≡ false
digit_no_letter b h = grind (arith, nat_tests)

number_in_front : (b : ℕ) (y : List ℕ) → is_ascii_digit b ≡ true → piece (b ∷ y) ≡ number_piece (take_while is_ascii_digit (b ∷ y))
unfolding piece
number_in_front b y h =
    third (is_blank b) (is_ascii_alphabetic b) (is_ascii_digit b) _ _ _ _ (digit_no_blank b h) (digit_no_letter b h) h

not_large : (n : ℕ) → n ≤ greatest_number → nat_lt greatest_number n ≡ false
not_large n h = grind (arith, nat_tests)

in_range_is : (n : ℕ) → n ≤ greatest_number → number_of false n ≡ lex.Number (pos n)
unfolding number_of
in_range_is n h = ap (λ b. cond b lex.LargeNumber (in_range false n)) (not_large n h)

numeral_says : (n : ℕ) → n ≤ greatest_number → (ds z : List ℕ) → IsNumeralOf n ds → Front ds z (lex.Number (pos n))
numeral_says n h [] z is = absurd (omega (arith, is.some))
numeral_says n h (b ∷ ds) z is =
    let run = run_before is_ascii_digit (b ∷ ds) 32 z is.digits refl in
    let digit = (and_parts (is_ascii_digit b) (list_all is_ascii_digit ds) is.digits).0 in
    let says : number (b ∷ ds) ≡ lex.Number (pos n) = ap₂ number_of is.unpadded is.value ∙ in_range_is n h in (
      omega arith,
      rw (number_in_front b (ds ++ 32 ∷ z) digit) (ap length run),
      rw (number_in_front b (ds ++ 32 ∷ z) digit) (ap (λ x. Some (number x)) run ∙ ap Some says),
    )

numeral_read : (n : ℕ) → n ≤ greatest_number → (ds z : List ℕ) → IsNumeralOf n ds → (p : Place)
    → Reads (lex.Number (pos n)) z (tokens_from p (ds ++ 32 ∷ z))
numeral_read n h ds z is p = read_front ds z (lex.Number (pos n)) p (numeral_says n h ds z is)

number_read : (n : ℤ) (k : ℕ) → n ≡ pos k → k ≤ greatest_number → (p : Place) (z : List ℕ)
    → Reads (lex.Number n) z (tokens_from p (token_text (lex.Number n) z))
number_read n k e h p z =
    let P : ℤ → Type 0 = λ n. Reads (lex.Number n) z (tokens_from p (token_text (lex.Number n) z)) in
    subst P (sym e) (numeral_read k h (decimal k) z (decimal_is k (omega (arith, h))) p)

-- ---- threads

digit_in_word : (b : ℕ) → is_ascii_digit b ≡ true → word_byte b ≡ true
digit_in_word b h = grind (arith, nat_tests)

digits_in_word : (ds : List ℕ) → list_all is_ascii_digit ds ≡ true → list_all word_byte ds ≡ true
digits_in_word [] h = refl
digits_in_word (d ∷ ds) h =
    let parts = and_parts (is_ascii_digit d) (list_all is_ascii_digit ds) h in
    and_from (word_byte d) (list_all word_byte ds) (digit_in_word d parts.0) (digits_in_word ds parts.1)

no_keyword : (ds : List ℕ) → keyword (116 ∷ ds) ≡ None
unfolding keyword keywords
no_keyword ds = refl

no_primitive : (ds : List ℕ) → primitive_named (116 ∷ ds) ≡ None
unfolding primitive_named primitives
no_primitive ds = refl

short_enough : (ds : List ℕ) → length ds ≤ 20 → nat_lt 64 (length (116 ∷ ds)) ≡ false
short_enough ds h = grind (arith, nat_tests)

numeral : (n : ℕ) (ds : List ℕ) → IsNumeralOf n ds → is_numeral ds ≡ true
numeral n ds is =
    let some : nat_lt 0 (length ds) ≡ true = let h = is.some in grind (arith, nat_tests) in
    rw (some, is.digits, is.unpadded) refl

thread_says : (n : ℕ) (ds : List ℕ) → IsNumeralOf n ds → n ≤ 18446744073709551615 → words.thread (116 ∷ ds) ≡ lex.Thread n
thread_says n ds is h =
    ap (λ b. cond b (lex.Thread (thread_number ds)) lex.Other) (numeral n ds is)
    ∙ ap lex.Thread (ap (λ k. min k 18446744073709551615) is.value ∙ omega (arith, h))

thread_word : (n : ℕ) (ds : List ℕ) → IsNumeralOf n ds → n ≤ 18446744073709551615 → length ds ≤ 20
    → words.word (116 ∷ ds) ≡ lex.Thread n
unfolding words.word
thread_word n ds is h long =
    ap (λ b. cond b lex.LongWord (words.short_word (keyword (116 ∷ ds)) (116 ∷ ds))) (short_enough ds long)
    ∙ ap (λ o. words.short_word o (116 ∷ ds)) (no_keyword ds)
    ∙ ap (λ o. words.primitive_or_name o (116 ∷ ds)) (no_primitive ds) ∙ thread_says n ds is h

thread_good : (n : ℕ) → n ≤ 18446744073709551615 → IsReadAs (116 ∷ decimal n) (lex.Thread n)
thread_good n h =
    let is = decimal_is n (omega (arith, h)) in
    let long : length (decimal n) ≤ 20 = length-decimal-le 20 n (omega arith) (omega (arith, h)) (omega (arith, h)) in
    record {
      letter_first = refl;
      all = digits_in_word (decimal n) is.digits;
      reads = thread_word n (decimal n) is h long;
    }

thread_read : (n : ℕ) → n ≤ 18446744073709551615 → (p : Place) (z : List ℕ)
    → Reads (lex.Thread n) z (tokens_from p (token_text (lex.Thread n) z))
thread_read n h p z = word_read (116 ∷ decimal n) z (lex.Thread n) (thread_good n h) p

-- ---- strings

empty_read : (p : Place) (z : List ℕ) → Reads lex.EmptyText z (tokens_from p (token_text lex.EmptyText z))
unfolding piece
empty_read p z = record { first = token_at p lex.EmptyText; place = _; is = refl; all = refl }

quote_in_front : (y : List ℕ) → piece (34 ∷ y) ≡ string_piece y
unfolding piece
quote_in_front y = refl

text_says : (w z : List ℕ) → IsQuoted w → Front (34 ∷ (w ++ 34 ∷ [])) z (lex.Text w)
text_says [] z good = absurd (false≢true good.letter_first)
text_says (b ∷ w) z good =
    let v = b ∷ w in
    let y = v ++ 34 ∷ 32 ∷ z in
    let run : take_while word_byte y ≡ v = run_before word_byte v 34 (32 ∷ z) good.all refl in
    let seam : drop (length v) y ≡ 34 ∷ 32 ∷ z = drop-append_seam v (34 ∷ 32 ∷ z) in
    let test : is_word_or_none v && in_quote (drop (length v) y) ≡ true =
    and_from (is_word_or_none v) (in_quote (drop (length v) y)) good.letter_first (ap in_quote seam) in
    let is : string_piece y ≡ record { len = 2 + length v; lexeme = Some (quoted v) } =
    ap (λ u. cond (is_word_or_none u && in_quote (drop (length u) y)) (record { len = 2 + length u; lexeme = Some (quoted u) }) other) run
    ∙ ap (λ t. cond t (record { len = 2 + length v; lexeme = Some (quoted v) }) other) test in
    let x = 34 ∷ (v ++ 34 ∷ []) in
    let whole : 34 ∷ y ≡ x ++ 32 ∷ z = ap (λ u. 34 ∷ u) (sym (append_assoc v (34 ∷ []) (32 ∷ z))) in
    let piece_is = quote_in_front y ∙ is in (
      omega arith,
      ap (λ u. (piece u).len) (sym whole) ∙ ap (λ q. q.len) piece_is ∙ simp length-append (omega arith),
      ap (λ u. (piece u).lexeme) (sym whole) ∙ ap (λ q. q.lexeme) piece_is ∙ ap Some good.reads,
    )

text_read : (w : List ℕ) → IsQuoted w → (p : Place) (z : List ℕ) → Reads (lex.Text w) z (tokens_from p (token_text (lex.Text w) z))
text_read w good p z =
    let whole : 34 ∷ (w ++ 34 ∷ 32 ∷ z) ≡ (34 ∷ (w ++ 34 ∷ [])) ++ 32 ∷ z = ap (λ u. 34 ∷ u) (sym (append_assoc w (34 ∷ []) (32 ∷ z))) in
    let P : List ℕ → Type 0 = λ u. Reads (lex.Text w) z (tokens_from p u) in
    subst P (sym whole) (read_front (34 ∷ (w ++ 34 ∷ [])) z (lex.Text w) p (text_says w z good))

-- ---- all

fine_read : (l : Lexeme) → IsFine l → (p : Place) (z : List ℕ) → Reads l z (tokens_from p (token_text l z))
fine_read (lex.Fixed one) fine p z = fixed_read one p z
fine_read (lex.Array w) fine p z = word_read w z (lex.Array w) fine p
fine_read (lex.Function w) fine p z = word_read w z (lex.Function w) fine p
fine_read (lex.Local w) fine p z = word_read w z (lex.Local w) fine p
fine_read (lex.Thread n) fine p z = thread_read n fine p z
fine_read (lex.Primitive one) fine p z = word_read (text_of one) z (lex.Primitive one) (primitive_good one) p
fine_read (lex.Number n) fine p z = number_read n fine.0 fine.1 fine.2 p z
fine_read lex.EmptyText fine p z = empty_read p z
fine_read (lex.Text w) fine p z = text_read w fine p z
fine_read lex.End fine p z = absurd fine
fine_read lex.LongWord fine p z = absurd fine
fine_read lex.LargeNumber fine p z = absurd fine
fine_read (lex.Padded n) fine p z = absurd fine
fine_read lex.Other fine p z = absurd fine

-- the tokens of what is written say it
pub written_says : (w : Lexemes) → AreFine w → (p : Place) → Says w (tokens_from p (written w))
unfolding written
written_says [] fine p = record { last = token_at p lex.End; is_end = refl; alone = refl }
written_says (l ∷ w) (one, fine) p =
    let r = fine_read l one p (written w) in record {
      first = r.first;
      others = tokens_from r.place (written w);
      all = r.all;
      is = r.is;
      rest = written_says w fine r.place;
    }

-- ---- each of them begins some text

-- a text that begins with a token
abbrev pub Begins : Lexeme → Type 0
Begins l = (b : ℕ) × (z : List ℕ) × ((piece (b ∷ z)).lexeme ≡ Some l)

begun : (x z : List ℕ) (l : Lexeme) → Front x z l → Begins l
begun [] z l h = absurd (omega (arith, h.0))
begun (b ∷ x) z l h = (b, x ++ 32 ∷ z, h.2)

fixed_begins : (one : Fixed) → Begins (lex.Fixed one)
unfolding piece keyword keywords sign signs words.word
fixed_begins fix.BarBar = (124, 124 ∷ [], refl)
fixed_begins fix.AndAnd = (38, 38 ∷ [], refl)
fixed_begins fix.LessEqual = (60, 61 ∷ [], refl)
fixed_begins fix.GreaterEqual = (62, 61 ∷ [], refl)
fixed_begins fix.EqualEqual = (61, 61 ∷ [], refl)
fixed_begins fix.NotEqual = (33, 61 ∷ [], refl)
fixed_begins one = (slice_index (kinds.text_of one) 0, drop 1 (kinds.text_of one), refl)

pub fine_begins : (l : Lexeme) → IsFine l → Begins l
unfolding piece
fine_begins (lex.Fixed one) fine = fixed_begins one
fine_begins (lex.Array w) fine = begun w [] (lex.Array w) (word_says w [] (lex.Array w) fine)
fine_begins (lex.Function w) fine = begun w [] (lex.Function w) (word_says w [] (lex.Function w) fine)
fine_begins (lex.Local w) fine = begun w [] (lex.Local w) (word_says w [] (lex.Local w) fine)
fine_begins (lex.Thread n) fine =
    begun (116 ∷ decimal n) [] (lex.Thread n) (word_says (116 ∷ decimal n) [] (lex.Thread n) (thread_good n fine))
fine_begins (lex.Primitive one) fine =
    begun (text_of one) [] (lex.Primitive one) (word_says (text_of one) [] (lex.Primitive one) (primitive_good one))
fine_begins (lex.Number n) fine =
    subst (λ (m : ℤ). Begins (lex.Number m)) (sym fine.1)
    (begun (decimal fine.0) [] (lex.Number (pos fine.0))
    (numeral_says fine.0 fine.2 (decimal fine.0) [] (decimal_is fine.0 (omega (arith, fine.2)))))
fine_begins lex.EmptyText fine = (34, 34 ∷ [], refl)
fine_begins (lex.Text w) fine = begun (34 ∷ (w ++ 34 ∷ [])) [] (lex.Text w) (text_says w [] fine)
fine_begins lex.End fine = absurd fine
fine_begins lex.LongWord fine = absurd fine
fine_begins lex.LargeNumber fine = absurd fine
fine_begins (lex.Padded n) fine = absurd fine
fine_begins lex.Other fine = absurd fine
