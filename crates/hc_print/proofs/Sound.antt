-- What the tokens of a text say: names and rates say words, and numbers say numbers in range.
use Rattle.std.proofs.Common.{◌≡◌, ℕ, ℤ, zero, suc, ◌+◌, ◌-◌, pos, Bool, true, false, cond, List, [], ◌∷◌, ◌++◌, length, take, drop, codes, nat_eq, Option, Some, None, refl, ap, ap₂, sym, ◌∙◌, subst, one-add, arith}
use Rattle.std.specs.Prelude.{IfSome, nat_lt, ◌==◌, slice_index, take_while}
use Rattle.std.specs.List.{list_all, prefix_len}
use Rattle.std.specs.Char.{is_ascii_alphabetic, is_ascii_digit}
use Rattle.std.specs.Cmp.Lexicographic.{pointwise}
use Rattle.std.specs.Str.Parse.{digits_value}
use Rattle.std.proofs.lemmas.Bool.{false≢true, and_parts, eqb-true}
use Rattle.std.proofs.lemmas.Bool.Decides.{nat_tests}
use Rattle.std.proofs.lemmas.List.{take-append-drop}
use Rattle.hc_frac.specs.declared.place.Place.{Place}
use Rattle.hc_frac.specs.Word.{word_byte}
use Rattle.hc_token.specs.declared.fixed.Fixed.{Fixed}
use Rattle.hc_token.specs.declared.token.Lexeme.{Lexeme}
use Rattle.hc_token.specs.declared.token.Lexeme.TheVariants as lex
use Rattle.hc_token.specs.declared.token.Token.{Token}
use Rattle.hc_token.specs.Kinds.{keyword, sign}
use Rattle.hc_token.specs.Words.{word, short_word, before_dot, is_name, ends_in_dot, front_of}
use Rattle.hc_token.specs.Decimals.{in_range, Ranged, fits as in_it, unfit as out_of_it}
use Rattle.hc_token.specs.Ranged.{ranged}
use Rattle.hc_token.specs.Numbers.{front_digits, places_digits, said, number_of}
use Rattle.hc_token.specs.Pieces.{is_blank, in_comment, gap, word_piece, number_piece, sign_piece, piece}
use Rattle.hc_token.specs.Tokens.{after, with_piece, tokens_from}
use Rattle.hc_token.proofs.Runs.{all_of_run}
use Rattle.hc_ast.specs.Bare.{Word}
use Rattle.hc_ast.specs.Leaves.{OfName, OfRate, OfNumber}

-- the bytes are read as one word, which is this
pub record IsReadAs (w : List ℕ) (l : Lexeme) : Type 0 where
  pub letter_first : is_ascii_alphabetic (slice_index w 0) ≡ true
  pub all : list_all word_byte w ≡ true
  pub reads : word w ≡ l

abbrev pub GoodName : Word → Type 0
GoodName x = IsReadAs x (lex.Name x)

abbrev pub GoodRate : Word → Type 0
GoodRate x = IsReadAs (x ++ codes "_dot") (lex.Rate x)

pub record GoodNumber (digits : ℤ) (places : ℕ) : Type 0 where
  pub value : ℕ
  pub is : digits ≡ pos value
  pub fits : in_range value places ≡ true

-- what a token says is sound
abbrev pub IsSoundAs : Lexeme → Type 0
IsSoundAs (lex.Name w) = GoodName w
IsSoundAs (lex.Rate w) = GoodRate w
IsSoundAs (lex.Number d) = GoodNumber d.digits d.places
IsSoundAs _ = Unit {0}

abbrev pub IsSound : Token → Type 0
IsSound t = IsSoundAs t.lexeme

pub sound_name : (t : OfName) → IsSound t.0 → GoodName t.1
sound_name t s = subst IsSoundAs t.2 s

pub sound_rate : (t : OfRate) → IsSound t.0 → GoodRate t.1
sound_rate t s = subst IsSoundAs t.2 s

pub sound_number : (t : OfNumber) → IsSound t.0 → GoodNumber t.1.digits t.1.places
sound_number t s = subst IsSoundAs t.2 s

abbrev pub AllSound : List Token → Type 0
AllSound [] = Unit {0}
AllSound (t ∷ ts) = IsSound t × AllSound ts

-- a choice, with its condition where it holds
chosen : {X : Type 0} (b : Bool) (x y : X) (P : X → Type 0) → (b ≡ true → P x) → (b ≡ false → P y) → P (cond b x y)
chosen true x y P f g = f refl
chosen false x y P f g = g refl

-- a word that ends in `_dot` is what stands before it, and that
same_bytes : (xs ys : List ℕ) → pointwise nat_eq xs ys ≡ true → xs ≡ ys
same_bytes [] [] h = refl
same_bytes [] (y ∷ ys) h = absurd (false≢true h)
same_bytes (x ∷ xs) [] h = absurd (false≢true h)
same_bytes (x ∷ xs) (y ∷ ys) h =
    let parts = and_parts (nat_eq x y) (pointwise nat_eq xs ys) h in
    ap₂ ◌∷◌ (eqb-true x y parts.0) (same_bytes xs ys parts.1)

dot_behind : (w : List ℕ) → ends_in_dot w ≡ true → w ≡ front_of w ++ codes "_dot"
dot_behind w h =
    sym (take-append-drop (length w - 4) w)
    ∙ ap (λ x. take (length w - 4) w ++ x) (sym (same_bytes (codes "_dot") (drop (length w - 4) w) h))

-- a word by how it is read
short_sound : (w : List ℕ) (o : Option Fixed) (dot named : Bool) → keyword w ≡ o → ends_in_dot w ≡ dot → is_name (front_of w) ≡ named
    → is_ascii_alphabetic (slice_index w 0) ≡ true → list_all word_byte w ≡ true → word w ≡ short_word (keyword w) w
    → IsSoundAs (word w)
short_sound w (Some one) dot named e f g letter all is = subst IsSoundAs (sym (is ∙ ap (λ o. short_word o w) e)) tt
short_sound w None false named e f g letter all is =
    let l : word w ≡ lex.Name w =
    is ∙ ap (λ o. short_word o w) e ∙ ap (λ b. cond b (before_dot (front_of w)) (lex.Name w)) f in
    subst IsSoundAs (sym l) (record { letter_first = letter; all = all; reads = l })
short_sound w None true true e f g letter all is =
    let x = front_of w in
    let l : word w ≡ lex.Rate x =
    is ∙ ap (λ o. short_word o w) e ∙ ap (λ b. cond b (before_dot x) (lex.Name w)) f
    ∙ ap (λ b. cond b (lex.Rate x) lex.Other) g in
    let P : List ℕ → Type 0 = λ z. IsReadAs z (lex.Rate x) in
    subst IsSoundAs (sym l) (subst P (dot_behind w f) (record { letter_first = letter; all = all; reads = l }))
short_sound w None true false e f g letter all is =
    let l : word w ≡ lex.Other =
    is ∙ ap (λ o. short_word o w) e ∙ ap (λ b. cond b (before_dot (front_of w)) (lex.Name w)) f
    ∙ ap (λ b. cond b (lex.Rate (front_of w)) lex.Other) g in
    subst IsSoundAs (sym l) tt

word_is : (w : List ℕ) (long : Bool) → nat_lt 64 (length w) ≡ long → word w ≡ cond long lex.LongWord (short_word (keyword w) w)
unfolding word
word_is w long e = ap (λ b. cond b lex.LongWord (short_word (keyword w) w)) e

word_sound : (w : List ℕ) (long : Bool) → nat_lt 64 (length w) ≡ long → is_ascii_alphabetic (slice_index w 0) ≡ true
    → list_all word_byte w ≡ true → IsSoundAs (word w)
word_sound w true e letter all = subst IsSoundAs (sym (word_is w true e)) tt
word_sound w false e letter all =
    short_sound w (keyword w) (ends_in_dot w) (is_name (front_of w)) refl refl refl letter all (word_is w false e)

said_sound : (digits places : ℕ) (r : Ranged digits places) → IsSoundAs (said r)
said_sound digits places (in_it e d has_digits has_places) =
    record { value = digits; is = has_digits; fits = ap (in_range digits) has_places ∙ e }
said_sound digits places (out_of_it e) = tt

number_sound : (digits places : ℕ) → IsSoundAs (number_of digits places)
unfolding number_of
number_sound digits places = said_sound digits places (ranged digits places)

sign_sound : (o : Option (Fixed × ℕ)) → IfSome (sign_piece o).lexeme IsSoundAs
sign_sound None = tt
sign_sound (Some s) = tt

pub letter_in_word : (b : ℕ) → is_ascii_alphabetic b ≡ true → word_byte b ≡ true
letter_in_word b h = grind (arith, nat_tests)

first_of_run : (b : ℕ) (z : List ℕ) → is_ascii_alphabetic b ≡ true
    → is_ascii_alphabetic (slice_index (take_while word_byte (b ∷ z)) 0) ≡ true
first_of_run b z h = rw (letter_in_word b h, one-add) h

piece_sound : (b : ℕ) (z : List ℕ) → IfSome (piece (b ∷ z)).lexeme IsSoundAs
unfolding piece
piece_sound b z =
    let x = b ∷ z in
    let w = take_while word_byte x in
    chosen (is_blank b) (gap 1) _ (λ q. IfSome q.lexeme IsSoundAs) (λ e. tt)
    (λ e. chosen (b == 35) (gap (1 + prefix_len in_comment z)) _ (λ q. IfSome q.lexeme IsSoundAs) (λ e. tt)
    (λ e. chosen (is_ascii_alphabetic b) (word_piece w) _ (λ q. IfSome q.lexeme IsSoundAs)
    (λ letter. word_sound w (nat_lt 64 (length w)) refl (first_of_run b z letter) (all_of_run word_byte x))
    (λ e. chosen (is_ascii_digit b) (number_piece x) (sign_piece (sign x)) (λ q. IfSome q.lexeme IsSoundAs)
    (λ e. number_sound (digits_value 10 (front_digits x ++ places_digits x)) (length (places_digits x)))
    (λ e. sign_sound (sign x)))))

with_piece_sound : (p : Place) (o : Option Lexeme) (ts : List Token) → IfSome o IsSoundAs → AllSound ts
    → AllSound (with_piece p o ts)
with_piece_sound p None ts h s = s
with_piece_sound p (Some l) ts h s = (h, s)

-- all tokens of a text
pub tokens_sound : (n : ℕ) (p : Place) (z : List ℕ) → AllSound (tokens_from n p z)
tokens_sound n p [] = (tt, tt)
tokens_sound (suc n) p (b ∷ z) = tokens_sound n (after p b) z
tokens_sound zero p (b ∷ z) =
    with_piece_sound p (piece (b ∷ z)).lexeme (tokens_from ((piece (b ∷ z)).len - 1) (after p b) z) (piece_sound b z)
    (tokens_sound ((piece (b ∷ z)).len - 1) (after p b) z)
