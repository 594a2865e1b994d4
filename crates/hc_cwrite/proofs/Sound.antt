-- What the tokens of a text say: names that are read so, numbers in range.
use Rattle.std.proofs.Common.{◌≡◌, ◌≤◌, ℕ, pos, Bool, true, false, cond, List, [], ◌∷◌, length, drop, codes, nat_eq, Option, Some, None, refl, ap, sym, subst, one-add, arith}
use Rattle.std.specs.Prelude.{IfSome, ◌&&◌, nat_lt, ◌==◌, slice_index, take_while}
use Rattle.std.specs.List.{list_all, starts_with}
use Rattle.std.specs.Char.{is_ascii_alphabetic, is_ascii_digit}
use Rattle.std.specs.Str.Parse.{digits_value}
use Rattle.std.proofs.lemmas.Bool.Decides.{nat_tests}
use Rattle.hc_frac.specs.Word.{word_byte}
use Rattle.hc_scan.specs.declared.piece.Piece.{Piece}
use Rattle.hc_token.proofs.Either.{either}
use Rattle.hc_token.proofs.Runs.{all_of_run}
use Rattle.hc_token.specs.declared.fixed.Fixed as source_fixed
use Rattle.hc_token.specs.declared.token.Lexeme as source
use Rattle.hc_token.specs.declared.token.Lexeme.TheVariants as src
use Rattle.hc_token.specs.Kinds as source_kinds
use Rattle.hc_token.specs.Pieces.{is_blank}
use Rattle.hc_token.specs.Words as source_words
use Rattle.hc_cast.specs.declared.primitive.Primitive.{Primitive}
use Rattle.hc_cast.specs.Primitives.{primitive_named}
use Rattle.hc_ctoken.specs.declared.fixed.Fixed.{Fixed}
use Rattle.hc_ctoken.specs.declared.token.Lexeme.{Lexeme}
use Rattle.hc_ctoken.specs.declared.token.Lexeme.TheVariants as lex
use Rattle.hc_ctoken.specs.Kinds.{sign, keyword}
use Rattle.hc_ctoken.specs.Numbers.{greatest_number, is_padded, in_range, number_of}
use Rattle.hc_ctoken.specs.Words.{is_numeral, thread_number, thread, named, primitive_or_name, short_word, word}
use Rattle.hc_ctoken.specs.Strings.{said, quoted, other, is_word_or_none, in_quote, string_piece}
use Rattle.hc_ctoken.specs.Pieces.{gap, word_piece, number_piece, sign_piece, piece}
use Rattle.hc_cwrite.proofs.Fine.{IsReadAs, IsQuoted, IsSoundAs}

-- a choice, with its condition where it holds
chosen : {X : Type 0} (b : Bool) (x y : X) (P : X → Type 0) → (b ≡ true → P x) → (b ≡ false → P y) → P (cond b x y)
chosen true x y P f g = f refl
chosen false x y P f g = g refl

-- ---- words

-- what is read of a word names that word
abbrev Names : List ℕ → Lexeme → Type 0
Names w (lex.Array v) = v ≡ w
Names w (lex.Function v) = v ≡ w
Names w (lex.Local v) = v ≡ w
Names w (lex.Thread n) = n ≤ 18446744073709551615
Names w (lex.Number n) = ⊥
Names w (lex.Text v) = ⊥
Names w _ = Unit {0}

thread_names : (w : List ℕ) → Names w (thread w)
thread_names w =
    either (Names w) (starts_with nat_eq w (codes "t") && is_numeral (drop 1 w)) (lex.Thread (thread_number (drop 1 w))) lex.Other
    (omega arith) tt

named_names : (w : List ℕ) → Names w (named w)
named_names w =
    either (Names w) (starts_with nat_eq w (codes "a_")) (lex.Array w) _ refl
    (either (Names w) (starts_with nat_eq w (codes "f_")) (lex.Function w) _ refl
    (either (Names w) (starts_with nat_eq w (codes "v_")) (lex.Local w) (thread w) refl (thread_names w)))

primitive_names : (o : Option Primitive) (w : List ℕ) → Names w (primitive_or_name o w)
primitive_names (Some p) w = tt
primitive_names None w = named_names w

short_names : (o : Option Fixed) (w : List ℕ) → Names w (short_word o w)
short_names (Some one) w = tt
short_names None w = primitive_names (primitive_named w) w

word_names : (w : List ℕ) → Names w (word w)
unfolding word
word_names w = either (Names w) (nat_lt 64 (length w)) lex.LongWord (short_word (keyword w) w) tt (short_names (keyword w) w)

read_as : (w v : List ℕ) (l : Lexeme) → v ≡ w → word w ≡ l → is_ascii_alphabetic (slice_index w 0) ≡ true → list_all word_byte w ≡ true
    → IsReadAs v l
read_as w v l e is letter all =
    let P : List ℕ → Type 0 = λ x. IsReadAs x l in
    subst P (sym e) (record { letter_first = letter; all = all; reads = is })

sound_of : (w : List ℕ) (l : Lexeme) → word w ≡ l → Names w l → is_ascii_alphabetic (slice_index w 0) ≡ true
    → list_all word_byte w ≡ true → IsSoundAs l
sound_of w (lex.Array v) is n letter all = read_as w v (lex.Array v) n is letter all
sound_of w (lex.Function v) is n letter all = read_as w v (lex.Function v) n is letter all
sound_of w (lex.Local v) is n letter all = read_as w v (lex.Local v) n is letter all
sound_of w (lex.Thread k) is n letter all = n
sound_of w (lex.Number k) is n letter all = absurd n
sound_of w (lex.Text v) is n letter all = absurd n
sound_of w _ is n letter all = tt

word_sound : (w : List ℕ) → is_ascii_alphabetic (slice_index w 0) ≡ true → list_all word_byte w ≡ true → IsSoundAs (word w)
word_sound w letter all = sound_of w (word w) refl (word_names w) letter all

-- ---- strings

abbrev NamesIt : List ℕ → source.Lexeme → Type 0
NamesIt w (src.Name v) = v ≡ w
NamesIt w _ = Unit {0}

source_short : (o : Option source_fixed.Fixed) (w : List ℕ) → NamesIt w (source_words.short_word o w)
source_short (Some one) w = tt
source_short None w =
    either (NamesIt w) (source_words.ends_in_dot w) (source_words.before_dot (source_words.front_of w)) (src.Name w)
    (either (NamesIt w) (source_words.is_name (source_words.front_of w)) (src.Rate (source_words.front_of w)) src.Other tt tt) refl

source_names : (w : List ℕ) → NamesIt w (source_words.word w)
unfolding source_words.word
source_names w =
    either (NamesIt w) (nat_lt 64 (length w)) src.LongWord (source_words.short_word (source_kinds.keyword w) w) tt
    (source_short (source_kinds.keyword w) w)

said_sound : (b : ℕ) (w : List ℕ) (l : source.Lexeme) → source_words.word (b ∷ w) ≡ l → NamesIt (b ∷ w) l
    → is_ascii_alphabetic b ≡ true → list_all word_byte (b ∷ w) ≡ true → IsSoundAs (said l)
said_sound b w (src.Name v) is n letter all =
    let Q : List ℕ → Type 0 = λ x. (source_words.word (b ∷ w) ≡ src.Name x) → IsQuoted x in
    subst Q (sym n) (λ e. record { letter_first = letter; all = all; reads = ap said e }) is
said_sound b w src.LongWord is n letter all = tt
said_sound b w _ is n letter all = tt

quoted_sound : (w : List ℕ) → is_word_or_none w ≡ true → list_all word_byte w ≡ true → IsSoundAs (quoted w)
quoted_sound [] letter all = tt
quoted_sound (b ∷ w) letter all = said_sound b w (source_words.word (b ∷ w)) refl (source_names (b ∷ w)) letter all

first_part : (a b : Bool) → a && b ≡ true → a ≡ true
first_part true b h = refl
first_part false b h = absurd (cc)

string_sound : (z : List ℕ) → IfSome (string_piece z).lexeme IsSoundAs
string_sound z =
    let w = take_while word_byte z in
    let quote = in_quote (drop (length w) z) in
    chosen (is_word_or_none w && quote) _ other (λ q. IfSome q.lexeme IsSoundAs)
    (λ e. quoted_sound w (first_part (is_word_or_none w) quote e) (all_of_run word_byte z)) (λ e. tt)

-- ---- numbers and signs

not_above : (n : ℕ) → nat_lt greatest_number n ≡ false → n ≤ greatest_number
not_above n h = grind (arith, nat_tests)

number_sound : (padded : Bool) (n : ℕ) → IsSoundAs (number_of padded n)
unfolding number_of
number_sound padded n =
    chosen (nat_lt greatest_number n) lex.LargeNumber (in_range padded n) IsSoundAs (λ e. tt)
    (λ e. either IsSoundAs padded (lex.Padded (pos n)) (lex.Number (pos n)) tt (n, refl, not_above n e))

sign_sound : (o : Option (Fixed × ℕ)) → IfSome (sign_piece o).lexeme IsSoundAs
sign_sound None = tt
sign_sound (Some s) = tt

letter_in_word : (b : ℕ) → is_ascii_alphabetic b ≡ true → word_byte b ≡ true
letter_in_word b h = grind (arith, nat_tests)

first_of_run : (b : ℕ) (z : List ℕ) → is_ascii_alphabetic b ≡ true
    → is_ascii_alphabetic (slice_index (take_while word_byte (b ∷ z)) 0) ≡ true
first_of_run b z h = rw (letter_in_word b h, one-add) h

pub piece_sound : (b : ℕ) (z : List ℕ) → IfSome (piece (b ∷ z)).lexeme IsSoundAs
unfolding piece
piece_sound b z =
    let x = b ∷ z in
    let w = take_while word_byte x in
    let ds = take_while is_ascii_digit x in
    let P : Piece Lexeme → Type 0 = λ q. IfSome q.lexeme IsSoundAs in
    chosen (is_blank b) gap _ P (λ e. tt)
    (λ e. chosen (is_ascii_alphabetic b) (word_piece w) _ P
    (λ letter. word_sound w (first_of_run b z letter) (all_of_run word_byte x))
    (λ e. chosen (is_ascii_digit b) (number_piece ds) _ P (λ e. number_sound (is_padded ds) (digits_value 10 ds))
    (λ e. chosen (b == 34) (string_piece z) (sign_piece (sign x)) P (λ e. string_sound z) (λ e. sign_sound (sign x)))))
