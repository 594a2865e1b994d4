-- The first token of a word of the source language is that word.
use Rattle.std.proofs.Common.{◌≡◌, ◌==◌, ◌<◌, ◌+◌, ◌-◌, ℕ, Bool, true, false, cond, List, [], ◌∷◌, length, take, refl, sym, ap, ◌∙◌, arith, one-add}
use Rattle.std.specs.Prelude.{IsTrue, slice_index, take_while, nat_lt}
use Rattle.std.specs.List.{list_all, prefix_len}
use Rattle.std.specs.Char.{is_ascii_alphabetic}
use Rattle.std.proofs.lemmas.Bool.{and_parts, false≢true}
use Rattle.std.proofs.lemmas.Bool.Decides.{nat_tests}
use Rattle.hc_frac.specs.Word.{word_byte}
use Rattle.hc_scan.specs.Tokens as scan
use Rattle.hc_token.specs.declared.token.Lexeme.TheVariants as src
use Rattle.hc_token.specs.declared.token.Token.{Token}
use Rattle.hc_token.specs.Kinds.{keyword}
use Rattle.hc_token.specs.Words.{short_word, word}
use Rattle.hc_token.specs.Pieces.{is_blank, word_piece, piece}
use Rattle.hc_token.specs.Tokens.{tokens_of, tokens_from, token_at, first_place, after}
use Rattle.hc_ctoken.specs.declared.token.Lexeme.TheVariants as lex
use Rattle.hc_ctoken.specs.Strings.{said, quoted}

not_blank : (b : ℕ) → is_ascii_alphabetic b ≡ true → is_blank b ≡ false
not_blank b h = grind (arith, nat_tests)

not_hash : (b : ℕ) → is_ascii_alphabetic b ≡ true → (b == 35) ≡ false
not_hash b h = grind (arith, nat_tests)

-- two tests that fail, and one that holds
third : {X : Type 0} (a b c : Bool) (x y z v : X) → a ≡ false → b ≡ false → c ≡ true
    → cond a x (cond b y (cond c z v)) ≡ z
third a b c x y z v e f g = rw (e, f, g)

letter_in_front : (b : ℕ) (y : List ℕ) → is_ascii_alphabetic b ≡ true
    → piece (b ∷ y) ≡ word_piece (take_while word_byte (b ∷ y))
unfolding piece
letter_in_front b y h =
    third (is_blank b) (b == 35) (is_ascii_alphabetic b) _ _ _ _ (not_blank b h) (not_hash b h) h

take_all : (p : ℕ → Bool) (b : ℕ) (w : List ℕ) (t : Bool) → t ≡ true → take (prefix_len p w) w ≡ w
    → take (cond t (1 + prefix_len p w) 0) (b ∷ w) ≡ b ∷ w
take_all p b w true e h = rw one-add (ap (λ v. b ∷ v) h)
take_all p b w false e h = absurd (cc)

all_taken : (p : ℕ → Bool) (w : List ℕ) → list_all p w ≡ true → take_while p w ≡ w
all_taken p [] h = refl
all_taken p (b ∷ w) h =
    let both = and_parts (p b) (list_all p w) h in
    take_all p b w (p b) both.0 (all_taken p w both.1)

-- the tokens of a word begin with it
pub first_token : (w : List ℕ) → IsTrue (is_ascii_alphabetic (slice_index w 0)) → IsTrue (list_all word_byte w)
    → (rest : List Token) × (tokens_of w ≡ token_at first_place (word w) ∷ rest)
first_token [] letter all = absurd (false≢true letter)
first_token (b ∷ w) letter all =
    let whole = letter_in_front b w letter ∙ ap word_piece (all_taken word_byte (b ∷ w) all) in (
      tokens_from ((piece (b ∷ w)).len - 1) (after first_place b) w,
      ap (λ q. scan.with_piece piece token_at src.End first_place q.lexeme (tokens_from ((piece (b ∷ w)).len - 1) (after first_place b) w)) whole,
    )

first_of : (x y : Token) (xs ys : List Token) → x ∷ xs ≡ y ∷ ys → x.lexeme ≡ y.lexeme
first_of x y xs ys e = cc

-- so the first token says that word
pub said_first : (w : List ℕ) (t : Token) (ts : List Token) → IsTrue (is_ascii_alphabetic (slice_index w 0)) → IsTrue (list_all word_byte w)
    → tokens_of w ≡ t ∷ ts → t.lexeme ≡ word w
said_first w t ts letter all e =
    let (rest, f) = first_token w letter all in
    first_of t (token_at first_place (word w)) ts rest (sym e ∙ f)

-- a word above the limit
long_word : (w : List ℕ) → 64 < length w → word w ≡ src.LongWord
unfolding word
long_word w h =
    let e : nat_lt 64 (length w) ≡ true = grind (arith, nat_tests) in
    ap (λ b. cond b src.LongWord (short_word (keyword w) w)) e

pub long_quoted : (w : List ℕ) → 64 < length w → lex.LongWord ≡ quoted w
long_quoted [] h = absurd (omega arith)
long_quoted (b ∷ w) h = sym (ap said (long_word (b ∷ w) h))
