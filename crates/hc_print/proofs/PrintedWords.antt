-- Names and rates are read as they are written.
use Rattle.std.proofs.Common.{◌≡◌, ◌<◌, ℕ, ◌+◌, Bool, true, false, cond, List, [], ◌∷◌, ◌++◌, length, take, codes, Some, refl, ap, sym, ◌∙◌, append_assoc, arith}
use Rattle.std.specs.Prelude.{◌==◌, take_while}
use Rattle.std.specs.Char.{is_ascii_alphabetic}
use Rattle.std.specs.List.{list_all, prefix_len}
use Rattle.std.proofs.lemmas.Bool.{false≢true, and_parts}
use Rattle.std.proofs.lemmas.Bool.Decides.{nat_tests}
use Rattle.std.proofs.Math.Seq.{take-append_seam}
use Rattle.hc_frac.specs.declared.place.Place.{Place}
use Rattle.hc_frac.specs.Word.{word_byte}
use Rattle.hc_token.specs.declared.token.Lexeme.{Lexeme}
use Rattle.hc_token.specs.declared.token.Lexeme.TheVariants as lex
use Rattle.hc_token.specs.Words as words
use Rattle.hc_token.specs.Pieces.{is_blank, word_piece, piece}
use Rattle.hc_token.specs.Tokens.{token_at, tokens_from}
use Rattle.hc_ast.specs.Bare.{Word}
use Rattle.hc_print.specs.Lexemes.{named, rated}
use Rattle.hc_print.specs.Written.{token_text}
use Rattle.hc_print.proofs.Printed.{Reads, one_token}
use Rattle.hc_print.proofs.Sound.{IsReadAs, GoodName, GoodRate}

-- a run of elements that pass a test ends where one doesn't
prefix_before : (p : ℕ → Bool) (w : List ℕ) (b : ℕ) (z : List ℕ) → list_all p w ≡ true → p b ≡ false
    → prefix_len p (w ++ b ∷ z) ≡ length w
prefix_before p [] b z h e = ap (λ c. cond c (1 + prefix_len p z) 0) e
prefix_before p (x ∷ w) b z h e =
    let parts = and_parts (p x) (list_all p w) h in
    let rest : 1 + prefix_len p (w ++ b ∷ z) ≡ length (x ∷ w) = omega (arith, prefix_before p w b z parts.1 e) in
    ap (λ c. cond c (1 + prefix_len p (w ++ b ∷ z)) 0) parts.0 ∙ rest

pub run_before : (p : ℕ → Bool) (w : List ℕ) (b : ℕ) (z : List ℕ) → list_all p w ≡ true → p b ≡ false
    → take_while p (w ++ b ∷ z) ≡ w
run_before p w b z h e =
    ap (λ n. take n (w ++ b ∷ z)) (prefix_before p w b z h e) ∙ take-append_seam w (b ∷ z)

third : {X : Type 0} (a b c : Bool) (x y z w : X) → a ≡ false → b ≡ false → c ≡ true
    → cond a x (cond b y (cond c z w)) ≡ z
third a b c x y z w e f g = rw (e, f, g)

not_blank : (b : ℕ) → is_ascii_alphabetic b ≡ true → is_blank b ≡ false
not_blank b h = grind (arith, nat_tests)

not_hash : (b : ℕ) → is_ascii_alphabetic b ≡ true → (b == 35) ≡ false
not_hash b h = grind (arith, nat_tests)

word_in_front : (b : ℕ) (y : List ℕ) → is_ascii_alphabetic b ≡ true
    → piece (b ∷ y) ≡ word_piece (take_while word_byte (b ∷ y))
unfolding piece
word_in_front b y h = third (is_blank b) (b == 35) (is_ascii_alphabetic b) _ _ _ _ (not_blank b h) (not_hash b h) h

word_read : (w z : List ℕ) (l : Lexeme) → IsReadAs w l
    → (0 < length w) × ((piece (w ++ 32 ∷ z)).len ≡ length w) × ((piece (w ++ 32 ∷ z)).lexeme ≡ Some l)
word_read [] z l good = absurd (false≢true good.letter_first)
word_read (b ∷ w) z l good =
    let run = run_before word_byte (b ∷ w) 32 z good.all refl in (
      omega arith,
      rw (word_in_front b (w ++ 32 ∷ z) good.letter_first) (ap length run),
      rw (word_in_front b (w ++ 32 ∷ z) good.letter_first) (ap (λ x. Some (words.word x)) run ∙ ap Some good.reads),
    )

pub named_read : (w : Word) → GoodName w → (p : Place) (z : List ℕ) → Reads (named w) z (tokens_from 0 p (token_text (named w) z))
named_read w good p z =
    let r = word_read w z (lex.Name w) good in record {
      first = token_at p (lex.Name w);
      place = _;
      is = refl;
      all = one_token w z (lex.Name w) p r.0 r.1 r.2;
    }

pub rated_read : (w : Word) → GoodRate w → (p : Place) (z : List ℕ) → Reads (rated w) z (tokens_from 0 p (token_text (rated w) z))
rated_read w good p z =
    let x = w ++ codes "_dot" in
    let r = word_read x z (lex.Rate w) good in
    let same : token_text (rated w) z ≡ x ++ 32 ∷ z =
    append_assoc w (codes "_dot ") z ∙ sym (append_assoc w (codes "_dot") (32 ∷ z)) in record {
      first = token_at p (lex.Rate w);
      place = _;
      is = refl;
      all = ap (tokens_from 0 p) same ∙ one_token x z (lex.Rate w) p r.0 r.1 r.2;
    }
