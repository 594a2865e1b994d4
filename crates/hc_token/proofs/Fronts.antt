-- What stands in front of `_dot` in a word is a word.
use Rattle.std.proofs.Common.{◌≡◌, ℕ, zero, suc, ◌+◌, ◌-◌, ◌≤◌, true, Bool, List, [], ◌∷◌, length, take, drop, slice_index, refl, codes, nat_eq, length-take, arith}
use Rattle.std.specs.Prelude.{IsTrue}
use Rattle.std.specs.List.{list_all}
use Rattle.std.specs.Char.{is_ascii_alphabetic}
use Rattle.std.specs.Cmp.Lexicographic.{pointwise}
use Rattle.std.proofs.lemmas.Bool.{and_parts}
use Rattle.std.proofs.lemmas.Bool.Decides.{nat_tests}
use Rattle.hc_frac.specs.Word.{IsWord, word_byte}
use Rattle.hc_token.specs.Words.{ends_in_dot, front_of}

all_of_front : (p : ℕ → Bool) (n : ℕ) (w : List ℕ) → IsTrue (list_all p w) → IsTrue (list_all p (take n w))
all_of_front p zero w h = refl
all_of_front p (suc n) [] h = refl
all_of_front p (suc n) (b ∷ w) h =
    let both = and_parts (p b) (list_all p w) h in
    rw (both.0) (all_of_front p n w both.1)

first_of_front : (n : ℕ) (w : List ℕ) → n + 4 ≡ length w → IsTrue (is_ascii_alphabetic (slice_index w 0))
    → pointwise nat_eq (codes "_dot") (drop n w) ≡ true
    → IsTrue (is_ascii_alphabetic (slice_index (take n w) 0))
first_of_front zero [] e letter ends = absurd (omega arith)
first_of_front zero (b ∷ w) e letter ends =
    let first : nat_eq 95 b ≡ true = (and_parts (nat_eq 95 b) _ ends).0 in
    absurd (grind (arith, nat_tests))
first_of_front (suc n) [] e letter ends = letter
first_of_front (suc n) (b ∷ w) e letter ends = letter

pub front_is_word : (w : List ℕ)
    → IsTrue (is_ascii_alphabetic (slice_index w 0)) → IsTrue (list_all word_byte w)
    → length w ≤ 64 → 4 ≤ length w → ends_in_dot w ≡ true → IsWord (front_of w)
front_is_word w letter all short long ends = record {
  letter_first = first_of_front (length w - 4) w (omega arith) letter ends;
  all = all_of_front word_byte (length w - 4) w all;
  short = simp length-take (omega arith);
}
