-- A line under way: its words so far, and those that come.
use Rattle.std.proofs.Common.{◌≡◌, ℕ, ◌+◌, ◌<◌, ◌≤◌, Bor, List, [], ◌∷◌, ◌++◌, length, get_or, drop, map, refl, sym, ap, ◌∙◌, arith, length-append}
use Rattle.std.proofs.lemmas.List.{at_drop_more, drop_all}
use Rattle.hc_term.specs.TraceText.{words}

-- words with a space in front of each, and the newline
abbrev pub tail : List (Bor (List ℕ)) → List ℕ
tail [] = 10 ∷ []
tail (v ∷ vs) = 32 ∷ (v.now ++ tail vs)

-- a line is its first word and the others
pub words_tail : (w : List ℕ) (vs : List (Bor (List ℕ))) → words (w ∷ map (λ v. v.now) vs) ≡ w ++ tail vs
words_tail w [] = refl
words_tail w (v ∷ vs) = ap (λ bytes. w ++ 32 ∷ bytes) (words_tail v.now vs)

-- the tail at the index i is the word there behind a space, and the tail at the next index
pub tail_next : (vs : List (Bor (List ℕ))) (i : ℕ) (v : Bor (List ℕ)) → i < length vs → v ≡ get_or vs i v
    → tail (drop i vs) ≡ 32 ∷ (v.now ++ tail (drop (i + 1) vs))
tail_next vs i v some is_item =
    at_drop_more tail vs i v some ∙ ap (λ item. 32 ∷ (item.now ++ tail (drop (i + 1) vs))) (sym is_item)

-- the tail behind the last word is the newline
pub tail_end : (vs : List (Bor (List ℕ))) (i : ℕ) → length vs ≤ i → tail (drop i vs) ≡ 10 ∷ []
tail_end vs i none = ap tail (drop_all i vs none)

-- where the whole line has room, so has the next word
pub word_fits : (line v rest whole : List ℕ) → line ++ 32 ∷ (v ++ rest) ≡ whole → length whole ≤ 320 → length line + 1 + length v ≤ 320
word_fits line v rest whole e room =
    omega (arith, ap length e, length-append line (32 ∷ (v ++ rest)), length-append v rest)

-- and the newline
pub end_fits : (line whole : List ℕ) → line ++ 10 ∷ [] ≡ whole → length whole ≤ 320 → length line + 1 ≤ 320
end_fits line whole e room = omega (arith, ap length e, length-append line (10 ∷ []))
