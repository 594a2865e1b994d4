-- A list of lines with a tail behind them, as the rest of a text.
use Rattle.std.proofs.Common.{◌≡◌, ℕ, ◌+◌, ◌<◌, ◌≤◌, List, ◌++◌, length, get_or, drop, sym, ap, ◌∙◌, append_assoc}
use Rattle.std.specs.List.{flat_map}
use Rattle.std.proofs.lemmas.List.{at_drop_more, drop_all}

-- the rest at the index i is the line of the item x there, and the rest at the next index
pub lines_next : {X : Type 0} (line : X → List ℕ) (xs : List X) (i : ℕ) (x : X) (tail : List ℕ)
    → i < length xs → x ≡ get_or xs i x
    → flat_map line (drop i xs) ++ tail ≡ line x ++ (flat_map line (drop (i + 1) xs) ++ tail)
lines_next line xs i x tail some is_item =
    let after = drop (i + 1) xs in
    at_drop_more (λ ys. flat_map line ys ++ tail) xs i x some
    ∙ ap (λ item. (line item ++ flat_map line after) ++ tail) (sym is_item)
    ∙ append_assoc (line x) (flat_map line after) tail

-- the rest behind the last line is the tail
pub lines_end : {X : Type 0} (line : X → List ℕ) (xs : List X) (i : ℕ) (tail : List ℕ)
    → length xs ≤ i → flat_map line (drop i xs) ++ tail ≡ tail
lines_end {X} line xs i tail none =
    ap (λ (ys : List X). flat_map line ys ++ tail) (drop_all i xs none)
