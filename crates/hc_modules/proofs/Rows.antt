-- Lists in a row.
use Rattle.std.proofs.Common.{◌≡◌, ap, ◌∙◌, List, ◌++◌, map, flat_map}
use Rattle.std.proofs.lemmas.List.Folds.{flat_map-map}
use Rattle.hc_modules.specs.Outermost.{in_a_row}

pub rows : {X Y : Type 0} (f : X → List Y) (xs : List X) → in_a_row (map f xs) ≡ flat_map f xs
rows {Y = Y} f xs = flat_map-map (λ (ys : List Y). ys) f xs

pub both_rows : {X Y : Type 0} (f : X → List Y) (xs zs : List X)
    → in_a_row (map f xs) ++ in_a_row (map f zs) ≡ flat_map f xs ++ flat_map f zs
both_rows f xs zs = ap (λ us. us ++ in_a_row (map f zs)) (rows f xs) ∙ ap (λ vs. flat_map f xs ++ vs) (rows f zs)
