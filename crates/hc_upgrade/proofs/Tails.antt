-- A line is its first word and the others.
use Rattle.std.proofs.Common.{◌≡◌, ℕ, Bor, List, [], ◌∷◌, ◌++◌, map, refl, ap}
use Rattle.hc_term.specs.TraceText.{words}
use Rattle.hc_upgrade.specs.Tails.{tail}

pub words_tail : (w : List ℕ) (vs : List (Bor (List ℕ))) → words (w ∷ map (λ v. v.now) vs) ≡ w ++ tail vs
words_tail w [] = refl
words_tail w (v ∷ vs) = ap (λ bytes. w ++ 32 ∷ bytes) (words_tail v.now vs)
