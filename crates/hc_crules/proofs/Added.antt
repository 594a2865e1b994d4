-- A number that isn't among others goes behind them.
use Rattle.std.proofs.Common.{◌≡◌, refl, ap, ap₂, ◌∙◌, ℤ, false, ◌||◌, if◌then◌else◌, List, [], ◌∷◌, ◌++◌}
use Rattle.std.specs.List.{list_any}
use Rattle.std.specs.Ordering.{int_eq}
use Rattle.std.proofs.lemmas.Cmp.{int_eq_equiv}
use Rattle.indexmap.specs.IndexSet.{insert_key}

turned : (n : ℤ) (ks : List ℤ) → list_any (int_eq n) ks ≡ list_any (λ k. int_eq k n) ks
turned n [] = refl
turned n (k ∷ ks) = ap₂ (λ a b. a || b) (int_eq_equiv.symm n k) (turned n ks)

pub added : (ks new : List ℤ) (n : ℤ) → list_any (λ k. int_eq k n) ks ≡ false → new ≡ insert_key int_eq ks n → new ≡ ks ++ n ∷ []
added ks new n other e = e ∙ ap (λ b. if b then ks else ks ++ n ∷ []) (turned n ks ∙ other)
