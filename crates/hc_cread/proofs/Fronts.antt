-- What a text begins with, told by a test of its front.
use Rattle.std.proofs.Common.{◌≡◌, refl, ap, sym, ◌∙◌, ℕ, Bool, true, false, List, ◌++◌, length, take, drop, nat_eq, ◌⊎◌, inl, inr}
use Rattle.std.specs.Cmp.Lexicographic.{pointwise, same_text, nat_list_eq_equiv}
use Rattle.std.proofs.lemmas.Bool.{false≢true}
use Rattle.std.proofs.lemmas.List.{take-append-drop, take_at}

-- whether the text begins with p, as the test says it
abbrev pub begins : List ℕ → List ℕ → Bool
begins p bytes = pointwise nat_eq (take (length p) bytes) p

pub a_front : (p bytes : List ℕ) → begins p bytes ≡ true → bytes ≡ p ++ drop (length p) bytes
a_front p bytes e =
    sym (take-append-drop (length p) bytes) ∙ ap (λ q. q ++ drop (length p) bytes) (same_text (take (length p) bytes) p (sym e))

pub no_front : (p bytes : List ℕ) → begins p bytes ≡ false → (u : List ℕ) → bytes ≡ p ++ u → ⊥
no_front p bytes e u is =
    let front : take (length p) bytes ≡ p = ap (take (length p)) is ∙ take_at p u (length p) refl in
    false≢true (sym e ∙ ap (λ q. pointwise nat_eq q p) front ∙ nat_list_eq_equiv.refl p)

by_test : (p bytes : List ℕ) (b : Bool) → begins p bytes ≡ b → ((u : List ℕ) × (bytes ≡ p ++ u)) ⊎ ((u : List ℕ) → bytes ≡ p ++ u → ⊥)
by_test p bytes true e = inl (drop (length p) bytes, a_front p bytes e)
by_test p bytes false e = inr (no_front p bytes e)

pub begins_or_not : (p bytes : List ℕ) → ((u : List ℕ) × (bytes ≡ p ++ u)) ⊎ ((u : List ℕ) → bytes ≡ p ++ u → ⊥)
begins_or_not p bytes = by_test p bytes (begins p bytes) refl
