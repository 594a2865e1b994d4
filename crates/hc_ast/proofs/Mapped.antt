-- When two lists are mapped to the same list.
use Rattle.std.proofs.Common.{◌≡◌, refl, ap, sym, ◌∙◌, Bool, false, IsTrue, ◌↔◌, ℕ, ◌+◌, ◌<◌, List, [], ◌∷◌, ◌++◌, map, length, get_or, take, arith}
use Rattle.std.proofs.lemmas.List.{take_more, map-append, length-map, get_or-map}
use Rattle.hc_ast.specs.Bare.{BareIo, BareStmt, BareStmts}
use Rattle.hc_ast.specs.Unplaced.{in_order, among}

module _ {X Y : Type 0} (f : X → Y) (xs ys : List X) where
  -- they are equally long
  pub mapped_length : map f xs ≡ map f ys → length xs ≡ length ys
  mapped_length e = sym (length-map xs f) ∙ ap length e ∙ length-map ys f

  -- and equal place by place
  pub mapped_at : (i : ℕ) (x y : X) → map f xs ≡ map f ys → i < length xs → f (get_or xs i x) ≡ f (get_or ys i y)
  mapped_at i x y e h =
      let h' : i < length ys = omega (arith, mapped_length e) in
      sym (get_or-map f xs i x (f x) h) ∙ ap (λ zs. get_or zs i (f x)) e ∙ get_or-map f ys i y (f x) h'

  -- one place more
  pub mapped_more : (i : ℕ) (x y : X) → map f (take i xs) ≡ map f (take i ys) → i < length xs → i < length ys
      → f (get_or xs i x) ≡ f (get_or ys i y) → map f (take (i + 1) xs) ≡ map f (take (i + 1) ys)
  mapped_more i x y e h k g =
      ap (map f) (take_more xs i x h) ∙ map-append f (take i xs) (get_or xs i x ∷ [])
      ∙ ap (λ zs. zs ++ f (get_or xs i x) ∷ []) e ∙ ap (λ z. map f (take i ys) ++ z ∷ []) g
      ∙ sym (ap (map f) (take_more ys i y k) ∙ map-append f (take i ys) (get_or ys i y ∷ []))

-- lists that are in order alike are alike
pub same_order : (xs ys : List BareStmt) → in_order xs ≡ in_order ys → xs ≡ ys
same_order [] [] e = refl
same_order [] (y ∷ ys) e = absurd (cc)
same_order (x ∷ xs) [] e = absurd (cc)
same_order (x ∷ xs) (y ∷ ys) e = let rest = same_order xs ys (cc) in cc

pub same_among : (xs ys : List (BareIo × BareStmts)) → among xs ≡ among ys → xs ≡ ys
same_among [] [] e = refl
same_among [] (y ∷ ys) e = absurd (cc)
same_among (x ∷ xs) [] e = absurd (cc)
same_among ((a, b) ∷ xs) ((c, d) ∷ ys) e = let rest = same_among xs ys (cc) in cc

-- a test that fails where less is asked fails where more is
pub fails_for_more : {P Q : Type 0} (answer : Bool) → answer ≡ false → IsTrue answer ↔ P → (Q → P) → IsTrue answer ↔ Q
fails_for_more answer e less more = ((λ holds. absurd (never answer e holds)), (λ q. less.1 (more q)))
  where
    never : (answer : Bool) → answer ≡ false → IsTrue answer → ⊥
    never answer e h = cc

-- and then false is the answer
pub false_for_more : {P Q : Type 0} (answer : Bool) → answer ≡ false → IsTrue answer ↔ P → (Q → P) → IsTrue false ↔ Q
false_for_more {Q = Q} answer e less more =
    let both : IsTrue answer ↔ Q = fails_for_more answer e less more in rw e at both

-- lists of two lengths aren't mapped alike
pub false_for_lengths : {X Y : Type 0} (f : X → Y) (xs ys : List X) {Q : Type 0} → (length xs ≡ length ys → ⊥)
    → (Q → map f xs ≡ map f ys) → IsTrue false ↔ Q
false_for_lengths f xs ys other more = ((λ holds. absurd (never holds)), (λ q. absurd (other (mapped_length f xs ys (more q)))))
  where
    never : IsTrue false → ⊥
    never h = cc
