-- The items of a stretch.
use Rattle.std.proofs.Common.{◌≡◌, refl, sym, ap, ◌∙◌, ℕ, zero, suc, ◌+◌, List, [], ◌∷◌, ◌++◌, replicate, Option, None, add-one}
use Rattle.std.proofs.lemmas.List.{append_assoc}
use Rattle.hc_rational.specs.Words.{Rational}
use Rattle.hc_term.specs.declared.run.Step.TheVariants.{Silent}
use Rattle.hc_term.specs.declared.run.Item.{Item}
use Rattle.hc_term.specs.Event.{silent_items}

module _ (clock : Rational) (p : ℕ) where
  -- one step more
  pub silent_items-push : (ls : List (Option Rational)) (l : Option Rational) →
      silent_items clock p (ls ++ l ∷ []) ≡ silent_items clock p ls ++ record { at = clock; step = Silent p l } ∷ []
  silent_items-push [] l = refl
  silent_items-push (k ∷ ls) l = ap (λ (is : List Item). record { at = clock; step = Silent p k } ∷ is) (silent_items-push ls l)

pub replicate-push : {A : Type 0} (n : ℕ) (x : A) → replicate (suc n) x ≡ replicate n x ++ x ∷ []
replicate-push zero x = refl
replicate-push (suc n) x = ap (λ l. x ∷ l) (replicate-push n x)

module _ (clock : Rational) (p : ℕ) (before now new : List Item) (l : Option Rational) where
  -- one item more behind the steps so far
  pub items-push : (ls : List (Option Rational)) → now ≡ before ++ silent_items clock p ls →
      new ≡ now ++ record { at = clock; step = Silent p l } ∷ [] → new ≡ before ++ silent_items clock p (ls ++ l ∷ [])
  items-push ls h e =
      e ∙ ap (λ (is : List Item). is ++ record { at = clock; step = Silent p l } ∷ []) h
      ∙ append_assoc before (silent_items clock p ls) (record { at = clock; step = Silent p l } ∷ [])
      ∙ ap (λ (is : List Item). before ++ is) (sym (silent_items-push clock p ls l))

abbrev nothing : Option Rational
nothing = None

pub quiet-push : (clock : Rational) (p : ℕ) (before now new : List Item) (n : ℕ) →
    now ≡ before ++ silent_items clock p (replicate n None) → new ≡ now ++ record { at = clock; step = Silent p None } ∷ [] →
    new ≡ before ++ silent_items clock p (replicate (n + 1) None)
quiet-push clock p before now new n h e =
    let one : replicate (n + 1) nothing ≡ replicate n nothing ++ nothing ∷ [] =
    ap (λ (k : ℕ). replicate k nothing) (add-one n) ∙ replicate-push n nothing in
    items-push clock p before now new nothing (replicate n nothing) h e
    ∙ ap (λ (ls : List (Option Rational)). before ++ silent_items clock p ls) (sym one)
