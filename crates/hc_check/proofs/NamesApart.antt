-- Processes keep their different names, and channels that are numbered by first occurrence differ.
use Rattle.std.proofs.Common.{◌≡◌, refl, ap, ap₂, ◌∙◌, Bool, true, false, not, ◌&&◌, ◌||◌, cond, nat_eq, List, [], ◌∷◌, map, filter}
use Rattle.std.specs.Prelude.{IsTrue}
use Rattle.std.specs.List.{list_any}
use Rattle.std.specs.Cmp.Lexicographic.{pointwise}
use Rattle.hc_ast.specs.Bare.{Word}
use Rattle.hc_term.specs.Profile.{all_apart}
use Rattle.hc_term.specs.Rules.{same_name}
use Rattle.hc_modules.specs.declared.flat.FlatProcess.{FlatProcess}
use Rattle.hc_modules.specs.Bindings.{same_word}
use Rattle.hc_modules.specs.Well.{names_apart}
use Rattle.hc_finds.specs.Names.{first_occurrences}
use Rattle.hc_check.specs.Numbered.{process_over}

-- ---- processes

module _ (cs : List Word) where
  same_among : (p : FlatProcess) (ps : List FlatProcess)
      → list_any (same_name (process_over cs p)) (map (process_over cs) ps) ≡ list_any (λ q. same_word p.name q.name) ps
  same_among p [] = refl
  same_among p (q ∷ ps) = ap (λ b. same_word p.name q.name || b) (same_among p ps)

  apart_same : (ps : List FlatProcess) → all_apart same_name (map (process_over cs) ps) ≡ names_apart ps
  apart_same [] = refl
  apart_same (p ∷ ps) = ap₂ (λ a b. not a && b) (same_among p ps) (apart_same ps)

  pub processes_apart : (ps : List FlatProcess) → IsTrue (names_apart ps) → IsTrue (all_apart same_name (map (process_over cs) ps))
  processes_apart ps h = apart_same ps ∙ h

-- ---- channels

first_true : (a b : Bool) → IsTrue (a && b) → IsTrue a
first_true true b h = refl
first_true false b h = h

second_true : (a b : Bool) → IsTrue (a && b) → IsTrue b
second_true true b h = h
second_true false b h = absurd (cc)

both_true : (a b : Bool) → IsTrue a → IsTrue b → IsTrue (a && b)
both_true true b e h = h
both_true false b e h = e

neither : (a b : Bool) → IsTrue (not a) → IsTrue (not b) → IsTrue (not (a || b))
neither true b e h = e
neither false b e h = h

not_first : (a b : Bool) → IsTrue (not (a || b)) → IsTrue (not a)
not_first true b h = h
not_first false b h = refl

not_second : (a b : Bool) → IsTrue (not (a || b)) → IsTrue (not b)
not_second true b h = absurd (cc)
not_second false b h = h

module _ {X : Type 0} where
  one_less : (p : X → Bool) (x : X) (xs : List X) (b : Bool) → p x ≡ b → IsTrue (not (list_any p xs)) → IsTrue (not (list_any p (cond (not b) (x ∷ xs) xs)))
  one_less p x xs true e h = h
  one_less p x xs false e h = ap (λ b. not (b || list_any p xs)) e ∙ h

  -- none is left of those that are taken out
  none_left : (p : X → Bool) (xs : List X) → IsTrue (not (list_any p (filter (λ x. not (p x)) xs)))
  none_left p [] = refl
  none_left p (x ∷ xs) = one_less p x (filter (λ y. not (p y)) xs) (p x) refl (none_left p xs)

  -- none comes in by a filter
  none_more : (p q : X → Bool) (xs : List X) → IsTrue (not (list_any p xs)) → IsTrue (not (list_any p (filter q xs)))
  none_more p q [] h = refl
  none_more p q (x ∷ xs) h =
      let more = none_more p q xs (not_second (p x) (list_any p xs) h) in
      elim (q x) as (λ b. IsTrue (not (list_any p (cond b (x ∷ filter q xs) (filter q xs))))) [
        | true ↦ neither (p x) (list_any p (filter q xs)) (not_first (p x) (list_any p xs) h) more
        | false ↦ more
      ]

  apart_filtered : (same : X → X → Bool) (q : X → Bool) (xs : List X) → IsTrue (all_apart same xs) → IsTrue (all_apart same (filter q xs))
  apart_filtered same q [] h = refl
  apart_filtered same q (x ∷ xs) h =
      let more = apart_filtered same q xs (second_true (not (list_any (same x) xs)) (all_apart same xs) h) in
      elim (q x) as (λ b. IsTrue (all_apart same (cond b (x ∷ filter q xs) (filter q xs)))) [
        | true ↦ both_true (not (list_any (same x) (filter q xs))) (all_apart same (filter q xs))
            (none_more (same x) q xs (first_true (not (list_any (same x) xs)) (all_apart same xs) h)) more
        | false ↦ more
      ]

pub channels_apart : (xs : List Word) → IsTrue (all_apart (pointwise nat_eq) (first_occurrences xs))
channels_apart [] = refl
channels_apart (x ∷ xs) =
    both_true (not (list_any (same_word x) (filter (λ y. not (same_word x y)) (first_occurrences xs))))
    (all_apart (pointwise nat_eq) (filter (λ y. not (same_word x y)) (first_occurrences xs)))
    (none_left (same_word x) (first_occurrences xs))
    (apart_filtered (pointwise nat_eq) (λ y. not (same_word x y)) (first_occurrences xs) (channels_apart xs))
