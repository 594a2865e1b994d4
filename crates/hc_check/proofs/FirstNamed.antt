-- Each name is among the first occurrences.
use Rattle.std.proofs.Common.{◌≡◌, refl, sym, ap, ◌∙◌, Bool, true, false, not, cond, ◌||◌, IsTrue, List, [], ◌∷◌, filter}
use Rattle.std.proofs.lemmas.Bool.{true≢false}
use Rattle.std.proofs.lemmas.Cmp.{nat_list_eq_equiv}
use Rattle.hc_ast.specs.Bare.{Word}
use Rattle.hc_modules.specs.Bindings.{same_word}
use Rattle.hc_modules.proofs.Induction.{Each}
use Rattle.hc_finds.specs.Names.{first_occurrences}
use Rattle.hc_check.proofs.Clean.{is_named}

-- a name stays named where others than it are left out
stays_named : (w x : Word) (ys : List Word) → same_word w x ≡ false → IsTrue (is_named ys x) → IsTrue (is_named (filter (λ y. not (same_word w y)) ys) x)
stays_named w x [] n h = h
stays_named w x (y ∷ ys) n h = by (same_word w y) (same_word x y) refl refl h (stays_named w x ys n)
  where
    by : (b c : Bool) → same_word w y ≡ b → same_word x y ≡ c → IsTrue (c || is_named ys x)
        → (IsTrue (is_named ys x) → IsTrue (is_named (filter (λ y. not (same_word w y)) ys) x))
        → IsTrue (is_named (cond (not b) (y ∷ filter (λ y. not (same_word w y)) ys) (filter (λ y. not (same_word w y)) ys)) x)
    by true true e f g rest = absurd (true≢false (sym f ∙ sym (nat_list_eq_equiv.symm y x) ∙ sym (nat_list_eq_equiv.congr w y x e) ∙ n))
    by true false e f g rest = rest g
    by false true e f g rest = ap (λ c. c || is_named (filter (λ y. not (same_word w y)) ys) x) f
    by false false e f g rest = ap (λ c. c || is_named (filter (λ y. not (same_word w y)) ys) x) f ∙ rest g

-- a name is named with others before it
named_behind : (w x : Word) (ws : List Word) → IsTrue (is_named (first_occurrences ws) x) → IsTrue (is_named (first_occurrences (w ∷ ws)) x)
named_behind w x ws h = by (same_word w x) refl
  where
    by : (b : Bool) → same_word w x ≡ b → IsTrue (same_word x w || is_named (filter (λ y. not (same_word w y)) (first_occurrences ws)) x)
    by true e = ap (λ c. c || is_named (filter (λ y. not (same_word w y)) (first_occurrences ws)) x) (nat_list_eq_equiv.symm x w ∙ e)
    by false e =
        ap (λ c. c || is_named (filter (λ y. not (same_word w y)) (first_occurrences ws)) x) (nat_list_eq_equiv.symm x w ∙ e)
        ∙ stays_named w x (first_occurrences ws) e h

each_behind : (w : Word) (ws xs : List Word) → Each (λ x. IsTrue (is_named (first_occurrences ws) x)) xs
    → Each (λ x. IsTrue (is_named (first_occurrences (w ∷ ws)) x)) xs
each_behind w ws [] h = tt
each_behind w ws (x ∷ xs) h = (named_behind w x ws h.0, each_behind w ws xs h.1)

pub all_named : (ws : List Word) → Each (λ x. IsTrue (is_named (first_occurrences ws) x)) ws
all_named [] = tt
all_named (w ∷ ws) = (
  ap (λ c. c || is_named (filter (λ y. not (same_word w y)) (first_occurrences ws)) w) (nat_list_eq_equiv.refl w),
  each_behind w ws ws (all_named ws),
)
