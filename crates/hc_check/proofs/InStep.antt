-- Names and processes that stand at one place of their lists.
use Rattle.std.proofs.Common.{◌≡◌, ap, sym, ◌∙◌, subst, ℕ, zero, suc, ◌+◌, ◌<◌, ◌≤◌, List, [], ◌∷◌, ◌++◌, map, take, length, get_or, arith}
use Rattle.std.proofs.lemmas.List.{get_or-map, take_more, map-append}
use Rattle.hc_modules.specs.declared.flat.FlatProcess.{FlatProcess}
use Rattle.hc_modules.proofs.Induction.{Each}
use Rattle.hc_finds.specs.Limits.{variables_of}
use Rattle.hc_finds.specs.Refusals.{refusals}
use Rattle.hc_check.proofs.FromRefusals.{few_variables}

each_at : {X : Type 0} (P : X → Type 0) (xs : List X) (i : ℕ) (d : X) → Each P xs → i < length xs → P (get_or xs i d)
each_at P [] i d es h = absurd (omega arith)
each_at P (x ∷ xs) zero d es h = es.0
each_at P (x ∷ xs) (suc i) d es h = each_at P xs i d es.1 (omega arith)

-- lists that are mapped alike have alike elements
pub at_one_place : {X Y Z : Type 0} (f : X → Z) (g : Y → Z) (xs : List X) (ys : List Y) (i : ℕ) (x : X) (y : Y) → map f xs ≡ map g ys
    → i < length xs → i < length ys → x ≡ get_or xs i x → y ≡ get_or ys i y → f x ≡ g y
at_one_place f g xs ys i x y e h k at_x at_y =
    ap f at_x ∙ sym (get_or-map f xs i x (f x) h) ∙ ap (λ zs. get_or zs i (f x)) e ∙ get_or-map g ys i y (f x) k ∙ ap g (sym at_y)

-- one element more
pub one_further : {X Z : Type 0} (f : X → Z) (xs : List X) (i : ℕ) (x : X) (before after : List Z) → i < length xs → x ≡ get_or xs i x
    → before ≡ map f (take i xs) → after ≡ before ++ f x ∷ [] → after ≡ map f (take (i + 1) xs)
one_further f xs i x before after h at_x was pushed =
    pushed ∙ ap (λ zs. zs ++ f x ∷ []) was ∙ ap (λ z. map f (take i xs) ++ z ∷ []) (ap f at_x)
    ∙ sym (ap (map f) (take_more xs i x h) ∙ map-append f (take i xs) (get_or xs i x ∷ []))

-- a process among those against which nothing is found has few variables
pub few_at : (ps : List FlatProcess) (i : ℕ) (p : FlatProcess) → refusals ps ≡ [] → i < length ps → p ≡ get_or ps i p
    → length (variables_of p) ≤ 64
few_at ps i p none h at_p =
    subst (λ (q : FlatProcess). length (variables_of q) ≤ 64) (sym at_p)
    (each_at (λ q. length (variables_of q) ≤ 64) ps i p (few_variables ps none) h)
