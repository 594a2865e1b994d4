-- Lists of branches, all written.
use Rattle.std.proofs.Common.{◌≡◌, ◌≤◌, ℕ, zero, suc, List, [], ◌∷◌, ◌++◌, length, drop, ap, sym, ◌∙◌, refl, arith}
use Rattle.hc_token.specs.declared.fixed.Fixed.TheVariants as fix
use Rattle.hc_ast.specs.declared.stmt.BranchTree.{BranchTree}
use Rattle.hc_ast.specs.Unplaced.{bare_branches}
use Rattle.hc_print.specs.Lexemes.{Lexemes, fixed}
use Rattle.hc_print.specs.Written.{written}
use Rattle.hc_print.specs.CanonStmts.{branches, more_branches, interrupt}

none_left : {X : Type 0} (i : ℕ) (xs : List X) → length xs ≤ i → drop i xs ≡ []
none_left zero [] h = refl
none_left zero (x ∷ xs) h = absurd (omega arith)
none_left (suc i) [] h = refl
none_left (suc i) (x ∷ xs) h = none_left i xs (omega arith)

pub all_branches : (old new : List ℕ) (i : ℕ) (more bs : List BranchTree) → length more ≤ i
    → ((w : Lexemes) → new ++ written (more_branches (bare_branches (drop i more)) w)
    ≡ old ++ written (branches (bare_branches bs) w))
    → (w : Lexemes) → new ++ written w ≡ old ++ written (branches (bare_branches bs) w)
all_branches old new i more bs h e w =
    ap (λ left. new ++ written (more_branches (bare_branches left) w)) (sym (none_left i more h)) ∙ e w

-- where there are branches, the interrupt of an evolution is a choice behind its sign
pub some_interrupt : (bs : List BranchTree) → 1 ≤ length bs → (w : Lexemes)
    → interrupt (bare_branches bs) w
    ≡ fixed fix.BarGreater ∷ fixed fix.EmptySquare ∷ fixed fix.OpenRound ∷ branches (bare_branches bs) (fixed fix.CloseRound ∷ w)
some_interrupt [] h w = absurd (omega arith)
some_interrupt (b ∷ bs) h w = refl
