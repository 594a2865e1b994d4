-- A formula is worth what its expression is.
use Rattle.std.proofs.Common.{rules, ◌≡◌, refl, sym, ap, ap₂, ◌∙◌, subst, ℕ, Bool, true, false, List, [], ◌∷◌, Ok, Err}
use Rattle.std.specs.Prelude.{ℤ, pos, slice_index_or}
use denote.Hole.Carrier
use Rattle.hc_cast.specs.declared.expr.COp.{COp}
use Rattle.hc_cast.specs.declared.expr.CExpr.{CExpr, roll-CExpr, the_lemmas as expr_lemmas}
use Rattle.hc_cast.specs.declared.expr.CExpr.TheOpen.{CExpr-F}
use Rattle.hc_cast.specs.declared.expr.CExpr.TheFolds.{ind-CExpr, map-CExpr}
use Rattle.hc_cast.specs.declared.expr.CExpr.TheVariants as e
use Rattle.hc_cast.specs.declared.program.CProgram.{CProgram}
use Rattle.hc_cmach.specs.State.{Word, Frame, place_of, Shared, array_place, array_length}
use Rattle.hc_cmach.specs.Expression.{Value, worth, worths, together, element, negated, inverted, combined}
use Rattle.hc_cmach.proofs.Worths.{worth-Number, worth-Local, worth-Element, worth-Neg, worth-Not, worth-Binary}
use Rattle.hc_ccode.specs.declared.code.Formula.{Formula, the_lemmas}
use Rattle.hc_ccode.specs.declared.code.Formula.TheVariants as f
use Rattle.hc_ccode.specs.Placed.{placed, placed_all}
use Rattle.hc_cprim.specs.Worth.{worth_at, worths_at, indexed, seen_by}

-- ---- formulas, by their forms

module _ (g : CProgram) (names : List Word) where
  placed-Number : (z : ℤ) → placed g names (e.Number z) ≡ f.Number z
  placed-Number z = search (rules, expr_lemmas)

  placed-Local : (x : Word) → placed g names (e.Local x) ≡ f.Local (place_of x names)
  placed-Local x = search (rules, expr_lemmas)

  placed-Element : (a : Word) (i : CExpr) → placed g names (e.Element a i) ≡ f.Element (array_place g a) (array_length g a) (placed g names i)
  placed-Element a i = search (rules, expr_lemmas)

  placed-Neg : (a : CExpr) → placed g names (e.Neg a) ≡ f.Neg (placed g names a)
  placed-Neg a = search (rules, expr_lemmas)

  placed-Not : (a : CExpr) → placed g names (e.Not a) ≡ f.Not (placed g names a)
  placed-Not a = search (rules, expr_lemmas)

  placed-Binary : (op : COp) (a b : CExpr) → placed g names (e.Binary op a b) ≡ f.Binary op (placed g names a) (placed g names b)
  placed-Binary op a b = search (rules, expr_lemmas)

module _ (values : List ℤ) (owns : Bool) (arrays : List (List ℤ)) where
  at-Number : (z : ℤ) → worth_at values owns arrays (f.Number z) ≡ Ok z
  at-Number z = search (rules, the_lemmas)

  at-Local : (p : ℕ) → worth_at values owns arrays (f.Local p) ≡ Ok (slice_index_or values p (pos 0))
  at-Local p = search (rules, the_lemmas)

  at-Element : (a n : ℕ) (i : Formula) → worth_at values owns arrays (f.Element a n i) ≡ indexed owns arrays a n (worth_at values owns arrays i)
  at-Element a n i = search (rules, the_lemmas)

  at-Neg : (a : Formula) → worth_at values owns arrays (f.Neg a) ≡ negated (worth_at values owns arrays a)
  at-Neg a = search (rules, the_lemmas)

  at-Not : (a : Formula) → worth_at values owns arrays (f.Not a) ≡ inverted (worth_at values owns arrays a)
  at-Not a = search (rules, the_lemmas)

  at-Binary : (op : COp) (a b : Formula) →
      worth_at values owns arrays (f.Binary op a b) ≡ combined op (worth_at values owns arrays a) (worth_at values owns arrays b)
  at-Binary op a b = search (rules, the_lemmas)

-- ---- the same worth

module _ (g : CProgram) (q : Frame) (m : Shared) where
  indexed_same : (owns : Bool) (a : Word) (v : Value) → indexed owns m.arrays (array_place g a) (array_length g a) v ≡ element g (seen_by owns m) a v
  indexed_same owns a (Err k) = refl
  indexed_same true a (Ok i) = refl
  indexed_same false a (Ok i) = refl

  module _ (owns : Bool) where
    abbrev here : CExpr → Value
    here e = worth_at q.values owns m.arrays (placed g q.names e)

    abbrev there : CExpr → Value
    there e = worth g q (seen_by owns m) e

    abbrev IsSame : CExpr → Type 0
    IsSame e = here e ≡ there e

    abbrev With : Type 0
    With = (e : CExpr) × IsSame e

    abbrev worked : Formula → Value
    worked x = worth_at q.values owns m.arrays x

    same-Number : (z : ℤ) → IsSame (e.Number z)
    same-Number z = ap worked (placed-Number g q.names z) ∙ at-Number q.values owns m.arrays z ∙ sym (worth-Number g q (seen_by owns m) z)

    same-Local : (x : Word) → IsSame (e.Local x)
    same-Local x = ap worked (placed-Local g q.names x) ∙ at-Local q.values owns m.arrays (place_of x q.names) ∙ sym (worth-Local g q (seen_by owns m) x)

    same-Element : (a : Word) (i : CExpr) → IsSame i → IsSame (e.Element a i)
    same-Element a i h =
        ap worked (placed-Element g q.names a i) ∙ at-Element q.values owns m.arrays (array_place g a) (array_length g a) (placed g q.names i)
        ∙ ap (indexed owns m.arrays (array_place g a) (array_length g a)) h ∙ indexed_same owns a (there i)
        ∙ sym (worth-Element g q (seen_by owns m) a i)

    same-Neg : (a : CExpr) → IsSame a → IsSame (e.Neg a)
    same-Neg a h =
        ap worked (placed-Neg g q.names a) ∙ at-Neg q.values owns m.arrays (placed g q.names a) ∙ ap negated h ∙ sym (worth-Neg g q (seen_by owns m) a)

    same-Not : (a : CExpr) → IsSame a → IsSame (e.Not a)
    same-Not a h =
        ap worked (placed-Not g q.names a) ∙ at-Not q.values owns m.arrays (placed g q.names a) ∙ ap inverted h ∙ sym (worth-Not g q (seen_by owns m) a)

    same-Binary : (op : COp) (a b : CExpr) → IsSame a → IsSame b → IsSame (e.Binary op a b)
    same-Binary op a b h k =
        ap worked (placed-Binary g q.names op a b) ∙ at-Binary q.values owns m.arrays op (placed g q.names a) (placed g q.names b)
        ∙ ap₂ (combined op) h k ∙ sym (worth-Binary g q (seen_by owns m) op a b)

    step : (y : CExpr-F With) → IsSame (roll-CExpr (map-CExpr With CExpr (λ e. e.0) y))
    unfolding roll-CExpr denote.Hole.Carrier.roll
    step (CExpr-F.Number z) = same-Number z
    step (CExpr-F.Local x) = same-Local x
    step (CExpr-F.Element a i) = same-Element a i.0 i.1
    step (CExpr-F.Neg a) = same-Neg a.0 a.1
    step (CExpr-F.Not a) = same-Not a.0 a.1
    step (CExpr-F.Binary op a b) = same-Binary op a.0 b.0 a.1 b.1

    pub worth_same : (e : CExpr) → worth_at q.values owns m.arrays (placed g q.names e) ≡ worth g q (seen_by owns m) e
    worth_same = ind-CExpr IsSame (λ x y is. subst (λ z. IsSame (roll-CExpr z)) is (step y))

    pub worths_same : (es : List CExpr) → worths_at q.values owns m.arrays (placed_all g q.names es) ≡ worths g q (seen_by owns m) es
    worths_same [] = refl
    worths_same (e ∷ es) = ap₂ together (worth_same e) (worths_same es)
