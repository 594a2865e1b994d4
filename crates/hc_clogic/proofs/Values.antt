-- The value of an expression hangs on the locals alone, not on what comes behind nor on who called.
use Rattle.std.specs.Prelude.{◌≡◌, ℕ, Bool, false, List, [], ◌∷◌, ℤ, Option, None, Ok}
use Rattle.std.proofs.Common.{refl, ap, ap₂, ◌∙◌}
use Rattle.std.proofs.Math.Path.{fun_ext}
use Rattle.hc_cast.specs.declared.primitive.Primitive.{Primitive}
use Rattle.hc_cast.specs.declared.primitive.Primitive.TheVariants.{FrSet}
use Rattle.hc_cast.specs.declared.expr.CExpr.{CExpr, fold-CExpr}
use Rattle.hc_cast.specs.declared.expr.CExpr.TheOpen.{CExpr-F}
use Rattle.hc_cast.specs.declared.stmt.CStmt.{CStmt}
use Rattle.hc_cast.specs.declared.program.CProgram.{CProgram}
use Rattle.hc_cmach.specs.State.{Word, Frame}
use Rattle.hc_cmach.specs.Expression.{Value, Values, worth, worths, worth_layer, together}
use Rattle.hc_cmach.specs.Primitive.{Spot}
use Rattle.hc_cmach.specs.Turn.{argument_values, with_written}
use Rattle.hc_clogic.specs.Runs.{View, caller, Is, Are}
use Rattle.hc_clogic.specs.Views.{spot}
use Rattle.hc_clogic.specs.Block.{value_at}

module _ (g : CProgram) (v : View) (rest : List CStmt) (target : Option Word) (gives : Bool) where
  layer_same : (x : CExpr-F Value) → worth_layer g (caller v rest target gives) v.shared x ≡ worth_layer g (caller v [] None false) v.shared x
  layer_same (CExpr-F.Number z) = refl
  layer_same (CExpr-F.Local x) = refl
  layer_same (CExpr-F.Element a i) = refl
  layer_same (CExpr-F.Neg a) = refl
  layer_same (CExpr-F.Not a) = refl
  layer_same (CExpr-F.Binary op a b) = refl

  pub value_same : (e : CExpr) → worth g (caller v rest target gives) v.shared e ≡ value_at g v e
  value_same e = ap (λ (layer : CExpr-F Value → Value). fold-CExpr Value layer e) (fun_ext layer_same)

  pub values_same : (es : List CExpr) → worths g (caller v rest target gives) v.shared es ≡ worths g (caller v [] None false) v.shared es
  values_same [] = refl
  values_same (e ∷ es) = ap₂ together (value_same e) (values_same es)

module _ (g : CProgram) (t : ℕ) (v : View) where
  -- what an expression is worth, computed
  pub is_worth : (e : CExpr) (z : ℤ) → value_at g v e ≡ Ok z → Is g t v e z
  is_worth e z h = λ rest target gives. value_same g v rest target gives e ∙ h

  pub are_worth : (es : List CExpr) (zs : List ℤ) → worths g (caller v [] None false) v.shared es ≡ Ok zs → Are g t v es zs
  are_worth es zs h = λ rest target gives. values_same g v rest target gives es ∙ h

-- the same of the arguments of a primitive
module _ (g : CProgram) (t : ℕ) (v : View) (todo : List CStmt) (target : Option Word) (gives : Bool) (below : List Frame) (rest : List CStmt) where
  abbrev stands : Spot
  stands = record { thread = t; row = v.row; seen = v.shared; frame = caller v todo target gives; below = below; rest = rest }

  plainly : (es : List CExpr) → worths g stands.frame stands.seen es ≡ worths g (spot t v).frame (spot t v).seen es
  plainly es = values_same g v todo target gives es

  pub arguments_same : (p : Primitive) (es : List CExpr) → argument_values g stands p es ≡ argument_values g (spot t v) p es
  arguments_same FrSet (r ∷ d ∷ n ∷ m ∷ []) = ap (λ (zs : Values). with_written zs n m) (plainly (r ∷ d ∷ []))
  arguments_same p es = plainly es
