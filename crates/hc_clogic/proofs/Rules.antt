-- Rules for what a block doesn't compute, or computes only where all is known: calls of primitives, stores, functions that end by `return;`.
use Rattle.std.specs.Prelude.{◌≡◌, ℕ, ◌+◌, nat_lt, Bool, true, false, List, [], ◌∷◌, ◌++◌, slice_set, slice_index_or, ℤ, pos, Option, Some, None, Ok}
use Rattle.std.proofs.Common.{sym, ap, ◌∙◌, subst}
use Rattle.hc_cast.specs.Primitives.{primitive_named}
use Rattle.hc_cast.specs.declared.primitive.Primitive.{Primitive}
use Rattle.hc_cast.specs.declared.expr.CExpr.{CExpr}
use Rattle.hc_cast.specs.declared.stmt.CStmt.{CStmt, out-CStmt}
use Rattle.hc_cast.specs.declared.stmt.CStmt.TheVariants as a
use Rattle.hc_cast.specs.declared.program.CFunction.{CFunction}
use Rattle.hc_cast.specs.declared.program.CProgram.{CProgram}
use Rattle.hc_cmach.specs.State.{Word, Frame, Shared, function_among, array_place, array_length}
use Rattle.hc_cmach.specs.Turn.{argument_values}
use Rattle.hc_clogic.specs.Runs.{View, at, caller, entered, back, ahead, Leads, Runs, Is, Are}
use Rattle.hc_clogic.proofs.Runs.{leads_on}
use Rattle.hc_clogic.specs.Views.{spot, with_shared, primitive_view}
use Rattle.hc_clogic.specs.Block.{stored, turned, value_at}
use Rattle.hc_clogic.proofs.Blocks.{one_step, over_runs}

module _ (g : CProgram) (t : ℕ) where
  -- a call of a primitive, whose arguments have these values at the view
  pub primitive_runs : (target : Option Word) (what : Word) (es : List CExpr) (v w : View) (p : Primitive) (zs : List ℤ) →
      primitive_named what ≡ Some p → argument_values g (spot t v) p es ≡ Ok zs → primitive_view g t v target p zs ≡ Some w →
      Runs g t 1 (a.Call target what es ∷ []) v w
  primitive_runs target what es v w p zs named args does =
      over_runs g t v w (a.Call target what es) (simp (a.outs-Call, named, args, does))

  -- element k becomes z
  pub store_runs : (x : Word) (i e : CExpr) (v : View) (m : Shared) (k : ℕ) (z : ℤ) → v.shared ≡ Some m → Is g t v i (pos k) → Is g t v e z →
      nat_lt k (array_length g x) ≡ true →
      Runs g t 1 (a.Store x i e ∷ []) v
      (
      with_shared v None
      (record { row = m.row; arrays = slice_set m.arrays (array_place g x) (slice_set (slice_index_or m.arrays (array_place g x) []) k z) })
      z
      )
  store_runs x i e v m k z owns at_i at_e there =
      let i_is : value_at g v i ≡ Ok (pos k) = at_i [] None false in
      let e_is : value_at g v e ≡ Ok z = at_e [] None false in
      let leads : turned g t v (a.Store x i e) (out-CStmt (a.Store x i e)) ≡ stored v (array_place g x) k z v.shared =
      simp (a.outs-Store, i_is, e_is, there) in
      over_runs g t v _ (a.Store x i e) (leads ∙ ap (stored v (array_place g x) k z) owns)

  -- ---- a function that ends by `return;`

  goes_in : (v : View) (f : CFunction) (result : Option Word) (what : Word) (es : List CExpr) (zs : List ℤ) → primitive_named what ≡ None →
      function_among what g.functions ≡ Some f → Are g t v es zs → (rest : List CStmt) (target : Option Word) (gives : Bool) (below : List Frame) →
      ahead g t (at v (a.Call result what es ∷ rest) target gives below)
      ≡ Some (at (entered v f zs) f.body.statements result f.gives (caller v rest target gives ∷ below))
  goes_in v f result what es zs named found h rest target gives below = simp (a.outs-Call, named, found, h)

  comes_back : (v w : View) (result : Option Word) (given : Bool) (rest : List CStmt) (target : Option Word) (gives : Bool) (below : List Frame) →
      ahead g t (at w (a.Return None ∷ []) result given (caller v rest target gives ∷ below)) ≡ Some (at (back v w result (pos 0)) rest target gives below)
  comes_back v w None given rest target gives below = simp a.outs-Return
  comes_back v w (Some x) given rest target gives below = simp a.outs-Return

  pub call_returns : (n : ℕ) (v w : View) (f : CFunction) (result : Option Word) (what : Word) (es : List CExpr) (zs : List ℤ) (ss : List CStmt) →
      primitive_named what ≡ None → function_among what g.functions ≡ Some f → Are g t v es zs → f.body.statements ≡ ss ++ a.Return None ∷ [] →
      Runs g t n ss (entered v f zs) w → Runs g t (1 + (n + 1)) (a.Call result what es ∷ []) v (back v w result (pos 0))
  call_returns n v w f result what es zs ss named found h body k = record {
    by =
        λ rest target gives below.
        leads_on g t 1 (n + 1) _ _ _ (one_step g t _ _ (goes_in v f result what es zs named found h rest target gives below))
        (
        leads_on g t n 1 _ _ _
        (
        subst
        (
        λ (todo : List CStmt).
        Leads g t n (at (entered v f zs) todo result f.gives (caller v rest target gives ∷ below))
        (at w (a.Return None ∷ []) result f.gives (caller v rest target gives ∷ below))
        )
        (sym body)
        (k.by (a.Return None ∷ []) result f.gives (caller v rest target gives ∷ below))
        )
        (one_step g t _ _ (comes_back v w result f.gives rest target gives below))
        );
  }
