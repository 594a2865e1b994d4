-- What a block is computed to do, the machine does: in as many steps at most, whatever comes behind it and whoever called.
use Rattle.std.specs.Prelude.{◌≡◌, ◌≤◌, ℕ, zero, suc, ◌+◌, Bool, true, false, if◌then◌else◌, List, [], ◌∷◌, ◌++◌, ℤ, unsigned_abs, Option, Some, None, Ok, Err}
use Rattle.std.proofs.Common.{refl, sym, ap, subst, arith, append_assoc}
use Rattle.std.proofs.lemmas.Option.{same_Some}
use Rattle.hc_cast.specs.Primitives.{primitive_named}
use Rattle.hc_cast.specs.declared.primitive.Primitive.{Primitive}
use Rattle.hc_cast.specs.declared.expr.CExpr.{CExpr}
use Rattle.hc_cast.specs.declared.stmt.CStmt.{CStmt, out-CStmt}
use Rattle.hc_cast.specs.declared.stmt.CStmt.TheOpen.{CStmt-F}
use Rattle.hc_cast.specs.declared.stmt.CCase.{CCase}
use Rattle.hc_cast.specs.declared.program.CProgram.{CProgram}
use Rattle.hc_cmach.specs.declared.kind.Kind.TheVariants.{Index}
use Rattle.hc_schedule.specs.Solo.{then_solo}
use Rattle.hc_cmach.specs.State.{Word, Frame, Shared, array_place, array_length}
use Rattle.hc_cmach.specs.Expression.{Value, Values, is_true, is_index, worth}
use Rattle.hc_cmach.specs.Primitive.{CTurn, Spot, fails, primitive_turn}
use Rattle.hc_cmach.specs.Turn.{or_nothing, assigns, writes, stores, chooses, turns, switches, argument_values, does_primitive, calls, statement_turn}
use Rattle.hc_clogic.specs.Runs.{Lone, View, at, caller, ahead_turn, ahead, Leads, Runs}
use Rattle.hc_clogic.proofs.Runs.{leads_on, runs_none, runs_on, runs_longer}
use Rattle.hc_clogic.specs.Views.{spot, primitive_view}
use Rattle.hc_clogic.specs.Block.{Turned, Done, Into, Stuck, value_at, over, assigned, stored, stored_at, chosen, looped, switched, done, called, turned, behind_turned, block}
use Rattle.hc_clogic.proofs.Values.{value_same, arguments_same}
use Rattle.hc_clogic.proofs.Primitives.{come_to, agrees}

module _ (g : CProgram) (t : ℕ) (v : View) (s : CStmt) (rest : List CStmt) (into : Option Word) (gives : Bool) (below : List Frame) where
  -- the thread at this statement
  abbrev here : Lone
  here = at v (s ∷ rest) into gives below

  abbrev stands : Spot
  stands = record { thread = t; row = v.row; seen = v.shared; frame = caller v (s ∷ rest) into gives; below = below; rest = rest }

  -- where a step leads, by what was computed
  abbrev Meant : Option Lone → Turned → Type 0
  Meant x Stuck = Unit {0}
  Meant x (Done w) = x ≡ Some (at w rest into gives below)
  Meant x (Into ts) = x ≡ Some (at v (ts ++ rest) into gives below)

  assigns_means : (x : Word) (y : Value) → Meant (ahead_turn here (assigns stands x y)) (assigned v x y)
  assigns_means x (Err k) = tt
  assigns_means x (Ok z) = refl

  writes_means : (a i : ℕ) (z : ℤ) (seen : Option Shared) → v.shared ≡ seen → Meant (ahead_turn here (writes stands a i z seen)) (stored v a i z seen)
  writes_means a i z None e = tt
  writes_means a i z (Some m) e = simp e

  stores_means : (a : Word) (i y : Value) → Meant (ahead_turn here (stores g stands a i y)) (stored_at g v a i y)
  stores_means a (Err k) y = tt
  stores_means a (Ok i) (Err k) = tt
  stores_means a (Ok i) (Ok z) = by (is_index i (array_length g a))
    where
      by : (b : Bool) → Meant (ahead_turn here (if b then writes stands (array_place g a) (unsigned_abs i) z v.shared else fails Index))
          (if b then stored v (array_place g a) (unsigned_abs i) z v.shared else Stuck)
      by true = writes_means (array_place g a) (unsigned_abs i) z v.shared refl
      by false = tt

  chooses_means : (y : Value) (first other : List CStmt) → Meant (ahead_turn here (chooses stands y first other)) (chosen y first other)
  chooses_means (Err k) first other = tt
  chooses_means (Ok z) first other = refl

  looped_by : (b : Bool) (body : List CStmt) →
      ◌≡◌ {A = List CStmt} (if b then body ++ s ∷ rest else rest) ((if b then body ++ s ∷ [] else []) ++ rest)
  looped_by true body = sym (append_assoc body (s ∷ []) rest)
  looped_by false body = refl

  turns_means : (y : Value) (body : List CStmt) → Meant (ahead_turn here (turns stands y s body)) (looped y s body)
  turns_means (Err k) body = tt
  turns_means (Ok z) body = ap (λ (ts : List CStmt). Some (at v ts into gives below)) (looped_by (is_true z) body)

  switches_means : (y : Value) (cases : List CCase) (otherwise : List CStmt) → Meant (ahead_turn here (switches stands y cases otherwise)) (switched y cases otherwise)
  switches_means (Err k) cases otherwise = tt
  switches_means (Ok z) cases otherwise = refl

  over_means : (x : Option Lone) (w : Option View) → x ≡ come_to rest into gives below w → Meant x (over w)
  over_means x None e = tt
  over_means x (Some w) e = e

  does_means : (target : Option Word) (p : Primitive) (zs : Values) → Meant (ahead_turn here (does_primitive g stands target p zs)) (done g t v target p zs)
  does_means target p (Err k) = tt
  does_means target p (Ok zs) =
      over_means (ahead_turn here (primitive_turn g stands target p zs)) (primitive_view g t v target p zs)
      (agrees g t v.row v.names v.values v.lines v.wakes (s ∷ rest) rest into gives below v.shared target p zs).by

  calls_means : (target : Option Word) (what : Word) (p : Option Primitive) (es : List CExpr) → Meant (ahead_turn here (calls g stands target what p es)) (called g t v target p es)
  calls_means target what None es = tt
  calls_means target what (Some p) es =
      subst (λ (zs : Values). Meant (ahead_turn here (does_primitive g stands target p zs)) (done g t v target p (argument_values g (spot t v) p es)))
      (sym (arguments_same g t v (s ∷ rest) into gives below rest p es))
      (does_means target p (argument_values g (spot t v) p es))

  -- the value of an expression here is that at the view
  at_value : (turn : Value → CTurn) (to : Value → Turned) → ((y : Value) → Meant (ahead_turn here (turn y)) (to y)) →
      (e : CExpr) → Meant (ahead_turn here (turn (worth g (caller v (s ∷ rest) into gives) v.shared e))) (to (value_at g v e))
  at_value turn to h e =
      subst (λ (y : Value). Meant (ahead_turn here (turn y)) (to (value_at g v e))) (sym (value_same g v (s ∷ rest) into gives e)) (h (value_at g v e))

  means : (layer : CStmt-F CStmt CCase) → Meant (ahead_turn here (statement_turn g stands s layer)) (turned g t v s layer)
  means (CStmt-F.Set x e) = at_value (assigns stands x) (assigned v x) (assigns_means x) e
  means (CStmt-F.Store a i e) =
      at_value (λ y. stores g stands a y (worth g (caller v (s ∷ rest) into gives) v.shared e)) (λ y. stored_at g v a y (value_at g v e))
      (λ y. at_value (stores g stands a y) (stored_at g v a y) (stores_means a y) e) i
  means (CStmt-F.Call target what es) = calls_means target what (primitive_named what) es
  means (CStmt-F.If test first other) =
      at_value (λ y. chooses stands y first (or_nothing other)) (λ y. chosen y first (or_nothing other)) (λ y. chooses_means y first (or_nothing other)) test
  means (CStmt-F.While test body) = at_value (λ y. turns stands y s body) (λ y. looped y s body) (λ y. turns_means y body) test
  means (CStmt-F.Switch on cases otherwise) =
      at_value (λ y. switches stands y cases otherwise) (λ y. switched y cases otherwise) (λ y. switches_means y cases otherwise) on
  means (CStmt-F.Return e) = tt

  pub steps_as : Meant (ahead g t here) (turned g t v s (out-CStmt s))
  steps_as = means (out-CStmt s)

module _ (g : CProgram) (t : ℕ) where
  pub one_step : (x y : Lone) → ahead g t x ≡ Some y → Leads g t 1 x y
  one_step x y e = record { steps = 1; few = omega arith; comes = ap (then_solo (λ (z : Lone). Some z)) e }

  -- a statement that is over in one step
  pub over_runs : (v w : View) (s : CStmt) → turned g t v s (out-CStmt s) ≡ Done w → Runs g t 1 (s ∷ []) v w
  over_runs v w s e = record {
    by =
        λ rest into gives below.
        one_step (at v (s ∷ rest) into gives below) (at w rest into gives below)
        (subst (Meant g t v s rest into gives below (ahead g t (at v (s ∷ rest) into gives below))) e (steps_as g t v s rest into gives below));
  }

  -- and one that leads to others
  pub into_runs : (n : ℕ) (v w : View) (s : CStmt) (ts ss : List CStmt) → turned g t v s (out-CStmt s) ≡ Into ts → Runs g t n (ts ++ ss) v w →
      Runs g t (1 + n) (s ∷ ss) v w
  into_runs n v w s ts ss e h = record {
    by =
        λ rest into gives below.
        leads_on g t 1 n _ (at v (ts ++ (ss ++ rest)) into gives below) _
        (
        one_step (at v (s ∷ (ss ++ rest)) into gives below) (at v (ts ++ (ss ++ rest)) into gives below)
        (subst (Meant g t v s (ss ++ rest) into gives below (ahead g t (at v (s ∷ (ss ++ rest)) into gives below))) e (steps_as g t v s (ss ++ rest) into gives below))
        )
        (
        subst (λ (todo : List CStmt). Leads g t n (at v todo into gives below) (at w rest into gives below)) (append_assoc ts ss rest)
        (h.by rest into gives below)
        );
  }

  -- one statement more, with what is known of those behind it
  more_runs : (n : ℕ) (s : CStmt) (ss : List CStmt) (v w : View) (x : Turned) → turned g t v s (out-CStmt s) ≡ x →
      ((rs : List CStmt) (u : View) → block g t n u rs ≡ Some w → Runs g t n rs u w) → behind_turned (block g t n) v ss x ≡ Some w →
      Runs g t (1 + n) (s ∷ ss) v w
  more_runs n s ss v w Stuck h ih k = absurd cc
  more_runs n s ss v w (Done u) h ih k = runs_on g t 1 n (s ∷ []) ss v u w (over_runs v u s h) (ih ss u k)
  more_runs n s ss v w (Into ts) h ih k = into_runs n v w s ts ss h (ih (ts ++ ss) v k)

  pub block_runs : (n : ℕ) (ss : List CStmt) (v w : View) → block g t n v ss ≡ Some w → Runs g t n ss v w
  block_runs n [] v w e =
      let less : 0 ≤ n = omega arith in
      runs_longer g t 0 n [] v w less (subst (λ (u : View). Runs g t 0 [] v u) (same_Some v w e) (runs_none g t v))
  block_runs zero (s ∷ ss) v w e = absurd cc
  block_runs (suc n) (s ∷ ss) v w e =
      let same : 1 + n ≡ suc n = omega arith in
      subst (λ (m : ℕ). Runs g t m (s ∷ ss) v w) same
      (more_runs n s ss v w (turned g t v s (out-CStmt s)) refl (λ rs u k. block_runs n rs u w k) e)
