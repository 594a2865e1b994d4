-- What a list of statements does to a thread's view, computed: all but calls of functions and returns, taking and giving up the mutex, and waits.
use Rattle.std.specs.Prelude.{ℕ, zero, suc, false, if◌then◌else◌, List, [], ◌∷◌, ◌++◌, slice_set, slice_index_or, ℤ, unsigned_abs, Option, Some, None, Ok, Err}
use Rattle.hc_cast.specs.Primitives.{primitive_named}
use Rattle.hc_cast.specs.declared.primitive.Primitive.{Primitive}
use Rattle.hc_cast.specs.declared.expr.CExpr.{CExpr}
use Rattle.hc_cast.specs.declared.stmt.CStmt.{CStmt, out-CStmt}
use Rattle.hc_cast.specs.declared.stmt.CStmt.TheOpen.{CStmt-F}
use Rattle.hc_cast.specs.declared.stmt.CCase.{CCase}
use Rattle.hc_cast.specs.declared.program.CProgram.{CProgram}
use Rattle.hc_cmach.specs.State.{Word, Shared, array_place, array_length}
use Rattle.hc_cmach.specs.Expression.{Value, Values, is_true, is_index, worth}
use Rattle.hc_cmach.specs.Turn.{or_nothing, case_for, argument_values}
use Rattle.hc_clogic.specs.Runs.{View, caller}
use Rattle.hc_clogic.specs.Views.{spot, given, with_shared, primitive_view}

-- a statement that is over, one that leads to others in its place, and one of those that aren't computed
pub data Turned : Type 0 where
  Done : (view : View) → Turned
  Into : (statements : List CStmt) → Turned
  Stuck : Turned

-- the value of an expression at a view
abbrev pub value_at : CProgram → View → CExpr → Value
value_at g v e = worth g (caller v [] None false) v.shared e

abbrev pub over : Option View → Turned
over None = Stuck
over (Some w) = Done w

-- ---- assignments and stores

abbrev pub assigned : View → Word → Value → Turned
assigned v x (Err k) = Stuck
assigned v x (Ok z) = Done (given v (Some x) z)

abbrev pub stored : View → ℕ → ℕ → ℤ → Option Shared → Turned
stored v a i z None = Stuck
stored v a i z (Some m) =
    Done (with_shared v None (record { row = m.row; arrays = slice_set m.arrays a (slice_set (slice_index_or m.arrays a []) i z) }) z)

abbrev pub stored_at : CProgram → View → Word → Value → Value → Turned
stored_at g v a (Err k) y = Stuck
stored_at g v a (Ok i) (Err k) = Stuck
stored_at g v a (Ok i) (Ok z) = if is_index i (array_length g a) then stored v (array_place g a) (unsigned_abs i) z v.shared else Stuck

-- ---- choices and loops

abbrev pub chosen : Value → List CStmt → List CStmt → Turned
chosen (Err k) first other = Stuck
chosen (Ok z) first other = Into (if is_true z then first else other)

abbrev pub looped : Value → CStmt → List CStmt → Turned
looped (Err k) loop body = Stuck
looped (Ok z) loop body = Into (if is_true z then body ++ loop ∷ [] else [])

abbrev pub switched : Value → List CCase → List CStmt → Turned
switched (Err k) cases otherwise = Stuck
switched (Ok z) cases otherwise = Into (case_for z cases otherwise)

-- ---- calls

abbrev pub done : CProgram → ℕ → View → Option Word → Primitive → Values → Turned
done g t v target p (Err k) = Stuck
done g t v target p (Ok zs) = over (primitive_view g t v target p zs)

abbrev pub called : CProgram → ℕ → View → Option Word → Option Primitive → List CExpr → Turned
called g t v target None es = Stuck
called g t v target (Some p) es = done g t v target p (argument_values g (spot t v) p es)

-- ---- statements

-- head is the statement that the layer opens
abbrev pub turned : CProgram → ℕ → View → CStmt → CStmt-F CStmt CCase → Turned
turned g t v head (CStmt-F.Set x e) = assigned v x (value_at g v e)
turned g t v head (CStmt-F.Store a i e) = stored_at g v a (value_at g v i) (value_at g v e)
turned g t v head (CStmt-F.Call target what es) = called g t v target (primitive_named what) es
turned g t v head (CStmt-F.If test first other) = chosen (value_at g v test) first (or_nothing other)
turned g t v head (CStmt-F.While test body) = looped (value_at g v test) head body
turned g t v head (CStmt-F.Switch on cases otherwise) = switched (value_at g v on) cases otherwise
turned g t v head (CStmt-F.Return e) = Stuck

abbrev pub behind_turned : (View → List CStmt → Option View) → View → List CStmt → Turned → Option View
behind_turned go v ss (Done w) = go w ss
behind_turned go v ss (Into ts) = go v (ts ++ ss)
behind_turned go v ss Stuck = None

-- the view behind these statements, which take n steps at most
abbrev pub block : CProgram → ℕ → ℕ → View → List CStmt → Option View
block g t n v [] = Some v
block g t zero v (s ∷ ss) = None
block g t (suc n) v (s ∷ ss) = behind_turned (block g t n) v ss (turned g t v s (out-CStmt s))
