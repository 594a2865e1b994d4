-- Programs whose calls go back: to primitives, and to functions that stand before. So no body is ever run inside itself.
use Rattle.std.specs.Prelude.{ℕ, ◌^◌, Bool, true, false, ◌&&◌, ◌==◌, nat_lt, List, [], ◌∷◌, ◌++◌, length, Option, Some, None, ℤ, unsigned_abs, IsTrue}
use Rattle.std.specs.List.{list_all}
use Rattle.hc_cast.specs.Primitives.{primitive_named, count}
use Rattle.hc_cast.specs.declared.primitive.Primitive.{Primitive}
use Rattle.hc_cast.specs.declared.primitive.Primitive.TheVariants.{FrSet}
use Rattle.hc_cast.specs.declared.expr.CExpr.{CExpr}
use Rattle.hc_cast.specs.declared.stmt.CStmt.{CStmt, fold-CStmt}
use Rattle.hc_cast.specs.declared.stmt.CStmt.TheOpen.{CStmt-F, CCase-F}
use Rattle.hc_cast.specs.declared.program.CBody.{CBody}
use Rattle.hc_cast.specs.declared.program.CFunction.{CFunction}
use Rattle.hc_cast.specs.declared.program.CProgram.{CProgram}
use Rattle.hc_cmach.specs.State.{function_among}
use Rattle.hc_cmach.specs.Expression.{written}

-- ---- calls

-- a number of at most 63 bits, as it is written
abbrev pub is_small : CExpr → Bool
is_small e = nat_lt (unsigned_abs (written e)) (2 ^ 63)

-- the two numbers of `fr_set` that are taken as they are written
abbrev pub are_written : Primitive → List CExpr → Bool
are_written FrSet (r ∷ d ∷ n ∷ m ∷ []) = is_small n && is_small m
are_written p es = true

-- a call of a function, if there is one, with as many arguments as it has parameters
abbrev pub is_call_of : Option CFunction → List CExpr → Bool
is_call_of None es = false
is_call_of (Some f) es = length f.params == length es

-- a call of a primitive, or else of one of the functions
abbrev pub is_call : Option Primitive → Option CFunction → List CExpr → Bool
is_call (Some p) f es = (count p == length es) && are_written p es
is_call None f es = is_call_of f es

-- ---- statements: one level, where each statement inside stands for its own answer

abbrev pub or_true : Option (List Bool) → Bool
or_true None = true
or_true (Some bs) = list_all (λ b. b) bs

abbrev pub call_layer : List CFunction → CStmt-F Bool Bool → Bool
call_layer fs (CStmt-F.Call result what es) = is_call (primitive_named what) (function_among what fs) es
call_layer fs (CStmt-F.If test first other) = list_all (λ b. b) first && or_true other
call_layer fs (CStmt-F.While test body) = list_all (λ b. b) body
call_layer fs (CStmt-F.Switch on cases otherwise) = list_all (λ b. b) cases && list_all (λ b. b) otherwise
call_layer fs _ = true

abbrev pub case_layer : CCase-F Bool Bool → Bool
case_layer c = list_all (λ b. b) c.body

-- each call in a statement is of a primitive or of one of the functions
abbrev pub calls_among : List CFunction → CStmt → Bool
calls_among fs s = fold-CStmt Bool Bool (call_layer fs) case_layer s

abbrev pub all_among : List CFunction → List CStmt → Bool
all_among fs ss = list_all (calls_among fs) ss

-- ---- programs

-- each function calls those before it
abbrev pub functions_go_back : List CFunction → List CFunction → Bool
functions_go_back before [] = true
functions_go_back before (f ∷ fs) = all_among before f.body.statements && functions_go_back (before ++ f ∷ []) fs

-- each function calls those before it, and each thread any
pub record CallsGoBack (g : CProgram) : Type 0 where
  pub functions : IsTrue (functions_go_back [] g.functions)
  pub threads : IsTrue (list_all (λ (b : CBody). all_among g.functions b.statements) g.threads)
