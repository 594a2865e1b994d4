-- What is asked for at the statements that a run doesn't pass.
use Rattle.std.specs.Prelude.{◌≡◌, ℕ, nat_lt, Bool, true, false, List, [], ◌∷◌, ℤ, pos, Option, Some}
use Rattle.std.proofs.Common.{refl}
use Rattle.hc_rational.specs.Words.{Rational}
use Rattle.hc_cast.specs.declared.expr.CExpr.{CExpr}
use Rattle.hc_cast.specs.declared.stmt.CStmt.{CStmt}
use Rattle.hc_cast.specs.declared.stmt.CStmt.TheVariants as a
use Rattle.hc_cast.specs.declared.program.CProgram.{CProgram}
use Rattle.hc_schedule.specs.Threads.{Goes, Locks, Unlocks, Waits, Returned, Does}
use Rattle.hc_cmach.specs.State.{Word, Frame, Shared}
use Rattle.hc_cmach.specs.Turn.{c_code}
use Rattle.hc_clogic.specs.Runs.{View, at, Is}
use Rattle.hc_cmach.proofs.Worths.{forms}
use Rattle.hc_clogic.specs.Cuts.{lock, unlock, wait_on, ended}

module _ (g : CProgram) (t : ℕ) (v : View) (target : Option Word) (gives : Bool) (below : List Frame) (rest : List CStmt) where
  pub locks_at : (seen : Option Shared) → (c_code g).turn t (at v (lock ∷ rest) target gives below).own seen ≡ Does (Locks (at v rest target gives below).own)
  locks_at seen = simp forms

  pub unlocks_at : (seen : Option Shared) → (c_code g).turn t (at v (unlock ∷ rest) target gives below).own seen ≡ Does (Unlocks (at v rest target gives below).own)
  unlocks_at seen = simp forms

  pub waits_at : (e : CExpr) (k : ℕ) → Is g t v e (pos k) → nat_lt k 64 ≡ true →
      (c_code g).turn t (at v (wait_on e ∷ rest) target gives below).own v.shared ≡ Does (Waits k (at v rest target gives below).own)
  waits_at e k is low = simp (forms, is, low)

module _ (g : CProgram) (t : ℕ) (v : View) (target : Option Word) (gives : Bool) where
  -- the last `return` of a thread
  pub returns_at : (e : CExpr) (z : ℤ) (rest : List CStmt) → Is g t v e z →
      (c_code g).turn t (at v (a.Return (Some e) ∷ rest) target gives []).own v.shared ≡ Does (Goes (ended v.row))
  returns_at e z rest is = simp (forms, is)

  -- and its end, where nothing is left to do
  pub ends_at : (seen : Option Shared) → (c_code g).turn t (at v [] target false []).own seen ≡ Does (Goes (ended v.row))
  ends_at seen = refl

  pub ended_at : (row : List Rational) (seen : Option Shared) → (c_code g).turn t (ended row) seen ≡ Returned
  ended_at row seen = refl
