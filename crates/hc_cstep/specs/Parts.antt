-- The code of expressions and conditions, which private code is made of, and what it is known to do.
use Rattle.std.specs.Prelude.{◌≡◌, ℕ, ◌+◌, Bool, true, false, List, length, take, slice_index_or, ℤ, Option, Some, None}
use Rattle.hc_rational.specs.Words.{Rational}
use Rattle.hc_term.specs.declared.expr.Expr.{Expr}
use Rattle.hc_term.specs.declared.expr.Cond.{Cond}
use Rattle.hc_term.specs.declared.stmt.Rate.{Rate}
use Rattle.hc_term.specs.Value.{Store, val, holds, is_fitting, is_fitting_test}
use Rattle.hc_term.specs.Motion.{Rates, line}
use Rattle.hc_term.specs.EndMoment.{end_moment, domain_fits}
use Rattle.hc_cast.specs.declared.stmt.CStmt.{CStmt}
use Rattle.hc_cast.specs.declared.program.CProgram.{CProgram}
use Rattle.hc_clogic.specs.Runs.{Runs}
use Rattle.hc_cstep.specs.Locals.{Mine, Base, view}
use Rattle.hc_cstep.specs.Stands.{register, rate_of, first_scratch}

pub record Parts : Type 0 where
  -- for which there is code, as those of a bounded depth
  pub is_value : Expr → Bool
  pub is_test : Cond → Bool
  pub is_line : Expr → Bool
  pub is_end : Cond → Bool
  pub value : Expr → List CStmt  -- into the first register of the scratch
  pub test : Cond → List CStmt  -- into v_truth
  pub line : List Rate → Expr → List CStmt  -- value and slope into the first two registers of the scratch, as variables move with these rates
  pub ends : List Rate → Cond → List CStmt  -- the end moment into the first register, and into v_truth whether there is one

-- These statements, begun with v_ok 1, leave v_ok as `fitting` says. Nothing but scratch changes: registers from 320 on, `v_ok`, `v_truth`,
-- and the locals behind.
pub record Evaluates (g : CProgram) (p n : ℕ) (b : Base) (ss : List CStmt) (m : Mine) (fitting : Bool) : Type 0 where
  pub row : List Rational
  pub truth : Bool
  pub others : List ℤ
  pub runs : Runs g p n ss (view b m) (view b (record m { row = row; ok = fitting; truth = truth; others = others }))
  pub wide : length row ≡ length m.row
  pub kept : length others ≡ length m.others
  pub low : take first_scratch row ≡ take first_scratch m.row

pub record Values (g : CProgram) (p n : ℕ) (b : Base) (ss : List CStmt) (m : Mine) (s : Store) (e : Expr) : Type 0 where
  pub does : Evaluates g p n b ss m (is_fitting s e)
  pub value : is_fitting s e ≡ true → register does.row first_scratch ≡ val s e

pub record Tests (g : CProgram) (p n : ℕ) (b : Base) (ss : List CStmt) (m : Mine) (s : Store) (e : Cond) : Type 0 where
  pub does : Evaluates g p n b ss m (is_fitting_test s e)
  pub truth : is_fitting_test s e ≡ true → does.truth ≡ holds s e

-- ---- lines and end moments, by rates that stand in registers

-- a variable evolves by the pattern exactly where it has a rate, and that is held in its register
abbrev pub RateIs : Option Rational → Option Rational → Rational → Type 0
RateIs None None held = Unit {0}
RateIs (Some k) (Some rate) held = held ≡ rate
RateIs _ _ held = ⊥

-- the rates of all variables; which of them evolve is known from the pattern
abbrev pub AreRates : Rates → Rates → List Rational → Type 0
AreRates pattern r row = (x : ℕ) → RateIs (slice_index_or pattern x None) (slice_index_or r x None) (register row (rate_of x))

-- the value into register d, and nothing below d changes
pub record ValuesAt (g : CProgram) (p n : ℕ) (b : Base) (d : ℕ) (ss : List CStmt) (m : Mine) (s : Store) (e : Expr) : Type 0 where
  pub does : Evaluates g p n b ss m (is_fitting s e)
  pub below : take d does.row ≡ take d m.row
  pub value : is_fitting s e ≡ true → register does.row d ≡ val s e

-- the value into register d and the slope into the next, and nothing below d changes
pub record Lines (g : CProgram) (p n : ℕ) (b : Base) (d : ℕ) (ss : List CStmt) (m : Mine) (s : Store) (r : Rates) (e : Expr) : Type 0 where
  pub does : Evaluates g p n b ss m ((line s r e).fits_all)
  pub below : take d does.row ≡ take d m.row
  pub at : (line s r e).fits_all ≡ true → register does.row d ≡ (line s r e).at
  pub slope : (line s r e).fits_all ≡ true → register does.row (d + 1) ≡ (line s r e).slope

-- whether there is a moment, and which
abbrev pub MomentIs : Bool → List Rational → Option Rational → Type 0
MomentIs there row None = there ≡ false
MomentIs there row (Some d) = (there ≡ true) × (register row first_scratch ≡ d)

-- the moment into the first register of the scratch, and into v_truth whether there is one
pub record EndMoments (g : CProgram) (p n : ℕ) (b : Base) (ss : List CStmt) (m : Mine) (s : Store) (r : Rates) (c : Cond) : Type 0 where
  pub does : Evaluates g p n b ss m (domain_fits s r c)
  pub found : domain_fits s r c ≡ true → MomentIs does.truth does.row (end_moment s r c)
