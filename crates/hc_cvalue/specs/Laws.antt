-- What the code of expressions, conditions and lines is proved to do, in the words of private code.
use Rattle.std.specs.Prelude.{◌≡◌, ◌≤◌, ◌<◌, ℕ, ◌+◌, ◌*◌, true, length, take, IsTrue}
use Rattle.hc_limits.specs.Limits.{most_nodes}
use Rattle.hc_term.specs.declared.expr.Expr.{Expr}
use Rattle.hc_term.specs.declared.expr.Cond.{Cond}
use Rattle.hc_term.specs.Value.{Store}
use Rattle.hc_term.specs.Motion.{Rates, form}
use Rattle.hc_term.specs.Profile.{nodes, nodes_in, is_expr, is_cond}
use Rattle.hc_cast.specs.declared.program.CProgram.{CProgram}
use Rattle.hc_cmach.specs.State.{width}
use Rattle.hc_cstep.specs.Locals.{Mine, Base}
use Rattle.hc_cstep.specs.Stands.{first_scratch}
use Rattle.hc_cstep.specs.Parts.{ValuesAt, Tests, AreRates, Lines}
use Rattle.hc_cvalue.specs.Values.{value_code}
use Rattle.hc_cvalue.specs.Truths.{test_code}
use Rattle.hc_cvalue.specs.Lines.{line_code}

-- from register d on there is room for the parts of any expression
pub record HasRoom (d : ℕ) : Type 0 where
  pub above : first_scratch ≤ d
  pub below : d + most_nodes < width

-- machine steps that are enough for an expression or a condition of so many nodes
abbrev pub steps_for : ℕ → ℕ
steps_for k = 4 * k + 1

-- ---- up to k nodes

module _ (g : CProgram) (p n : ℕ) (b : Base) (vars k : ℕ) where
  -- The code of an expression leaves its value in register d.
  abbrev pub ValuesWithin : Type 0
  ValuesWithin =
      (d : ℕ) (m : Mine) (s : Store) (e : Expr) → HasRoom d → m.ok ≡ true → length m.row ≡ width → take vars m.row ≡ s → IsTrue (is_expr vars e) → nodes e ≤ k →
      ValuesAt g p n b d (value_code p d e) m s e

  -- That of a condition leaves its truth in v_truth.
  abbrev pub TestsWithin : Type 0
  TestsWithin =
      (d : ℕ) (m : Mine) (s : Store) (c : Cond) → HasRoom d → m.ok ≡ true → length m.row ≡ width → take vars m.row ≡ s → IsTrue (is_cond vars c) → nodes_in c ≤ k →
      Tests g p n b (test_code p d c) m s c

  -- That of an expression that moves along a line leaves its value in register d and its slope in the next, by the rates in their registers.
  abbrev pub LinesWithin : Type 0
  LinesWithin =
      (d : ℕ) (m : Mine) (s : Store) (pattern r : Rates) (e : Expr) → HasRoom d → m.ok ≡ true → length m.row ≡ width → take vars m.row ≡ s →
      AreRates pattern r m.row → IsTrue (is_expr vars e) → IsTrue ((form pattern e).affine) → nodes e ≤ k → Lines g p n b d (line_code p pattern d e) m s r e

-- ---- for every program, thread and base, and up to any number of nodes

abbrev pub ValuesAreCoded : Type 0
ValuesAreCoded = (g : CProgram) (p : ℕ) → p < 64 → (k n : ℕ) → steps_for k ≤ n → (b : Base) (vars : ℕ) → vars ≤ 64 → ValuesWithin g p n b vars k

abbrev pub TestsAreCoded : Type 0
TestsAreCoded = (g : CProgram) (p : ℕ) → p < 64 → (k n : ℕ) → steps_for k ≤ n → (b : Base) (vars : ℕ) → vars ≤ 64 → TestsWithin g p n b vars k

abbrev pub LinesAreCoded : Type 0
LinesAreCoded = (g : CProgram) (p : ℕ) → p < 64 → (k n : ℕ) → steps_for k ≤ n → (b : Base) (vars : ℕ) → vars ≤ 64 → LinesWithin g p n b vars k
