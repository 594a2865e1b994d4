-- Private code out of blocks whose laws hold for any pattern: what of them must be given, and that nothing else is asked.
use Rattle.std.specs.Prelude.{◌≡◌, ℕ, true, List, length, take, IsTrue}
use Rattle.std.proofs.Common.{refl}
use Rattle.hc_rational.specs.Words.{Rational}
use Rattle.hc_term.specs.declared.expr.Expr.{Expr}
use Rattle.hc_term.specs.declared.expr.Cond.{Cond}
use Rattle.hc_term.specs.Motion.{Rates, rates_in, form}
use Rattle.hc_term.specs.EndMoment.{is_domain}
use Rattle.hc_term.specs.Profile.{is_expr, is_cond, pattern_of}
use Rattle.hc_cast.specs.declared.stmt.CStmt.{CStmt}
use Rattle.hc_cast.specs.declared.program.CProgram.{CProgram}
use Rattle.hc_cmach.specs.State.{width}
use Rattle.hc_cstep.specs.Locals.{Mine, Base}
use Rattle.hc_cstep.specs.Stands.{first_scratch}
use Rattle.hc_cstep.specs.Parts.{Parts, AreRates, ValuesAt, Tests, Lines, EndMoments}
use Rattle.hc_cstep.specs.Premises.{PartsWork, HasAll}

-- where there is code for all expressions and conditions, by the pattern of what evolves
abbrev pub plain_parts : ℕ → (Expr → List CStmt) → (Cond → List CStmt) → (Rates → Expr → List CStmt) → (Rates → Cond → List CStmt) → Parts
plain_parts vars value test line ends = record {
  is_value = λ e. true;
  is_test = λ e. true;
  is_line = λ e. true;
  is_end = λ e. true;
  value = value;
  test = test;
  line = λ rates e. line (pattern_of vars rates) e;
  ends = λ rates e. ends (pattern_of vars rates) e;
}

pub plain_has_all : (vars : ℕ) (value : Expr → List CStmt) (test : Cond → List CStmt) (line : Rates → Expr → List CStmt) (ends : Rates → Cond → List CStmt) →
    HasAll (plain_parts vars value test line ends) vars
plain_has_all vars value test line ends = record { values = λ e h. refl; tests = λ e h. refl; lines = λ e h. refl; ends = λ e h. refl }

module _ (g : CProgram) (p n late : ℕ) (b : Base) (vars room : ℕ) (value : Expr → List CStmt) (test : Cond → List CStmt) (line : Rates → Expr → List CStmt) (ends : Rates → Cond → List CStmt) where
  abbrev pub ValueWorks : Type 0
  ValueWorks =
      (m : Mine) (s : List Rational) (e : Expr) → m.ok ≡ true → length m.row ≡ width → take vars m.row ≡ s → IsTrue (is_expr vars e) → ValuesAt g p n b first_scratch (value e) m s e

  abbrev pub TestWorks : Type 0
  TestWorks = (m : Mine) (s : List Rational) (e : Cond) → m.ok ≡ true → length m.row ≡ width → take vars m.row ≡ s → IsTrue (is_cond vars e) → Tests g p n b (test e) m s e

  abbrev pub LineWorks : Type 0
  LineWorks =
      (m : Mine) (s : List Rational) (pattern r : Rates) (e : Expr) → m.ok ≡ true → length m.row ≡ width → take vars m.row ≡ s → AreRates pattern r m.row →
      IsTrue (is_expr vars e) → IsTrue ((form pattern e).affine) → Lines g p n b first_scratch (line pattern e) m s r e

  abbrev pub EndWorks : Type 0
  EndWorks =
      (m : Mine) (s : List Rational) (pattern r : Rates) (e : Cond) → m.ok ≡ true → length m.row ≡ width → length m.others ≡ room → take vars m.row ≡ s → AreRates pattern r m.row →
      IsTrue (is_cond vars e) → IsTrue (is_domain pattern e) → EndMoments g p late b (ends pattern e) m s r e

  pub plugged : ValueWorks → TestWorks → LineWorks → EndWorks → PartsWork g p n late b vars room (plain_parts vars value test line ends)
  plugged values tests lines moments = record {
    value =
        λ m s e on wide spare same ruled has.
        let v = values m s e on wide same ruled in record { does = v.does; value = v.value };
    test = λ m s e on wide spare same ruled has. tests m s e on wide same ruled;
    line = λ m s rates e on wide spare same rated ruled affine has. lines m s (pattern_of vars rates) (rates_in rates s) e on wide same rated ruled affine;
    ends = λ m s rates e on wide spare same rated ruled domain has. moments m s (pattern_of vars rates) (rates_in rates s) e on wide spare same rated ruled domain;
  }
