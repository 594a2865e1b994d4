-- What private code asks of the code that it is made of: of expressions, conditions, lines and end moments of the profile.
use Rattle.std.specs.Prelude.{Bool, ◌&&◌, ◌≡◌, ◌+◌, ℕ, zero, suc, true, nat_le, nat_lt, List, length, take, IsTrue}
use Rattle.std.specs.List.{list_all}
use Rattle.hc_rational.specs.Words.{Rational}
use Rattle.hc_term.specs.declared.expr.Expr.{Expr}
use Rattle.hc_term.specs.declared.expr.Cond.{Cond}
use Rattle.hc_term.specs.declared.stmt.Io.{Io}
use Rattle.hc_term.specs.declared.stmt.Io.TheVariants.{Send, Receive}
use Rattle.hc_term.specs.declared.stmt.Rate.{Rate}
use Rattle.hc_term.specs.Motion.{rates_in, form}
use Rattle.hc_term.specs.EndMoment.{is_domain}
use Rattle.hc_term.specs.Profile.{is_expr, is_cond, pattern_of}
use Rattle.hc_code.specs.declared.code.Instr.{Instr}
use Rattle.hc_code.specs.declared.code.Instr.TheVariants as instr
use Rattle.hc_code.specs.Kept.{ios_of, is_instr}
use Rattle.hc_cast.specs.declared.program.CProgram.{CProgram}
use Rattle.hc_cmach.specs.State.{width}
use Rattle.hc_cstep.specs.Locals.{Mine, Base}
use Rattle.hc_cstep.specs.Parts.{Parts, AreRates, Values, Tests, Lines, EndMoments}
use Rattle.hc_cstep.specs.Stands.{first_scratch}

-- ---- instructions for which there is code

abbrev pub is_sent : (Expr → Bool) → Io → Bool
is_sent f (Send channel value) = f value
is_sent f (Receive channel variable) = true

-- there is code for the parts of an instruction
abbrev pub has_code : Parts → Instr → Bool
has_code c (instr.Assign x e next) = c.is_value e
has_code c (instr.Log e next) = c.is_value e
has_code c (instr.Wait e next) = c.is_value e
has_code c (instr.Test e yes' no') = c.is_test e
has_code c (instr.Meet ways) = list_all (is_sent c.is_value) (ios_of ways)
has_code c (instr.Evolve rates domain ways next) =
    list_all (λ (r : Rate). c.is_value r.value) rates && list_all (is_sent c.is_line) (ios_of ways) && c.is_end domain
has_code c _ = true

-- how many blocks for rates and branches
abbrev pub blocks_in : Instr → ℕ
blocks_in (instr.Meet ways) = length (ios_of ways)
blocks_in (instr.Evolve rates domain ways next) = length rates + length (ios_of ways)
blocks_in _ = 0

-- it keeps the rules, there is code for it, and it has so many blocks at most
abbrev pub is_made : Parts → ℕ → ℕ → ℕ → Instr → Bool
is_made c most channels vars i = is_instr channels vars i && has_code c i && nat_le (blocks_in i) most

-- ---- machine steps

-- of so many guarded blocks of n
abbrev pub steps_of : ℕ → ℕ → ℕ
steps_of n zero = 0
steps_of n (suc l) = (1 + n) + steps_of n l

-- of one case with so many blocks at most, where each block takes n, but that of an end moment `late`
abbrev pub case_steps : ℕ → ℕ → ℕ → ℕ
case_steps most n late = steps_of (n + 2) most + n + late + 16

-- ---- the blocks, in n machine steps at most each, but that of an end moment in `late`

pub record PartsWork (g : CProgram) (p n late : ℕ) (b : Base) (vars room : ℕ) (c : Parts) : Type 0 where
  pub value : (m : Mine) (s : List Rational) (e : Expr) → m.ok ≡ true → length m.row ≡ width → length m.others ≡ room → take vars m.row ≡ s → IsTrue (is_expr vars e) → IsTrue (c.is_value e) →
      Values g p n b (c.value e) m s e
  pub test : (m : Mine) (s : List Rational) (e : Cond) → m.ok ≡ true → length m.row ≡ width → length m.others ≡ room → take vars m.row ≡ s → IsTrue (is_cond vars e) → IsTrue (c.is_test e) →
      Tests g p n b (c.test e) m s e
  pub line : (m : Mine) (s : List Rational) (rates : List Rate) (e : Expr) → m.ok ≡ true → length m.row ≡ width → length m.others ≡ room → take vars m.row ≡ s →
      AreRates (pattern_of vars rates) (rates_in rates s) m.row → IsTrue (is_expr vars e) → IsTrue ((form (pattern_of vars rates) e).affine) → IsTrue (c.is_line e) →
      Lines g p n b first_scratch (c.line rates e) m s (rates_in rates s) e
  pub ends : (m : Mine) (s : List Rational) (rates : List Rate) (e : Cond) → m.ok ≡ true → length m.row ≡ width → length m.others ≡ room → take vars m.row ≡ s →
      AreRates (pattern_of vars rates) (rates_in rates s) m.row → IsTrue (is_cond vars e) → IsTrue (is_domain (pattern_of vars rates) e) → IsTrue (c.is_end e) →
      EndMoments g p late b (c.ends rates e) m s (rates_in rates s) e

-- there is code for all of the profile
pub record HasAll (c : Parts) (vars : ℕ) : Type 0 where
  pub values : (e : Expr) → IsTrue (is_expr vars e) → IsTrue (c.is_value e)
  pub tests : (e : Cond) → IsTrue (is_cond vars e) → IsTrue (c.is_test e)
  pub lines : (e : Expr) → IsTrue (is_expr vars e) → IsTrue (c.is_line e)
  pub ends : (e : Cond) → IsTrue (is_cond vars e) → IsTrue (c.is_end e)

-- rates and branches of one instruction
abbrev pub most_blocks : ℕ
most_blocks = 96

-- ---- what code can be written for

-- the registers of its rates and branches are there
abbrev pub in_range : Instr → Bool
in_range (instr.Meet ways) = nat_le (length (ios_of ways)) 64
in_range (instr.Evolve rates domain ways next) = list_all (λ (r : Rate). nat_lt r.variable 64) rates && nat_le (length (ios_of ways)) 64
in_range _ = true
