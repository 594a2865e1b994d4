-- The silent steps of a process, with their working values.
use Rattle.std.specs.Prelude.{ℕ, ◌+◌, ◌*◌, ◌/◌, ◌%◌, ◌^◌, Bool, true, ◌&&◌, ◌==◌, if◌then◌else◌, List, [], ◌∷◌, ◌++◌, slice_set, Option, Some, None}
use Rattle.std.specs.List.{list_all}
use Rattle.hc_rational.specs.Words.{Rational, zero_ℚ, ◌+ℚ◌, greater, is_positive, fits}
use Rattle.hc_term.specs.declared.expr.Cond.{Cond}
use Rattle.hc_term.specs.declared.stmt.Io.{Io}
use Rattle.hc_term.specs.declared.stmt.Io.TheVariants.{Send, Receive}
use Rattle.hc_term.specs.declared.stmt.Rate.{Rate}
use Rattle.hc_term.specs.declared.stmt.Stmt.{Stmt, out-Stmt}
use Rattle.hc_term.specs.declared.stmt.Stmt.TheOpen.{Stmt-F}
use Rattle.hc_term.specs.declared.stmt.Branch.{Branch, out-Branch}
use Rattle.hc_term.specs.declared.model.Mark.{Mark}
use Rattle.hc_term.specs.declared.model.ProcessState.{ProcessState}
use Rattle.hc_term.specs.declared.model.Mark.TheVariants.{Going, Arrived}
use Rattle.hc_term.specs.Value.{Store, val, holds, is_fitting, is_fitting_test}
use Rattle.hc_term.specs.Motion.{Rates, rates_in, line}
use Rattle.hc_term.specs.EndMoment.{end_moment, domain_fits}
use Rattle.hc_term.specs.Process.{Layer, bound, is_due}

-- ---- working values: each test says that those of one part fit

-- the moment at which a bound runs out, where it is later than now
abbrev pub due_fits : Rational → Option Rational → Bool
due_fits clock None = true
due_fits clock (Some b) = if is_positive b then fits (clock +ℚ b) else true

-- the values that a communication sends
abbrev pub sent_fits : Store → Io → Bool
sent_fits s (Send channel value) = is_fitting s value
sent_fits s (Receive channel variable) = true

abbrev pub branches_fit : Store → List Branch → Bool
branches_fit s bs = list_all (λ b. sent_fits s (out-Branch b).io) bs

abbrev pub rates_fit : Store → List Rate → Bool
rates_fit s rs = list_all (λ r. is_fitting s r.value) rs

-- the values and slopes that a guard of an evolution sends
abbrev pub guard_fits : Store → Rates → Io → Bool
guard_fits s r (Send channel value) = (line s r value).fits_all
guard_fits s r (Receive channel variable) = true

abbrev pub guards_fit : Store → Rates → List Branch → Bool
guards_fit s r bs = list_all (λ b. guard_fits s r (out-Branch b).io) bs

-- the working values of arrival at an evolution
abbrev pub evolution_fits : Rational → Store → List Rate → Cond → List Branch → Bool
evolution_fits clock s rates domain branches =
    let r = rates_in rates s in
    rates_fit s rates && domain_fits s r domain && guards_fit s r branches && due_fits clock (end_moment s r domain)

-- ---- steps

-- what a silent step does: there is none, its working values don't fit, or it leads on and may log a value
pub data Outcome : Type 0 where
  Idle : Outcome
  Unfit : Outcome
  Did : (logged : Option Rational) (next : ProcessState) → Outcome

abbrev pub if_fit : Bool → Outcome → Outcome
if_fit fitting o = if fitting then o else Unfit

abbrev pub goes_on : ProcessState → List Stmt → Outcome
goes_on c todo = Did None (record c { todo = todo; mark = Going })

abbrev pub arrives : ProcessState → Rational → Outcome
arrives c left = Did None (record c { mark = Arrived left })

-- the left side of a choice is taken where bit (k + 7p) mod 64 of the seed is 0
abbrev pub picks_left : ℕ → ℕ → ℕ → Bool
picks_left seed p k = (seed / 2 ^ ((k + 7 * p) % 64)) % 2 == 0

-- a step of a going process number p; head is the statement that the layer opens
abbrev pub going_step : ℕ → ℕ → Rational → ProcessState → Stmt → List Stmt → Layer → Outcome
going_step seed p clock c head rest Stmt-F.Skip = goes_on c rest
going_step seed p clock c head rest (Stmt-F.Assign x e) =
    if_fit (is_fitting c.store e) (Did None (record c { todo = rest; store = slice_set c.store x (val c.store e) }))
going_step seed p clock c head rest (Stmt-F.Log e) =
    if_fit (is_fitting c.store e) (Did (Some (val c.store e)) (record c { todo = rest }))
going_step seed p clock c head rest (Stmt-F.If test first second) =
    if_fit (is_fitting_test c.store test) (goes_on c ((if holds c.store test then first else second) ++ rest))
going_step seed p clock c head rest (Stmt-F.Pick left right) =
    Did None (record c { todo = (if picks_left seed p c.choices then left else right) ++ rest; choices = c.choices + 1 })
going_step seed p clock c head rest (Stmt-F.Forever body) = goes_on c (body ++ head ∷ rest)
going_step seed p clock c head rest (Stmt-F.Loop test body) =
    if_fit (is_fitting_test c.store test) (goes_on c (if holds c.store test then body ++ head ∷ rest else rest))
going_step seed p clock c head rest (Stmt-F.Wait time) =
    if_fit (is_fitting c.store time && due_fits clock (Some (greater zero_ℚ (val c.store time)))) (arrives c (val c.store time))
going_step seed p clock c head rest (Stmt-F.Io io) = if_fit (sent_fits c.store io) (arrives c zero_ℚ)
going_step seed p clock c head rest (Stmt-F.Choice branches) = if_fit (branches_fit c.store branches) (arrives c zero_ℚ)
going_step seed p clock c head rest (Stmt-F.Evolve rates domain branches) =
    if_fit (evolution_fits clock c.store rates domain branches) (arrives c zero_ℚ)

abbrev pub silent_at : ℕ → ℕ → Rational → ProcessState → Mark → List Stmt → Outcome
silent_at seed p clock c mark [] = Idle
silent_at seed p clock c Going (head ∷ rest) = going_step seed p clock c head rest (out-Stmt head)
silent_at seed p clock c (Arrived left) (head ∷ rest) = if is_due (bound c) then goes_on c rest else Idle

-- the silent step of process number p
abbrev pub silent : ℕ → ℕ → Rational → ProcessState → Outcome
silent seed p clock c = silent_at seed p clock c c.mark c.todo
