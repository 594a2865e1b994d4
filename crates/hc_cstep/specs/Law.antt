-- What a round does, and what the whole does: the silent steps of a stretch.
use Rattle.std.specs.Prelude.{◌≡◌, ◌<◌, ◌^◌, ℕ, zero, suc, ◌+◌, nat_lt, Bool, true, false, List, length, Option, Some, None}
use Rattle.hc_rational.specs.Words.{Rational}
use Rattle.hc_term.specs.declared.run.StretchEnd.{StretchEnd}
use Rattle.hc_term.specs.declared.run.StretchEnd.TheVariants as ends
use Rattle.hc_term.specs.declared.model.ProcessState.{ProcessState}
use Rattle.hc_term.specs.Silent.{Outcome, Idle, Unfit, Did, silent}
use Rattle.hc_term.specs.Event.{Progress, idle_end, progress}
use Rattle.hc_code.specs.Stands.{Table}
use Rattle.hc_cast.specs.declared.stmt.CStmt.{CStmt}
use Rattle.hc_cast.specs.declared.program.CProgram.{CProgram}
use Rattle.hc_clogic.specs.Runs.{Runs}
use Rattle.hc_cstep.specs.Locals.{Mine, Base, view}
use Rattle.hc_cstep.specs.Stands.{register, the_logged, StandsFor}
use Rattle.hc_cstep.specs.Written.{ends_waiting, ends_ended, ends_logged, ends_unfit, ends_spent, goes_on}

abbrev pub end_number : StretchEnd → ℕ
end_number ends.Waits = ends_waiting
end_number ends.Ended = ends_ended
end_number (ends.Logged v) = ends_logged
end_number ends.Unfit = ends_unfit
end_number ends.Spent = ends_spent

-- the logged value is at hand
abbrev pub LogIs : Mine → StretchEnd → Type 0
LogIs m (ends.Logged v) = register m.row the_logged ≡ v
LogIs m _ = Unit {0}

-- ---- a round

-- it has come to w, which stands for this configuration after so many steps; the stretch ends there, or goes on
pub record Comes (t : Table) (vars room : ℕ) (clock : Rational) (most : ℕ) (w : Mine) (q : ProcessState) (steps end : ℕ) : Type 0 where
  pub stands : StandsFor t vars room clock w q
  pub counted : w.steps ≡ steps
  pub same_most : w.most ≡ most
  pub ended : w.end ≡ end

-- what a step that is there leads to, by whether it is allowed
abbrev pub Takes : Table → ℕ → ℕ → Rational → ℕ → ℕ → Mine → ProcessState → Option Rational → ProcessState → Bool → Type 0
Takes t vars room clock steps most w q logged next false = Comes t vars room clock most w q steps ends_spent
Takes t vars room clock steps most w q None next true = Comes t vars room clock most w next (steps + 1) goes_on
Takes t vars room clock steps most w q (Some v) next true =
    Comes t vars room clock most w next (steps + 1) ends_logged × (register w.row the_logged ≡ v)

-- the outcome of the silent step of q, by a round that begins with so many steps taken of so many
abbrev pub Does : Table → ℕ → ℕ → Rational → ℕ → ℕ → Mine → ProcessState → Outcome → Type 0
Does t vars room clock steps most w q Idle = Comes t vars room clock most w q steps (end_number (idle_end q))
Does t vars room clock steps most w q Unfit = Comes t vars room clock most w q steps ends_unfit
Does t vars room clock steps most w q (Did logged next) = Takes t vars room clock steps most w q logged next (nat_lt steps most)

-- these statements, in n machine steps at most, are one silent step of q, or the end of the stretch
pub record Round (g : CProgram) (p n : ℕ) (b : Base) (t : Table) (vars room : ℕ) (clock : Rational) (body : List CStmt) (m : Mine) (q : ProcessState) (o : Outcome) : Type 0 where
  pub then : Mine
  pub runs : Runs g p n body (view b m) (view b then)
  pub does : Does t vars room clock m.steps m.most then q o

-- so it is for all that the locals may stand for while the stretch goes on
abbrev pub Rounds : CProgram → ℕ → ℕ → ℕ → Base → Table → ℕ → ℕ → Rational → List CStmt → Type 0
Rounds g p n seed b t vars room clock body =
    (m : Mine) (q : ProcessState) → StandsFor t vars room clock m q → m.end ≡ goes_on → m.most < 2 ^ 31 →
    Round g p n b t vars room clock body m q (silent seed p clock q)

-- ---- the whole

-- From here the statements run alone to their end. Then the row and the locals stand for the configuration after exactly `v_steps`
-- silent steps, and `v_end` says why there were no more: all by `progress`.
pub record IsStretch (g : CProgram) (p n : ℕ) (b : Base) (t : Table) (vars room : ℕ) (clock : Rational) (ss : List CStmt) (m : Mine) (done : ℕ) (h : Progress) : Type 0 where
  pub then : Mine
  pub runs : Runs g p n ss (view b m) (view b then)
  pub stands : StandsFor t vars room clock then h.next
  pub counted : then.steps ≡ done + length h.logs
  pub ended : then.end ≡ end_number h.end
  pub logged : LogIs then h.end

-- the machine steps of a loop of so many rounds, n each
abbrev pub cost : ℕ → ℕ → ℕ
cost n zero = n + 2
cost n (suc m) = 1 + (n + cost n m)

-- The law of private code, for any number of steps allowed that is an int. n is the steps of one round.
abbrev pub PrivateLaw : CProgram → ℕ → ℕ → ℕ → Base → Table → ℕ → ℕ → Rational → List CStmt → Type 0
PrivateLaw g p n seed b t vars room clock ss =
    (m : Mine) (q : ProcessState) → StandsFor t vars room clock m q → m.most < 2 ^ 31 →
    IsStretch g p (2 + cost n m.most) b t vars room clock ss m 0 (progress m.most seed p clock q)
