-- What was worked out from a copy of the start is the run from the start.
use Rattle.std.proofs.Common.{◌≡◌, ◌<◌, subst, ℕ, length, Some}
use Rattle.std.specs.Prelude.{IsTrue}
use Rattle.hc_limits.specs.Limits.{most_silent_steps}
use Rattle.hc_rational.specs.Words.{Rational}
use Rattle.hc_term.specs.declared.model.ProcessState.{ProcessState}
use Rattle.hc_term.specs.Event.{progress}
use Rattle.hc_code.specs.declared.code.ProcCode.{ProcCode}
use Rattle.hc_code.specs.Stands.{Table, AllAgree}
use Rattle.hc_step.specs.declared.local.Local.{Local}
use Rattle.hc_step.specs.declared.stretch.Stretch.{Stretch}
use Rattle.hc_step.specs.Usable.{is_usable_code}
use Rattle.hc_step.specs.Represents.{Represents, Keeps, Takes}
use Rattle.hc_advance.specs.Lead.{Worked, lead}
use Rattle.hc_advance.specs.Ran.{Ran, IsLead}

module _ (code : ProcCode) (clock : Rational) (seed : ℕ) (stretch : Stretch) (end : Local) where
  -- the stretch from here takes the silent steps that the definition has
  abbrev pub TakesFrom : Local → Type 0
  TakesFrom l =
      (t : Table) (q : ProcessState) → AllAgree t code.instrs t → Represents t clock l q →
      Takes t clock stretch end (progress most_silent_steps seed l.process clock q)

  pub is_worked : (start copy : Local) → copy ≡ start → IsTrue (is_usable_code start.variables code.instrs) →
      start.place < length code.instrs → Keeps (length code.instrs) copy end → TakesFrom copy →
      IsLead (lead code start clock seed (Some (record { stretch = stretch; end = end })))
  is_worked start copy same usable within keeps takes =
      let done : Worked = record { stretch = stretch; end = end } in
      let ran : Ran (lead code start clock seed (Some done)) done = record {
        keeps = subst (λ (l : Local). Keeps (length code.instrs) l end) same keeps;
        takes = subst TakesFrom same takes;
      } in
      record {
        usable = usable;
        within = within;
        ran = λ w e. let one : done ≡ w = cc in subst (λ (x : Worked). Ran (lead code start clock seed (Some done)) x) one ran;
      }
