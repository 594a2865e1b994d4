-- The steps of an advance, taken over by the member from which they start.
use Rattle.std.proofs.Common.{◌≡◌, ◌<◌, sym, ap, subst, ◌∙◌, ℕ, true, length}
use Rattle.hc_limits.specs.Limits.{most_silent_steps}
use Rattle.hc_term.specs.declared.model.ProcessState.{ProcessState}
use Rattle.hc_term.specs.Event.{progress}
use Rattle.hc_code.specs.declared.code.ProcCode.{ProcCode}
use Rattle.hc_code.specs.Stands.{AllAgree}
use Rattle.hc_step.specs.declared.local.Local.{Local}
use Rattle.hc_step.specs.Usable.{is_usable_code}
use Rattle.hc_step.specs.Represents.{Represents, Takes}
use Rattle.hc_advance.specs.Lead.{Lead, Worked}
use Rattle.hc_advance.specs.Ran.{Ran}
use Rattle.hc_member.specs.declared.member.Member.{Member}
use Rattle.hc_member.specs.States.{IsIn, Progresses}

module _ (a : Lead) (w : Worked) (m : Member) (ran : Ran a w) (code : a.code ≡ m.code) (start : a.start ≡ m.local) where
  pub end_usable : is_usable_code w.end.variables m.code.instrs ≡ true
  end_usable =
      subst (λ (n : ℕ). is_usable_code n m.code.instrs ≡ true)
      (ap (λ (l : Local). l.variables) (sym start) ∙ sym ran.keeps.same_count) m.usable

  pub end_within : w.end.place < length m.code.instrs
  end_within = subst (λ (k : ProcCode). w.end.place < length k.instrs) code ran.keeps.within

  pub takes_over : (new : Member) → new.code ≡ m.code → new.local ≡ w.end → (p : ℕ) (q : ProcessState) → IsIn p a.clock m q →
      Progresses p a.clock w.stretch new (progress most_silent_steps a.seed p a.clock q)
  takes_over new same_code same_local p q is =
      let number : a.start.process ≡ p = ap (λ (l : Local). l.process) start ∙ is.number in
      let agrees : AllAgree is.table a.code.instrs is.table =
      subst (λ (k : ProcCode). AllAgree is.table k.instrs is.table) (sym code) is.agrees in
      let stands : Represents is.table a.clock a.start q = subst (λ (l : Local). Represents is.table a.clock l q) (sym start) is.stands in
      let takes : Takes is.table a.clock w.stretch w.end (progress most_silent_steps a.seed p a.clock q) =
      subst (λ (n : ℕ). Takes is.table a.clock w.stretch w.end (progress most_silent_steps a.seed n a.clock q)) number
      (ran.takes is.table q agrees stands) in
      record {
        counted = takes.counted;
        ended = takes.ended;
        logged = takes.logged;
        is = record {
          number = ap (λ (l : Local). l.process) same_local ∙ ran.keeps.same_process ∙ number;
          table = is.table;
          agrees = subst (λ (k : ProcCode). AllAgree is.table k.instrs is.table) (sym same_code) is.agrees;
          stands = subst (λ (l : Local). Represents is.table a.clock l (progress most_silent_steps a.seed p a.clock q).next)
              (sym same_local) takes.stands;
        };
      }
