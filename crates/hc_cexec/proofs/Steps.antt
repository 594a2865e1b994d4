-- What a step answers and where it leads, by what it comes to.
use Rattle.std.proofs.Common.{◌≡◌, refl, sym, ap, ◌∙◌, subst, ℕ}
use Rattle.hc_cast.specs.declared.program.CProgram.{CProgram}
use Rattle.hc_ccode.specs.declared.code.Code.{Code}
use Rattle.hc_schedule.specs.Sections.{Step}
use Rattle.hc_schedule.specs.Threads as world
use Rattle.hc_schedule.specs.Schedule.{after}
use Rattle.hc_cmach.specs.declared.kind.Kind.{Kind}
use Rattle.hc_cmach.specs.declared.moved.Moved.TheVariants as said
use Rattle.hc_cmach.specs.Turn.{c_code}
use Rattle.hc_cmach.specs.Machine.{CState, CAnswer, stepped, step_said, said_by}
use Rattle.hc_cexec.specs.declared.machine.Machine.{Machine}
use Rattle.hc_cexec.specs.declared.asked.Act.{Act}
use Rattle.hc_cexec.specs.declared.asked.Then.{Then}
use Rattle.hc_cexec.specs.declared.asked.Answer.{Answer}
use Rattle.hc_cexec.specs.declared.asked.Answer.TheVariants as answer
use Rattle.hc_cexec.specs.Answers.{AnswersAs}
use Rattle.hc_cexec.specs.Stands.{IsAtBy, IsAt}
use Rattle.hc_cexec.specs.Taken.{said_of, IsTaken, IsKept}
use Rattle.hc_cexec.proofs.Answering.{Answered}
use Rattle.hc_cexec.proofs.Stepped.{kept_at, taken_at, taken_says, answered_at}

module _ (g : CProgram) (m n : Machine) (q : ℕ) (k : IsKept m n) (s : CState) (at : IsAt g m s) where
  abbrev is_now : IsAtBy g n at.0 s
  is_now = kept_at g m at.0 s at.1 n k

  abbrev it : CAnswer
  it = world.answer (c_code g) s.world q

  abbrev Comes : Answer → Type 0
  Comes x = AnswersAs m.code m.world q m.channels m.processes n.world.arguments x

  comes_as : (x : Answer) → Comes x → Answered n.code.functions at.0 n.world.arguments s.world n.world.threads.items q x it
  comes_as x h =
      subst (λ (c : Code). Answered c.functions at.0 n.world.arguments s.world n.world.threads.items q x it) (sym k.same.code)
      (answered_at g m at.0 s at.1 n q x k h)

  stays : (ans : CAnswer) → it ≡ ans → after s q ans ≡ s → IsAt g n (stepped g s (Step q))
  stays ans e same = (at.0, subst (IsAtBy g n at.0) (sym (ap (after s q) e ∙ same)) is_now)

  pub blocked_says : Comes answer.Blocked → said.Blocked ≡ step_said g s q
  blocked_says h = sym (ap (said_by s.world) (comes_as answer.Blocked h))

  pub blocked_at : Comes answer.Blocked → IsAt g n (stepped g s (Step q))
  blocked_at h = stays world.Blocked (comes_as answer.Blocked h) refl

  pub over_says : Comes answer.Over → said.Over ≡ step_said g s q
  over_says h = sym (ap (said_by s.world) (comes_as answer.Over h))

  pub over_at : Comes answer.Over → IsAt g n (stepped g s (Step q))
  over_at h = stays world.Over (comes_as answer.Over h) refl

  pub undefined_says : (x : Kind) → Comes (answer.Undefined x) → said.Undefined x ≡ step_said g s q
  undefined_says x h =
      let why = comes_as (answer.Undefined x) h in
      sym (ap (said_by s.world) why.1 ∙ ap said.Undefined why.2)

  pub undefined_at : (x : Kind) → Comes (answer.Undefined x) → IsAt g n (stepped g s (Step q))
  undefined_at x h = let why = comes_as (answer.Undefined x) h in stays (world.Undefined why.0) why.1 refl

  pub takes_says : (a : Act) (x : Then) → Comes (answer.Takes a x) → said_of a ≡ step_said g s q
  takes_says a x h = taken_says g n at.0 s is_now q a x (comes_as (answer.Takes a x) h)

  pub takes_at : (a : Act) (x : Then) (o : Machine) → Comes (answer.Takes a x) → IsTaken g q a x n o → IsAt g o (stepped g s (Step q))
  takes_at a x o h taken = (at.0, taken_at g n at.0 s is_now q a x o (comes_as (answer.Takes a x) h) taken)
