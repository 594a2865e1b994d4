use Rattle.std.proofs.Common.{rules, ◌≡◌, ℕ, refl, sym, subst, slice_get, Some, Option, List}
use Rattle.std.specs.Prelude.{ℤ}
use Rattle.hc_schedule.specs.declared.status.Status.{Status}
use Rattle.hc_cexec.specs.declared.asked.Answer.{Answer}
use Rattle.hc_cexec.specs.declared.thread.Thread.{Thread}
use Rattle.hc_cexec.specs.declared.kernel.World.{World}
use Rattle.hc_ccode.specs.declared.code.Code.{Code}
use Rattle.hc_cexec.specs.Answers.{AnswersAs, AnswersAt, AnswersBy}
use Rattle.hc_cexec.proofs.kernel.World.answer.Goals as goal

by_status : (k : Code) (w : World) (t n m : ℕ) (there : List ℤ) (x : Answer) (th : Thread) (s : Status) → slice_get w.threads.items t ≡ Some th →
    th.status ≡ s → AnswersBy k w t n m th there x s → AnswersAs k w t n m there x
by_status k w t n m there x th s here e h =
    subst (λ (o : Option Thread). AnswersAt k w t n m there x o) (sym here) (subst (AnswersBy k w t n m th there x) (sym e) h)

pub returns-in-Ready-clause-answers : goal.returns-in-Ready-clause-answers
returns-in-Ready-clause-answers g c =
    let here : slice_get c.args.self.now.threads.items c.args.number ≡ Some c.in-Some.thread.now = search rules in
    by_status c.args.code.now c.args.self.now c.args.number c.args.channels c.args.processes c.answer_ready.new.self.arguments c.answer_ready.result c.in-Some.thread.now _
    here c.in-Ready.is (c.answer_ready.ensures.answers c.in-Some.thread.now here)

pub returns-in-Waiting-clause-answers : goal.returns-in-Waiting-clause-answers
returns-in-Waiting-clause-answers g c =
    let here : slice_get c.args.self.now.threads.items c.args.number ≡ Some c.in-Some.thread.now = search rules in
    by_status c.args.code.now c.args.self.now c.args.number c.args.channels c.args.processes _ _ c.in-Some.thread.now _
    here c.in-Waiting.is refl

pub returns-in-Woken-clause-answers : goal.returns-in-Woken-clause-answers
returns-in-Woken-clause-answers g c =
    let here : slice_get c.args.self.now.threads.items c.args.number ≡ Some c.in-Some.thread.now = search rules in
    by_status c.args.code.now c.args.self.now c.args.number c.args.channels c.args.processes _ _ c.in-Some.thread.now _
    here c.in-Woken.is c.retaken.ensures
