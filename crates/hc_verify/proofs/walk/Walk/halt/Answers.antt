use Rattle.std.proofs.Common.{sym, subst, ℕ, Option}
use Rattle.hc_verify.specs.Halting.{Halts}
use Rattle.hc_verify.proofs.Stilling.{halts}
use Rattle.hc_verify.proofs.walk.Walk.halt.Goals as goal

pub returns : goal.returns
returns c before q at there =
    let t = c.args.task.now in
    let st = c.run-stretch.result in
    let new = c.run-stretch.new.self in
    subst (λ (o : Option ℕ). Halts t c.args.process c.args.room before q new o) (sym c.steps_to_stillness.ensures)
    (halts t c.args.process c.args.room before q new st (c.run-stretch.ensures.runs t.system before q at there) c.run-stretch.ensures.at_most)
