use Rattle.std.proofs.Common.{sym, subst, ℕ}
use Rattle.hc_verify.specs.Ending.{Spends}
use Rattle.hc_verify.proofs.Spending.{spends}
use Rattle.hc_verify.proofs.walk.Walk.spend.Goals as goal

pub returns : goal.returns
returns c before q at there =
    let t = c.args.task.now in
    let st = c.run-stretch.result in
    let new = c.run-stretch.new.self in
    subst (λ (k : ℕ). Spends t c.args.process c.args.room before q new k) (sym c.count_invisible.ensures)
    (spends t c.args.process c.args.room before q new st (c.run-stretch.ensures.runs t.system before q at there) c.run-stretch.ensures.at_most)
