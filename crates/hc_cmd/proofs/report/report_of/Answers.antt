use Rattle.std.proofs.Common.{◌∙◌, refl}
use Rattle.hc_cmd.proofs.Reports.{line_more}
use Rattle.hc_cmd.proofs.report.report_of.Goals as goal

pub loop-worker-preserved : goal.loop-worker-preserved
loop-worker-preserved c = c.loop-worker.invariant ∙ line_more _ _ c.args.turns.now c.loop-worker.worker _ c.loop-worker-test.true refl c.in_ok-put_worker.ensures
