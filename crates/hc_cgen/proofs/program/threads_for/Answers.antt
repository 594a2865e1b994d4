-- One thread more.
use Rattle.std.proofs.Common.{◌≡◌, ◌+◌, ◌++◌, ◌∷◌, [], length, ap, ◌∙◌, arith, length-append}
use Rattle.hc_cgen.proofs.Generating.{next_thread}
use Rattle.hc_cgen.proofs.program.threads_for.Goals as goal

pub loop-process-preserved : goal.loop-process-preserved
loop-process-preserved c =
    let counted = c.loop-process.invariant.counted in
    let pushed = c.in_ok-push.ensures.ok in
    let long = ap length pushed ∙ length-append c.loop-process.threads (c.in_ok-thread_for.field-0 ∷ []) in
    record {
      counted = omega (arith, long, counted);
      threads =
          next_thread c.args.task.now c.args.processes.now c.loop-process.process-index c.process-item.result c.loop-process.threads c.push.new.self
          c.in_ok-thread_for.field-0 c.len-number.result c.loop-process-test.true c.process-item.is counted c.len-number.ensures c.loop-process.invariant.threads
          c.in_ok-thread_for.ensures pushed;
    }
