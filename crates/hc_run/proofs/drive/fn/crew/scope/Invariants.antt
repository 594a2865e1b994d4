-- There is room for the shares of the workers that are still to be started.
use Rattle.std.proofs.Common.{◌≤◌, ◌+◌, vec_len, vec_capacity}
use Rattle.hc_run.proofs.drive.fn.crew.scope.Given as goal

abbrev pub invariant-loop-worker : goal.invariant-loop-worker
invariant-loop-worker g l = vec_len l.own + l.floor.used ≤ vec_capacity l.own + l.worker
