use denote.Param.Send.{sendable}
use Rattle.std.proofs.Crossing.{crosses}
use Rattle.hc_run.proofs.Crossing.{floor_sync}
use Rattle.hc_run.proofs.drive.fn.crew.scope.Goals as goal

pub spawn-requires-send-F : goal.spawn-requires-send-F
spawn-requires-send-F g c κs within = search (crosses, floor_sync, sendable) depth 60 fits 20000
