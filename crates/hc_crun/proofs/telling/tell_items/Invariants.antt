use Rattle.hc_cmach.specs.Machine.{opening}
use Rattle.hc_cexec.specs.Stands.{IsAt}
use Rattle.hc_crun.proofs.Along.{Along}
use Rattle.hc_crun.proofs.telling.tell_items.Given as goal

abbrev pub invariant-loop-done : goal.invariant-loop-done
invariant-loop-done g l =
    IsAt l.program l.fn.machine (opening l.program) →
    Along g.O.Sink.state l.fn.out l.program l.seed l.steps l.out l.machine l.done l.words
