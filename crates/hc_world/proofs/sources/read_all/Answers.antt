use Rattle.std.proofs.Common.{arith}
use Rattle.hc_world.proofs.ReadingLemmas.{reads_past}
use Rattle.hc_world.proofs.sources.read_all.Goals as goal

pub returns-then-count-most-clause-long : goal.returns-then-count-most-clause-long
returns-then-count-most-clause-long g c = λ stop.
    let read = c.in_ok-count.ensures in
    let came = c.loop-bytes.invariant.came in
    reads_past _ _ _ c.loop-bytes.bytes.items c.read.new.buffer c.in_ok-count.count c.args.most
    came read.bytes.0 read.bound.0 (omega arith)
