use Rattle.std.proofs.Common.{◌≡◌, drop}
use Rattle.hc_step.specs.Ways.{received_way}
use Rattle.hc_step.proofs.meeting.received_way.Given as goal

abbrev pub invariant-loop-way : goal.invariant-loop-way
invariant-loop-way l = received_way l.channel l.ways ≡ received_way l.channel (drop l.way-index l.ways)
