use Rattle.std.proofs.Common.{◌≡◌, drop}
use Rattle.hc_step.specs.Ways.{sent_way}
use Rattle.hc_step.proofs.meeting.sent_way.Given as goal

abbrev pub invariant-loop-way : goal.invariant-loop-way
invariant-loop-way l = sent_way l.channel l.ways ≡ sent_way l.channel (drop l.way-index l.ways)
