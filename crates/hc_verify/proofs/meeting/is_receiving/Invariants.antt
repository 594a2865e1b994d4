use Rattle.std.proofs.Common.{◌≡◌, drop}
use Rattle.hc_term.specs.Posts.{receives_on}
use Rattle.hc_verify.proofs.meeting.is_receiving.Given as goal

abbrev pub invariant-loop-offer : goal.invariant-loop-offer
invariant-loop-offer l = receives_on l.channel l.offers ≡ receives_on l.channel (drop l.offer-index l.offers)
