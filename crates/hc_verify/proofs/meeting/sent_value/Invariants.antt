use Rattle.std.proofs.Common.{◌≡◌, drop}
use Rattle.hc_term.specs.Posts.{sent_on}
use Rattle.hc_verify.proofs.meeting.sent_value.Given as goal

abbrev pub invariant-loop-offer : goal.invariant-loop-offer
invariant-loop-offer l = sent_on l.channel l.offers ≡ sent_on l.channel (drop l.offer-index l.offers)
