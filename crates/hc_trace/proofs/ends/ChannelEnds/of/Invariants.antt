use Rattle.std.proofs.Common.{◌≡◌, map}
use Rattle.std.specs.List.{range_with_len}
use Rattle.hc_term.specs.Ends.{ends_of}
use Rattle.hc_trace.proofs.ends.ChannelEnds.of.Given as goal

abbrev pub invariant-loop-channel : goal.invariant-loop-channel
invariant-loop-channel l = record {
  senders : l.senders ≡ map (λ c. (ends_of l.system c).sender) (range_with_len 0 l.channel);
  receivers : l.receivers ≡ map (λ c. (ends_of l.system c).receiver) (range_with_len 0 l.channel);
}
