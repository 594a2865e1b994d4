use Rattle.std.proofs.Common.{take}
use Rattle.std.specs.List.{AllByRecursion}
use Rattle.hc_frac.specs.Word.{IsWord}
use Rattle.hc_verify.proofs.words.read_channels.Given as goal

abbrev pub invariant-loop-channel : goal.invariant-loop-channel
invariant-loop-channel l = AllByRecursion IsWord (take l.channel-index l.channels)
