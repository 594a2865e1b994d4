use Rattle.std.proofs.Common.{◌≡◌, take, map}
use Rattle.hc_cexec.specs.Opening.{opened}
use Rattle.hc_cexec.proofs.opening.open_threads.Given as goal

abbrev pub invariant-loop-own : goal.invariant-loop-own
invariant-loop-own l = l.opened.items ≡ map (opened l.functions) (take l.own-index l.threads)
