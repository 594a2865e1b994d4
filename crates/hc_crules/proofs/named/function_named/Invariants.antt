use Rattle.std.proofs.Common.{◌≡◌, map, drop}
use Rattle.hc_cgrammar.specs.Walk as walk
use Rattle.hc_crules.specs.Seen.{signature_seen}
use Rattle.hc_crules.proofs.named.function_named.Given as goal

abbrev pub invariant-loop-function : goal.invariant-loop-function
invariant-loop-function l =
    walk.function_named (map signature_seen l.functions) l.name ≡ walk.function_named (map signature_seen (drop l.function-index l.functions)) l.name
