use Rattle.std.proofs.Common.{take}
use Rattle.hc_ccode.specs.Pieces.{IsMade}
use Rattle.hc_ccode.proofs.program.emit_threads.Given as goal

abbrev pub invariant-loop-body : goal.invariant-loop-body
invariant-loop-body l = IsMade l.program l.code l.program.functions l.functions (take l.body-index l.program.threads) l.entries
