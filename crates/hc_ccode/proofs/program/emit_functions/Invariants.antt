use Rattle.std.proofs.Common.{[], take}
use Rattle.hc_ccode.specs.Pieces.{IsMade}
use Rattle.hc_ccode.proofs.program.emit_functions.Given as goal

abbrev pub invariant-loop-known : goal.invariant-loop-known
invariant-loop-known l = IsMade l.program l.code (take l.known l.program.functions) l.entries [] []
