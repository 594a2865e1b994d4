-- The cases of the places so far.
use Rattle.std.proofs.Common.{◌≡◌, take}
use Rattle.hc_cstep.specs.Written as spec
use Rattle.hc_cstep.proofs.body.cases_of.Given as goal

abbrev pub invariant-loop-place : goal.invariant-loop-place
invariant-loop-place g l = l.cases ≡ spec.cases_of (g.B.Blocks.parts l.blocks) l.p l.seed (take l.place l.code.instrs)
