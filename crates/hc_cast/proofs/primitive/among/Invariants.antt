use Rattle.std.proofs.Common.{◌≡◌, drop}
use Rattle.hc_cast.specs.Primitives.{primitive_among}
use Rattle.hc_cast.proofs.primitive.among.Given as goal

abbrev pub invariant-loop-one : goal.invariant-loop-one
invariant-loop-one l = primitive_among (drop l.one-index l.primitives) l.word ≡ primitive_among l.primitives l.word
