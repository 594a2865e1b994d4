use Rattle.std.proofs.Common.{◌≡◌, ◌++◌, drop}
use Rattle.hc_cspell.specs.Tokens.{Lexemes, written}
use Rattle.hc_cspell.specs.Units.{arrays}
use Rattle.hc_cspell.proofs.unit.write_arrays.Given as goal

abbrev pub invariant-loop-array : goal.invariant-loop-array
invariant-loop-array l = (w : Lexemes)
    → l.out.bytes.items ++ written (arrays (drop l.array-index l.arrays) w)
    ≡ l.fn.out.bytes.items ++ written (arrays l.fn.arrays w)
