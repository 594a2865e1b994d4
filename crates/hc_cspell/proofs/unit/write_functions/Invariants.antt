use Rattle.std.proofs.Common.{◌≡◌, ◌++◌, drop}
use Rattle.hc_cspell.specs.Tokens.{Lexemes, written}
use Rattle.hc_cspell.specs.Units.{functions}
use Rattle.hc_cspell.proofs.unit.write_functions.Given as goal

abbrev pub invariant-loop-function : goal.invariant-loop-function
invariant-loop-function l = (w : Lexemes)
    → l.out.bytes.items ++ written (functions (drop l.function-index l.functions) w)
    ≡ l.fn.out.bytes.items ++ written (functions l.fn.functions w)
