use Rattle.std.proofs.Common.{◌≡◌, ◌++◌, drop}
use Rattle.hc_cspell.specs.Tokens.{Lexemes, written}
use Rattle.hc_cspell.specs.Units.{locals}
use Rattle.hc_cspell.proofs.unit.write_locals.Given as goal

abbrev pub invariant-loop-local : goal.invariant-loop-local
invariant-loop-local l = (w : Lexemes)
    → l.out.bytes.items ++ written (locals (drop l.local-index l.locals) w)
    ≡ l.fn.out.bytes.items ++ written (locals l.fn.locals w)
