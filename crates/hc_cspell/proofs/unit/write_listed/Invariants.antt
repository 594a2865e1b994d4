use Rattle.std.proofs.Common.{◌≡◌, ◌++◌, ◌+◌, drop}
use Rattle.hc_cspell.specs.Tokens.{Lexemes, written}
use Rattle.hc_cspell.specs.Units.{listed, more_listed}
use Rattle.hc_cspell.proofs.unit.write_listed.Given as goal

abbrev pub invariant-loop-number : goal.invariant-loop-number
invariant-loop-number l = (w : Lexemes)
    → l.out.bytes.items ++ written (more_listed (l.number + 1) (drop l.number l.more) w)
    ≡ l.fn.out.bytes.items ++ written (listed l.fn.threads w)
