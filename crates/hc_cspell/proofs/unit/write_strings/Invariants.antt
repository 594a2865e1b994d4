use Rattle.std.proofs.Common.{◌≡◌, ◌++◌, drop}
use Rattle.hc_cspell.specs.Tokens.{Lexemes, written}
use Rattle.hc_cspell.specs.Units.{strings, more_strings}
use Rattle.hc_cspell.proofs.unit.write_strings.Given as goal

abbrev pub invariant-loop-name : goal.invariant-loop-name
invariant-loop-name l = (w : Lexemes)
    → l.out.bytes.items ++ written (more_strings (drop l.name-index l.more) w)
    ≡ l.fn.out.bytes.items ++ written (strings l.fn.names w)
