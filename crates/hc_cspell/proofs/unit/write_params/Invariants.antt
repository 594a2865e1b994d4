use Rattle.std.proofs.Common.{◌≡◌, ◌++◌, drop}
use Rattle.hc_cspell.specs.Tokens.{Lexemes, written}
use Rattle.hc_cspell.specs.Units.{params, more_params}
use Rattle.hc_cspell.proofs.unit.write_params.Given as goal

abbrev pub invariant-loop-param : goal.invariant-loop-param
invariant-loop-param l = (w : Lexemes)
    → l.out.bytes.items ++ written (more_params (drop l.param-index l.more) w)
    ≡ l.fn.out.bytes.items ++ written (params l.fn.params w)
