use Rattle.std.proofs.Common.{◌≡◌, ◌++◌, drop, map}
use Rattle.hc_ast.specs.Unplaced.{bare_rate}
use Rattle.hc_print.specs.Lexemes.{Lexemes}
use Rattle.hc_print.specs.Written.{written}
use Rattle.hc_print.specs.CanonStmts.{rates, more_rates}
use Rattle.hc_print.proofs.stmt.write_rates.Given as goal

abbrev pub invariant-loop-rate : goal.invariant-loop-rate
invariant-loop-rate l = (w : Lexemes)
    → l.out.bytes.items ++ written (more_rates (map bare_rate (drop l.rate-index l.more)) w)
    ≡ l.fn.out.bytes.items ++ written (rates (map bare_rate l.fn.rates) w)
