use Rattle.std.proofs.Common.{◌≡◌, ◌++◌, drop, map}
use Rattle.hc_ast.specs.Unplaced.{bare_param}
use Rattle.hc_print.specs.Lexemes.{Lexemes}
use Rattle.hc_print.specs.Written.{written}
use Rattle.hc_print.specs.Canonical.{params, more_params}
use Rattle.hc_print.proofs.tree.write_params.Given as goal

abbrev pub invariant-loop-param : goal.invariant-loop-param
invariant-loop-param l = (w : Lexemes)
    → l.out.bytes.items ++ written (more_params (map bare_param (drop l.param-index l.more)) w)
    ≡ l.fn.out.bytes.items ++ written (params (map bare_param l.fn.params) w)
