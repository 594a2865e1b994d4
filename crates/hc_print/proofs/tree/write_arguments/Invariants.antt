use Rattle.std.proofs.Common.{◌≡◌, ◌++◌, drop, map}
use Rattle.hc_ast.specs.Unplaced.{bare_expr}
use Rattle.hc_print.specs.Lexemes.{Lexemes}
use Rattle.hc_print.specs.Written.{written}
use Rattle.hc_print.specs.Canonical.{arguments, more_arguments}
use Rattle.hc_print.proofs.tree.write_arguments.Given as goal

abbrev pub invariant-loop-argument : goal.invariant-loop-argument
invariant-loop-argument l = (w : Lexemes)
    → l.out.bytes.items ++ written (more_arguments (map bare_expr (drop l.argument-index l.more)) w)
    ≡ l.fn.out.bytes.items ++ written (arguments (map bare_expr l.fn.arguments) w)
