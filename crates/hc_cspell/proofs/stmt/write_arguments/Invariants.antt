use Rattle.std.proofs.Common.{◌≡◌, ◌++◌, drop}
use Rattle.hc_cspell.specs.Tokens.{Lexemes, written}
use Rattle.hc_cspell.specs.Stmts.{arguments, more_arguments}
use Rattle.hc_cspell.proofs.stmt.write_arguments.Given as goal

abbrev pub invariant-loop-argument : goal.invariant-loop-argument
invariant-loop-argument l = (w : Lexemes)
    → l.out.bytes.items ++ written (more_arguments (drop l.argument-index l.more) w)
    ≡ l.fn.out.bytes.items ++ written (arguments l.fn.arguments w)
