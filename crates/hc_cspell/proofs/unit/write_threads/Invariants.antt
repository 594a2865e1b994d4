use Rattle.std.proofs.Common.{◌≡◌, ◌++◌, drop}
use Rattle.hc_cspell.specs.Tokens.{Lexemes, written}
use Rattle.hc_cspell.specs.Units.{threads_from}
use Rattle.hc_cspell.proofs.unit.write_threads.Given as goal

abbrev pub invariant-loop-number : goal.invariant-loop-number
invariant-loop-number l = (w : Lexemes)
    → l.out.bytes.items ++ written (threads_from l.number (drop l.number l.fn.threads) w)
    ≡ l.fn.out.bytes.items ++ written (threads_from 0 l.fn.threads w)
