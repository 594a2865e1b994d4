use Rattle.std.proofs.Common.{◌≡◌, ◌++◌, drop, map}
use Rattle.hc_ast.specs.Unplaced.{bare_process}
use Rattle.hc_print.specs.Lexemes.{Lexemes}
use Rattle.hc_print.specs.Written.{written}
use Rattle.hc_print.specs.Canonical.{processes, more_processes}
use Rattle.hc_print.proofs.tree.write_processes.Given as goal

abbrev pub invariant-loop-process : goal.invariant-loop-process
invariant-loop-process l = (w : Lexemes)
    → l.out.bytes.items ++ written (more_processes (map bare_process (drop l.process-index l.more)) w)
    ≡ l.fn.out.bytes.items ++ written (processes (map bare_process l.fn.processes) w)
