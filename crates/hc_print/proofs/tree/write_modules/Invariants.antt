use Rattle.std.proofs.Common.{◌≡◌, ◌++◌, drop, map}
use Rattle.hc_ast.specs.Unplaced.{bare_module}
use Rattle.hc_print.specs.Lexemes.{Lexemes}
use Rattle.hc_print.specs.Written.{written}
use Rattle.hc_print.specs.Canonical.{modules}
use Rattle.hc_print.proofs.tree.write_modules.Given as goal

abbrev pub invariant-loop-definition : goal.invariant-loop-definition
invariant-loop-definition l = (w : Lexemes)
    → l.out.bytes.items ++ written (modules (map bare_module (drop l.definition-index l.modules)) w)
    ≡ l.fn.out.bytes.items ++ written (modules (map bare_module l.fn.modules) w)
