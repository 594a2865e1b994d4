use Rattle.std.proofs.Common.{◌≡◌, ◌++◌, drop}
use Rattle.hc_cspell.specs.Tokens.{Lexemes, written}
use Rattle.hc_cspell.specs.Stmts.{cases, stmts}
use Rattle.hc_cspell.proofs.stmt.+write_stmts.Given as goal

abbrev pub invariant-write_cases-loop-case : goal.invariant-write_cases-loop-case
invariant-write_cases-loop-case l = (w : Lexemes)
    → l.out.bytes.items ++ written (cases (drop l.case-index l.cases) w)
    ≡ l.fn.out.bytes.items ++ written (cases l.fn.cases w)

abbrev pub invariant-write_stmts-loop-statement : goal.invariant-write_stmts-loop-statement
invariant-write_stmts-loop-statement l = (w : Lexemes)
    → l.out.bytes.items ++ written (stmts (drop l.statement-index l.statements) w)
    ≡ l.fn.out.bytes.items ++ written (stmts l.fn.statements w)
