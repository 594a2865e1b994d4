use Rattle.std.proofs.Common.{◌≡◌, drop}
use Rattle.hc_cexec.specs.Asks.{case_at}
use Rattle.hc_cexec.proofs.asking.case_at.Given as goal

abbrev pub invariant-loop-case : goal.invariant-loop-case
invariant-loop-case l = case_at l.number (drop l.case-index l.cases) l.otherwise ≡ case_at l.number l.cases l.otherwise
