use Rattle.std.proofs.Common.{subst, IfOk, List, ◌≡◌}
use Rattle.hc_rational.specs.Words.{Rational}
use Rattle.hc_cexec.proofs.EmptyRow.{is_empty_row}
use Rattle.hc_cexec.proofs.row.Row.zeros.Goals as goal

pub returns : goal.returns
returns c = subst (λ (row : List Rational). IfOk c.of.result (λ r. r ≡ row)) is_empty_row c.of.ensures
