use Rattle.std.proofs.Common.{sym, ap, ◌∙◌}
use Rattle.hc_term.specs.Process.{is_due}
use Rattle.hc_term.specs.Moved.{less_by}
use Rattle.hc_board.proofs.MovedIndex.{runs_out_is}
use Rattle.hc_board.proofs.delays.runs_out.Goals as goal

pub returns-in-Some : goal.returns-in-Some
returns-in-Some c =
    runs_out_is c.same.result c.in-Some.bound c.args.by c.same.ensures ∙ ap (λ bound. is_due (less_by c.args.by bound)) (sym c.in-Some.is)
