use Rattle.hc_step.proofs.Defined.{expr_defined}
use Rattle.hc_step.proofs.Fitting.{wait_shown}
use Rattle.hc_step.proofs.arrival.show_wait.Goals as goal

pub value-requires-clause-divisors : goal.value-requires-clause-divisors
value-requires-clause-divisors c = expr_defined _ _ c.requires.ruled

pub returns-clause-shows : goal.returns-clause-shows
returns-clause-shows c =
    wait_shown c.args.clock _ c.in_ok-left.left c.zero.result c.greater-bound.result c.in_ok-post.field-0 c.show.new.self _ _ c.show.ensures c.zero.ensures
    c.in_ok-left.ensures c.greater-bound.ensures c.in_ok-post.ensures
