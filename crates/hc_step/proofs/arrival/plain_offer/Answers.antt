use Rattle.std.proofs.Common.{ap, sym, ◌∙◌, length}
use Rattle.hc_term.specs.Profile.{is_io, is_expr}
use Rattle.std.specs.Prelude.{nat_lt}
use Rattle.hc_code.proofs.Growing.{second_of}
use Rattle.hc_step.proofs.Defined.{expr_defined}
use Rattle.hc_step.proofs.Fitting.{plain_send}
use Rattle.hc_step.proofs.arrival.plain_offer.Goals as goal

pub value-requires-clause-divisors : goal.value-requires-clause-divisors
value-requires-clause-divisors c =
    let n = length c.args.store.now in
    expr_defined _ _
    (second_of (nat_lt c.in-Send.channel c.requires.ruled.0) (is_expr n c.in-Send.expr) (sym (ap (is_io c.requires.ruled.0 n) c.in-Send.is) ∙ c.requires.ruled.1))

pub returns-in_ok-at-in-Send : goal.returns-in_ok-at-in-Send
returns-in_ok-at-in-Send c =
    plain_send c.args.store.now c.args.io.now c.in-Send.channel c.in-Send.expr c.in_ok-at-in-Send.at c.zero.result c.in-Send.is
    c.in_ok-at-in-Send.ensures c.zero.ensures
