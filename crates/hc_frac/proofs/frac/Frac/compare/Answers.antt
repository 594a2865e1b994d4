use Rattle.std.proofs.Common.{◌∙◌, ap₂}
use Rattle.std.specs.Ordering.{int_cmp}
use Rattle.hc_rational.specs.Order.{rank}
use Rattle.hc_frac.proofs.Wide.{cross_read}
use Rattle.hc_frac.proofs.frac.Frac.compare.Goals as goal

pub returns : goal.returns
unfolding rank
returns c =
    c.cmp.ensures
    ∙ ap₂ int_cmp (cross_read c.wide-a.ensures c.wide-c.ensures) (cross_read c.wide-c.ensures c.wide-a.ensures)
