use Rattle.std.proofs.Common.{◌∙◌, ap, ap₂, subst}
use Rattle.std.specs.Prelude.{SomeIff, unsigned_abs}
use Rattle.hc_rational.specs.Words.{quotient, IsFrac}
use Rattle.hc_rational.specs.Rational.{◌+ℚ◌}
use Rattle.hc_frac.proofs.Wide.{sum_fits, sum_read, dens_read, dens_pos}
use Rattle.hc_frac.proofs.frac.Frac.add.Goals as goal

pub overflow_add-a : goal.overflow_add-a
overflow_add-a c = sum_fits c.wide-a.ensures c.wide-c.ensures

pub reduced-requires : goal.reduced-requires
reduced-requires c =
    rw (c.unsigned_abs.ensures.value, dens_read c.wide-a.ensures c.wide-c.ensures) (dens_pos c.args.self c.args.other)

pub returns : goal.returns
unfolding ◌+ℚ◌
returns c =
    let top = sum_read c.wide-a.ensures c.wide-c.ensures in
    let bottom = c.unsigned_abs.ensures.value ∙ ap unsigned_abs (dens_read c.wide-a.ensures c.wide-c.ensures) in
    subst (λ s. SomeIff c.reduced.result (IsFrac s) s) (ap₂ quotient top bottom) c.reduced.ensures
