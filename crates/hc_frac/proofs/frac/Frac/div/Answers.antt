use Rattle.std.proofs.Common.{◌∙◌, ap₂, subst}
use Rattle.std.specs.Prelude.{SomeIff}
use Rattle.hc_rational.specs.Words.{quotient, IsFrac}
use Rattle.hc_rational.specs.Rational.{◌/ℚ◌}
use Rattle.hc_frac.proofs.Wide.{sign_read, over_fits, quotient_read, under_read, under_pos}
use Rattle.hc_frac.proofs.frac.Frac.div.Goals as goal

pub overflow_mul-a-2 : goal.overflow_mul-a-2
overflow_mul-a-2 c =
    over_fits c.signum.result c.wide-a.ensures c.wide-c.ensures (sign_read c.wide-c.ensures c.signum.ensures.value)

pub reduced-requires : goal.reduced-requires
reduced-requires c =
    rw (c.unsigned_abs.ensures.value, under_read c.wide-a.ensures c.wide-c.ensures) (under_pos c.args.self c.args.by c.requires)

pub returns : goal.returns
unfolding ◌/ℚ◌
returns c =
    let sign = sign_read c.wide-c.ensures c.signum.ensures.value in
    let top = quotient_read c.signum.result c.wide-a.ensures c.wide-c.ensures sign in
    let bottom = c.unsigned_abs.ensures.value ∙ under_read c.wide-a.ensures c.wide-c.ensures in
    subst (λ s. SomeIff c.reduced.result (IsFrac s) s) (ap₂ quotient top bottom) c.reduced.ensures
