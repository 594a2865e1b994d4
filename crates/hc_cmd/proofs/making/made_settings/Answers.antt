use Rattle.std.proofs.Common.{sym, subst, arith}
use Rattle.std.specs.Prelude.{IsTrue}
use Rattle.hc_rational.specs.Words.{Rational, is_positive}
use Rattle.hc_cmd.proofs.Courses.{horizon_positive}
use Rattle.hc_cmd.proofs.making.made_settings.Goals as goal

pub invariant_of-result : goal.invariant_of-result
invariant_of-result c = record {
  positive = subst (λ (q : Rational). IsTrue (is_positive q)) (sym c.made_horizon.ensures) horizon_positive;
  in_range = (omega arith, omega arith);
}
