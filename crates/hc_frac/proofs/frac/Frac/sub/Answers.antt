use Rattle.std.proofs.Common.{subst}
use Rattle.std.specs.Prelude.{SomeIff}
use Rattle.hc_rational.specs.Words.{IsFrac, ◌+ℚ◌}
use Rattle.hc_rational.specs.Rational.{difference-is}
use Rattle.hc_frac.proofs.frac.Frac.sub.Goals as goal

pub returns : goal.returns
returns c =
    rw (difference-is c.args.self c.args.other) (subst (λ s. SomeIff c.add.result (IsFrac (c.args.self +ℚ s)) (c.args.self +ℚ s)) c.neg.ensures c.add.ensures)
