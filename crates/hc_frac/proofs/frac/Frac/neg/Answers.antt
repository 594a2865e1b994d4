use Rattle.std.proofs.Common.{◌≡◌, ap₂, arith, neg_ℤ, pos, ◌-ℤ◌, to_z, of_z, w64}
use Rattle.std.proofs.lemmas.Int.{ints}
use Rattle.hc_rational.specs.Rational.{quotient, neg_ℚ}
use Rattle.hc_frac.proofs.Kept.{num_seen, den_seen, read_num}
use Rattle.hc_frac.proofs.frac.Frac.neg.Goals as goal

pub returns : goal.returns
unfolding neg_ℚ
returns c =
    let num = num_seen c.self.inside c.args.self c.self.view_is c.self.invariant in
    let den = den_seen c.self.inside c.args.self c.self.view_is c.self.invariant in
    let same : to_z w64 (of_z w64 (pos 0 -ℤ to_z w64 (of_z w64 c.self.inside.num))) ≡ neg_ℤ c.args.self.num =
    omega (arith, ints, num, read_num c.self.inside.num c.self.invariant.num_fits, c.self.invariant.num_fits) in
    ap₂ quotient same den
