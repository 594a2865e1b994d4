use Rattle.std.proofs.Common.{arith}
use Rattle.std.proofs.lemmas.Int.{ints}
use Rattle.hc_frac.proofs.Kept.{num_seen, den_seen, fits_seen, read_num}
use Rattle.hc_frac.proofs.frac.Frac.wide.Goals as goal

pub returns : goal.returns
returns c =
    let num = num_seen c.self.inside c.args.self c.self.view_is c.self.invariant in
    let den = den_seen c.self.inside c.args.self c.self.view_is c.self.invariant in
    record {
      num = omega (arith, ints, c.from.ensures, read_num c.self.inside.num c.self.invariant.num_fits, num);
      den = omega (arith, ints, c.from-2.ensures, c.self.invariant.den_fits, den);
      fits = fits_seen _ _ c.self.view_is c.self.invariant;
    }
