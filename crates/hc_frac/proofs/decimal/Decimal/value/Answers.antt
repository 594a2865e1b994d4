use Rattle.std.proofs.Common.{◌≤◌, ◌<◌, lit<, ◌^◌, arith}
use Rattle.std.specs.Prelude.{unsigned_abs, FitsSigned}
use Rattle.std.specs.Int.{w64}
use Rattle.std.proofs.Common.{rules}
use Rattle.std.proofs.lemmas.Int.{ints}
use Rattle.std.proofs.Math.Nat.{pow-le-pow_right, one-le-pow}
use Rattle.hc_frac.proofs.Wide.{read}
use Rattle.hc_rational.proofs.FitsLaws.{quotient_fits}
use Rattle.hc_frac.proofs.decimal.Decimal.value.Goals as goal

pub reduced-requires : goal.reduced-requires
reduced-requires c = rw (c.pow.ensures) (one-le-pow c.from-2.result 10 (omega arith))

pub unreachable-requires : goal.unreachable-requires
unreachable-requires c =
    let range : FitsSigned w64 c.args.self.digits = search rules in
    let digits : unsigned_abs (read c.from.result) < 2 ^ 63 = omega (arith, ints) in
    let some : 0 < 10 ^ c.from-2.result = one-le-pow c.from-2.result 10 (omega arith) in
    let few_places : c.from-2.result ≤ 18 = omega arith in
    let few : 10 ^ c.from-2.result ≤ 10 ^ 18 = pow-le-pow_right {n = 10} (lit< tt) {j = 18} few_places in
    c.in_default.ensures (quotient_fits (read c.from.result) c.pow.result (omega arith) digits (omega arith))
