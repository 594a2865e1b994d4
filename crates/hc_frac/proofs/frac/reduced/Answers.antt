use Rattle.std.proofs.Common.{◌≡◌, ◌/◌, ◌≤ℤ◌, ◌<ℤ◌, sym, ap, ◌∙◌, arith, pos, to_z, w64}
use Rattle.std.specs.Prelude.{unsigned_abs}
use Rattle.std.specs.Int.{IsGcd}
use Rattle.std.proofs.lemmas.Int.{ints}
use Rattle.hc_rational.specs.Words.{quotient, IsFrac}
use Rattle.hc_frac.proofs.Reduced.{divisor-pos, top_is, bottom_is, magnitude_is, below_zero, from_zero, lowest_from, shown_from, magnitude_of}
use Rattle.hc_frac.proofs.frac.reduced.Goals as goal
use Rattle.hc_rational.proofs.FitsLaws.{den_fits, fits_from_parts, num_fits}
use Rattle.hc_frac.proofs.frac.reduced.Goals.{then-n-lt0, else-n-lt0, then-top-ge-LIMIT-via-then-top-ge-LIMIT, then-top-ge-LIMIT-via-else-top-ge-LIMIT+then-bottom-ge-LIMIT}

pub nonzero_div-top : goal.nonzero_div-top
nonzero_div-top c = divisor-pos _ _ _ c.gcd-divisor.ensures c.requires

pub nonzero_div-bottom : goal.nonzero_div-bottom
nonzero_div-bottom c = divisor-pos _ _ _ c.gcd-divisor.ensures c.requires

pub returns-then-top-ge-LIMIT : goal.returns-then-top-ge-LIMIT
returns-then-top-ge-LIMIT c = λ fits.
    let same = magnitude_of c.args.n _ c.ranges.n c.unsigned_abs-magnitude.ensures.value in
    let divides : IsGcd (unsigned_abs c.args.n) c.args.d c.gcd-divisor.result = rw same at c.gcd-divisor.ensures in
    let top = magnitude_is c.args.n c.args.d _ divides c.requires in
    let bottom = bottom_is c.args.n c.args.d _ divides c.requires in
    omega (arith, c.then-top-ge-LIMIT.either, top, bottom, ap (λ m. m / c.gcd-divisor.result) same, num_fits (quotient c.args.n c.args.d) fits, den_fits (quotient c.args.n c.args.d) fits)

module _ (c : goal.Joined-n-lt0) where
  same : c.unsigned_abs-magnitude.result ≡ unsigned_abs c.args.n
  same = magnitude_of c.args.n _ c.ranges.n c.unsigned_abs-magnitude.ensures.value

  divides : IsGcd (unsigned_abs c.args.n) c.args.d c.gcd-divisor.result
  divides = rw same at c.gcd-divisor.ensures

  quotients : c.unsigned_abs-magnitude.result / c.gcd-divisor.result ≡ unsigned_abs c.args.n / c.gcd-divisor.result
  quotients = ap (λ m. m / c.gcd-divisor.result) same

  top : to_z w64 c.if-n-lt0.num-bits ≡ (quotient c.args.n c.args.d).num
  top = elim c.if-n-lt0.branch [
    | then-n-lt0 w ↦
        let negative : c.args.n <ℤ pos 0 = omega (arith, ints) in
        omega (arith, ints, below_zero c.args.n c.gcd-divisor.result negative, quotients)
    | else-n-lt0 w ↦
        let some : pos 0 ≤ℤ c.args.n = omega (arith, ints) in
        omega (arith, ints, from_zero c.args.n c.gcd-divisor.result some, quotients)
  ] ∙ sym (top_is c.args.n c.args.d _ divides c.requires)

  bottom : c.args.d / c.gcd-divisor.result ≡ (quotient c.args.n c.args.d).den
  bottom = sym (bottom_is c.args.n c.args.d _ divides c.requires)

  fits : IsFrac (quotient c.args.n c.args.d)
  fits =
      let magnitude = magnitude_is c.args.n c.args.d _ divides c.requires in
      fits_from_parts (quotient c.args.n c.args.d) (omega (arith, magnitude, quotients)) (omega (arith, bottom))

pub invariant_of-result : goal.invariant_of-result
invariant_of-result c = lowest_from (quotient c.args.n c.args.d) _ (top c) (bottom c) (fits c)

pub returns : goal.returns
returns c = (fits c, shown_from (quotient c.args.n c.args.d) _ (top c) (bottom c))
