use Rattle.std.proofs.Common.{arith, ◌≡◌, pos, ap, ap₂, ◌∙◌, subst, of_z}
use Rattle.std.proofs.lemmas.Int.{ints}
use Rattle.std.specs.Prelude.{◌≢◌, SomeIff, unsigned_abs}
use Rattle.std.specs.Int.{int_signum, w64}
use Rattle.hc_rational.specs.Words.{quotient, IsFrac}
use Rattle.hc_rational.specs.Rational.{ratio}
use Rattle.hc_frac.proofs.Wide.{turned_read, wide_read}
use Rattle.hc_frac.proofs.Kept.{also}
use Rattle.hc_frac.proofs.frac.Frac.new.Goals as goal

pub returns : goal.returns
unfolding ratio
returns c =
    let n = wide_read c.args.n c.from-n.result c.ranges.n c.from-n.ensures in
    let d = wide_read c.args.d c.from-d.result c.ranges.d c.from-d.ensures in
    let sign : c.signum.result ≡ int_signum c.args.d = c.signum.ensures.value ∙ ap int_signum d in
    let top = turned_read c.args.n c.args.d c.from-n.result c.signum.result (omega (arith, ints, c.ranges.n)) n sign in
    let bottom = c.unsigned_abs.ensures.value ∙ ap unsigned_abs d in
    let some : c.args.d ≢ pos 0 = λ e. c.if-d-eq0.false (ap (of_z w64) e) in
    also (IsFrac (ratio c.args.n c.args.d)) (c.args.d ≢ pos 0) c.reduced.result (ratio c.args.n c.args.d) some (subst (λ s. SomeIff c.reduced.result (IsFrac s) s) (ap₂ quotient top bottom) c.reduced.ensures)
