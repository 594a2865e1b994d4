use Rattle.std.proofs.Common.{sym, ap, subst, ◌∙◌, inl, inr}
use Rattle.hc_rational.specs.Words.{Rational, ◌+ℚ◌, IsFrac}
use Rattle.hc_board.proofs.DelayLength.{to_bound, past_bound}
use Rattle.hc_board.proofs.delays.delay_to_bound.Goals as goal

pub returns-in-Less : goal.returns-in-Less
returns-in-Less c =
    let told = c.in-Some.ensures {u = tt} in
    let same = c.known.ensures.same in
    to_bound c.args.clock c.args.bound c.args.horizon c.in-Some.end c.known.ensures.fits
    (subst (λ (q : Rational). IsFrac (c.args.clock +ℚ q)) same told.0) (told.1 ∙ ap (λ q. c.args.clock +ℚ q) same)
    (inl (sym c.compare.ensures ∙ c.in-Less.is))

pub returns-in-Equal : goal.returns-in-Equal
returns-in-Equal c =
    let told = c.in-Some.ensures {u = tt} in
    let same = c.known.ensures.same in
    to_bound c.args.clock c.args.bound c.args.horizon c.in-Some.end c.known.ensures.fits
    (subst (λ (q : Rational). IsFrac (c.args.clock +ℚ q)) same told.0) (told.1 ∙ ap (λ q. c.args.clock +ℚ q) same)
    (inr (sym c.compare.ensures ∙ c.in-Equal.is))

pub returns-in-Greater : goal.returns-in-Greater
returns-in-Greater c =
    let told = c.in-Some.ensures {u = tt} in
    past_bound c.args.clock c.args.bound c.args.horizon c.in-Some.end (told.1 ∙ ap (λ q. c.args.clock +ℚ q) c.known.ensures.same)
    (sym c.compare.ensures ∙ c.in-Greater.is) c.requires
