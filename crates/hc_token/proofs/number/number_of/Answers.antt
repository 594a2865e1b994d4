use Rattle.std.proofs.Common.{arith}
use Rattle.std.proofs.lemmas.Int.{ints}
use Rattle.hc_token.proofs.Ranges.{number_in_range, number_out_of_range}
use Rattle.hc_token.proofs.number.number_of.Goals as goal

pub returns-then-digits-gt-MOST_DIGITS : goal.returns-then-digits-gt-MOST_DIGITS
returns-then-digits-gt-MOST_DIGITS c = number_out_of_range c.args.digits c.args.places (grind arith)

pub returns : goal.returns
returns c =
    let parts = c.in-Some.ensures.parts in
    number_in_range c.in-Some.number c.args.digits c.args.places
    (omega arith) (omega arith) (omega (arith, ints, parts.0)) parts.1
