-- The side with the fewer numbers.
use Rattle.std.proofs.Common.{rules, ◌≡◌, true, false, nat_le, length}
use Rattle.hc_term.specs.Silent.{picks_left}
use Rattle.hc_cstep.specs.Choosing.{numbers_of}
use Rattle.hc_cstep.proofs.Sides.{left_side, right_side}
use Rattle.hc_cstep.proofs.choice.side.Goals as goal

pub returns-then-len-le32 : goal.returns-then-len-le32
returns-then-len-le32 c =
    let f = picks_left c.args.seed c.args.p in
    let same : c.as_slice.result.now ≡ numbers_of f true = search rules in
    let few : nat_le (length c.as_slice.result.now) 32 ≡ true = search rules in
    left_side f c.args.left c.args.right c.as_slice.result.now c.takes_side.result same few c.takes_side.ensures

pub returns : goal.returns
returns c =
    let f = picks_left c.args.seed c.args.p in
    let same : c.in_ok-lefts.lefts ≡ numbers_of f true = search rules in
    let few : nat_le (length c.in_ok-lefts.lefts) 32 ≡ false = search rules in
    let other : c.as_slice-2.result.now ≡ numbers_of f false = search rules in
    right_side f c.args.left c.args.right c.in_ok-lefts.lefts c.as_slice-2.result.now c.takes_side-2.result same few other c.takes_side-2.ensures
