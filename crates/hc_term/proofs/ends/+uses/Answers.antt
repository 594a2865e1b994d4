use Rattle.std.proofs.Common.{ap}
use Rattle.hc_term.proofs.Used.{any_use, any_branch_uses, uses-If, uses-Pick, uses-Forever, uses-Loop, uses-Choice, uses-Evolve}
use Rattle.hc_term.proofs.ends.+uses.Goals as goal

pub is_using-returns-in-If : goal.is_using-returns-in-If
is_using-returns-in-If t c =
    let first = ap (any_use c.args.sending c.args.channel) c.as_slice.ensures in
    let second = ap (any_use c.args.sending c.args.channel) c.as_slice-in-If.ensures in
    cc (uses-If c.args.sending c.args.channel _ _ _ _ c.in-If.is, first, second)

pub is_using-returns-in-Pick : goal.is_using-returns-in-Pick
is_using-returns-in-Pick t c =
    let first = ap (any_use c.args.sending c.args.channel) c.as_slice-in-Pick.ensures in
    let second = ap (any_use c.args.sending c.args.channel) c.as_slice-in-Pick-2.ensures in
    cc (uses-Pick c.args.sending c.args.channel _ _ _ c.in-Pick.is, first, second)

pub is_using-returns-in-Forever : goal.is_using-returns-in-Forever
is_using-returns-in-Forever t c =
    let inside = ap (any_use c.args.sending c.args.channel) c.as_slice-in-Forever.ensures in
    cc (uses-Forever c.args.sending c.args.channel _ _ c.in-Forever.is, inside)

pub is_using-returns-in-Loop : goal.is_using-returns-in-Loop
is_using-returns-in-Loop t c =
    let inside = ap (any_use c.args.sending c.args.channel) c.as_slice-in-Loop.ensures in
    cc (uses-Loop c.args.sending c.args.channel _ _ _ c.in-Loop.is, inside)

pub is_using-returns-in-Choice : goal.is_using-returns-in-Choice
is_using-returns-in-Choice t c =
    let inside = ap (any_branch_uses c.args.sending c.args.channel) c.as_slice-in-Choice.ensures in
    cc (uses-Choice c.args.sending c.args.channel _ _ c.in-Choice.is, inside)

pub is_using-returns-in-Evolve : goal.is_using-returns-in-Evolve
is_using-returns-in-Evolve t c =
    let inside = ap (any_branch_uses c.args.sending c.args.channel) c.as_slice-in-Evolve.ensures in
    cc (uses-Evolve c.args.sending c.args.channel _ _ _ _ c.in-Evolve.is, inside)
