use Rattle.std.proofs.Common.{ap}
use Rattle.hc_det.specs.Single.{one_branch}
use Rattle.hc_det.proofs.Singles.{all_single, single-If, single-Pick, single-Forever, single-Loop, single-Choice, single-Evolve}
use Rattle.hc_det.proofs.single.+single.Goals as goal

pub is_single-returns-in-If : goal.is_single-returns-in-If
is_single-returns-in-If t c =
    let first = ap all_single c.as_slice.ensures in
    let second = ap all_single c.as_slice-in-If.ensures in
    cc (single-If _ _ _ _ c.in-If.is, first, second)

pub is_single-returns-in-Pick : goal.is_single-returns-in-Pick
is_single-returns-in-Pick t c =
    let first = ap all_single c.as_slice-in-Pick.ensures in
    let second = ap all_single c.as_slice-in-Pick-2.ensures in
    cc (single-Pick _ _ _ c.in-Pick.is, first, second)

pub is_single-returns-in-Forever : goal.is_single-returns-in-Forever
is_single-returns-in-Forever t c = cc (single-Forever _ _ c.in-Forever.is, ap all_single c.as_slice-in-Forever.ensures)

pub is_single-returns-in-Loop : goal.is_single-returns-in-Loop
is_single-returns-in-Loop t c = cc (single-Loop _ _ _ c.in-Loop.is, ap all_single c.as_slice-in-Loop.ensures)

pub is_single-returns-in-Choice : goal.is_single-returns-in-Choice
is_single-returns-in-Choice t c = cc (single-Choice _ _ c.in-Choice.is, ap one_branch c.as_slice-in-Choice.ensures)

pub is_single-returns-in-Evolve : goal.is_single-returns-in-Evolve
is_single-returns-in-Evolve t c = cc (single-Evolve _ _ _ _ c.in-Evolve.is, ap one_branch c.as_slice-in-Evolve.ensures)
