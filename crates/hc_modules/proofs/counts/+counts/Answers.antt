use Rattle.std.proofs.Common.{arith, ap}
use Rattle.hc_modules.proofs.Shapes.{total, else_total, branch_total, statements-If, statements-Pick, statements-Forever, statements-Loop, statements-Choice, statements-Evolve}
use Rattle.hc_modules.proofs.counts.+counts.Goals as goal

pub statements_of-returns-in-Some : goal.statements_of-returns-in-Some
statements_of-returns-in-Some t c =
    let first = ap total c.as_slice.ensures in
    let second = ap total c.as_slice-in-Some.ensures in
    let rest = ap else_total c.in-Some.is in
    omega (arith, statements-If c.args.stmt.now _ _ _ c.in-If.is, first, second, rest)

pub statements_of-returns-in-None : goal.statements_of-returns-in-None
statements_of-returns-in-None t c =
    let first = ap total c.as_slice.ensures in
    let rest = ap else_total c.in-None.is in
    omega (arith, statements-If c.args.stmt.now _ _ _ c.in-If.is, first, rest)

pub statements_of-returns-in-Pick : goal.statements_of-returns-in-Pick
statements_of-returns-in-Pick t c =
    let first = ap total c.as_slice-in-Pick.ensures in
    let second = ap total c.as_slice-in-Pick-2.ensures in
    omega (arith, statements-Pick c.args.stmt.now _ _ c.in-Pick.is, first, second)

pub statements_of-returns-in-Forever : goal.statements_of-returns-in-Forever
statements_of-returns-in-Forever t c =
    let body = ap total c.as_slice-in-Forever.ensures in
    omega (arith, statements-Forever c.args.stmt.now _ c.in-Forever.is, body)

pub statements_of-returns-in-Loop : goal.statements_of-returns-in-Loop
statements_of-returns-in-Loop t c =
    let body = ap total c.as_slice-in-Loop.ensures in
    omega (arith, statements-Loop c.args.stmt.now _ _ c.in-Loop.is, body)

pub statements_of-returns-in-Choice : goal.statements_of-returns-in-Choice
statements_of-returns-in-Choice t c =
    let body = ap branch_total c.as_slice-in-Choice.ensures in
    omega (arith, statements-Choice c.args.stmt.now _ c.in-Choice.is, body)

pub statements_of-returns-in-Evolve : goal.statements_of-returns-in-Evolve
statements_of-returns-in-Evolve t c =
    let body = ap branch_total c.as_slice-in-Evolve.ensures in
    omega (arith, statements-Evolve c.args.stmt.now _ _ _ c.in-Evolve.is, body)
