use Rattle.std.proofs.Common.{ap, sym, ◌∙◌}
use Rattle.std.proofs.lemmas.Bool.{and_from}
use Rattle.hc_runs.specs.Fractions.{all_numbers}
use Rattle.hc_runs.proofs.Numbered.{rate_numbers, branch_numbers, numbers-If, numbers-Pick, numbers-Forever, numbers-Loop, numbers-Choice, numbers-Evolve}
use Rattle.hc_runs.proofs.numbers.+statements.Goals as goal

pub read_stmt-returns-in-If : goal.read_stmt-returns-in-If
read_stmt-returns-in-If t c =
    let first = sym (ap all_numbers c.as_slice.ensures) ∙ c.read_all.ensures in
    let second = sym (ap all_numbers c.as_slice-in-If.ensures) ∙ c.read_all-in-If.ensures in
    numbers-If _ _ _ _ c.in-If.is ∙ and_from _ _ first second

pub read_stmt-returns-in-Pick : goal.read_stmt-returns-in-Pick
read_stmt-returns-in-Pick t c =
    let first = sym (ap all_numbers c.as_slice-in-Pick.ensures) ∙ c.read_all-in-Pick.ensures in
    let second = sym (ap all_numbers c.as_slice-in-Pick-2.ensures) ∙ c.read_all-in-Pick-2.ensures in
    numbers-Pick _ _ _ c.in-Pick.is ∙ and_from _ _ first second

pub read_stmt-returns-in-Forever : goal.read_stmt-returns-in-Forever
read_stmt-returns-in-Forever t c =
    numbers-Forever _ _ c.in-Forever.is ∙ sym (ap all_numbers c.as_slice-in-Forever.ensures) ∙ c.read_all-in-Forever.ensures

pub read_stmt-returns-in-Loop : goal.read_stmt-returns-in-Loop
read_stmt-returns-in-Loop t c =
    numbers-Loop _ _ _ c.in-Loop.is ∙ sym (ap all_numbers c.as_slice-in-Loop.ensures) ∙ c.read_all-in-Loop.ensures

pub read_stmt-returns-in-Choice : goal.read_stmt-returns-in-Choice
read_stmt-returns-in-Choice t c =
    numbers-Choice _ _ c.in-Choice.is ∙ sym (ap branch_numbers c.as_slice-in-Choice.ensures) ∙ c.read_branches.ensures

pub read_stmt-returns-in-Evolve : goal.read_stmt-returns-in-Evolve
read_stmt-returns-in-Evolve t c =
    let rates = sym (ap rate_numbers c.as_slice-in-Evolve.ensures) ∙ c.read_rates.ensures in
    let branches = sym (ap branch_numbers c.as_slice-in-Evolve-2.ensures) ∙ c.read_branches-in-Evolve.ensures in
    numbers-Evolve _ _ _ _ c.in-Evolve.is ∙ and_from _ _ rates branches
