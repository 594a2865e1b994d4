use Rattle.hc_cvalue.proofs.Whole.{values_within, tests_within, lines_within}
use Rattle.hc_cvalue.proofs.Sizes.{values_are_short, tests_are_short, lines_are_short}
use Rattle.hc_cvalue.proofs.laws.code_laws.Goals as goal

pub returns-clause-values : goal.returns-clause-values
returns-clause-values c = values_within

pub returns-clause-tests : goal.returns-clause-tests
returns-clause-tests c = tests_within

pub returns-clause-lines : goal.returns-clause-lines
returns-clause-lines c = lines_within

pub returns-clause-short_values : goal.returns-clause-short_values
returns-clause-short_values c = values_are_short

pub returns-clause-short_tests : goal.returns-clause-short_tests
returns-clause-short_tests c = tests_are_short

pub returns-clause-short_lines : goal.returns-clause-short_lines
returns-clause-short_lines c = lines_are_short
