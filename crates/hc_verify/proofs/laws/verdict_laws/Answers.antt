use Rattle.hc_verify.proofs.LineTexts.{second_is_written}
use Rattle.hc_verify.proofs.TextVerdicts.{yes_is_first_part}
use Rattle.hc_verify.proofs.Verdicts.{one_verdict, yes_is_of_behaviour}
use Rattle.hc_verify.proofs.laws.verdict_laws.Goals as goal

pub returns-clause-one : goal.returns-clause-one
returns-clause-one c = one_verdict

pub returns-clause-yes : goal.returns-clause-yes
returns-clause-yes c = yes_is_of_behaviour

pub returns-clause-written : goal.returns-clause-written
returns-clause-written c sys items clock stop = second_is_written sys items clock stop

pub returns-clause-texts : goal.returns-clause-texts
returns-clause-texts c = yes_is_first_part
