use Rattle.hc_cread.proofs.OneText.{one_program, one_refusal, not_refused, every_text}
use Rattle.hc_cread.proofs.laws.text_laws.Goals as goal

pub returns-clause-one_program : goal.returns-clause-one_program
returns-clause-one_program c = one_program

pub returns-clause-one_refusal : goal.returns-clause-one_refusal
returns-clause-one_refusal c = one_refusal

pub returns-clause-not_refused : goal.returns-clause-not_refused
returns-clause-not_refused c = not_refused

pub returns-clause-every_text : goal.returns-clause-every_text
returns-clause-every_text c = every_text
