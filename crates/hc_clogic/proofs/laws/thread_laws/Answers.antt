use Rattle.hc_cmach.specs.Turn.{c_code}
use Rattle.hc_clogic.proofs.Private.{private_runs_alone}
use Rattle.hc_clogic.proofs.Inside.{sections_stand_within, sections_close}
use Rattle.hc_clogic.proofs.Told.{lines_are_of_their_thread}
use Rattle.hc_clogic.proofs.laws.thread_laws.Goals as goal

pub returns-clause-private : goal.returns-clause-private
returns-clause-private c = λ g. private_runs_alone (c_code g)

pub returns-clause-within : goal.returns-clause-within
returns-clause-within c = λ g. sections_stand_within (c_code g)

pub returns-clause-closed : goal.returns-clause-closed
returns-clause-closed c = λ g. sections_close (c_code g)

pub returns-clause-lines : goal.returns-clause-lines
returns-clause-lines c = lines_are_of_their_thread
