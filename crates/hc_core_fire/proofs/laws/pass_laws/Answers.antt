use Rattle.hc_core_fire.proofs.PassOfC.{one_pass_of_c}
use Rattle.hc_core_fire.proofs.Whole.{one_pass_in_fractions}
use Rattle.hc_core_fire.proofs.OneMeeting.{one_meeting}
use Rattle.hc_core_fire.proofs.First.{first_stands}
use Rattle.hc_core_fire.proofs.laws.pass_laws.Goals as goal

pub returns-clause-pass : goal.returns-clause-pass
returns-clause-pass c = one_pass_of_c

pub returns-clause-boards : goal.returns-clause-boards
returns-clause-boards c = one_pass_in_fractions

pub returns-clause-meeting : goal.returns-clause-meeting
returns-clause-meeting c = λ n C p clock horizon ps qs none posted k m at. one_meeting C p clock horizon ps qs none posted n k m at

pub returns-clause-first : goal.returns-clause-first
returns-clause-first c = first_stands
