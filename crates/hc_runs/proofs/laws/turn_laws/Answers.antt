use Rattle.hc_runs.proofs.Turning.{able_has_least, least_wants, turns_are_run, turns_stop, turns_go_on, turns_keep}
use Rattle.hc_runs.proofs.Visible.{turns_are_visible, turns_end, turns_are_few}
use Rattle.hc_runs.proofs.LeastTurns.{least_turns_are_turns, least_turn_advances, least_turns_begin, least_turns_are_canonical}
use Rattle.hc_runs.proofs.laws.turn_laws.Goals as goal

pub returns-clause-able : goal.returns-clause-able
returns-clause-able c = able_has_least

pub returns-clause-wanting : goal.returns-clause-wanting
returns-clause-wanting c = least_wants

pub returns-clause-run : goal.returns-clause-run
returns-clause-run c = turns_are_run

pub returns-clause-stop : goal.returns-clause-stop
returns-clause-stop c = turns_stop

pub returns-clause-going : goal.returns-clause-going
returns-clause-going c = turns_go_on

pub returns-clause-kept : goal.returns-clause-kept
returns-clause-kept c = turns_keep

pub returns-clause-visible : goal.returns-clause-visible
returns-clause-visible c = turns_are_visible

pub returns-clause-falling : goal.returns-clause-falling
returns-clause-falling c = turns_end

pub returns-clause-few : goal.returns-clause-few
returns-clause-few c = turns_are_few

pub returns-clause-least : goal.returns-clause-least
returns-clause-least c = least_turns_are_turns

pub returns-clause-advance : goal.returns-clause-advance
returns-clause-advance c = least_turn_advances

pub returns-clause-beginning : goal.returns-clause-beginning
returns-clause-beginning c = least_turns_begin

pub returns-clause-canonical : goal.returns-clause-canonical
returns-clause-canonical c = least_turns_are_canonical
