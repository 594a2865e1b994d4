use Rattle.std.proofs.Common.{◌≡◌, take}
use Rattle.hc_term.proofs.model.copy_states.Given as goal

abbrev pub invariant-loop-state : goal.invariant-loop-state
invariant-loop-state l = l.found ≡ take l.state-index l.states
