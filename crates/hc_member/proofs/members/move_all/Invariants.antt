use Rattle.hc_member.proofs.Moves.{FirstMoved}
use Rattle.hc_member.proofs.members.move_all.Given as goal

abbrev pub invariant-loop-at : goal.invariant-loop-at
invariant-loop-at l = FirstMoved l.by l.at l.initial.members l.members
