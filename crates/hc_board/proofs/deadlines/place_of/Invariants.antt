use Rattle.std.proofs.Common.{◌≢◌}
use Rattle.std.specs.List.{AllWithin}
use Rattle.hc_board.specs.declared.deadlines.Deadline.{Deadline}
use Rattle.hc_board.proofs.deadlines.place_of.Given as goal

abbrev pub invariant-loop-at : goal.invariant-loop-at
invariant-loop-at l = AllWithin (λ (d : Deadline). d.process ≢ l.process) l.deadlines 0 l.at
