use Rattle.std.specs.List.{AllWithin}
use Rattle.hc_board.specs.declared.deadlines.Deadline.{Deadline}
use Rattle.hc_board.specs.Deadlines.{IsBefore}
use Rattle.hc_board.proofs.deadlines.place_for.Given as goal

abbrev pub invariant-loop-at : goal.invariant-loop-at
invariant-loop-at l = AllWithin (λ (d : Deadline). IsBefore d l.one) l.deadlines 0 l.at
