use Rattle.std.proofs.Common.{List, arith, subst, sym, Some}
use Rattle.hc_board.specs.declared.deadlines.Deadline.{Deadline}
use Rattle.hc_board.specs.Deadlines.{IsPlaceFor, IsSet}
use Rattle.hc_board.proofs.DueSet.{has_room, inserted}
use Rattle.hc_board.proofs.deadlines.Deadlines.insert.Goals as goal

pub insert-requires : goal.insert-requires
insert-requires c = (
  omega arith,
  (
    (subst (λ (ds : List Deadline). IsPlaceFor (record { process = c.args.process; due = c.args.due }) ds c.place_for-at.result) c.as_slice.ensures.value c.place_for-at.ensures).within,
    has_room c.args.self.now.list.items c.requires.kept c.args.process c.requires.process c.requires.none,
  ),
)

pub returns : goal.returns
returns c =
    let ds = c.args.self.now.list.items in
    let new : Deadline = record { process = c.args.process; due = c.args.due } in
    subst (λ (xs : List Deadline). IsSet c.args.process (Some c.args.due) ds xs) (sym c.insert.ensures.items)
    (inserted ds c.requires.kept new c.place_for-at.result c.requires.process c.requires.none
    (subst (λ (xs : List Deadline). IsPlaceFor new xs c.place_for-at.result) c.as_slice.ensures.value c.place_for-at.ensures))
