use Rattle.std.proofs.Common.{List, None, sym, subst}
use Rattle.hc_board.specs.declared.deadlines.Deadline.{Deadline}
use Rattle.hc_board.specs.Deadlines.{IsPlaceOf, IsSet}
use Rattle.hc_board.proofs.DueSet.{removed}
use Rattle.hc_board.proofs.deadlines.Deadlines.remove.Goals as goal

pub returns-in-Some : goal.returns-in-Some
returns-in-Some c =
    let ds = c.args.self.now.list.items in
    subst (λ (xs : List Deadline). IsSet c.args.process None ds xs) (sym c.remove.ensures.items)
    (removed ds c.requires c.args.process c.in-Some.at
    (subst (λ (xs : List Deadline). IsPlaceOf c.args.process xs c.in-Some.at) c.as_slice.ensures.value (c.in-Some.ensures {u = tt}).there))
