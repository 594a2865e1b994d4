use Rattle.std.proofs.Common.{Option, sym, subst}
use Rattle.hc_rational.specs.Words.{Rational}
use Rattle.hc_board.specs.Deadlines.{IsSet}
use Rattle.hc_board.proofs.DueSet.{none_left, set_again}
use Rattle.hc_board.proofs.deadlines.Deadlines.set.Goals as goal

pub insert-requires-clause-none : goal.insert-requires-clause-none
insert-requires-clause-none c = none_left c.args.process c.args.self.now.list.items c.take.new.self.list.items c.take.ensures

pub returns-in-Some : goal.returns-in-Some
returns-in-Some c =
    let same : IsSet c.args.process c.args.due c.take.new.self.list.items c.insert.new.self.list.items =
    subst (λ (o : Option Rational). IsSet c.args.process o c.take.new.self.list.items c.insert.new.self.list.items) (sym c.in-Some.is) c.insert.ensures in
    set_again c.args.process c.args.due c.args.self.now.list.items c.take.new.self.list.items c.insert.new.self.list.items c.take.ensures same
