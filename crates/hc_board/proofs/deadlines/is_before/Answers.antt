use Rattle.std.proofs.Common.{nat_lt, sym, ◌∙◌, ltb-true, lt-ltb}
use Rattle.hc_board.proofs.DueSet.{less_told, equal_told, greater_told}
use Rattle.hc_board.proofs.deadlines.is_before.Goals as goal

pub returns-in-Less : goal.returns-in-Less
returns-in-Less c = less_told c.args.one.now c.args.other.now (sym c.compare.ensures ∙ c.in-Less.is)

pub returns-in-Equal : goal.returns-in-Equal
returns-in-Equal c =
    let one = c.args.one.now in
    let other = c.args.other.now in
    equal_told one other (nat_lt one.process other.process) (sym c.compare.ensures ∙ c.in-Equal.is)
    (ltb-true one.process other.process, lt-ltb one.process other.process)

pub returns-in-Greater : goal.returns-in-Greater
returns-in-Greater c = greater_told c.args.one.now c.args.other.now (sym c.compare.ensures ∙ c.in-Greater.is)
