use Rattle.std.proofs.Common.{sym, ◌∙◌}
use Rattle.hc_board.proofs.DueSet.{none_taken}
use Rattle.hc_board.proofs.deadlines.Deadlines.take.Goals as goal

pub returns-else-is_some : goal.returns-else-is_some
returns-else-is_some c =
    none_taken c.args.process c.args.before c.args.self.now.list.items c.requires.kept c.requires.has (sym c.is_some.ensures ∙ c.if-is_some.false)
