use Rattle.std.proofs.Common.{arith}
use Rattle.hc_ast.proofs.Mapped.{mapped_at, false_for_more}
use Rattle.hc_ast.proofs.lists.all_alike.Goals as goal

pub returns-then-not-is_like : goal.returns-then-not-is_like
returns-then-not-is_like g c =
    false_for_more c.is_like.result c.if-not-is_like.true c.is_like.ensures
    (λ e. let f = mapped_at g.T.Alike.bare c.args.left.now c.args.right.now c.loop-at.at c.index-left-at.result c.index-right-at.result e (omega arith) in
    cc (f, c.index-left-at.is, c.index-right-at.is))
