use Rattle.std.proofs.Common.{sym, ◌∙◌}
use Rattle.hc_rational.proofs.OrderLaws.{≤ℚ-from_<ℚ, ≤ℚ-from_≡}
use Rattle.hc_rational.proofs.RankLaws.{rank_is}
use Rattle.hc_suite_core.proofs.runner.is_at_most.Goals as goal

pub returns-in-Less : goal.returns-in-Less
returns-in-Less c =
    λ h. ≤ℚ-from_<ℚ c.args.left c.args.right ((rank_is c.args.left c.args.right).less.0 (sym c.compare.ensures ∙ c.in-Less.is))

pub returns-in-Equal : goal.returns-in-Equal
returns-in-Equal c =
    λ h. ≤ℚ-from_≡ c.args.left c.args.right ((rank_is c.args.left c.args.right).equal.0 (sym c.compare.ensures ∙ c.in-Equal.is))
