use Rattle.std.proofs.Common.{ap, ◌∙◌, is_eq}
use Rattle.hc_frac.proofs.SameNumbers.{same_by_rank}
use Rattle.hc_frac.proofs.frac.Frac.same.Goals as goal

pub returns : goal.returns
returns c = same_by_rank c.args.self c.args.other c.is_eq.result (c.is_eq.ensures ∙ ap is_eq c.compare.ensures)
