-- Each place is what was written there.
use Rattle.std.proofs.Common.{false}
use Rattle.std.proofs.lemmas.List.{get_or-replicate}
use Rattle.hc_run.proofs.wanted.all_or_none.Goals as goal

pub returns : goal.returns
returns c = λ w low. get_or-replicate 64 w c.args.all false low
