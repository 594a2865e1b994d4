use Rattle.std.specs.Prelude.{refl}
use Rattle.hc_cgrammar.specs.Prelude.{prelude}
use Rattle.hc_cgrammar.proofs.prelude_text.prelude.Goals as goal

pub returns : goal.returns
unfolding prelude
returns c = refl
