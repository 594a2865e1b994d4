use Rattle.std.specs.Prelude.{refl}
use Rattle.hc_cgrammar.specs.Prelude.{prelude, behind_prelude}
use Rattle.hc_cgrammar.proofs.prelude_text.unit_place.Goals as goal

pub returns : goal.returns
unfolding prelude behind_prelude
returns c = refl
