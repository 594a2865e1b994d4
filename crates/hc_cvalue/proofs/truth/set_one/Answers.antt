-- The number is written out.
use Rattle.std.proofs.Common.{◌∙◌, ap}
use Rattle.hc_cast.specs.declared.primitive.Primitive.TheVariants.{FrSet}
use Rattle.hc_cbuild.specs.Written.{prim}
use Rattle.hc_cvalue.proofs.One.{sets_one}
use Rattle.hc_cvalue.proofs.truth.set_one.Goals as goal

pub returns : goal.returns
returns c = c.prim.ensures ∙ ap (prim FrSet) c.in_ok-arguments.ensures ∙ sets_one c.args.p c.args.d
