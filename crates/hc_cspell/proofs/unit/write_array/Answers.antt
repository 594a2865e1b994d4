use Rattle.std.proofs.Common.{◌∙◌}
use Rattle.hc_cspell.proofs.Chains.{then_ok}
use Rattle.hc_cspell.proofs.unit.write_array.Goals as goal

pub returns : goal.returns
returns c =
    then_ok c.sign-3.result c.sign-3.ensures
    (λ last w. cc (last w ∙ c.in_ok-write_count.ensures _ ∙ c.in_ok-array.ensures _ ∙ c.in_ok-sign-2.ensures _ ∙ c.in_ok-sign.ensures _))
