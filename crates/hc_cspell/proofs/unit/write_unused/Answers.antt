use Rattle.std.proofs.Common.{◌∙◌}
use Rattle.hc_cspell.proofs.Chains.{then_ok}
use Rattle.hc_cspell.proofs.unit.write_unused.Goals as goal

pub returns : goal.returns
returns c =
    then_ok c.sign-4.result c.sign-4.ensures
    (λ last w. last w ∙ c.in_ok-unused.ensures _ ∙ c.in_ok-sign-3.ensures _ ∙ c.in_ok-sign-2.ensures _ ∙ c.in_ok-sign.ensures _)
