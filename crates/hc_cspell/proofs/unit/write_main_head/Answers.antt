use Rattle.std.proofs.Common.{◌∙◌}
use Rattle.hc_cspell.proofs.Chains.{then_ok}
use Rattle.hc_cspell.proofs.unit.write_main_head.Goals as goal

pub returns : goal.returns
returns c =
    then_ok c.sign-6.result c.sign-6.ensures
    (λ last w. cc (last w ∙ c.in_ok-sign-5.ensures _ ∙ c.in_ok-sign-4.ensures _ ∙ c.in_ok-sign-3.ensures _ ∙ c.in_ok-sign-2.ensures _ ∙ c.in_ok-sign.ensures _))
