use Rattle.std.proofs.Common.{◌∙◌}
use Rattle.hc_print.proofs.Chains.{then_ok}
use Rattle.hc_print.proofs.tree.write_head.Goals as goal

pub returns : goal.returns
returns c =
    then_ok c.sign-4.result c.sign-4.ensures
    (λ last w. cc (last w ∙ c.in_ok-sign-3.ensures _ ∙ c.in_ok-write_params.ensures _ ∙ c.in_ok-sign-2.ensures _
    ∙ c.in_ok-name.ensures _ ∙ c.in_ok-sign.ensures _))
