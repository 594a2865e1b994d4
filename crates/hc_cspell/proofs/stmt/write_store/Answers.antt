use Rattle.std.proofs.Common.{◌∙◌}
use Rattle.hc_cspell.proofs.Chains.{then_ok}
use Rattle.hc_cspell.proofs.stmt.write_store.Goals as goal

pub returns : goal.returns
returns c =
    then_ok c.write_end.result c.write_end.ensures
    (λ last w. last w ∙ c.in_ok-sign-3.ensures _ ∙ c.in_ok-sign-2.ensures _ ∙ c.in_ok-write_expr.ensures _
    ∙ c.in_ok-sign.ensures _ ∙ c.in_ok-array.ensures _)
