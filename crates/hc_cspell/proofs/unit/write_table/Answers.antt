use Rattle.std.proofs.Common.{◌∙◌}
use Rattle.hc_cspell.proofs.Chains.{then_ok}
use Rattle.hc_cspell.proofs.unit.write_table.Goals as goal

pub returns : goal.returns
returns c =
    then_ok c.write_end.result c.write_end.ensures
    (λ last w. cc (last w ∙ c.in_ok-write_listed.ensures _ ∙ c.in_ok-sign-7.ensures _ ∙ c.in_ok-sign-6.ensures _ ∙ c.in_ok-write_pointer.ensures _ ∙ c.in_ok-sign-5.ensures _ ∙ c.in_ok-write_count.ensures _ ∙ c.in_ok-sign-4.ensures _ ∙ c.in_ok-sign-3.ensures _ ∙ c.in_ok-sign-2.ensures _ ∙ c.in_ok-sign.ensures _ ∙ c.in_ok-write_static.ensures _))
