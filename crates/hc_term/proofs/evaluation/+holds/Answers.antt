use Rattle.std.proofs.Common.{ap, sym, ◌∙◌}
use Rattle.hc_term.specs.Evaluated.{truth_in}
use Rattle.hc_term.proofs.Evaluating.{truth-Or}
use Rattle.hc_term.proofs.evaluation.+holds.Goals as goal

pub returns-in_ok-second-in-Or : goal.returns-in_ok-second-in-Or
returns-in_ok-second-in-Or t c =
    let store = c.args.store.now in
    let first = sym (ap (truth_in store) c.get-in-Or.ensures) ∙ sym c.holds-in-Or.ensures ∙ c.in_ok-first-in-Or.was in
    let second = sym (ap (truth_in store) c.get-in-Or-2.ensures) ∙ sym c.holds-in-Or-2.ensures ∙ c.in_ok-second-in-Or.was in
    sym (truth-Or _ _ _ _ _ _ c.in-Or.is first second)
