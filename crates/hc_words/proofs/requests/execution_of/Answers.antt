use Rattle.std.proofs.Common.{◌∙◌, sym, option_map}
use Rattle.hc_words.proofs.Asking.{machine_steps_within}
use Rattle.hc_words.proofs.requests.execution_of.Goals as goal

pub invariant_of-result : goal.invariant_of-result
invariant_of-result c = record {
  in_range =
      machine_steps_within (option_map (λ s. s.now) c.args.given.now.steps) c.in_ok-steps.steps (sym c.machine_steps_of.ensures ∙ c.in_ok-steps.was);
}
