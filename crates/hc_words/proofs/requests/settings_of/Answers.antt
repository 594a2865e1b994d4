use Rattle.std.proofs.Common.{◌∙◌, sym, option_map}
use Rattle.hc_words.proofs.Asking.{limits, positive}
use Rattle.hc_words.proofs.requests.settings_of.Goals as goal

pub invariant_of-result : goal.invariant_of-result
invariant_of-result c = record {
  positive = positive (option_map (λ s. s.now) c.args.given.now.horizon) c.in_ok-horizon.horizon c.in_ok-horizon.ensures.some;
  in_range = limits (option_map (λ s. s.now) c.args.given.now.limit) c.in_ok-limit.limit (sym c.limit_of.ensures ∙ c.in_ok-limit.was);
}
