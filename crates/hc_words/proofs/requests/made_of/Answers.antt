use Rattle.std.proofs.Common.{◌∙◌, sym, option_map}
use Rattle.hc_words.proofs.Asking.{pairs_within}
use Rattle.hc_words.proofs.requests.made_of.Goals as goal

pub invariant_of-result : goal.invariant_of-result
invariant_of-result c = record {
  in_range = pairs_within (option_map (λ s. s.now) c.args.given.now.number) c.in_ok-pairs.pairs (sym c.pairs_of.ensures ∙ c.in_ok-pairs.was);
}
