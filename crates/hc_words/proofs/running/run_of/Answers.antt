use Rattle.std.proofs.Common.{◌∙◌, sym, option_map}
use Rattle.hc_words.proofs.Asking.{workers_within}
use Rattle.hc_words.proofs.running.run_of.Goals as goal

pub invariant_of-result : goal.invariant_of-result
invariant_of-result c = record {
  few = workers_within (option_map (λ s. s.now) c.args.given.now.workers) c.in_ok-workers.workers (sym c.workers_of.ensures ∙ c.in_ok-workers.was);
}
