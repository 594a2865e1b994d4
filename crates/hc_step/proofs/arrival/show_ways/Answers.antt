use Rattle.std.proofs.Common.{length}
use Rattle.hc_step.proofs.Guards.{guards}
use Rattle.hc_step.proofs.arrival.show_ways.Goals as goal

pub offer_plain-requires-clause-ruled : goal.offer_plain-requires-clause-ruled
offer_plain-requires-clause-ruled c = (c.requires.ruled.0, (guards c.requires.ruled.0 (length c.args.store.now) c.args.ways.now c.requires.ruled.1).ruled)
