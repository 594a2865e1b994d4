use Rattle.std.proofs.Common.{rules}
use Rattle.hc_modules.proofs.Shapes.{total-in}
use Rattle.hc_modules.proofs.sizes.uncalled.Goals as goal

pub returns-in-Some : goal.returns-in-Some
returns-in-Some c = search (rules, total-in)
