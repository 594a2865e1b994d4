use Rattle.std.proofs.Common.{rules}
use Rattle.hc_finds.proofs.Along.{broken-here, broken-later}
use Rattle.hc_finds.proofs.rules.Rule.kept.Goals as goal

pub returns-in-Err : goal.returns-in-Err
returns-in-Err c = search (rules, broken-here)

pub loop-part-preserved : goal.loop-part-preserved
loop-part-preserved c = search (rules, broken-later)
