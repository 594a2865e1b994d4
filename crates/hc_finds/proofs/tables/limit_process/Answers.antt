use Rattle.std.proofs.Common.{rules}
use Rattle.hc_finds.proofs.Noted.{noted-first}
use Rattle.hc_finds.proofs.tables.limit_process.Goals as goal

pub returns-clause-variables : goal.returns-clause-variables
returns-clause-variables c = search (rules, noted-first)
