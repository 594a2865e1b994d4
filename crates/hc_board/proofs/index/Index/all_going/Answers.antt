use Rattle.hc_board.proofs.IndexOf.{nothing_made, nothing_marked_in}
use Rattle.hc_board.proofs.index.Index.all_going.Goals as goal

pub returns-clause-whole : goal.returns-clause-whole
returns-clause-whole c = nothing_made _ _ _ _ c.no_processes.ensures c.no_processes-2.ensures c.no_channels.ensures

pub returns-clause-none : goal.returns-clause-none
returns-clause-none c sending at p low = nothing_marked_in _ _ _ _ c.no_processes.ensures c.no_processes-2.ensures c.no_channels.ensures sending at p
