-- The count of nodes along outermost expressions, as the code has it.
use Rattle.std.specs.Prelude.{◌+◌, nat_lt, if◌then◌else◌}
use Rattle.hc_limits.specs.Limits.{most_nodes_in_all}
use Rattle.hc_modules.specs.declared.nodes.NodeCount.{NodeCount}
use Rattle.hc_modules.specs.declared.nodes.NodeCount.TheVariants.{Within, Beyond}
use Rattle.hc_modules.specs.Outermost.{Outermost}

-- with one more: the first with which there are more than 50,000 nodes ends the count
abbrev pub add : NodeCount → Outermost → NodeCount
add (Within n) x = if nat_lt most_nodes_in_all (n + x.size) then Beyond x.place else Within (n + x.size)
add (Beyond p) x = Beyond p
