-- What the program's counts say.
use Rattle.hc_ast.specs.Counts as spec
use Rattle.hc_parse.specs.declared.counts.Counts.{Counts}

abbrev pub counted : Counts → spec.Counts
counted n = record { open_items = n.open_items; nodes = n.nodes }
