-- That a process has ended, as it shows it.
use Rattle.std.specs.Prelude.{Bool, true, false}
use Rattle.hc_term.specs.declared.post.Phase.{Phase}
use Rattle.hc_term.specs.declared.post.Phase.TheVariants as phase

abbrev pub is_ended : Phase → Bool
is_ended phase.Ended = true
is_ended _ = false
