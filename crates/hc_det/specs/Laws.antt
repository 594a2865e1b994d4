-- What no schedule changes.
use Rattle.std.specs.Prelude.{◌≡◌, true, List}
use Rattle.hc_term.specs.declared.task.Task.{Task}
use Rattle.hc_term.specs.declared.run.Item.{Item}
use Rattle.hc_term.specs.declared.run.Stop.{Stop}
use Rattle.hc_term.specs.declared.model.Configuration.{Configuration}
use Rattle.hc_term.specs.Stop.{IsBehaviour}
use Rattle.hc_order.specs.Determinate.{is_determinate}
use Rattle.hc_order.specs.Laws.{IsSettled}
use Rattle.hc_det.specs.Text.{channels_text}

-- where one behaviour of a determinate system ends by termination, deadlock or the horizon, all behaviours stop so and have its text
abbrev pub OneChannelsText : Type 0
OneChannelsText =
    (t : Task) (items others : List Item) (end last : Configuration) (stop other : Stop) → is_determinate t.system ≡ true →
    IsBehaviour t items end stop → IsSettled stop → IsBehaviour t others last other →
    (stop ≡ other) × (channels_text t.system items end.clock stop ≡ channels_text t.system others last.clock other)
