-- What holds of all expanded sources.
use Rattle.std.specs.Prelude.{◌≡◌, [], ◌⊎◌}
use Rattle.hc_modules.specs.declared.flat.Flat.{Flat}
use Rattle.hc_modules.specs.Refusals.{IsFlat}
use Rattle.hc_term.specs.declared.system.System.{System}
use Rattle.hc_finds.specs.declared.stop.CheckStop.{CheckStop}
use Rattle.hc_finds.specs.Refusals.{refusals}
use Rattle.hc_check.specs.Checked.{IsChecked, IsRefused}

-- an expanded source has at most one system
abbrev pub OneSystem : Type 0
OneSystem = (flat : Flat) (s t : System) → IsChecked flat s → IsChecked flat t → s ≡ t

-- it is refused for one thing at most
abbrev pub OneRefusal : Type 0
OneRefusal = (flat : Flat) (r s : CheckStop) → IsRefused flat r → IsRefused flat s → r ≡ s

-- an expanded source with a system isn't refused
abbrev pub CheckedIsNotRefused : Type 0
CheckedIsNotRefused = (flat : Flat) (sys : System) (s : CheckStop) → IsChecked flat sys → IsRefused flat s → ⊥

-- an expanded source against which nothing is found has a system
abbrev pub FreeHasSystem : Type 0
FreeHasSystem = (flat : Flat) → IsFlat flat → refusals flat.processes ≡ [] → (sys : System) × IsChecked flat sys

-- so each expanded source has a system, or is refused
abbrev pub EachIsDecided : Type 0
EachIsDecided =
    (flat : Flat) → IsFlat flat → ((sys : System) × IsChecked flat sys) ⊎ ((s : CheckStop) × IsRefused flat s)
