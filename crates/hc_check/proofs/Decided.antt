-- Each expanded source has a system, or is refused.
use Rattle.std.proofs.Common.{◌≡◌, refl, ap, ◌⊎◌, inl, inr, List, [], ◌∷◌, map, slice_get}
use Rattle.hc_modules.proofs.WellFacts.{well}
use Rattle.hc_term.specs.declared.system.System.{System}
use Rattle.hc_finds.specs.declared.stop.CheckStop.{CheckStop}
use Rattle.hc_finds.specs.Limits.{channels_of}
use Rattle.hc_finds.specs.Refusals.{refusals}
use Rattle.hc_check.specs.Numbered.{process_over}
use Rattle.hc_check.specs.Checked.{IsChecked, IsRefused}
use Rattle.hc_check.specs.Laws.{FreeHasSystem, EachIsDecided}
use Rattle.hc_check.proofs.Kept.{kept}

-- where nothing is found, the processes and channels keep the rules, over their names
pub free_has_system : FreeHasSystem
free_has_system flat is none = (
  record {
    processes = map (process_over (channels_of flat.processes)) flat.processes;
    channels = channels_of flat.processes;
    kept = kept flat (well flat is) none;
  },
  record { nothing_found = none; channels = refl; processes = refl },
)

-- either nothing is found, or something first
pub each_is_decided : EachIsDecided
each_is_decided flat is = by (refusals flat.processes) refl
  where
    by : (found : List CheckStop) → refusals flat.processes ≡ found →
        ((sys : System) × IsChecked flat sys) ⊎ ((s : CheckStop) × IsRefused flat s)
    by [] e = inl (free_has_system flat is e)
    by (s ∷ more) e = inr (s, ap (λ (found : List CheckStop). slice_get found 0) e)
