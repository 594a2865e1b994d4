-- What the system of an expanded source is, and where an expanded source has none.
use Rattle.std.specs.Prelude.{◌≡◌, [], map, slice_get, Some, IfSome, Result}
use Rattle.hc_grammar.specs.Exact as exact
use Rattle.hc_modules.specs.declared.flat.Flat.{Flat}
use Rattle.hc_term.specs.declared.system.System.{System}
use Rattle.hc_finds.specs.declared.stop.CheckStop.{CheckStop}
use Rattle.hc_finds.specs.First.{told}
use Rattle.hc_finds.specs.Limits.{channels_of}
use Rattle.hc_finds.specs.Refusals.{refusals}
use Rattle.hc_check.specs.Numbered.{process_over}

-- this is the system of an expanded source: no phase finds anything, channels and variables are numbered by first occurrence
pub record IsChecked (flat : Flat) (sys : System) : Type 0 where
  pub nothing_found : refusals flat.processes ≡ []
  pub channels : sys.channels ≡ channels_of flat.processes
  pub processes : sys.processes ≡ map (process_over (channels_of flat.processes)) flat.processes

-- the source is refused: the first phase that finds something finds this first
abbrev pub IsRefused : Flat → CheckStop → Type 0
IsRefused flat s = slice_get (refusals flat.processes) 0 ≡ Some s

-- the source is refused so; want of memory says nothing of it
abbrev pub IsStop : Flat → CheckStop → Type 0
IsStop flat s = IfSome (told s) (IsRefused flat)

-- the answer to an expanded source is its system, or its refusal, and both are answered unless memory runs out
abbrev pub IsExact : Flat → Result System CheckStop → Type 0
IsExact flat = exact.IsExact (λ s. s) told (IsChecked flat) (IsRefused flat)
