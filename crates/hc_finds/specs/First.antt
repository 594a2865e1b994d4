-- The refusal that an error of the checks tells: want of memory tells none.
use Rattle.std.specs.Prelude.{Option, Some, None}
use Rattle.hc_finds.specs.declared.stop.CheckStop.{CheckStop}
use Rattle.hc_finds.specs.declared.stop.CheckStop.TheVariants as stop

abbrev pub told : CheckStop → Option CheckStop
told stop.Memory = None
told s = Some s
