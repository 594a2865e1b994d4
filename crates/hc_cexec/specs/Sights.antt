-- What a step looks at, as definitions see it.
use Rattle.hc_cexec.specs.declared.asking.Sight.{Sight}
use Rattle.hc_cexec.specs.Asks.{View, view_of}

abbrev pub view : Sight → View
view s = view_of s.seat.now s.arrays.now s.body.now
