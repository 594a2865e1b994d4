-- A call as the code has it.
use Rattle.std.specs.Prelude.{zip}
use Rattle.hc_modules.specs.declared.call.Call.{Call}
use Rattle.hc_modules.specs.Bindings.{Bindings}

abbrev pub bindings : Call → Bindings
bindings c = zip c.params.now c.arguments.now
