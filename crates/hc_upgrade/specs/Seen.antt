-- Events whose names stand elsewhere, as events of a trace.
use Rattle.std.specs.Prelude.{Some}
use Rattle.hc_trace.specs.declared.traces.TraceEvent.{TraceEvent}
use Rattle.hc_trace.specs.declared.traces.TraceEvent.TheVariants as whole
use Rattle.hc_upgrade.specs.declared.event.Event.{Event}
use Rattle.hc_upgrade.specs.declared.event.Event.TheVariants.{Delay, Comm, Log}

abbrev pub event : Event → TraceEvent
event (Delay by) = whole.Delay by
event (Comm route value) = whole.Comm route.now.channel (Some route.now.sender) (Some route.now.receiver) value
event (Log process value) = whole.Log process.now value
