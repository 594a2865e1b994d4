use Rattle.std.proofs.Common.{◌≡◌, [], take, drop, map, flat_map}
use Rattle.hc_finds.specs.Limits as spec
use Rattle.hc_finds.specs.Limits.{variables_of}
use Rattle.hc_finds.proofs.Noted.{noted}
use Rattle.hc_finds.proofs.tables.within_limits.Given as goal

abbrev pub invariant-loop-process : goal.invariant-loop-process
invariant-loop-process l = record {
  found : spec.beyond_limits [] l.processes
      ≡ spec.beyond_limits (flat_map spec.channels_named (take l.process-index l.processes)) (drop l.process-index l.processes);
  channels : l.tables.channels.keys ≡ noted [] (flat_map spec.channels_named (take l.process-index l.processes));
  variables : map (λ s. s.keys) l.tables.variables ≡ map variables_of (take l.process-index l.processes);
}
