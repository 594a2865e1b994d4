use Rattle.std.proofs.Common.{◌≡◌, take, drop}
use Rattle.std.specs.List.{list_any}
use Rattle.hc_modules.specs.Bindings.{same_word}
use Rattle.hc_modules.specs.Finds.{along, only_if, repeated_processes}
use Rattle.hc_modules.specs.Found.{first_of}
use Rattle.hc_modules.proofs.names.no_repeated_process.Given as goal

abbrev pub invariant-loop-at : goal.invariant-loop-at
invariant-loop-at l =
    first_of (repeated_processes l.processes)
    ≡ first_of (along (λ before m. only_if (list_any (λ n. same_word n.name m.name) before) m.place) (take l.at l.processes) (drop l.at l.processes))
