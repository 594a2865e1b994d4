use Rattle.std.proofs.Common.{◌≡◌, map, take, drop}
use Rattle.hc_modules.specs.Finds.{repeated_modules}
use Rattle.hc_modules.proofs.Repeats.{repeats}
use Rattle.hc_modules.proofs.names.no_repeated_module.Given as goal

abbrev pub invariant-loop-module : goal.invariant-loop-module
invariant-loop-module l = record {
  noted : l.names.keys ≡ map (λ x. x.name) (take l.module-index l.modules);
  found : repeated_modules l.modules ≡ repeats (λ x. x.name) (λ x. x.place) (take l.module-index l.modules) (drop l.module-index l.modules);
}
