use Rattle.std.proofs.Common.{◌≡◌, map, take, drop}
use Rattle.hc_modules.specs.Finds.{repeated_params}
use Rattle.hc_modules.proofs.Repeats.{repeats}
use Rattle.hc_modules.proofs.names.no_repeated_param.Given as goal

abbrev pub invariant-loop-param : goal.invariant-loop-param
invariant-loop-param l = record {
  noted : l.names.keys ≡ map (λ x. x.name) (take l.param-index l.params);
  found : repeated_params l.params ≡ repeats (λ x. x.name) (λ x. x.place) (take l.param-index l.params) (drop l.param-index l.params);
}
