use Rattle.std.proofs.Common.{◌≡◌, ◌++◌, drop}
use Rattle.hc_upgrade.specs.Routes.{routes, routes_from}
use Rattle.hc_upgrade.proofs.routes.routes.Given as goal

abbrev pub invariant-loop-number : goal.invariant-loop-number
invariant-loop-number l = record {
  within : l.name-items ≡ l.system.channels;
  routes : routes l.system ≡ l.found ++ routes_from l.system l.number (drop l.number l.name-items);
}
