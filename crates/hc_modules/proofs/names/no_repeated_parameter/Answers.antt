use Rattle.std.proofs.Common.{rules, List}
use Rattle.hc_frac.specs.declared.place.Place.{Place}
use Rattle.hc_ast.specs.declared.tree.ModuleDef.{ModuleDef}
use Rattle.hc_modules.specs.declared.flat.ModuleStop.TheVariants.{RepeatedParameter}
use Rattle.hc_modules.specs.Finds.{repeated_params, repeated_parameters}
use Rattle.hc_modules.specs.Found.{told}
use Rattle.hc_modules.proofs.Firsts.{first_within}
use Rattle.hc_modules.proofs.names.no_repeated_parameter.Goals as goal

pub returns-in_err-no_repeated_param-clause-stop : goal.returns-in_err-no_repeated_param-clause-stop
returns-in_err-no_repeated_param-clause-stop c =
    let look : ModuleDef → List Place = λ m. repeated_params m.params in
    let found = first_within told RepeatedParameter look c.args.modules.now c.loop-module.module-index c.module-item.result c.loop-module-test.true c.module-item.is
    (repeated_parameters c.args.modules.now) c.loop-module.invariant in
    search (rules, found)
