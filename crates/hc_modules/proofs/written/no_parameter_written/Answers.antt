use Rattle.std.proofs.Common.{rules, List, flat_map}
use Rattle.hc_frac.specs.declared.place.Place.{Place}
use Rattle.hc_ast.specs.declared.tree.ModuleDef.{ModuleDef}
use Rattle.hc_modules.specs.declared.flat.ModuleStop.TheVariants.{ParameterWritten}
use Rattle.hc_modules.specs.Finds.{writes_parameter, parameters_written}
use Rattle.hc_modules.specs.Outermost.{written}
use Rattle.hc_modules.specs.Found.{told}
use Rattle.hc_modules.proofs.Firsts.{first_within}
use Rattle.hc_modules.proofs.written.no_parameter_written.Goals as goal

pub returns-in_err-no_write-clause-stop : goal.returns-in_err-no_write-clause-stop
returns-in_err-no_write-clause-stop c =
    let look : ModuleDef → List Place = λ m. flat_map (writes_parameter m.params) (flat_map written m.body) in
    let found = first_within told ParameterWritten look c.args.modules.now c.loop-module.module-index c.module-item.result c.loop-module-test.true c.module-item.is
    (parameters_written c.args.modules.now) c.loop-module.invariant in
    search (rules, found)
