use Rattle.std.proofs.Common.{ap, sym, ◌∙◌, map}
use Rattle.hc_modules.specs.declared.flat.ModuleStop.TheVariants.{TooManyNodes}
use Rattle.hc_modules.specs.Expansion.{flat_process}
use Rattle.hc_modules.specs.Finds.{nodes_too_many}
use Rattle.hc_modules.specs.Outermost.{all_outermost}
use Rattle.hc_modules.specs.Found.{told}
use Rattle.hc_modules.proofs.Stopped.{tells_itself}
use Rattle.hc_modules.proofs.Firsts.{none_found, first_found}
use Rattle.hc_modules.proofs.NodesBeyond.{answer_of, counted_right}
use Rattle.hc_modules.proofs.sizes.no_node_too_many.Goals as goal

pub returns-in-Within-clause-ok : goal.returns-in-Within-clause-ok
returns-in-Within-clause-ok c =
    let parts = all_outermost (map (flat_process c.args.modules.now) c.args.processes.now) in
    none_found (nodes_too_many parts) tt
    (sym (ap answer_of (sym c.in-Within.is ∙ c.in_ok-count_nodes.ensures {u = tt}) ∙ counted_right parts))

pub returns-in-Beyond-clause-stop : goal.returns-in-Beyond-clause-stop
returns-in-Beyond-clause-stop c =
    let parts = all_outermost (map (flat_process c.args.modules.now) c.args.processes.now) in
    first_found told tells_itself TooManyNodes (nodes_too_many parts) c.in-Beyond.place
    (sym (ap answer_of (sym c.in-Beyond.is ∙ c.in_ok-count_nodes.ensures {u = tt}) ∙ counted_right parts))
