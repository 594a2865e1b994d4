use Rattle.hc_cmd.proofs.Finding.{tree_found}
use Rattle.hc_cmd.proofs.accepting.tree_of.Goals as goal

pub returns : goal.returns
returns c = tree_found c.args.text.now c.parse.result c.map_err.result c.parse.ensures.value_is c.parse.ensures.refusal_is c.map_err.ensures.cases
