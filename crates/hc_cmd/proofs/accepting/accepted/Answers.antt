use Rattle.std.proofs.lemmas.Result.{err_from_is_err_and}
use Rattle.hc_modules.specs.Refusals.{IsExpansion}
use Rattle.hc_check.specs.Checked.{IsChecked}
use Rattle.hc_cmd.proofs.Finding.{no_tree_found, flat_failed, check_failed, ok_found}
use Rattle.hc_cmd.proofs.accepting.accepted.Goals as goal

pub returns-in_err-tree : goal.returns-in_err-tree
returns-in_err-tree c =
    let exit = err_from_is_err_and c.from_residual.result c.from_residual.ensures.1 in
    rw (exit.1, exit.2) (no_tree_found c.args.text.now c.in_err-tree.field-0.0 c.in_err-tree.ensures)

pub returns-in_err-flat : goal.returns-in_err-flat
returns-in_err-flat c =
    let exit = err_from_is_err_and c.from_residual-in_err-flat.result c.from_residual-in_err-flat.ensures.1 in
    rw (exit.1, exit.2) (flat_failed c.args.text.now c.in_ok-tree.tree c.expand.result c.map_err.result c.in_err-flat.field-0.0
    c.in_ok-tree.ensures c.expand.ensures.refusal_is c.map_err.ensures.cases c.in_err-flat.was)

pub returns-in_err-system : goal.returns-in_err-system
returns-in_err-system c =
    let exit = err_from_is_err_and c.from_residual-in_err-system.result c.from_residual-in_err-system.ensures.1 in
    let from = ok_found (IsExpansion c.in_ok-tree.tree) _ c.expand.result c.map_err.result c.in_ok-flat.flat c.expand.ensures.value_is c.map_err.ensures.cases c.in_ok-flat.was in
    rw (exit.1, exit.2) (check_failed c.args.text.now c.in_ok-tree.tree c.in_ok-flat.flat c.check.result c.map_err-2.result c.in_err-system.field-0.0
    c.in_ok-tree.ensures from c.check.ensures.refusal_is c.map_err-2.ensures.cases c.in_err-system.was)

pub returns : goal.returns
returns c = record {
  tree = c.in_ok-tree.tree;
  source = c.in_ok-tree.ensures;
  expanded = ok_found (IsExpansion c.in_ok-tree.tree) _ c.expand.result c.map_err.result c.in_ok-flat.flat c.expand.ensures.value_is c.map_err.ensures.cases c.in_ok-flat.was;
  checked = ok_found (IsChecked c.in_ok-flat.flat) _ c.check.result c.map_err-2.result c.in_ok-system.system c.check.ensures.value_is c.map_err-2.ensures.cases c.in_ok-system.was;
}
