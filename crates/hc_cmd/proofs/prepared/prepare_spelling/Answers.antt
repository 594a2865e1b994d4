use Rattle.std.proofs.Common.{◌≡◌, ◌∙◌}
use Rattle.std.proofs.lemmas.Result.{err_from_is_err_and}
use Rattle.hc_print.specs.Canonical.{canonical}
use Rattle.hc_cmd.specs.Sources.{source}
use Rattle.hc_cmd.proofs.Finding.{memory_or, no_tree, done_so, ok_found}
use Rattle.hc_cmd.proofs.prepared.prepare_spelling.Goals as goal

pub returns-in_err-tree : goal.returns-in_err-tree
returns-in_err-tree c =
    let exit = err_from_is_err_and c.from_residual.result c.from_residual.ensures.1 in
    rw (exit.1, exit.2) (memory_or _ _ (no_tree _ c.args.text.now) c.in_err-tree.field-0.0 c.in_err-tree.ensures)

pub returns : goal.returns
returns c = (tt, source c.in_ok-tree.tree c.in_ok-tree.ensures (c.done.ensures ∙ done_so _ _ (ok_found (λ text. text.items ≡ canonical c.in_ok-tree.tree) _ c.print.result c.map_err.result c.in_ok-bytes.bytes c.print.ensures.canonical c.map_err.ensures.cases c.in_ok-bytes.was)))
