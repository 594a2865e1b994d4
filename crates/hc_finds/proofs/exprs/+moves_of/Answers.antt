use Rattle.std.proofs.Common.{◌++◌, ◌&&◌}
use Rattle.hc_finds.specs.Exprs as spec
use Rattle.hc_finds.specs.Looks.{evolving}
use Rattle.hc_modules.specs.Finds.{only_if}
use Rattle.hc_finds.proofs.First.{first_of-and}
use Rattle.hc_finds.proofs.ExprForms as form
use Rattle.hc_finds.proofs.exprs.+moves_of.Goals as goal

pub returns-in-Binary-clause-affine : goal.returns-in-Binary-clause-affine
returns-in-Binary-clause-affine t c =
    let xs = evolving c.args.rates.now in
    let is = form.products-binary c.args.expr.now c.in-Binary.op c.in-Binary.left c.in-Binary.right (cc) xs in
    let before = (spec.moves_of xs c.in-Binary.left).products in
    let behind = (spec.moves_of xs c.in-Binary.right).products in
    let both = (spec.moves_of xs c.in-Binary.left).moves && (spec.moves_of xs c.in-Binary.right).moves in
    let here = only_if (spec.is_product c.in-Binary.op && both) c.args.expr.now.place in
    cc (is, first_of-and (before ++ here) behind, first_of-and before here)
