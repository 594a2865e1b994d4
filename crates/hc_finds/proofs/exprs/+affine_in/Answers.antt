use Rattle.std.proofs.Common.{List, flat_map, ap, ◌∙◌}
use Rattle.std.proofs.lemmas.Result.{err_from_is_err_and}
use Rattle.hc_frac.specs.declared.place.Place.{Place}
use Rattle.hc_ast.specs.declared.expr.ExprTree.{ExprTree}
use Rattle.hc_finds.specs.Exprs as spec
use Rattle.hc_finds.specs.Looks.{evolving}
use Rattle.hc_modules.specs.Found.{first_of}
use Rattle.hc_modules.proofs.Firsts.{goes_on, ends}
use Rattle.hc_finds.proofs.ExprForms.{joined-first, compared-first}
use Rattle.hc_finds.proofs.exprs.+affine_in.Goals as goal

pub returns-in_err-affine_in-in-And : goal.returns-in_err-affine_in-in-And
returns-in_err-affine_in-in-And t c =
    let look : ExprTree → List Place = λ e. (spec.moves_of (evolving c.args.rates.now) e).products in
    ends (first_of (flat_map look (spec.sides c.args.cond.now))) (first_of (flat_map look (spec.sides c.in-And.left)))
    (first_of (flat_map look (spec.sides c.in-And.right))) c.affine_in-in-And.result c.from_residual-in_err-affine_in-in-And.result _
    (joined-first look c.args.cond.now c.in-And.left c.in-And.right c.in-And.is) (cc) c.in_err-affine_in-in-And.was
    (err_from_is_err_and _ c.from_residual-in_err-affine_in-in-And.ensures.1)

pub returns-in_ok-affine_in-in-And : goal.returns-in_ok-affine_in-in-And
returns-in_ok-affine_in-in-And t c =
    let look : ExprTree → List Place = λ e. (spec.moves_of (evolving c.args.rates.now) e).products in
    goes_on (first_of (flat_map look (spec.sides c.args.cond.now))) (first_of (flat_map look (spec.sides c.in-And.left)))
    (first_of (flat_map look (spec.sides c.in-And.right))) c.affine_in-in-And.result c.affine_in-in-And-2.result _
    (joined-first look c.args.cond.now c.in-And.left c.in-And.right c.in-And.is) (cc) c.in_ok-affine_in-in-And.was (cc)

pub returns-in_ok-moves_of-in-Compare : goal.returns-in_ok-moves_of-in-Compare
returns-in_ok-moves_of-in-Compare t c =
    let look : ExprTree → List Place = λ e. (spec.moves_of (evolving c.args.rates.now) e).products in
    goes_on (first_of (flat_map look (spec.sides c.args.cond.now))) (first_of (look c.in-Compare.left)) (first_of (look c.in-Compare.right))
    c.moves_of.result.affine c.moves_of-in-Compare.result.affine _
    (compared-first look c.args.cond.now _ c.in-Compare.left c.in-Compare.right c.in-Compare.is)
    (c.moves_of.ensures.affine ∙ ap (λ (e : ExprTree). first_of (look e)) c.get.ensures) c.in_ok-moves_of-in-Compare.was
    (c.moves_of-in-Compare.ensures.affine ∙ ap (λ (e : ExprTree). first_of (look e)) c.get-in-Compare.ensures)
