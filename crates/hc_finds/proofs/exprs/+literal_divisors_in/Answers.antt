use Rattle.std.proofs.Common.{List, flat_map, false}
use Rattle.std.proofs.lemmas.Result.{err_from_is_err_and}
use Rattle.hc_frac.specs.declared.place.Place.{Place}
use Rattle.hc_ast.specs.declared.expr.ExprTree.{ExprTree}
use Rattle.hc_finds.specs.Exprs as spec
use Rattle.hc_modules.specs.Found.{first_of}
use Rattle.hc_modules.proofs.Firsts.{goes_on, ends}
use Rattle.hc_finds.proofs.ExprForms.{joined-first}
use Rattle.hc_finds.proofs.exprs.+literal_divisors_in.Goals as goal

pub returns-in_err-literal_divisors_in-in-And : goal.returns-in_err-literal_divisors_in-in-And
returns-in_err-literal_divisors_in-in-And t c =
    let look : ExprTree → List Place = spec.divisors_not_literal false in
    ends (first_of (flat_map look (spec.sides c.args.cond.now))) (first_of (flat_map look (spec.sides c.in-And.left)))
    (first_of (flat_map look (spec.sides c.in-And.right))) c.literal_divisors_in-in-And.result c.from_residual-in_err-literal_divisors_in-in-And.result _
    (joined-first look c.args.cond.now c.in-And.left c.in-And.right c.in-And.is) (cc) c.in_err-literal_divisors_in-in-And.was
    (err_from_is_err_and _ c.from_residual-in_err-literal_divisors_in-in-And.ensures.1)

pub returns-in_ok-literal_divisors_in-in-And : goal.returns-in_ok-literal_divisors_in-in-And
returns-in_ok-literal_divisors_in-in-And t c =
    let look : ExprTree → List Place = spec.divisors_not_literal false in
    goes_on (first_of (flat_map look (spec.sides c.args.cond.now))) (first_of (flat_map look (spec.sides c.in-And.left)))
    (first_of (flat_map look (spec.sides c.in-And.right))) c.literal_divisors_in-in-And.result c.literal_divisors_in-in-And-2.result _
    (joined-first look c.args.cond.now c.in-And.left c.in-And.right c.in-And.is) (cc) c.in_ok-literal_divisors_in-in-And.was (cc)
