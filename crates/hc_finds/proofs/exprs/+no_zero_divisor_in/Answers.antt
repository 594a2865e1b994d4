use Rattle.std.proofs.Common.{List, flat_map, false}
use Rattle.std.proofs.lemmas.Result.{err_from_is_err_and}
use Rattle.hc_frac.specs.declared.place.Place.{Place}
use Rattle.hc_ast.specs.declared.expr.ExprTree.{ExprTree}
use Rattle.hc_finds.specs.Exprs as spec
use Rattle.hc_modules.specs.Found.{first_of}
use Rattle.hc_modules.proofs.Firsts.{goes_on, ends}
use Rattle.hc_finds.proofs.ExprForms.{joined-first}
use Rattle.hc_finds.proofs.exprs.+no_zero_divisor_in.Goals as goal

pub returns-in_err-no_zero_divisor_in-in-And : goal.returns-in_err-no_zero_divisor_in-in-And
returns-in_err-no_zero_divisor_in-in-And t c =
    let look : ExprTree → List Place = spec.zero_divisors false in
    ends (first_of (flat_map look (spec.sides c.args.cond.now))) (first_of (flat_map look (spec.sides c.in-And.left)))
    (first_of (flat_map look (spec.sides c.in-And.right))) c.no_zero_divisor_in-in-And.result c.from_residual-in_err-no_zero_divisor_in-in-And.result _
    (joined-first look c.args.cond.now c.in-And.left c.in-And.right c.in-And.is) (cc) c.in_err-no_zero_divisor_in-in-And.was
    (err_from_is_err_and _ c.from_residual-in_err-no_zero_divisor_in-in-And.ensures.1)

pub returns-in_ok-no_zero_divisor_in-in-And : goal.returns-in_ok-no_zero_divisor_in-in-And
returns-in_ok-no_zero_divisor_in-in-And t c =
    let look : ExprTree → List Place = spec.zero_divisors false in
    goes_on (first_of (flat_map look (spec.sides c.args.cond.now))) (first_of (flat_map look (spec.sides c.in-And.left)))
    (first_of (flat_map look (spec.sides c.in-And.right))) c.no_zero_divisor_in-in-And.result c.no_zero_divisor_in-in-And-2.result _
    (joined-first look c.args.cond.now c.in-And.left c.in-And.right c.in-And.is) (cc) c.in_ok-no_zero_divisor_in-in-And.was (cc)
