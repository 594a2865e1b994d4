use Rattle.std.proofs.Common.{ap, ◌∙◌, false}
use Rattle.hc_finds.specs.Exprs as spec
use Rattle.hc_modules.specs.Finds.{only_if}
use Rattle.hc_modules.specs.Found.{first_of}
use Rattle.hc_modules.proofs.Firsts.{first_of-append, goes_on}
use Rattle.hc_finds.proofs.ExprForms as form
use Rattle.hc_finds.proofs.exprs.+literal_divisors.Goals as goal

pub returns-in_ok-refused_if-in-Neg : goal.returns-in_ok-refused_if-in-Neg
returns-in_ok-refused_if-in-Neg t c =
    let is = form.not_literal-neg c.args.expr.now c.in-Neg.part (cc) c.args.divides in
    let here = only_if c.args.divides c.args.expr.now.place in
    let inside = spec.divisors_not_literal false c.in-Neg.part in
    goes_on (first_of (spec.divisors_not_literal c.args.divides c.args.expr.now)) (first_of here) (first_of inside)
    c.refused_if-in-Neg.result c.literal_divisors.result _
    (ap first_of is ∙ first_of-append here inside) (cc) c.in_ok-refused_if-in-Neg.was (cc)
