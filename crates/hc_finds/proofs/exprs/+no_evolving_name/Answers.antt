use Rattle.std.proofs.Common.{List, flat_map}
use Rattle.std.proofs.lemmas.Result.{err_from_is_err_and}
use Rattle.hc_frac.specs.declared.place.Place.{Place}
use Rattle.hc_finds.specs.Exprs as spec
use Rattle.hc_finds.specs.Looks.{evolving}
use Rattle.hc_modules.specs.Finds.{only_if}
use Rattle.hc_modules.specs.Found.{first_of}
use Rattle.hc_modules.proofs.Firsts.{goes_on, ends}
use Rattle.hc_finds.proofs.First.{first-of}
use Rattle.hc_finds.proofs.ExprForms.{names-binary}
use Rattle.hc_finds.proofs.exprs.+no_evolving_name.Goals as goal

pub returns-in_err-no_evolving_name-in-Binary : goal.returns-in_err-no_evolving_name-in-Binary
returns-in_err-no_evolving_name-in-Binary t c =
    let look : spec.NameAt → List Place = λ n. only_if (spec.is_among (evolving c.args.rates.now) n.word) n.place in
    let is = names-binary c.args.expr.now c.in-Binary.field-0 c.in-Binary.left c.in-Binary.right (cc) in
    ends (first_of (flat_map look (spec.names_in c.args.expr.now))) (first_of (flat_map look (spec.names_in c.in-Binary.left)))
    (first_of (flat_map look (spec.names_in c.in-Binary.right))) c.no_evolving_name-in-Binary.result c.from_residual.result _
    (first-of look (spec.names_in c.args.expr.now) (spec.names_in c.in-Binary.left) (spec.names_in c.in-Binary.right) is) (cc)
    c.in_err-no_evolving_name-in-Binary.was (err_from_is_err_and _ c.from_residual.ensures.1)

pub returns-in_ok-no_evolving_name-in-Binary : goal.returns-in_ok-no_evolving_name-in-Binary
returns-in_ok-no_evolving_name-in-Binary t c =
    let look : spec.NameAt → List Place = λ n. only_if (spec.is_among (evolving c.args.rates.now) n.word) n.place in
    let is = names-binary c.args.expr.now c.in-Binary.field-0 c.in-Binary.left c.in-Binary.right (cc) in
    goes_on (first_of (flat_map look (spec.names_in c.args.expr.now))) (first_of (flat_map look (spec.names_in c.in-Binary.left)))
    (first_of (flat_map look (spec.names_in c.in-Binary.right))) c.no_evolving_name-in-Binary.result c.no_evolving_name-in-Binary-2.result _
    (first-of look (spec.names_in c.args.expr.now) (spec.names_in c.in-Binary.left) (spec.names_in c.in-Binary.right) is) (cc)
    c.in_ok-no_evolving_name-in-Binary.was (cc)
