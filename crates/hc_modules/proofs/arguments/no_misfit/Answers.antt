use Rattle.std.proofs.Common.{rules, ap, sym, ◌∙◌, option_map, zip}
use Rattle.std.proofs.lemmas.Iterator.{YieldsList-from_slice, YieldsList-from_zip}
use Rattle.std.proofs.lemmas.Iterator.Search.{find_from_yields_List}
use borrow.Author.Tests.{tests}
use Rattle.hc_modules.specs.Finds.{is_misfit}
use Rattle.hc_modules.proofs.Along.{of_misfit, first_misfit}
use Rattle.hc_modules.proofs.arguments.no_misfit.Goals as goal

pub returns-in-Some : goal.returns-in-Some
returns-in-Some c =
    let is_first = find_from_yields_List {s = c.zip-bound.result} (λ b. is_misfit b.0.kind b.1) c.find.new.self _ _ c.find.ensures.ran
    (YieldsList-from_zip (YieldsList-from_slice c.args.params.now cc) (YieldsList-from_slice c.args.arguments.now cc))
    (λ p b q k. search (rules, tests)) in
    ap of_misfit (sym (ap (option_map (λ p. (p.0.now, p.1.now))) c.in-Some.is) ∙ is_first)
    ∙ first_misfit (zip c.args.params.now c.args.arguments.now)

pub returns-in-None : goal.returns-in-None
returns-in-None c =
    let is_first = find_from_yields_List {s = c.zip-bound.result} (λ b. is_misfit b.0.kind b.1) c.find.new.self _ _ c.find.ensures.ran
    (YieldsList-from_zip (YieldsList-from_slice c.args.params.now cc) (YieldsList-from_slice c.args.arguments.now cc))
    (λ p b q k. search (rules, tests)) in
    ap of_misfit (sym (ap (option_map (λ p. (p.0.now, p.1.now))) c.in-None.is) ∙ is_first)
    ∙ first_misfit (zip c.args.params.now c.args.arguments.now)
