use Rattle.std.proofs.Common.{rules, arith}
use Rattle.std.proofs.lemmas.Grind.{common_steps}
use Rattle.hc_finds.proofs.PartForms.{parts-if, parts-else, parts-pick, parts-forever, parts-evolve, parts-round, guards-next}
use Rattle.hc_finds.proofs.parts.+parts.Goals as goal

pub add_parts-returns-in-Some : goal.add_parts-returns-in-Some
add_parts-returns-in-Some t c =
    let form = parts-else c.args.tests_first c.args.stmt.now c.in-If.test c.in-If.yes c.in-Some.no (cc) in
    grind (arith, common_steps, form)

pub add_parts-returns-in-None : goal.add_parts-returns-in-None
add_parts-returns-in-None t c =
    let form = parts-if c.args.tests_first c.args.stmt.now c.in-If.test c.in-If.yes (cc) in
    grind (arith, common_steps, form)

pub add_parts-returns-in_ok-add_all-in-Pick : goal.add_parts-returns-in_ok-add_all-in-Pick
add_parts-returns-in_ok-add_all-in-Pick t c =
    let form = parts-pick c.args.tests_first c.args.stmt.now c.in-Pick.left c.in-Pick.right (cc) in
    grind (arith, common_steps, form)

pub add_parts-returns-in-Forever : goal.add_parts-returns-in-Forever
add_parts-returns-in-Forever t c =
    let form = parts-forever c.args.tests_first c.args.stmt.now c.in-Forever.body (cc) in
    search (rules, form)

pub add_parts-returns-in_ok-add_motion-in-Evolve : goal.add_parts-returns-in_ok-add_motion-in-Evolve
add_parts-returns-in_ok-add_motion-in-Evolve t c =
    let form = parts-evolve c.args.tests_first c.args.stmt.now c.in-Evolve.rates c.in-Evolve.domain c.in-Evolve.branches (cc) in
    grind (arith, common_steps, form)

pub add_parts-returns-in-Loop : goal.add_parts-returns-in-Loop
add_parts-returns-in-Loop t c =
    let form = parts-round c.args.tests_first c.args.stmt.now c.in-Loop.test c.in-Loop.body (cc) in
    search (rules, form)

pub add_guards-loop-at-preserved : goal.add_guards-loop-at-preserved
add_guards-loop-at-preserved t c =
    let next = guards-next c.args.tests_first c.args.rates.now c.args.branches.now c.loop-at.at c.index-branches-at.result (omega arith) in
    grind (arith, common_steps, next)
