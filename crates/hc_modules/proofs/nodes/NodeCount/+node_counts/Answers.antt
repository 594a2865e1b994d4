use Rattle.std.proofs.Common.{ap, sym, ◌∙◌, map, fold}
use Rattle.hc_modules.specs.Calls.{bindings}
use Rattle.hc_modules.specs.Counted.{add}
use Rattle.hc_modules.specs.Outermost.{of_expr, of_cond}
use Rattle.hc_modules.specs.Replaced.{cond_in, rate_in}
use Rattle.hc_modules.proofs.OutermostForms.{all_counted, else_counted, branches_counted, counted-If, counted-Pick, counted-Forever, counted-Loop, counted-Choice, counted-Evolve}
use Rattle.hc_modules.proofs.nodes.NodeCount.+node_counts.Goals as goal

pub stmt-returns-in-None : goal.stmt-returns-in-None
stmt-returns-in-None t c =
    let b = bindings c.args.call.now in
    let n = c.args.self in
    c.stmts-first.ensures ∙ ap (all_counted b n c.cond.result) c.as_slice.ensures
    ∙ ap (λ m. all_counted b n m c.in-If.yes) c.cond.ensures
    ∙ sym (ap (else_counted b n (all_counted b n (add n (of_cond (cond_in b c.in-If.test))) c.in-If.yes)) c.in-None.is)
    ∙ sym (counted-If b n _ _ _ _ c.in-If.is)

pub stmt-returns-in-Some : goal.stmt-returns-in-Some
stmt-returns-in-Some t c =
    let b = bindings c.args.call.now in
    let n = c.args.self in
    c.stmts.ensures ∙ ap (all_counted b n c.stmts-first.result) c.as_slice-in-Some.ensures
    ∙ ap (λ m. all_counted b n m c.in-Some.no)
    (c.stmts-first.ensures ∙ ap (all_counted b n c.cond.result) c.as_slice.ensures ∙ ap (λ m. all_counted b n m c.in-If.yes) c.cond.ensures)
    ∙ sym (ap (else_counted b n (all_counted b n (add n (of_cond (cond_in b c.in-If.test))) c.in-If.yes)) c.in-Some.is)
    ∙ sym (counted-If b n _ _ _ _ c.in-If.is)

pub stmt-returns-in-Pick : goal.stmt-returns-in-Pick
stmt-returns-in-Pick t c =
    let b = bindings c.args.call.now in
    let n = c.args.self in
    c.stmts-in-Pick.ensures ∙ ap (all_counted b n c.stmts-first-in-Pick.result) c.as_slice-in-Pick-2.ensures
    ∙ ap (λ m. all_counted b n m c.in-Pick.right) (c.stmts-first-in-Pick.ensures ∙ ap (all_counted b n n) c.as_slice-in-Pick.ensures)
    ∙ sym (counted-Pick b n _ _ _ c.in-Pick.is)

pub stmt-returns-in-Forever : goal.stmt-returns-in-Forever
stmt-returns-in-Forever t c =
    let b = bindings c.args.call.now in
    let n = c.args.self in
    c.stmts-in-Forever.ensures ∙ ap (all_counted b n n) c.as_slice-in-Forever.ensures ∙ sym (counted-Forever b n _ _ c.in-Forever.is)

pub stmt-returns-in-Loop : goal.stmt-returns-in-Loop
stmt-returns-in-Loop t c =
    let b = bindings c.args.call.now in
    let n = c.args.self in
    c.cond-in-Loop.ensures
    ∙ ap (λ m. add m (of_cond (cond_in b c.in-Loop.test))) (c.stmts-in-Loop.ensures ∙ ap (all_counted b n n) c.as_slice-in-Loop.ensures)
    ∙ sym (counted-Loop b n _ _ _ c.in-Loop.is)

pub stmt-returns-in-Choice : goal.stmt-returns-in-Choice
stmt-returns-in-Choice t c =
    let b = bindings c.args.call.now in
    let n = c.args.self in
    c.branches.ensures ∙ ap (branches_counted b n n) c.as_slice-in-Choice.ensures ∙ sym (counted-Choice b n _ _ c.in-Choice.is)

pub stmt-returns-in-Evolve : goal.stmt-returns-in-Evolve
stmt-returns-in-Evolve t c =
    let b = bindings c.args.call.now in
    let n = c.args.self in
    c.branches-in-Evolve.ensures ∙ ap (branches_counted b n c.cond-first.result) c.as_slice-in-Evolve-2.ensures
    ∙ ap (λ m. branches_counted b n m c.in-Evolve.branches)
    (c.cond-first.ensures ∙ ap (λ m. add m (of_cond (cond_in b c.in-Evolve.domain)))
    (c.rates.ensures ∙ ap (λ rs. fold add n (map (λ r. of_expr r.value) (map (rate_in b) rs))) c.as_slice-in-Evolve.ensures))
    ∙ sym (counted-Evolve b n _ _ _ _ c.in-Evolve.is)
