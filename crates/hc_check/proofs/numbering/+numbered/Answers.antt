use Rattle.std.proofs.Common.{◌≡◌, rules, subst, [], map, IfOk}
use Rattle.hc_ast.specs.declared.stmt.StmtKind.{the_lemmas}
use Rattle.hc_term.specs.declared.stmt.Stmt.TheVariants as a
use Rattle.hc_check.specs.Numbered.{cond_over, rate_over, stmt_over, branch_over}
use Rattle.hc_check.proofs.numbering.+numbered.Goals as goal

pub number_stmt-returns-in-If-default-default-None : goal.number_stmt-returns-in-If-default-default-None
number_stmt-returns-in-If-default-default-None t c =
    let cs = c.args.names.channels.now.keys in
    let xs = c.args.names.variables.now.keys in
    let same : a.If (cond_over xs c.in-If-default-default-None.test) (map (stmt_over cs xs) c.as_slice.result.now) [] ≡ stmt_over cs xs c.args.stmt.now = search (rules, the_lemmas) in
    subst (λ x. IfOk c.number_if.result (λ s. s ≡ x)) same c.number_if.ensures

pub number_stmt-returns-in_ok-yes-in-If-default-default-Some : goal.number_stmt-returns-in_ok-yes-in-If-default-default-Some
number_stmt-returns-in_ok-yes-in-If-default-default-Some t c =
    let cs = c.args.names.channels.now.keys in
    let xs = c.args.names.variables.now.keys in
    let same : a.If (cond_over xs c.in-If-default-default-Some.test) c.in_ok-yes-in-If-default-default-Some.yes (map (stmt_over cs xs) c.as_slice-in-If-default-default-Some-2.result.now) ≡ stmt_over cs xs c.args.stmt.now = search (rules, the_lemmas) in
    subst (λ x. IfOk c.number_if_else.result (λ s. s ≡ x)) same c.number_if_else.ensures

pub number_stmt-returns-in_ok-left-in-Pick : goal.number_stmt-returns-in_ok-left-in-Pick
number_stmt-returns-in_ok-left-in-Pick t c =
    let cs = c.args.names.channels.now.keys in
    let xs = c.args.names.variables.now.keys in
    let same : a.Pick c.in_ok-left-in-Pick.left (map (stmt_over cs xs) c.as_slice-in-Pick-2.result.now) ≡ stmt_over cs xs c.args.stmt.now = search (rules, the_lemmas) in
    subst (λ x. IfOk c.number_pick.result (λ s. s ≡ x)) same c.number_pick.ensures

pub number_stmt-returns-in-Evolve : goal.number_stmt-returns-in-Evolve
number_stmt-returns-in-Evolve t c =
    let cs = c.args.names.channels.now.keys in
    let xs = c.args.names.variables.now.keys in
    let same : a.Evolve (map (rate_over xs) c.as_slice-in-Evolve-2.result.now) (cond_over xs c.in-Evolve.domain) (map (branch_over cs xs) c.as_slice-in-Evolve.result.now) ≡ stmt_over cs xs c.args.stmt.now = search (rules, the_lemmas) in
    subst (λ x. IfOk c.number_evolve.result (λ s. s ≡ x)) same c.number_evolve.ensures
