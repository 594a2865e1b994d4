use Rattle.std.proofs.Common.{◌≡◌, rules, subst, map, Some, None, IfOk}
use Rattle.hc_ast.specs.declared.stmt.StmtKind.{the_lemmas}
use Rattle.hc_ast.specs.declared.stmt.StmtKind.TheVariants as a
use Rattle.hc_modules.specs.Calls.{bindings}
use Rattle.hc_modules.specs.Replaced.{cond_in, rate_in, stmt_in, branch_in, stmt_kind_in}
use Rattle.hc_modules.proofs.replaced.+stmts.Goals as goal

pub stmt_kind_in-returns-in-If-default-default-None : goal.stmt_kind_in-returns-in-If-default-default-None
stmt_kind_in-returns-in-If-default-default-None t c =
    let bs = bindings c.args.call.now in
    let same : a.If (cond_in bs c.in-If-default-default-None.test) (map (stmt_in bs) c.as_slice.result.now) None ≡ stmt_kind_in bs c.args.kind.now = search (rules, the_lemmas) in
    subst (λ x. IfOk c.if_in.result (λ k. k ≡ x)) same c.if_in.ensures

pub stmt_kind_in-returns-in_ok-yes-in-If-default-default-Some : goal.stmt_kind_in-returns-in_ok-yes-in-If-default-default-Some
stmt_kind_in-returns-in_ok-yes-in-If-default-default-Some t c =
    let bs = bindings c.args.call.now in
    let same : a.If (cond_in bs c.in-If-default-default-Some.test) c.in_ok-yes-in-If-default-default-Some.yes (Some (map (stmt_in bs) c.as_slice-in-If-default-default-Some-2.result.now)) ≡ stmt_kind_in bs c.args.kind.now = search (rules, the_lemmas) in
    subst (λ x. IfOk c.if_else_in.result (λ k. k ≡ x)) same c.if_else_in.ensures

pub stmt_kind_in-returns-in_ok-left-in-Pick : goal.stmt_kind_in-returns-in_ok-left-in-Pick
stmt_kind_in-returns-in_ok-left-in-Pick t c =
    let bs = bindings c.args.call.now in
    let same : a.Pick c.in_ok-left-in-Pick.left (map (stmt_in bs) c.as_slice-in-Pick-2.result.now) ≡ stmt_kind_in bs c.args.kind.now = search (rules, the_lemmas) in
    subst (λ x. IfOk c.pick_in.result (λ k. k ≡ x)) same c.pick_in.ensures

pub stmt_kind_in-returns-in-Evolve : goal.stmt_kind_in-returns-in-Evolve
stmt_kind_in-returns-in-Evolve t c =
    let bs = bindings c.args.call.now in
    let same : a.Evolve (map (rate_in bs) c.as_slice-in-Evolve-2.result.now) (cond_in bs c.in-Evolve.domain) (map (branch_in bs) c.as_slice-in-Evolve.result.now) ≡ stmt_kind_in bs c.args.kind.now = search (rules, the_lemmas) in
    subst (λ x. IfOk c.evolve_in.result (λ k. k ≡ x)) same c.evolve_in.ensures
