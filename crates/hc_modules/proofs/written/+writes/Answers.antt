use Rattle.std.proofs.Common.{ap, sym, ◌∙◌, flat_map}
use Rattle.std.proofs.lemmas.Result.{err_from_is_err_and}
use Rattle.hc_modules.specs.Tables.{writes_among}
use Rattle.hc_modules.specs.Found.{first_of}
use Rattle.hc_modules.specs.Outermost.{by_rate}
use Rattle.hc_modules.proofs.WrittenForms.{all_found, branches_found, else_found, found-If, found-Pick, found-Evolve}
use Rattle.hc_modules.proofs.Firsts.{goes_on, ends}
use Rattle.hc_modules.proofs.written.+writes.Goals as goal

pub write_of_stmt-returns-in_err-write_of_stmts-in-If : goal.write_of_stmt-returns-in_err-write_of_stmts-in-If
write_of_stmt-returns-in_err-write_of_stmts-in-If t c =
    let look = writes_among c.args.values.now.keys in
    ends _ _ _ _ _ _ (found-If look _ _ _ _ c.in-If.is)
    (c.write_of_stmts.ensures ∙ ap (all_found look) c.as_slice.ensures) c.in_err-write_of_stmts-in-If.was
    (err_from_is_err_and _ c.from_residual.ensures.1)

pub write_of_stmt-returns-in-Some : goal.write_of_stmt-returns-in-Some
write_of_stmt-returns-in-Some t c =
    let look = writes_among c.args.values.now.keys in
    goes_on _ _ _ _ _ _ (found-If look _ _ _ _ c.in-If.is)
    (c.write_of_stmts.ensures ∙ ap (all_found look) c.as_slice.ensures) c.in_ok-write_of_stmts-in-If.was
    (c.write_of_stmts-in-Some.ensures ∙ ap (all_found look) c.as_slice-in-Some.ensures ∙ sym (ap (else_found look) c.in-Some.is))

pub write_of_stmt-returns-in_err-write_of_stmts-in-Pick : goal.write_of_stmt-returns-in_err-write_of_stmts-in-Pick
write_of_stmt-returns-in_err-write_of_stmts-in-Pick t c =
    let look = writes_among c.args.values.now.keys in
    ends _ _ _ _ _ _ (found-Pick look _ _ _ c.in-Pick.is)
    (c.write_of_stmts-in-Pick.ensures ∙ ap (all_found look) c.as_slice-in-Pick.ensures) c.in_err-write_of_stmts-in-Pick.was
    (err_from_is_err_and _ c.from_residual-in_err-write_of_stmts-in-Pick.ensures.1)

pub write_of_stmt-returns-in_ok-write_of_stmts-in-Pick : goal.write_of_stmt-returns-in_ok-write_of_stmts-in-Pick
write_of_stmt-returns-in_ok-write_of_stmts-in-Pick t c =
    let look = writes_among c.args.values.now.keys in
    goes_on _ _ _ _ _ _ (found-Pick look _ _ _ c.in-Pick.is)
    (c.write_of_stmts-in-Pick.ensures ∙ ap (all_found look) c.as_slice-in-Pick.ensures) c.in_ok-write_of_stmts-in-Pick.was
    (c.write_of_stmts-in-Pick-2.ensures ∙ ap (all_found look) c.as_slice-in-Pick-2.ensures)

pub write_of_stmt-returns-in_err-write_of_rates-in-Evolve : goal.write_of_stmt-returns-in_err-write_of_rates-in-Evolve
write_of_stmt-returns-in_err-write_of_rates-in-Evolve t c =
    let look = writes_among c.args.values.now.keys in
    ends _ _ _ _ _ _ (found-Evolve look _ _ _ _ c.in-Evolve.is)
    (c.write_of_rates.ensures ∙ ap (λ rs. first_of (flat_map (λ r. look (by_rate r)) rs)) c.as_slice-in-Evolve.ensures)
    c.in_err-write_of_rates-in-Evolve.was
    (err_from_is_err_and _ c.from_residual-in_err-write_of_rates-in-Evolve.ensures.1)

pub write_of_stmt-returns-in_ok-write_of_rates-in-Evolve : goal.write_of_stmt-returns-in_ok-write_of_rates-in-Evolve
write_of_stmt-returns-in_ok-write_of_rates-in-Evolve t c =
    let look = writes_among c.args.values.now.keys in
    goes_on _ _ _ _ _ _ (found-Evolve look _ _ _ _ c.in-Evolve.is)
    (c.write_of_rates.ensures ∙ ap (λ rs. first_of (flat_map (λ r. look (by_rate r)) rs)) c.as_slice-in-Evolve.ensures)
    c.in_ok-write_of_rates-in-Evolve.was
    (c.write_of_branches-in-Evolve.ensures ∙ ap (branches_found look) c.as_slice-in-Evolve-2.ensures)
