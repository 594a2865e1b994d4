use Rattle.std.proofs.Common.{ap, sym, ◌∙◌, subst, IsTrue, length}
use Rattle.hc_term.specs.Value.{Store}
use Rattle.hc_term.specs.Evaluated.{if_fitting}
use Rattle.hc_code.specs.declared.code.Instr.{Instr}
use Rattle.hc_step.specs.Arriving.{is_arriving, may_arrive, left_at}
use Rattle.hc_step.proofs.Sees.{rules_at, same_instr}
use Rattle.hc_step.proofs.Arrivals.{spent_arriving, spent_unfit_arriving}
use Rattle.hc_step.proofs.local.Local.end_of_arrival.Goals as goal

pub show_arrival-requires-clause-ruled : goal.show_arrival-requires-clause-ruled
show_arrival-requires-clause-ruled c =
    let l = c.args.self.now in
    rules_at l.variables (length c.store.result.now) c.args.code.now.instrs l.place c.at.result.now c.requires.usable c.at.ensures c.store.ensures.count

pub returns-in-Ok : goal.returns-in-Ok
returns-in-Ok c t q seed i here arriving all r =
    let l = c.args.self.now in
    let code = c.args.code.now.instrs in
    let j = c.at.result.now in
    let own = subst (λ (k : Instr). IsTrue (is_arriving l.mark k)) (same_instr code l.place i j here c.at.ensures) arriving in
    let fits = c.show_arrival.ensures.fits ∙ ap (λ (s : Store). if_fitting (may_arrive c.args.clock s j) (left_at s j)) c.store.ensures.values in
    spent_arriving t code seed l.process c.args.clock q j l all c.at.ensures own r c.in-Ok.field-0 (sym c.in-Ok.is ∙ fits)

pub returns-in-Err : goal.returns-in-Err
returns-in-Err c t q seed i here arriving all r =
    let l = c.args.self.now in
    let code = c.args.code.now.instrs in
    let j = c.at.result.now in
    let own = subst (λ (k : Instr). IsTrue (is_arriving l.mark k)) (same_instr code l.place i j here c.at.ensures) arriving in
    let fits = c.show_arrival.ensures.fits ∙ ap (λ (s : Store). if_fitting (may_arrive c.args.clock s j) (left_at s j)) c.store.ensures.values in
    spent_unfit_arriving t code seed l.process c.args.clock q j l all c.at.ensures own r c.in-Err.field-0 (sym c.in-Err.is ∙ fits)
