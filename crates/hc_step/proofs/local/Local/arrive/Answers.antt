use Rattle.std.proofs.Common.{sym, ◌∙◌, subst, refl, arith, IsTrue, length, take}
use Rattle.std.proofs.lemmas.List.{length-take-le}
use Rattle.hc_rational.specs.Words.{Rational}
use Rattle.hc_code.specs.declared.code.Instr.{Instr}
use Rattle.hc_step.specs.Arriving.{is_arriving}
use Rattle.hc_step.proofs.Fitting.{from_ok}
use Rattle.hc_step.proofs.Sees.{rules_at, same_instr}
use Rattle.hc_step.proofs.Arrivals.{took, stopped}
use Rattle.hc_step.proofs.local.Local.arrive.Goals as goal

pub show_arrival-requires-clause-ruled : goal.show_arrival-requires-clause-ruled
show_arrival-requires-clause-ruled c =
    let l = c.args.self.now in
    rules_at l.variables (length (take l.variables l.store)) c.args.code.now.instrs l.place c.at-instr.result.now c.requires.usable c.at-instr.ensures
    (omega (arith, length-take-le {A = Rational} l.variables l.store))

pub returns-in-Ok-clause-steps : goal.returns-in-Ok-clause-steps
returns-in-Ok-clause-steps c t q seed i here arriving all r =
    let l = c.args.self.now in
    let code = c.args.code.now.instrs in
    let own = subst (λ (j : Instr). IsTrue (is_arriving l.mark j)) (same_instr code l.place i c.at-instr.result.now here c.at-instr.ensures) arriving in
    took t code seed l.process c.args.clock q c.at-instr.result.now l all c.at-instr.ensures own r c.in-Ok.left _
    (sym c.in-Ok.is ∙ c.show_arrival.ensures.fits) refl refl refl refl
    (from_ok c.show_arrival.result c.in-Ok.left c.in-Ok.is c.show_arrival.ensures.shows)

pub returns-in-Err-clause-steps : goal.returns-in-Err-clause-steps
returns-in-Err-clause-steps c t q seed i here arriving all r =
    let l = c.args.self.now in
    let code = c.args.code.now.instrs in
    let own = subst (λ (j : Instr). IsTrue (is_arriving l.mark j)) (same_instr code l.place i c.at-instr.result.now here c.at-instr.ensures) arriving in
    stopped t code seed l.process c.args.clock q c.at-instr.result.now l all c.at-instr.ensures own r c.in-Err.field-0 _
    (sym c.in-Err.is ∙ c.show_arrival.ensures.fits) refl refl refl refl c.show.ensures
