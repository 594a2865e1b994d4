use Rattle.std.proofs.Common.{◌≡◌, subst, sym, ◌∙◌, Some, None, Ok}
use Rattle.hc_term.specs.Silent.{silent}
use Rattle.hc_step.specs.declared.stretch.Stepped.{Stepped}
use Rattle.hc_step.specs.Looking.{Seen}
use Rattle.hc_step.specs.Represents.{Sees}
use Rattle.hc_step.specs.Stepping.{Steps}
use Rattle.hc_step.proofs.Sees.{instr_at}
use Rattle.hc_step.proofs.Stretching.{steps_taken, steps_idle, steps_unfit}
use Rattle.hc_step.proofs.local.Local.step.Goals as goal

pub returns-then-is_arriving-clause-steps : goal.returns-then-is_arriving-clause-steps
returns-then-is_arriving-clause-steps c t q all r =
    let here = instr_at t t c.args.code.now.instrs c.args.self.now.place q.todo all r.at_place in
    c.arrive.ensures.steps t q c.args.seed here.0 here.1 (sym (c.is_arriving.ensures here.0 here.1) ∙ c.if-is_arriving.true) all r

pub returns-in-Ok-Some-clause-steps : goal.returns-in-Ok-Some-clause-steps
returns-in-Ok-Some-clause-steps c t q all r =
    let clock = c.args.clock in
    let here = instr_at t t c.args.code.now.instrs c.args.self.now.place q.todo all r.at_place in
    let sees = c.look.ensures.sees t clock q here.0 here.1 (sym (c.is_arriving.ensures here.0 here.1) ∙ c.if-is_arriving.false) all r in
    let o = silent c.args.seed c.args.self.now.process clock q in
    let e : c.look.result ≡ Ok (Some c.in-Ok-Some.step) = cc in
    subst (λ (s : Stepped). Steps t clock q o c.take.new.self s) (sym c.stepped_by.ensures)
    (steps_taken t clock q c.take.new.self o c.in-Ok-Some.step (subst (λ (x : Seen). Sees t q o x) e sees)
    (λ next logged h. c.take.ensures.leads t clock q next logged all r h))

pub returns-in-Ok-None-clause-steps : goal.returns-in-Ok-None-clause-steps
returns-in-Ok-None-clause-steps c t q all r =
    let clock = c.args.clock in
    let here = instr_at t t c.args.code.now.instrs c.args.self.now.place q.todo all r.at_place in
    let sees = c.look.ensures.sees t clock q here.0 here.1 (sym (c.is_arriving.ensures here.0 here.1) ∙ c.if-is_arriving.false) all r in
    let o = silent c.args.seed c.args.self.now.process clock q in
    let e : c.look.result ≡ Ok None = cc in
    steps_idle t clock q c.args.self.now o c.idle_end.result (subst (λ (x : Seen). Sees t q o x) e sees) r (c.idle_end.ensures t clock q r)

pub returns-in-Err-clause-steps : goal.returns-in-Err-clause-steps
returns-in-Err-clause-steps c t q all r =
    let clock = c.args.clock in
    let here = instr_at t t c.args.code.now.instrs c.args.self.now.place q.todo all r.at_place in
    let sees = c.look.ensures.sees t clock q here.0 here.1 (sym (c.is_arriving.ensures here.0 here.1) ∙ c.if-is_arriving.false) all r in
    let o = silent c.args.seed c.args.self.now.process clock q in
    steps_unfit t clock q c.args.self.now o c.in-Err.field-0 (subst (λ (x : Seen). Sees t q o x) c.in-Err.is sees) r
