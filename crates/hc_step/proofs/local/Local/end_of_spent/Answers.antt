use Rattle.std.proofs.Common.{◌≡◌, subst, sym, ◌∙◌, Some, None, Ok}
use Rattle.hc_term.specs.Silent.{silent}
use Rattle.hc_step.specs.Looking.{Seen}
use Rattle.hc_step.specs.Represents.{Sees}
use Rattle.hc_step.proofs.Sees.{instr_at}
use Rattle.hc_step.proofs.Stretching.{spent_taken, spent_idle, spent_unfit}
use Rattle.hc_step.proofs.local.Local.end_of_spent.Goals as goal

pub returns-then-is_arriving : goal.returns-then-is_arriving
returns-then-is_arriving c t q all r =
    let here = instr_at t t c.args.code.now.instrs c.args.self.now.place q.todo all r.at_place in
    c.end_of_arrival.ensures t q c.args.seed here.0 here.1 (sym (c.is_arriving.ensures here.0 here.1) ∙ c.if-is_arriving.true) all r

pub returns-in-Ok-Some : goal.returns-in-Ok-Some
returns-in-Ok-Some c t q all r =
    let here = instr_at t t c.args.code.now.instrs c.args.self.now.place q.todo all r.at_place in
    let sees = c.look.ensures.sees t c.args.clock q here.0 here.1 (sym (c.is_arriving.ensures here.0 here.1) ∙ c.if-is_arriving.false) all r in
    let o = silent c.args.seed c.args.self.now.process c.args.clock q in
    let e : c.look.result ≡ Ok (Some c.in-Ok-Some.field-0-0) = cc in
    spent_taken t q o c.in-Ok-Some.field-0-0 (subst (λ (x : Seen). Sees t q o x) e sees)

pub returns-in-Ok-None : goal.returns-in-Ok-None
returns-in-Ok-None c t q all r =
    let here = instr_at t t c.args.code.now.instrs c.args.self.now.place q.todo all r.at_place in
    let sees = c.look.ensures.sees t c.args.clock q here.0 here.1 (sym (c.is_arriving.ensures here.0 here.1) ∙ c.if-is_arriving.false) all r in
    let o = silent c.args.seed c.args.self.now.process c.args.clock q in
    let e : c.look.result ≡ Ok None = cc in
    spent_idle t q o c.idle_end.result (subst (λ (x : Seen). Sees t q o x) e sees) (c.idle_end.ensures t c.args.clock q r)

pub returns-in-Err : goal.returns-in-Err
returns-in-Err c t q all r =
    let here = instr_at t t c.args.code.now.instrs c.args.self.now.place q.todo all r.at_place in
    let sees = c.look.ensures.sees t c.args.clock q here.0 here.1 (sym (c.is_arriving.ensures here.0 here.1) ∙ c.if-is_arriving.false) all r in
    let o = silent c.args.seed c.args.self.now.process c.args.clock q in
    spent_unfit t q o c.in-Err.field-0 (subst (λ (x : Seen). Sees t q o x) c.in-Err.is sees)
