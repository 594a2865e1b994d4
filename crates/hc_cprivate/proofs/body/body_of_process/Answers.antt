-- The body takes the silent steps, by the law of all bodies.
use Rattle.std.proofs.Common.{refl, ap, ◌∙◌, ℕ}
use Rattle.hc_cast.specs.declared.program.CBody.{CBody}
use Rattle.hc_cprivate.specs.Body.{thread_locals, private_statements}
use Rattle.hc_cprivate.proofs.Bodies.{bodies_take_steps}
use Rattle.hc_cprivate.proofs.body.body_of_process.Goals as goal

pub returns-clause-steps : goal.returns-clause-steps
returns-clause-steps c =
    let code = c.in_ok-code.code.instrs in
    let body : CBody = record { locals = thread_locals; statements = c.in_ok-statements.statements } in
    bodies_take_steps c.args.p c.args.seed c.requires.ruled.0 c.args.process.now body c.requires.low c.requires.ruled.1
    (record {
      code = code;
      compiled = c.in_ok-code.ensures.stands;
      kept = c.in_ok-code.ensures.kept;
      locals = refl;
      statements = c.in_ok-statements.ensures ∙ ap (λ (n : ℕ). private_statements c.args.p n c.args.seed code) c.len-variables.ensures;
    })
