use Rattle.std.proofs.Common.{◌+◌, ap, subst, ◌∙◌, refl, arith, ℕ, length}
use Rattle.hc_term.specs.Silent.{silent}
use Rattle.hc_step.specs.declared.stretch.Stepped.{Stepped}
use Rattle.hc_step.specs.Stepping.{Steps, end_before}
use Rattle.hc_step.proofs.Going.{keeps_more}
use Rattle.hc_step.proofs.Stretching.{ends_logged, ends_otherwise, ends_spent, goes_on}
use Rattle.hc_step.proofs.local.Local.stretch.Goals as goal

pub returns-in-Logged-clause-takes : goal.returns-in-Logged-clause-takes
returns-in-Logged-clause-takes c t q all r =
    let clock = c.args.clock in
    let w = c.loop-steps.invariant.going t q all r in
    let own = subst (λ (p : ℕ). Steps t clock w.now (silent c.args.seed p clock w.now) c.step.new.self c.step.result) c.loop-steps.invariant.kept.same_process
    (c.step.ensures.steps t w.now all w.stands) in
    ends_logged t clock c.args.seed c.args.self.now.process c.args.most c.loop-steps.steps q c.loop-steps.self c.step.new.self w
    c.in-Logged.value (c.loop-steps.steps + 1) c.loop-steps-test.true refl
    (subst (λ (s : Stepped). Steps t clock w.now (silent c.args.seed c.args.self.now.process clock w.now) c.step.new.self s) c.in-Logged.is own)

pub returns-in-Ends-clause-takes : goal.returns-in-Ends-clause-takes
returns-in-Ends-clause-takes c t q all r =
    let clock = c.args.clock in
    let w = c.loop-steps.invariant.going t q all r in
    let own = subst (λ (p : ℕ). Steps t clock w.now (silent c.args.seed p clock w.now) c.step.new.self c.step.result) c.loop-steps.invariant.kept.same_process
    (c.step.ensures.steps t w.now all w.stands) in
    ends_otherwise t clock c.args.seed c.args.self.now.process c.args.most c.loop-steps.steps q c.loop-steps.self c.step.new.self w
    c.in-Ends.end c.loop-steps-test.true
    (subst (λ (s : Stepped). Steps t clock w.now (silent c.args.seed c.args.self.now.process clock w.now) c.step.new.self s) c.in-Ends.is own)

pub loop-steps-preserved : goal.loop-steps-preserved
loop-steps-preserved c = record {
  kept = keeps_more (length c.args.code.now.instrs) c.args.self.now c.loop-steps.self c.step.new.self c.loop-steps.invariant.kept c.step.ensures.keeps;
  going = λ t q all r.
      let clock = c.args.clock in
      let w = c.loop-steps.invariant.going t q all r in
      let own = subst (λ (p : ℕ). Steps t clock w.now (silent c.args.seed p clock w.now) c.step.new.self c.step.result) c.loop-steps.invariant.kept.same_process
      (c.step.ensures.steps t w.now all w.stands) in
      goes_on t clock c.args.seed c.args.self.now.process c.args.most c.loop-steps.steps q c.loop-steps.self c.step.new.self w
      c.loop-steps-test.true
      (subst (λ (s : Stepped). Steps t clock w.now (silent c.args.seed c.args.self.now.process clock w.now) c.step.new.self s) c.in-Took.is own);
}

pub returns-clause-takes : goal.returns-clause-takes
returns-clause-takes c t q all r =
    let clock = c.args.clock in
    let w = c.loop-steps.invariant.going t q all r in
    let own = c.end_of_spent.ensures t w.now all w.stands
    ∙ ap (λ (p : ℕ). end_before w.now (silent c.args.seed p clock w.now)) c.loop-steps.invariant.kept.same_process in
    ends_spent t clock c.args.seed c.args.self.now.process c.args.most c.loop-steps.steps q c.loop-steps.self c.loop-steps.self w
    c.end_of_spent.result (omega arith) (omega arith) own
