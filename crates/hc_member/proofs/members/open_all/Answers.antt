use Rattle.std.proofs.Common.{◌∙◌, sym, ap, subst, ℕ, ◌+◌, List, take}
use Rattle.hc_rational.specs.Words.{Rational}
use Rattle.hc_term.specs.Step.{opening_of}
use Rattle.hc_member.specs.declared.member.Member.{Member}
use Rattle.hc_member.specs.States.{IsIn, AllOpen}
use Rattle.hc_member.proofs.Opened.{open_more}
use Rattle.hc_member.proofs.members.open_all.Goals as goal

pub loop-process-preserved : goal.loop-process-preserved
loop-process-preserved c =
    let ps = c.args.processes.now in
    let at = c.loop-process.process-index in
    let member = c.in_ok-open.field-0 in
    let process = c.process-item.result in
    let is = λ (clock : Rational). subst (λ (n : ℕ). IsIn n clock member (opening_of process)) (c.len-number.ensures ∙ c.loop-process.invariant.counted)
    (c.in_ok-open.ensures clock) in
    record {
      counted = c.in_ok-push.ensures.len ∙ ap (λ (n : ℕ). n + 1) c.loop-process.invariant.counted;
      opened = subst (λ (l : List Member). AllOpen (take (at + 1) ps) l) (sym {A = List Member} c.in_ok-push.ensures.items)
          (open_more ps c.loop-process.members.items at process member c.loop-process-test.true c.process-item.is c.loop-process.invariant.opened is);
    }
