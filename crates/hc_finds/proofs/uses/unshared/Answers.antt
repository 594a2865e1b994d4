use Rattle.std.proofs.Common.{arith, sym, ap₂, ◌∙◌, ◌&&◌}
use Rattle.hc_finds.proofs.Ends.{shared_here, shared_later}
use Rattle.hc_finds.proofs.uses.unshared.Goals as goal

pub returns-then-shares : goal.returns-then-shares
returns-then-shares c =
    λ us are. sym (c.loop-end.invariant us are
    ∙ shared_here c.args.sends c.args.before.now us are c.args.uses.now c.loop-end.end-index c.end-item.result (omega arith) (cc)
    (c.goes.result && c.has.result) (ap₂ (λ a b. a && b) c.goes.ensures c.has.ensures) c.if-shares.true)

pub loop-end-preserved : goal.loop-end-preserved
loop-end-preserved c =
    λ us are. c.loop-end.invariant us are
    ∙ shared_later c.args.sends c.args.before.now us are c.args.uses.now c.loop-end.end-index c.end-item.result (omega arith) (cc)
    (c.goes.result && c.has.result) (ap₂ (λ a b. a && b) c.goes.ensures c.has.ensures) c.if-shares.false
