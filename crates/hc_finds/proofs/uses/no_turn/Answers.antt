use Rattle.std.proofs.Common.{arith, ap, [], take, ◌∙◌}
use Rattle.hc_modules.specs.Found.{first_of}
use Rattle.hc_modules.proofs.Firsts.{first_found}
use Rattle.hc_finds.specs.declared.stop.CheckStop.TheVariants.{SelfChannel}
use Rattle.hc_finds.specs.First.{told}
use Rattle.hc_finds.specs.Seen.{uses_seen}
use Rattle.hc_finds.specs.Uses.{self_channels}
use Rattle.hc_finds.proofs.Ends.{ends_more, turned_here, turned_later}
use Rattle.hc_finds.proofs.InTurn.{tells_itself}
use Rattle.hc_finds.proofs.uses.no_turn.Goals as goal

pub returns-then-has-clause-stop : goal.returns-then-has-clause-stop
returns-then-has-clause-stop c =
    first_found told tells_itself SelfChannel (self_channels (uses_seen c.args.uses.now)) _
    (ap first_of c.loop-end.invariant.found
    ∙ turned_here c.loop-end.ends c.args.uses.now c.loop-end.end-index c.end-item.result (omega arith) (cc)
    c.loop-end.invariant.ends c.has.result c.has.ensures c.if-has.true)

pub loop-end-preserved : goal.loop-end-preserved
loop-end-preserved c = record {
  ends =
      ends_more c.add.new.self [] c.args.uses.now c.loop-end.end-index c.end-item.result (omega arith) (cc)
      (c.in_ok-add.ensures {u = tt} (uses_seen (take c.loop-end.end-index c.args.uses.now)) c.loop-end.invariant.ends);
  found =
      c.loop-end.invariant.found
      ∙ turned_later c.loop-end.ends c.args.uses.now c.loop-end.end-index c.end-item.result (omega arith) (cc)
      c.loop-end.invariant.ends c.has.result c.has.ensures c.if-has.false;
}
