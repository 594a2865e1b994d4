use Rattle.std.proofs.Common.{arith, ◌++◌, take}
use Rattle.hc_finds.specs.Seen.{uses_seen}
use Rattle.hc_finds.proofs.Ends.{ends_more}
use Rattle.hc_finds.proofs.uses.Ends.add_all.Goals as goal

pub loop-end-preserved : goal.loop-end-preserved
loop-end-preserved c =
    λ us are. ends_more c.add.new.self us c.args.uses.now c.loop-end.end-index c.end-item.result (omega arith) (cc)
    (c.in_ok-add.ensures {u = tt} (us ++ uses_seen (take c.loop-end.end-index c.args.uses.now)) (c.loop-end.invariant us are))
