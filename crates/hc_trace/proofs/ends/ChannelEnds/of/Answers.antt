use Rattle.std.proofs.Common.{ap, arith, length}
use Rattle.hc_term.specs.Ends.{ends_of}
use Rattle.hc_trace.proofs.EndsTable.{few_channels, one_more, row_count}
use Rattle.hc_trace.proofs.ends.ChannelEnds.of.Goals as goal

pub push-requires : goal.push-requires
push-requires c =
    let sys = c.args.system.now in
    let few = few_channels sys in
    let shown = ap (λ xs. length xs) c.as_slice-channel-end.ensures in
    let so_far = row_count (λ n. (ends_of sys n).sender) c.loop-channel.channel c.loop-channel.senders c.loop-channel.invariant.senders in
    (omega arith, omega (arith, few, shown, so_far))

pub push-requires-in-loop-channel : goal.push-requires-in-loop-channel
push-requires-in-loop-channel c =
    let sys = c.args.system.now in
    let few = few_channels sys in
    let shown = ap (λ xs. length xs) c.as_slice-channel-end.ensures in
    let so_far = row_count (λ n. (ends_of sys n).receiver) c.loop-channel.channel c.loop-channel.receivers c.loop-channel.invariant.receivers in
    (omega arith, omega (arith, few, shown, so_far))

pub loop-channel-preserved : goal.loop-channel-preserved
loop-channel-preserved c =
    let sys = c.args.system.now in record {
      senders =
          one_more (λ n. (ends_of sys n).sender) c.loop-channel.senders c.push.new.self c.loop-channel.channel c.channel_ends-ends.result.sender
          c.loop-channel.invariant.senders c.push.ensures (ap (λ e. e.sender) c.channel_ends-ends.ensures.ends);
      receivers =
          one_more (λ n. (ends_of sys n).receiver) c.loop-channel.receivers c.push-in-loop-channel.new.self c.loop-channel.channel
          c.channel_ends-ends.result.receiver c.loop-channel.invariant.receivers c.push-in-loop-channel.ensures
          (ap (λ e. e.receiver) c.channel_ends-ends.ensures.ends);
    }
