use Rattle.hc_verify.proofs.Named.{no_channel, a_channel, other_ends}
use Rattle.hc_verify.proofs.names.channel_named.Goals as goal

pub returns-in_err-number : goal.returns-in_err-number
returns-in_err-number c =
    no_channel c.args.system.now c.args.channel.now c.args.sender.now c.args.receiver.now c.as_slice.result.now c.as_slice.ensures
    c.from_residual.result c.in_err-number.ensures c.from_residual.ensures

pub returns-then-sent-received : goal.returns-then-sent-received
returns-then-sent-received c =
    a_channel c.args.system.now c.args.channel.now c.args.sender.now c.args.receiver.now c.as_slice.result.now c.as_slice.ensures
    c.in_ok-number.number c.in_ok-number.ensures c.channel_ends-ends.result c.channel_ends-ends.ensures.ends
    c.is_end_named-sent.result c.is_end_named-received.result c.is_end_named-sent.ensures c.is_end_named-received.ensures
    c.if-sent-received.true

pub returns-else-sent-received : goal.returns-else-sent-received
returns-else-sent-received c =
    other_ends c.args.system.now c.args.channel.now c.args.sender.now c.args.receiver.now c.as_slice.result.now c.as_slice.ensures
    c.in_ok-number.number c.in_ok-number.ensures c.channel_ends-ends.result c.channel_ends-ends.ensures.ends
    c.is_end_named-sent.result c.is_end_named-received.result c.is_end_named-sent.ensures c.is_end_named-received.ensures
    c.if-sent-received.false
