use Rattle.std.proofs.Common.{false, ◌∙◌, arith, rules}
use Rattle.hc_board.proofs.Marking.{row_marked}
use Rattle.hc_board.proofs.index.Index.mark_receiver.Goals as goal

pub returns-then-at-lt-MOST_CHANNELS : goal.returns-then-at-lt-MOST_CHANNELS
returns-then-at-lt-MOST_CHANNELS c =
    let words = c.requires.whole.words in
    row_marked false c.args.self.now c.args.channel c.args.process c.with_bit-row.result c.args.is_offered c.set_member.new.words c.requires.whole
    c.if-at-lt-MOST_CHANNELS.true (search rules) c.with_bit-row.ensures (c.set_member.ensures.length ∙ words)
    (λ i low. c.set_member.ensures.members i (omega (arith, low, words)))
