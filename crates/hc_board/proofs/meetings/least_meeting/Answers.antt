use Rattle.std.proofs.Common.{sym, ◌∙◌, arith}
use Rattle.hc_board.proofs.ReadyIndex.{none_of, first_of_least}
use Rattle.hc_board.proofs.meetings.least_meeting.Goals as goal

pub returns-in_default : goal.returns-in_default
returns-in_default c =
    let words = c.requires.index.whole.words in
    let most = c.requires.channels in
    sym (none_of c.args.index.now c.args.posts.now c.requires.index c.requires.processes c.args.channels most
    (λ i low. (c.in_default.ensures {u = tt}).none i (omega (arith, low, most, words))))

pub returns-then-channel-channels : goal.returns-then-channel-channels
returns-then-channel-channels c =
    let past = c.if-channel-channels.true in
    sym (none_of c.args.index.now c.args.posts.now c.requires.index c.requires.processes c.args.channels c.requires.channels
    (λ i low. (c.in-Some.ensures {u = tt}).least.first i (omega (arith, low, past))))

pub returns : goal.returns
returns c =
    let below = c.if-channel-channels.false in
    let least = (c.in-Some.ensures {u = tt}).least in
    c.meeting_at.ensures
    ∙ sym (first_of_least c.args.index.now c.args.posts.now c.requires.index c.requires.processes c.args.channels c.requires.channels
    c.in-Some.channel (omega (arith, below)) least.member least.first)
