use Rattle.std.proofs.Common.{true, false, None, Some, is_some, sym, ap}
use Rattle.std.proofs.lemmas.Bool.{both_ways}
use Rattle.hc_board.proofs.ReadyIndex.{sent_shown, empty_end, has_post, least_sends, they_meet}
use Rattle.hc_board.proofs.meetings.meeting_at.Goals as goal

pub returns-in_default : goal.returns-in_default
returns-in_default c =
    sym (empty_end c.args.index.now c.args.posts.now c.requires.index c.requires.processes c.args.channel c.requires.channel true
    (c.in_default.ensures {u = tt}).none)

pub returns-in_default-least_bit : goal.returns-in_default-least_bit
returns-in_default-least_bit c =
    sym (empty_end c.args.index.now c.args.posts.now c.requires.index c.requires.processes c.args.channel c.requires.channel false
    (c.in_default-least_bit.ensures {u = tt}).none)

pub bounds-posts-sender : goal.bounds-posts-sender
bounds-posts-sender c =
    has_post c.args.index.now c.args.posts.now c.requires.index c.requires.processes c.args.channel c.requires.channel true
    c.in-Some.sender (c.in-Some.ensures {u = tt}).least

pub unreachable-requires : goal.unreachable-requires
unreachable-requires c =
    let least = (c.in-Some.ensures {u = tt}).least in
    let ps = c.args.posts.now in
    let there = has_post c.args.index.now ps c.requires.index c.requires.processes c.args.channel c.requires.channel true c.in-Some.sender least in
    both_ways _
    (ap is_some (sent_shown c.args.channel ps c.in-Some.sender c.index-posts-sender.result _ None there c.as_slice.ensures.elements
    (c.in_default-sent_value.ensures {u = tt})))
    (least_sends c.args.index.now ps c.requires.index c.requires.processes c.args.channel c.requires.channel c.in-Some.sender least)

pub returns : goal.returns
returns c =
    let least = (c.in-Some.ensures {u = tt}).least in
    let ps = c.args.posts.now in
    let there = has_post c.args.index.now ps c.requires.index c.requires.processes c.args.channel c.requires.channel true c.in-Some.sender least in
    sym (they_meet c.args.index.now ps c.requires.index c.requires.processes c.args.channel c.requires.channel
    c.in-Some.sender c.in-Some-least_bit.receiver c.in-Some-sent_value.value least (c.in-Some-least_bit.ensures {u = tt}).least
    (sent_shown c.args.channel ps c.in-Some.sender c.index-posts-sender.result _ (Some c.in-Some-sent_value.value) there
    c.as_slice.ensures.elements (c.in-Some-sent_value.ensures {u = tt})))
