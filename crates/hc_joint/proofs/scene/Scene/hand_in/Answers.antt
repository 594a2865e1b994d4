use Rattle.std.proofs.Common.{rules, ◌≡◌, refl, ap, length, vec_len, slice_get, Some, arith}
use Rattle.std.proofs.lemmas.Option.{slice_get_read}
use Rattle.hc_board.specs.Seen.{Seen}
use Rattle.hc_joint.proofs.Handing.{TakesOver, few_by_limit, counts_logs, hands_in}
use Rattle.hc_joint.proofs.scene.Scene.hand_in.Goals as goal

pub take_over-stretch-requires : goal.take_over-stretch-requires
take_over-stretch-requires c =
    let s = c.args.self.now in
    let m = c.index_mut-member.result.now in
    let there : slice_get s.members.items c.args.process ≡ Some m =
    slice_get_read s.members.items (length s.members.items) c.args.process m refl c.requires.there c.index_mut-member.ensures.value in
    let taken = c.requires.taken m there in
    (s.clock, s.task.seed, taken.0, taken.1)

pub append-requires-clause-counted : goal.append-requires-clause-counted
append-requires-clause-counted c =
    let s = c.args.self.now in
    let m = c.index_mut-member.result.now in
    let there : slice_get s.members.items c.args.process ≡ Some m =
    slice_get_read s.members.items (length s.members.items) c.args.process m refl c.requires.there c.index_mut-member.ensures.value in
    let over : TakesOver s c.args.advance.now c.take_over-stretch.result m c.take_over-stretch.new.self = record {
      taken = c.requires.taken m there;
      steps = c.take_over-stretch.ensures.steps;
      takes = c.take_over-stretch.ensures.takes;
    } in
    counts_logs s c.args.advance.now c.take_over-stretch.result m c.take_over-stretch.new.self over c.requires.at.0 c.args.process
    c.requires.at.1 there

pub append-requires-clause-room : goal.append-requires-clause-room
append-requires-clause-room c =
    let s = c.args.self.now in
    let m = c.index_mut-member.result.now in
    let there : slice_get s.members.items c.args.process ≡ Some m =
    slice_get_read s.members.items (length s.members.items) c.args.process m refl c.requires.there c.index_mut-member.ensures.value in
    let over : TakesOver s c.args.advance.now c.take_over-stretch.result m c.take_over-stretch.new.self = record {
      taken = c.requires.taken m there;
      steps = c.take_over-stretch.ensures.steps;
      takes = c.take_over-stretch.ensures.takes;
    } in
    let few = few_by_limit s c.args.advance.now c.take_over-stretch.result m c.take_over-stretch.new.self over in
    let counted : vec_len s.history ≡ length s.history.items = search rules in
    omega (arith, counted, few, s.room, c.requires.at.1.within)

pub returns : goal.returns
returns c before state at here =
    let s = c.args.self.now in
    let m = c.index_mut-member.result.now in
    let there : slice_get s.members.items c.args.process ≡ Some m =
    slice_get_read s.members.items (length s.members.items) c.args.process m refl c.requires.there c.index_mut-member.ensures.value in
    let over : TakesOver s c.args.advance.now c.take_over-stretch.result m c.take_over-stretch.new.self = record {
      taken = c.requires.taken m there;
      steps = c.take_over-stretch.ensures.steps;
      takes = c.take_over-stretch.ensures.takes;
    } in
    hands_in s c.args.advance.now c.take_over-stretch.result m c.take_over-stretch.new.self over _ c.args.process c.post.result.now
    (record {
      there = there;
      shows = c.post.ensures.of_state;
      task = refl;
      clock = refl;
      members = refl;
      board = ap (λ (b : Seen). b.posts) c.post-2.ensures;
      channels = ap (λ (b : Seen). b.channels) c.post-2.ensures;
      items = c.append.ensures.items;
    })
    before state at here
