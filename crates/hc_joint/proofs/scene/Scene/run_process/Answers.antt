use Rattle.std.proofs.Common.{refl, ap, length, slice_get, Some, ◌≡◌}
use Rattle.std.proofs.lemmas.Option.{slice_get_read}
use Rattle.hc_board.specs.Seen.{Seen}
use Rattle.hc_joint.proofs.Running.{counted_by, runs_by}
use Rattle.hc_joint.proofs.scene.Scene.run_process.Goals as goal

pub append-requires-clause-counted : goal.append-requires-clause-counted
append-requires-clause-counted c =
    let s = c.args.self.now in
    let m = c.index_mut-member.result.now in
    let there : slice_get s.members.items c.args.process ≡ Some m =
    slice_get_read s.members.items (length s.members.items) c.args.process m refl c.requires.there c.index_mut-member.ensures.value in
    counted_by s c.requires.at.0 c.args.process c.args.most s.task.seed m c.stretch-stretch.new.self c.stretch-stretch.result
    c.requires.at.1 there c.stretch-stretch.ensures.takes

pub returns : goal.returns
returns c before state at here =
    let s = c.args.self.now in
    let m = c.index_mut-member.result.now in
    runs_by s _ c.args.process c.args.most c.stretch-stretch.result m c.stretch-stretch.new.self c.post.result.now
    (record {
      there = slice_get_read s.members.items (length s.members.items) c.args.process m refl c.requires.there c.index_mut-member.ensures.value;
      takes = c.stretch-stretch.ensures.takes;
      at_most = c.stretch-stretch.ensures.at_most;
      fits = c.requires.most;
      shows = c.post.ensures.of_state;
      task = refl;
      clock = refl;
      members = refl;
      board = ap (λ (b : Seen). b.posts) c.post-2.ensures;
      channels = ap (λ (b : Seen). b.channels) c.post-2.ensures;
      items = c.append.ensures.items;
    })
    before state at here
