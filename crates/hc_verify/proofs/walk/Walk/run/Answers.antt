use Rattle.std.proofs.Common.{refl, ap, length}
use Rattle.std.proofs.lemmas.Option.{slice_get_read}
use Rattle.hc_board.specs.Seen.{Seen}
use Rattle.hc_verify.proofs.Running.{runs_by}
use Rattle.hc_verify.proofs.walk.Walk.run.Goals as goal

pub returns-clause-runs : goal.returns-clause-runs
returns-clause-runs c sys before state at here =
    let w = c.args.self.now in
    let m = c.index_mut-member.result.now in
    runs_by w _ c.args.process c.args.most c.args.seed c.stretch-stretch.result m c.stretch-stretch.new.self c.post.result.now
    (record {
      there = slice_get_read w.members.items (length w.members.items) c.args.process m refl c.requires.there c.index_mut-member.ensures.value;
      takes = c.stretch-stretch.ensures.takes;
      shows = c.post.ensures.of_state;
      clock = refl;
      members = refl;
      board = ap (λ (b : Seen). b.posts) c.post-2.ensures;
      channels = ap (λ (b : Seen). b.channels) c.post-2.ensures;
    })
    sys before state at here
