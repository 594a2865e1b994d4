use Rattle.std.proofs.Common.{refl, ap, ◌∙◌, ◌<◌, length, slice_set, arith}
use Rattle.std.proofs.lemmas.Option.{slice_get_read}
use Rattle.hc_board.specs.Seen.{Seen}
use Rattle.hc_runs.proofs.Basics.{length-set}
use Rattle.hc_member.proofs.Telling.{told_by}
use Rattle.hc_joint.proofs.Told.{is_told}
use Rattle.hc_joint.proofs.scene.Scene.tell.Goals as goal

pub returns : goal.returns
returns c =
    let s = c.args.self.now in
    let m = c.args.meeting.now in
    let ms = s.members.items in
    let one = c.index_mut-sender.result.now in
    let two = c.index_mut-receiver.result.now in
    let told = slice_set ms m.sender c.sent.new.self in
    let receiver : m.receiver < length told = omega (arith, length-set ms m.sender c.sent.new.self, c.requires.receiver) in
    is_told m s _
    (record {
      task = refl;
      history = refl;
      clock = refl;
      channels = ap (λ (b : Seen). b.channels) c.post-4.ensures ∙ ap (λ (b : Seen). b.channels) c.post-2.ensures;
      tells = told_by m ms _ s.board.posts _ one c.sent.new.self two c.received.new.self c.post.result.now c.post-3.result.now
          (record {
            sender_is = slice_get_read ms (length ms) m.sender one refl c.requires.sender c.index_mut-sender.ensures.value;
            sends = c.sent.ensures;
            sender_shows = c.post.ensures.of_state;
            receiver_is = slice_get_read told (length told) m.receiver two refl receiver c.index_mut-receiver.ensures.value;
            receives = c.received.ensures;
            receiver_shows = c.post-3.ensures.of_state;
            members = refl;
            shown = ap (λ (b : Seen). b.posts) c.post-4.ensures
                ∙ ap (λ (b : Seen). slice_set b.posts m.receiver c.post-3.result.now) c.post-2.ensures;
          });
    })
