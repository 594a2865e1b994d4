-- Two members of a scene that were told of their meeting.
use Rattle.std.proofs.Common.{◌≡◌, sym, ap, ◌∙◌, List, slice_set}
use Rattle.hc_term.specs.declared.post.Post.{Post}
use Rattle.hc_term.specs.declared.model.Meeting.{Meeting}
use Rattle.hc_term.specs.declared.model.Configuration.{Configuration}
use Rattle.hc_term.specs.Offers.{post}
use Rattle.hc_term.specs.Communication.{sent, received}
use Rattle.hc_runs.specs.Laws.{Joins}
use Rattle.hc_runs.proofs.Fired.{posts_meet}
use Rattle.hc_member.specs.States.{AllIn}
use Rattle.hc_member.proofs.Telling.{AreTold}
use Rattle.hc_joint.specs.declared.scene.Scene.{Scene}
use Rattle.hc_joint.specs.Parts.{IsTold}

-- the two were told, and nothing else changed
pub record HasTold (m : Meeting) (old new : Scene) : Type 0 where
  pub task : new.task ≡ old.task
  pub history : new.history ≡ old.history
  pub clock : new.clock ≡ old.clock
  pub channels : new.board.channels ≡ old.board.channels
  pub tells : (c : Configuration) → AllIn c.clock old.members.items c.processes → (j : Joins m c) →
      AreTold m c j new.members.items old.board.posts new.board.posts

pub is_told : (m : Meeting) (old new : Scene) → HasTold m old new → (c : Configuration) → AllIn c.clock old.members.items c.processes →
    Joins m c → IsTold m c old new
is_told m old new h c all j =
    let told = h.tells c all j in
    record {
      task = h.task;
      history = h.history;
      clock = h.clock;
      channels = h.channels;
      members = told.members;
      shown = λ e.
          told.shown
          ∙ ap (λ (ps : List Post). slice_set (slice_set ps m.sender (post c.clock (sent m.channel j.sender))) m.receiver
          (post c.clock (received m.channel m.value j.receiver))) e
          ∙ sym (posts_meet c m j.sender j.receiver j.differ j.sender_is j.receiver_is);
    }
