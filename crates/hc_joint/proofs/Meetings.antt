-- One meeting: what is ready on the board, and what comes of it when both are told.
use Rattle.std.proofs.Common.{◌≡◌, refl, sym, ap, ap₂, subst, ◌∙◌, ◌<◌, true, List, [], ◌∷◌, ◌++◌, length, Option, Some, arith}
use Rattle.std.proofs.lemmas.Option.{slice_get_within}
use Rattle.hc_rational.specs.Words.{Rational}
use Rattle.hc_term.specs.declared.run.Step.TheVariants.{Comm}
use Rattle.hc_term.specs.declared.run.Item.{Item}
use Rattle.hc_term.specs.declared.model.Meeting.{Meeting}
use Rattle.hc_term.specs.declared.model.Configuration.{Configuration}
use Rattle.hc_term.specs.Moved.{fired}
use Rattle.hc_term.specs.Posts.{first_meeting}
use Rattle.hc_term.specs.Step.{ready, met}
use Rattle.hc_term.proofs.Ready.{ready-steps}
use Rattle.hc_runs.specs.Laws.{Joins}
use Rattle.hc_runs.proofs.Fired.{ready_joins}
use Rattle.hc_member.specs.States.{AllIn}
use Rattle.hc_joint.specs.declared.scene.Scene.{Scene}
use Rattle.hc_joint.specs.Stands.{IsAt}
use Rattle.hc_joint.specs.Parts.{room, Follows, IsTold, Meets}
use Rattle.hc_joint.proofs.Following.{becomes-follows}

-- what is ready stands on the board
pub ready_shown : (s : Scene) (c : Configuration) → IsAt s c → first_meeting s.board.channels s.board.posts ≡ ready s.task c
ready_shown s c at = ap₂ first_meeting at.channels at.shown

joins_here : (s : Scene) (c : Configuration) (m : Meeting) → IsAt s c → first_meeting s.board.channels s.board.posts ≡ Some m → Joins m c
joins_here s c m at e = (ready_joins s.task s.history.items c m at.leads (sym (ready_shown s c at) ∙ e)).1

-- both that meet have members
pub record AreThere (m : Meeting) (s : Scene) : Type 0 where
  pub sender : m.sender < length s.members.items
  pub receiver : m.receiver < length s.members.items

pub there_by : (s : Scene) (c : Configuration) (m : Meeting) → IsAt s c → first_meeting s.board.channels s.board.posts ≡ Some m →
    AreThere m s
there_by s c m at e =
    let j = joins_here s c m at e in
    let one = slice_get_within c.processes m.sender j.sender j.sender_is in
    let two = slice_get_within c.processes m.receiver j.receiver j.receiver_is in
    record {
      sender = omega (arith, one, at.members.counted);
      receiver = omega (arith, two, at.members.counted);
    }

-- the board let them meet, they were told, and the meeting was put behind the history
pub record HasMet (m : Meeting) (old fire told new : Scene) : Type 0 where
  pub found : first_meeting old.board.channels old.board.posts ≡ Some m
  pub left : 0 < room old
  pub fire_task : fire.task ≡ old.task
  pub fire_members : fire.members ≡ old.members
  pub fire_clock : fire.clock ≡ old.clock
  pub fire_history : fire.history ≡ old.history
  pub fire_posts : fire.board.posts ≡ fired m old.board.posts
  pub fire_channels : fire.board.channels ≡ old.board.channels
  pub tells : (c : Configuration) → AllIn c.clock fire.members.items c.processes → Joins m c → IsTold m c fire told
  pub task : new.task ≡ told.task
  pub members : new.members ≡ told.members
  pub board : new.board ≡ told.board
  pub clock : new.clock ≡ told.clock
  pub items : new.history.items ≡ told.history.items ++ record { at = told.clock; step = Comm m.channel m.value } ∷ []

-- what they were told
pub told_here : (m : Meeting) (old fire told : Scene) (c : Configuration) → IsAt old c →
    first_meeting old.board.channels old.board.posts ≡ Some m → fire.members ≡ old.members →
    ((d : Configuration) → AllIn d.clock fire.members.items d.processes → Joins m d → IsTold m d fire told) → IsTold m c fire told
told_here m old fire told c at found same tells =
    tells c (subst (λ ms. AllIn c.clock ms.items c.processes) (sym same) at.members) (joins_here old c m at found)

pub meets_by : (m : Meeting) (old fire told new : Scene) → HasMet m old fire told new → (c : Configuration) → IsAt old c →
    Meets old new c (ready old.task c) true
meets_by m old fire told new h c at =
    let is = told_here m old fire told c at h.found h.fire_members h.tells in
    let found : ready old.task c ≡ Some m = sym (ready_shown old c at) ∙ h.found in
    let clock : told.clock ≡ c.clock = is.clock ∙ h.fire_clock ∙ at.clock in
    let step : Item = record { at = c.clock; step = Comm m.channel m.value } in
    let follows : Follows old new (step ∷ []) (met m c) =
    becomes-follows old new (step ∷ []) c (met m c) at (record {
      task = h.task ∙ is.task ∙ h.fire_task;
      items = h.items
          ∙ ap₂ (λ (is : List Item) (k : Rational). is ++ record { at = k; step = Comm m.channel m.value } ∷ [])
          (ap (λ v. v.items) (is.history ∙ h.fire_history)) clock;
      run = (refl, (met m c, ready-steps old.task c m found, refl));
      fits = h.left;
      members = subst (λ ms. AllIn c.clock ms.items (met m c).processes) (sym h.members) is.members;
      shown = ap (λ b. b.posts) h.board ∙ is.shown (h.fire_posts ∙ ap (fired m) at.shown);
      channels = ap (λ b. b.channels) h.board ∙ is.channels ∙ h.fire_channels;
      clock = h.clock ∙ clock;
    }) in
    subst (λ (o : Option Meeting). Meets old new c o true) (sym found) (refl, follows)
