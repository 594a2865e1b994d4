-- Two members of a walk that were told of their meeting.
use Rattle.std.proofs.Common.{◌≡◌, ◌∙◌}
use Rattle.hc_term.specs.declared.system.System.{System}
use Rattle.hc_term.specs.declared.model.Meeting.{Meeting}
use Rattle.hc_term.specs.declared.model.Configuration.{Configuration}
use Rattle.hc_term.specs.Step.{met}
use Rattle.hc_runs.specs.Laws.{Joins}
use Rattle.hc_member.specs.States.{AllIn}
use Rattle.hc_member.proofs.Telling.{AreTold, told_show}
use Rattle.hc_verify.specs.declared.walk.Walk.{Walk}
use Rattle.hc_verify.specs.Stands.{IsAt}

-- the two were told, and nothing else changed
pub record HasTold (m : Meeting) (old new : Walk) : Type 0 where
  pub clock : new.clock ≡ old.clock
  pub channels : new.board.channels ≡ old.board.channels
  pub tells : (c : Configuration) → AllIn c.clock old.members.items c.processes → (j : Joins m c) →
      AreTold m c j new.members.items old.board.posts new.board.posts

pub is_told : (m : Meeting) (old new : Walk) → HasTold m old new → (sys : System) (c : Configuration) → IsAt sys old c → Joins m c →
    IsAt sys new (met m c)
is_told m old new h sys c at j =
    let told = h.tells c at.members j in
    record {
      members = told.members;
      shown = told_show m c j new.members.items old.board.posts new.board.posts told at.shown;
      channels = h.channels ∙ at.channels;
      clock = h.clock ∙ at.clock;
    }
