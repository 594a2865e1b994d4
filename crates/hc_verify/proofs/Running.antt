-- What a stretch of one process does to a walk.
use Rattle.std.proofs.Common.{◌≡◌, sym, ap, subst, ◌∙◌, ℕ, List, slice_get, slice_set, Some}
use Rattle.hc_rational.specs.Words.{Rational}
use Rattle.hc_term.specs.declared.post.Post.{Post}
use Rattle.hc_term.specs.declared.system.System.{System}
use Rattle.hc_term.specs.declared.model.ProcessState.{ProcessState}
use Rattle.hc_term.specs.declared.model.Configuration.{Configuration}
use Rattle.hc_term.specs.Offers.{post}
use Rattle.hc_term.specs.Step.{posts}
use Rattle.hc_term.specs.Event.{progress}
use Rattle.hc_step.specs.declared.stretch.Stretch.{Stretch}
use Rattle.hc_member.specs.declared.member.Member.{Member}
use Rattle.hc_member.specs.States.{IsIn, AllIn, Progresses}
use Rattle.hc_member.proofs.Beside.{all_but_one}
use Rattle.hc_member.proofs.Shown.{replaced_shown}
use Rattle.hc_verify.specs.declared.walk.Walk.{Walk}
use Rattle.hc_verify.specs.Stands.{IsAt, Runs}

-- the stretch of process p, its member before and after it, and what the member shows then
pub record HasRun (old new : Walk) (p most seed : ℕ) (st : Stretch) (m after : Member) (shown : Post) : Type 0 where
  pub there : slice_get old.members.items p ≡ Some m
  pub takes : (k : ℕ) (q : ProcessState) → IsIn k old.clock m q → Progresses k old.clock st after (progress most seed k old.clock q)
  pub shows : (k : ℕ) (clock : Rational) (q : ProcessState) → IsIn k clock after q → shown ≡ post clock q
  pub clock : new.clock ≡ old.clock
  pub members : new.members.items ≡ slice_set old.members.items p after
  pub board : new.board.posts ≡ slice_set old.board.posts p shown
  pub channels : new.board.channels ≡ old.board.channels

pub runs_by : (old new : Walk) (p most seed : ℕ) (st : Stretch) (m after : Member) (shown : Post) →
    HasRun old new p most seed st m after shown → (sys : System) (c : Configuration) (q : ProcessState) → IsAt sys old c →
    slice_get c.processes p ≡ Some q → Runs sys p new st c (progress most seed p c.clock q)
runs_by old new p most seed st m after shown h sys c q at here =
    let g = progress most seed p c.clock q in
    let is : IsIn p old.clock m q = subst (λ (k : Rational). IsIn p k m q) (sym at.clock) (at.members.each p m q h.there here) in
    let done : Progresses p c.clock st after g =
    subst (λ (k : Rational). Progresses p k st after (progress most seed p k q)) at.clock (h.takes p q is) in
    record {
      at = record {
        members = subst (λ (ms : List Member). AllIn c.clock ms (slice_set c.processes p g.next)) (sym h.members)
            (all_but_one c.clock old.members.items c.processes p after g.next at.members done.is);
        shown = h.board ∙ ap (λ (ps : List Post). slice_set ps p shown) at.shown
            ∙ ap (slice_set (posts c) p) (h.shows p c.clock g.next done.is) ∙ sym (replaced_shown c p g.next);
        channels = h.channels ∙ at.channels;
        clock = h.clock ∙ at.clock;
      };
      counted = done.counted;
      ended = done.ended;
    }
