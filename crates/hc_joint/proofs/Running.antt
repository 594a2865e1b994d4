-- What a stretch of one process does to a scene.
use Rattle.std.proofs.Common.{◌≡◌, sym, ap, subst, ◌∙◌, ℕ, ◌≤◌, List, ◌++◌, length, slice_get, slice_set, Some, arith}
use Rattle.hc_rational.specs.Words.{Rational}
use Rattle.hc_term.specs.declared.post.Post.{Post}
use Rattle.hc_term.specs.declared.model.ProcessState.{ProcessState}
use Rattle.hc_term.specs.declared.model.Configuration.{Configuration}
use Rattle.hc_term.specs.Offers.{post}
use Rattle.hc_term.specs.Step.{posts, replaced}
use Rattle.hc_term.specs.Event.{progress, silent_items}
use Rattle.hc_term.proofs.EventRuns.{length-silent_items}
use Rattle.hc_term.proofs.Stretches.{progress-stretches}
use Rattle.hc_step.specs.declared.stretch.Stretch.{Stretch}
use Rattle.hc_step.specs.Represents.{logs_of}
use Rattle.hc_member.specs.declared.member.Member.{Member}
use Rattle.hc_member.specs.States.{IsIn, AllIn, Progresses}
use Rattle.hc_member.proofs.Beside.{all_but_one}
use Rattle.hc_member.proofs.Places.{beside}
use Rattle.hc_member.proofs.Shown.{replaced_shown}
use Rattle.hc_joint.specs.declared.scene.Scene.{Scene}
use Rattle.hc_joint.specs.Stands.{IsAt}
use Rattle.hc_joint.specs.Parts.{room, Runs}
use Rattle.hc_joint.proofs.Following.{becomes-follows}

-- the stretch took what the definition has, from each state in which the member was
abbrev pub TakesAll : ℕ → ℕ → Rational → Member → Stretch → Member → Type 0
TakesAll most seed clock old s new =
    (p : ℕ) (q : ProcessState) → IsIn p clock old q → Progresses p clock s new (progress most seed p clock q)

-- so it counts what it logged
pub counted_by : (s : Scene) (c : Configuration) (p most seed : ℕ) (m new : Member) (st : Stretch) → IsAt s c →
    slice_get s.members.items p ≡ Some m → TakesAll most seed s.clock m st new → length (logs_of st) ≡ st.steps
counted_by s c p most seed m new st at there takes =
    let q = beside s.members.items c.processes p m at.members.counted there in
    let is = subst (λ (k : Rational). IsIn p k m q.0) (sym at.clock) (at.members.each p m q.0 there q.1) in
    let g = takes p q.0 is in
    sym (ap length g.logged) ∙ sym g.counted

-- the stretch of process p, its member before and after it, and what the member shows then
pub record HasRun (old new : Scene) (p most : ℕ) (st : Stretch) (m after : Member) (shown : Post) : Type 0 where
  pub there : slice_get old.members.items p ≡ Some m
  pub takes : TakesAll most old.task.seed old.clock m st after
  pub at_most : st.steps ≤ most
  pub fits : most ≤ room old
  pub shows : (k : ℕ) (clock : Rational) (q : ProcessState) → IsIn k clock after q → shown ≡ post clock q
  pub task : new.task ≡ old.task
  pub clock : new.clock ≡ old.clock
  pub members : new.members.items ≡ slice_set old.members.items p after
  pub board : new.board.posts ≡ slice_set old.board.posts p shown
  pub channels : new.board.channels ≡ old.board.channels
  pub items : new.history.items ≡ old.history.items ++ silent_items old.clock p (logs_of st)

pub runs_by : (old new : Scene) (p most : ℕ) (st : Stretch) (m after : Member) (shown : Post) → HasRun old new p most st m after shown →
    (c : Configuration) (q : ProcessState) → IsAt old c → slice_get c.processes p ≡ Some q →
    Runs p old new st.end c (progress most old.task.seed p c.clock q)
runs_by old new p most st m after shown h c q at here =
    let g = progress most old.task.seed p c.clock q in
    let is : IsIn p old.clock m q = subst (λ (k : Rational). IsIn p k m q) (sym at.clock) (at.members.each p m q h.there here) in
    let done : Progresses p c.clock st after g =
    subst (λ (k : Rational). Progresses p k st after (progress most old.task.seed p k q)) at.clock (h.takes p q is) in
    let before = old.history.items in
    let stretches = progress-stretches old.task p most c q here in
    record {
      follows = becomes-follows old new (silent_items c.clock p g.logs) c (replaced c p g.next) at (record {
        task = h.task;
        items = h.items ∙ ap (λ (k : Rational). before ++ silent_items k p (logs_of st)) at.clock
            ∙ ap (λ ls. before ++ silent_items c.clock p ls) (sym done.logged);
        run = stretches.leads;
        fits = omega (arith, length-silent_items c.clock p g.logs, stretches.within, h.fits);
        members = subst (λ (ms : List Member). AllIn c.clock ms (slice_set c.processes p g.next)) (sym h.members)
            (all_but_one c.clock old.members.items c.processes p after g.next at.members done.is);
        shown = h.board ∙ ap (λ (ps : List Post). slice_set ps p shown) at.shown
            ∙ ap (slice_set (posts c) p) (h.shows p c.clock g.next done.is) ∙ sym (replaced_shown c p g.next);
        channels = h.channels;
        clock = h.clock ∙ at.clock;
      });
      ended = done.ended;
    }
