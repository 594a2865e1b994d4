-- What a member took over from an advance is the stretch of its process in the event.
use Rattle.std.proofs.Common.{◌≡◌, sym, subst, ◌∙◌, ℕ, ◌≤◌, ◌++◌, length, min, slice_get, slice_set, Some, arith}
use Rattle.hc_limits.specs.Limits.{most_silent_steps}
use Rattle.hc_rational.specs.Words.{Rational}
use Rattle.hc_term.specs.declared.post.Post.{Post}
use Rattle.hc_term.specs.declared.model.ProcessState.{ProcessState}
use Rattle.hc_term.specs.declared.model.Configuration.{Configuration}
use Rattle.hc_term.specs.Offers.{post}
use Rattle.hc_term.specs.Event.{progress, silent_items}
use Rattle.hc_step.specs.declared.stretch.Stretch.{Stretch}
use Rattle.hc_step.specs.Represents.{logs_of}
use Rattle.hc_advance.specs.Lead.{Lead, StartsAt, steps_of}
use Rattle.hc_member.specs.declared.member.Member.{Member}
use Rattle.hc_member.specs.States.{IsIn, Progresses}
use Rattle.hc_member.specs.Lending.{kept}
use Rattle.hc_joint.specs.declared.scene.Scene.{Scene}
use Rattle.hc_joint.specs.declared.turn.Turn.TheVariants as said
use Rattle.hc_joint.specs.Stands.{IsAt}
use Rattle.hc_joint.specs.Parts.{room, Runs}
use Rattle.hc_joint.specs.Handed.{Judges}
use Rattle.hc_joint.proofs.Running.{TakesAll, counted_by, runs_by}
use Rattle.hc_joint.proofs.Taking.{takes_by_limit, few_taken}

-- the steps of the advance may be taken, and its member took them
pub record TakesOver (s : Scene) (a : Lead) (st : Stretch) (m after : Member) : Type 0 where
  pub taken : Judges (kept m) s.clock s.task.seed (room s) a said.Taken
  pub steps : steps_of a.worked ≡ Some st.steps
  pub takes : (p : ℕ) (q : ProcessState) → IsIn p a.clock m q → Progresses p a.clock st after (progress most_silent_steps a.seed p a.clock q)

module _ (s : Scene) (a : Lead) (st : Stretch) (m after : Member) (t : TakesOver s a st m after) where
  -- the limit leaves so many steps
  pub few_by_limit : st.steps ≤ room s
  few_by_limit =
      let one : Some t.taken.0 ≡ Some st.steps = sym t.taken.1.steps_are ∙ t.steps in
      let same : t.taken.0 ≡ st.steps = cc in
      omega (arith, same, t.taken.2)

  pub takes_here : TakesAll most_silent_steps s.task.seed s.clock m st after
  takes_here p q is =
      let starts : StartsAt a m.code m.local s.clock s.task.seed = t.taken.1.starts in
      subst (λ (n : ℕ). Progresses p s.clock st after (progress most_silent_steps n p s.clock q)) starts.same_seed
      (subst (λ (k : Rational). Progresses p k st after (progress most_silent_steps a.seed p k q)) starts.same_clock
      (t.takes p q (subst (λ (k : Rational). IsIn p k m q) (sym starts.same_clock) is)))

  -- so it counts what it logged
  pub counts_logs : (c : Configuration) (p : ℕ) → IsAt s c → slice_get s.members.items p ≡ Some m → length (logs_of st) ≡ st.steps
  counts_logs c p at there = counted_by s c p most_silent_steps s.task.seed m after st at there takes_here

  -- what the scene is then, but for the steps
  pub record PutsBack (new : Scene) (p : ℕ) (shown : Post) : Type 0 where
    pub there : slice_get s.members.items p ≡ Some m
    pub shows : (k : ℕ) (clock : Rational) (q : ProcessState) → IsIn k clock after q → shown ≡ post clock q
    pub task : new.task ≡ s.task
    pub clock : new.clock ≡ s.clock
    pub members : new.members.items ≡ slice_set s.members.items p after
    pub board : new.board.posts ≡ slice_set s.board.posts p shown
    pub channels : new.board.channels ≡ s.board.channels
    pub items : new.history.items ≡ s.history.items ++ silent_items s.clock p (logs_of st)

  pub hands_in : (new : Scene) (p : ℕ) (shown : Post) → PutsBack new p shown → (c : Configuration) (q : ProcessState) → IsAt s c →
      slice_get c.processes p ≡ Some q →
      Runs p s new st.end c (progress (min most_silent_steps (room s)) s.task.seed p c.clock q)
  hands_in new p shown b c q at here =
      let is : IsIn p s.clock m q = subst (λ (k : Rational). IsIn p k m q) (sym at.clock) (at.members.each p m q b.there here) in
      runs_by s new p (min most_silent_steps (room s)) st m after shown
      (record {
        there = b.there;
        takes = takes_by_limit m after st s.task.seed (room s) s.clock few_by_limit takes_here;
        at_most = few_taken m after st s.task.seed (room s) p s.clock q few_by_limit takes_here is;
        fits = omega arith;
        shows = b.shows;
        task = b.task;
        clock = b.clock;
        members = b.members;
        board = b.board;
        channels = b.channels;
        items = b.items;
      })
      c q at here
