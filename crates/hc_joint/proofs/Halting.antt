-- What time does to a scene, and the stop that it sets, by what the board answers.
use Rattle.std.proofs.Common.{◌≡◌, ◌<◌, ◌≤◌, refl, sym, ap, ap₂, subst, ◌∙◌, ℕ, zero, suc, ◌-◌, Bool, true, false, List, [], ◌∷◌, ◌++◌, map, length, Option, Some, None, is_some, inl, inr, arith, length-append}
use Rattle.std.proofs.lemmas.List.{append-nil}
use Rattle.hc_rational.specs.Words.{Rational}
use Rattle.hc_term.specs.declared.task.Task.{Task}
use Rattle.hc_term.specs.declared.post.Post.{Post}
use Rattle.hc_term.specs.declared.run.Item.{Item}
use Rattle.hc_term.specs.declared.run.Stop.{Stop}
use Rattle.hc_term.specs.declared.run.Stop.TheVariants.{Horizon, Overflow}
use Rattle.hc_term.specs.declared.model.Meeting.{Meeting}
use Rattle.hc_term.specs.declared.model.Configuration.{Configuration}
use Rattle.hc_term.specs.Posts.{Passing, NoBound, AtHorizon, Overflows, Took, passing_on}
use Rattle.hc_term.specs.Moved.{moved_post}
use Rattle.hc_term.specs.Step.{opening, ready, rests, passing, passing_by, passing_quiet, delayed, Leads}
use Rattle.hc_term.specs.Canonical.{wanting_from, ended_by}
use Rattle.hc_term.specs.Event.{last_part_by, stop_of_passing, stop_after}
use Rattle.hc_term.proofs.Turns.{passing-quiet}
use Rattle.hc_term.proofs.Wanting.{rests_where_none_wants, none_wants_where_rests}
use Rattle.hc_runs.specs.Laws.{IsOver}
use Rattle.hc_runs.proofs.Parts.{runs_keep_rules}
use Rattle.hc_runs.proofs.Resting.{delays_end}
use Rattle.hc_board.specs.declared.delayed.Delayed.{Delayed}
use Rattle.hc_board.specs.declared.delayed.Delayed.TheVariants as said
use Rattle.hc_board.specs.Answers.{answer_of}
use Rattle.hc_member.specs.declared.member.Member.{Member}
use Rattle.hc_member.specs.States.{AllIn}
use Rattle.hc_member.proofs.Showing.{least_shown}
use Rattle.hc_joint.specs.Able.{least_from}
use Rattle.hc_joint.specs.declared.scene.Scene.{Scene}
use Rattle.hc_joint.specs.Stands.{IsAt, IsPassing}
use Rattle.hc_joint.specs.Parts.{room, Follows, Comes}
use Rattle.hc_joint.proofs.Passed.{passed_item}

-- ---- what a board's answer says

pub answers_no_bound : (what : Passing) → answer_of what ≡ said.NoBound → what ≡ NoBound
answers_no_bound NoBound e = refl
answers_no_bound AtHorizon e = cc
answers_no_bound Overflows e = cc
answers_no_bound (Took by) e = cc

pub answers_horizon : (what : Passing) → answer_of what ≡ said.AtHorizon → what ≡ AtHorizon
answers_horizon NoBound e = cc
answers_horizon AtHorizon e = refl
answers_horizon Overflows e = cc
answers_horizon (Took by) e = cc

pub answers_unfit : (what : Passing) → answer_of what ≡ said.Unfit → what ≡ Overflows
answers_unfit NoBound e = cc
answers_unfit AtHorizon e = cc
answers_unfit Overflows e = refl
answers_unfit (Took by) e = cc

pub answers_took : (what : Passing) (by : Rational) → answer_of what ≡ said.Took by → what ≡ Took by
answers_took NoBound by e = cc
answers_took AtHorizon by e = cc
answers_took Overflows by e = cc
answers_took (Took d) by e = cc

-- ---- what time does

none_passes_by : (o : Option Meeting) (b : Bool) (what : Passing) → b ≡ false → passing_by o b what ≡ None
none_passes_by (Some m) b what h = refl
none_passes_by None true what h = cc
none_passes_by None false what h = refl

pub none_is : {A : Type 0} (o : Option A) → is_some o ≡ false → o ≡ None
none_is None h = refl
none_is (Some x) h = cc

some_isnt : (o : Option ℕ) → is_some o ≡ true → o ≡ None → ⊥
some_isnt None h e = cc
some_isnt (Some n) h e = cc

module _ (s : Scene) (c : Configuration) (at : IsAt s c) where
  -- the least process that shows that it wants a silent step is the least that wants one
  pub wanting_is : (o : Option ℕ) → o ≡ least_from 0 s.board.posts → o ≡ wanting_from 0 c.processes
  wanting_is o e = e ∙ ap (λ (ps : List Post). least_from 0 ps) at.shown ∙ least_shown c.clock 0 c.processes

  -- where a process shows that it wants a silent step, no time passes
  none_passes : (o : Option ℕ) → o ≡ least_from 0 s.board.posts → is_some o ≡ true → passing s.task c ≡ None
  none_passes o e h = none_passes_by (ready s.task c) (rests c.processes) (passing_quiet s.task c) (by_test (rests c.processes) refl) where
    by_test : (b : Bool) → rests c.processes ≡ b → b ≡ false
    by_test false k = refl
    by_test true k = absurd (some_isnt o h (wanting_is o e ∙ none_wants_where_rests 0 c.processes k))

  -- what was seen of the board: the least process that wants a silent step, of which there is none, and what time does
  pub record Looked (o : Option ℕ) (d : Delayed) : Type 0 where
    pub least : o ≡ least_from 0 s.board.posts
    pub none : is_some o ≡ false
    pub answer : d ≡ answer_of (passing_on s.clock s.task.horizon s.board.posts)

  pub looked : (o : Option ℕ) (d : Delayed) (b : Bool) → o ≡ least_from 0 s.board.posts → b ≡ is_some o → b ≡ false →
      d ≡ answer_of (passing_on s.clock s.task.horizon s.board.posts) → Looked o d
  looked o d b least test none answer = record { least = least; none = sym test ∙ none; answer = answer }

  -- time does what the board answered
  pub record Answers (d : Delayed) : Type 0 where
    pub passes : passing s.task c ≡ Some (passing_quiet s.task c)
    pub answer : d ≡ answer_of (passing_quiet s.task c)

  resting : (o : Option ℕ) (d : Delayed) → Looked o d → rests c.processes ≡ true
  resting o d h = rests_where_none_wants 0 c.processes (sym (wanting_is o h.least) ∙ none_is o h.none)

  answered : (o : Option ℕ) (d : Delayed) → Looked o d → d ≡ answer_of (passing_quiet s.task c)
  answered o d h = h.answer ∙ ap₂ (λ (k : Rational) (ps : List Post). answer_of (passing_on k s.task.horizon ps)) at.clock at.shown

  -- where no channel is ready
  pub quiet_answers : (o : Option ℕ) (d : Delayed) → Looked o d → ready s.task c ≡ None → Answers d
  quiet_answers o d h quiet = record {
    passes =
        ap (λ (m : Option Meeting). passing_by m (rests c.processes) (passing_quiet s.task c)) quiet
        ∙ ap (λ (b : Bool). passing_by None b (passing_quiet s.task c)) (resting o d h);
    answer = answered o d h;
  }

  over_passes : IsOver (passing s.task c) → passing s.task c ≡ Some (passing_quiet s.task c)
  over_passes (inl e) = e ∙ ap Some (sym (passing-quiet s.task c NoBound e).what)
  over_passes (inr e) = e ∙ ap Some (sym (passing-quiet s.task c AtHorizon e).what)

  -- where it does nothing more, if no process wants a silent step
  pub over_answers : (o : Option ℕ) (d : Delayed) → Looked o d → (rests c.processes ≡ true → IsOver (passing s.task c)) → Answers d
  over_answers o d h over = record { passes = over_passes (over (resting o d h)); answer = answered o d h }

  -- by the answer
  no_bound : Answers said.NoBound → passing s.task c ≡ Some NoBound
  no_bound a = a.passes ∙ ap Some (answers_no_bound (passing_quiet s.task c) (sym a.answer))

  at_horizon : Answers said.AtHorizon → passing s.task c ≡ Some AtHorizon
  at_horizon a = a.passes ∙ ap Some (answers_horizon (passing_quiet s.task c) (sym a.answer))

  unfit : Answers said.Unfit → passing s.task c ≡ Some Overflows
  unfit a = a.passes ∙ ap Some (answers_unfit (passing_quiet s.task c) (sym a.answer))

  took : (by : Rational) → Answers (said.Took by) → passing s.task c ≡ Some (Took by)
  took by a = a.passes ∙ ap Some (answers_took (passing_quiet s.task c) by (sym a.answer))

  pub quiet_takes : (o : Option ℕ) (by : Rational) → Looked o (said.Took by) → ready s.task c ≡ None → passing s.task c ≡ Some (Took by)
  quiet_takes o by l quiet = took by (quiet_answers o (said.Took by) l quiet)

  -- ---- where time does nothing more

  over_isnt : (what : Passing) → passing s.task c ≡ Some what → (what ≡ NoBound → ⊥) → (what ≡ AtHorizon → ⊥) → IsOver (passing s.task c) → ⊥
  over_isnt what e n h (inl o) = let same : Some what ≡ Some NoBound = sym e ∙ o in n cc
  over_isnt what e n h (inr o) = let same : Some what ≡ Some AtHorizon = sym e ∙ o in h cc

  pub never_unfit : (o : Option ℕ) → Looked o said.Unfit → (rests c.processes ≡ true → IsOver (passing s.task c)) → ⊥
  never_unfit o h over =
      over_isnt Overflows (unfit (over_answers o said.Unfit h over)) (λ e. cc) (λ e. cc) (over (resting o said.Unfit h))

  pub never_took : (o : Option ℕ) (by : Rational) → Looked o (said.Took by) → (rests c.processes ≡ true → IsOver (passing s.task c)) → ⊥
  never_took o by h over =
      over_isnt (Took by) (took by (over_answers o (said.Took by) h over)) (λ e. cc) (λ e. cc) (over (resting o (said.Took by) h))

  -- where steps are left, the stop is that of time
  stops : (n : ℕ) (o : Option Passing) → 0 < n → passing s.task c ≡ o → stop_of_passing c o ≡ stop_after n s.task c
  stops zero o h e = absurd (omega arith)
  stops (suc n) o h e = ap (stop_of_passing c) (sym e)

  pub stops_not : (n : ℕ) (o : Option ℕ) → 0 < n → o ≡ least_from 0 s.board.posts → is_some o ≡ true → None ≡ stop_after n s.task c
  stops_not n o h e k = stops n None h (none_passes o e k)

  pub stops_at_rest : (n : ℕ) (o : Option ℕ) → 0 < n → Looked o said.NoBound → (rests c.processes ≡ true → IsOver (passing s.task c)) →
      Some (ended_by c) ≡ stop_after n s.task c
  stops_at_rest n o h l over = stops n (Some NoBound) h (no_bound (over_answers o said.NoBound l over))

  pub stops_at_horizon : (n : ℕ) (o : Option ℕ) → 0 < n → Looked o said.AtHorizon → (rests c.processes ≡ true → IsOver (passing s.task c)) →
      Some Horizon ≡ stop_after n s.task c
  stops_at_horizon n o h l over = stops n (Some AtHorizon) h (at_horizon (over_answers o said.AtHorizon l over))

  -- ---- the last part of an event

  -- but for the board nothing has changed
  pub record KeepsAll (new : Scene) : Type 0 where
    pub task : new.task ≡ s.task
    pub items : new.history.items ≡ s.history.items
    pub members : new.members.items ≡ s.members.items
    pub clock : new.clock ≡ s.clock

  leads_still : (new : Scene) → KeepsAll new → Leads new.task (opening new.task) new.history.items c
  leads_still new k =
      subst (λ (t : Task). Leads t (opening t) new.history.items c) (sym k.task)
      (subst (λ (l : List Item). Leads s.task (opening s.task) l c) (sym k.items) at.leads)

  within_still : (new : Scene) → KeepsAll new → length new.history.items ≤ new.task.limit
  within_still new k = omega (arith, at.within, ap length k.items, ap (λ (t : Task). t.limit) k.task)

  members_still : (new : Scene) → KeepsAll new → AllIn c.clock new.members.items c.processes
  members_still new k = subst (λ (ms : List Member). AllIn c.clock ms c.processes) (sym k.members) at.members

  stays : (new : Scene) → KeepsAll new → new.board ≡ s.board → Follows s new [] c
  stays new k board = record {
    task = k.task;
    items = k.items ∙ sym (append-nil s.history.items);
    at = record {
      leads = leads_still new k;
      within = within_still new k;
      members = members_still new k;
      shown = ap (λ b. b.posts) board ∙ at.shown;
      channels = ap (λ b. b.channels) board ∙ at.channels ∙ ap (λ (t : Task). length t.system.channels) (sym k.task);
      clock = k.clock ∙ at.clock;
    };
  }

  comes : (new : Scene) (n : ℕ) (set : Option Stop) (o : Option Passing) → passing s.task c ≡ o → Comes s new (last_part_by n s.task c o) set →
      Comes s new (last_part_by n s.task c (passing s.task c)) set
  comes new n set o e h = subst (λ (p : Option Passing). Comes s new (last_part_by n s.task c p) set) (sym e) h

  module _ (new : Scene) (n : ℕ) (k : KeepsAll new) (board : new.board ≡ s.board) where
    pub comes_not : (o : Option ℕ) → o ≡ least_from 0 s.board.posts → is_some o ≡ true →
        Comes s new (last_part_by n s.task c (passing s.task c)) None
    comes_not o e h = comes new n None None (none_passes o e h) (record { follows = stays new k board; stop = refl })

    pub comes_to_rest : (set : Option Stop) → Answers said.NoBound → set ≡ Some (ended_by c) →
        Comes s new (last_part_by n s.task c (passing s.task c)) set
    comes_to_rest set a is = comes new n set (Some NoBound) (no_bound a) (record { follows = stays new k board; stop = is })

    pub comes_to_horizon : Answers said.AtHorizon → Comes s new (last_part_by n s.task c (passing s.task c)) (Some Horizon)
    comes_to_horizon a = comes new n (Some Horizon) (Some AtHorizon) (at_horizon a) (record { follows = stays new k board; stop = refl })

    pub comes_to_overflow : Answers said.Unfit → Comes s new (last_part_by n s.task c (passing s.task c)) (Some (Overflow None))
    comes_to_overflow a = comes new n (Some (Overflow None)) (Some Overflows) (unfit a) (record { follows = stays new k board; stop = refl })

  -- the board has moved
  module _ (by : Rational) (passes : passing s.task c ≡ Some (Took by)) where
    pub is_passing : (mid : Scene) → KeepsAll mid → mid.board ≡ record s.board { posts = map (moved_post by) s.board.posts } → IsPassing mid c by
    is_passing mid k board = record {
      leads = leads_still mid k;
      within = within_still mid k;
      members = members_still mid k;
      shown = ap (λ b. b.posts) board ∙ ap (λ (ps : List Post). map (moved_post by) ps) at.shown;
      channels = ap (λ b. b.channels) board ∙ at.channels ∙ ap (λ (t : Task). length t.system.channels) (sym k.task);
      clock = k.clock ∙ at.clock;
      passes = subst (λ (t : Task). passing t c ≡ Some (Took by)) (sym k.task) passes;
    }

    module _ (mid end : Scene) (f : Follows mid end (passed_item c.clock by ∷ []) (delayed by c)) (k : KeepsAll mid) where
      same_task : end.task ≡ s.task
      same_task = f.task ∙ k.task

      all_items : end.history.items ≡ s.history.items ++ passed_item c.clock by ∷ []
      all_items = f.items ∙ ap (λ (l : List Item). l ++ passed_item c.clock by ∷ []) k.items

      -- time does nothing more, if no process wants a silent step
      pub over_after : rests (delayed by c).processes ≡ true → IsOver (passing end.task (delayed by c))
      over_after r =
          subst (λ (t : Task). IsOver (passing t (delayed by c))) (sym same_task)
          (delays_end s.task c by (runs_keep_rules s.task s.history.items c at.leads).1 passes r)

      room_after : room end ≡ room s - 1
      room_after =
          omega (arith, ap (λ (t : Task). t.limit) same_task, ap length all_items, length-append s.history.items (passed_item c.clock by ∷ []))

      stop_is : stop_after (room end) end.task (delayed by c) ≡ stop_after (room s - 1) s.task (delayed by c)
      stop_is = ap₂ (λ (n : ℕ) (t : Task). stop_after n t (delayed by c)) room_after same_task

      pub comes_after : (new : Scene) (set : Option Stop) → new ≡ end → set ≡ stop_after (room end) end.task (delayed by c) →
          Comes s new (last_part_by (room s - 1) s.task c (passing s.task c)) set
      comes_after new set same is =
          comes new (room s - 1) set (Some (Took by)) passes
          (subst (λ (x : Scene). Comes s x (last_part_by (room s - 1) s.task c (Some (Took by))) set) (sym same)
          (record { follows = record { task = same_task; items = all_items; at = f.at }; stop = is ∙ stop_is }))
