-- A joint that has done nothing yet, and one that has a turn of its least process.
use Rattle.std.proofs.Common.{◌≡◌, ◌<◌, ◌≤◌, refl, sym, ap, subst, ◌∙◌, ℕ, ◌+◌, ◌++◌, true, false, List, [], length, Option, Some, None, is_some, arith}
use Rattle.std.proofs.lemmas.Option.{none-some, slice_get_within}
use Rattle.hc_limits.specs.Limits.{most_steps}
use Rattle.hc_rational.specs.Words.{Rational}
use Rattle.hc_term.specs.declared.task.Task.{Task}
use Rattle.hc_term.specs.declared.run.Item.{Item}
use Rattle.hc_term.specs.declared.run.Stop.{Stop}
use Rattle.hc_term.specs.declared.model.Configuration.{Configuration}
use Rattle.hc_term.specs.Step.{opening}
use Rattle.hc_term.specs.Canonical.{wanting_from}
use Rattle.hc_runs.specs.Turns.{WantsAt, IsLeast, event_behind, no_turn, one_more, Turns}
use Rattle.hc_runs.specs.Laws.{GoesOn}
use Rattle.hc_runs.proofs.Turning.{least_wants, turns_go_on}
use Rattle.hc_runs.proofs.Visible.{turns_are_few}
use Rattle.hc_joint.specs.declared.scene.Scene.{Scene}
use Rattle.hc_joint.specs.Able.{least_from}
use Rattle.hc_joint.specs.Seen.{Seen}
use Rattle.hc_joint.specs.Stands.{IsAt}
use Rattle.hc_joint.specs.Parts.{room, Comes}
use Rattle.hc_joint.specs.Keeps.{IsMade, HasTurn, GoesForward, seen}
use Rattle.hc_joint.proofs.Halting.{none_is, wanting_is}

-- ---- the opening

module _ (s : Scene) (t : Task) (same : s.task ≡ t) (empty : s.history.items ≡ []) (at : IsAt s (opening t)) where
  pub made_open : IsMade s None 0 0
  made_open =
      let first : Turns s.task 0 [] (opening t) None =
      subst (λ (k : Task). Turns s.task 0 [] (opening k) None) same no_turn in
      record {
        reached = opening t;
        at = at;
        turned = subst (λ (is : List Item). Turns s.task 0 is (opening t) None) (sym empty) first;
        compared = omega arith;
      }

-- ---- one more turn

module _ (s : Scene) (stop : Option Stop) (turns recomputed : ℕ) (m : IsMade s stop turns recomputed)
    (going : false ≡ is_some stop) where
  turns_so_far : Turns s.task turns s.history.items m.reached None
  turns_so_far =
      subst (λ (o : Option Stop). Turns s.task turns s.history.items m.reached o) (none_is stop (sym going)) m.turned

  goes_on : GoesOn s.task s.history.items m.reached
  goes_on = turns_go_on s.task turns s.history.items m.reached turns_so_far

  pub has_room : 0 < room s
  has_room = let short = goes_on.room in omega (arith, short)

  pub turns_fit : turns < most_steps
  turns_fit =
      let few = turns_are_few s.task turns s.history.items m.reached None turns_so_far in
      let short = goes_on.room in
      omega (arith, few.going refl, short, s.task.in_range.1)

  -- ---- any process that wants a step has the turn

  module _ (p : ℕ) (wants : WantsAt p m.reached) (new : Scene) (set : Option Stop)
      (comes : (c : Configuration) → IsAt s c → Comes s new (event_behind s.history.items s.task p c) set) where
    pub made_by_turn : (again : ℕ) → again ≤ 1 → IsMade new set (turns + 1) (recomputed + again)
    made_by_turn again once =
        let items = s.history.items in
        let e = event_behind items s.task p m.reached in
        let came = comes m.reached m.at in
        let f = came.follows in
        let more : Turns s.task (turns + 1) (items ++ e.items) e.end e.stop =
        one_more turns items m.reached p turns_so_far wants in
        let stopped : Turns s.task (turns + 1) (items ++ e.items) e.end set =
        subst (λ (o : Option Stop). Turns s.task (turns + 1) (items ++ e.items) e.end o) (sym came.stop) more in
        let behind : Turns s.task (turns + 1) new.history.items e.end set =
        subst (λ (is : List Item). Turns s.task (turns + 1) is e.end set) (sym f.items) stopped in
        record {
          reached = e.end;
          at = f.at;
          turned = subst (λ (t : Task). Turns t (turns + 1) new.history.items e.end set) (sym f.task) behind;
          compared = omega (arith, m.compared, once);
        }

    -- what is seen then: the event is behind the history, and its stop is set
    pub seen_by_turn : (n r : ℕ) →
        let e = event_behind s.history.items s.task p m.reached in
        seen new.task new.clock new.history.items set n r ≡ seen s.task e.end.clock (s.history.items ++ e.items) e.stop n r
    seen_by_turn n r =
        let items = s.history.items in
        let e = event_behind items s.task p m.reached in
        let came = comes m.reached m.at in
        let f = came.follows in
        ap (λ (t : Task). seen t new.clock new.history.items set n r) f.task
        ∙ ap (λ (q : Rational). seen s.task q new.history.items set n r) f.at.clock
        ∙ ap (λ (is : List Item). seen s.task e.end.clock is set n r) f.items
        ∙ ap (λ (o : Option Stop). seen s.task e.end.clock (items ++ e.items) o n r) came.stop

  -- ---- the least process has it

  shown_least : least_from 0 s.board.posts ≡ wanting_from 0 m.reached.processes
  shown_least = wanting_is s m.reached m.at (least_from 0 s.board.posts) refl

  -- some process wants a step, and so one shows it
  pub some_is_least : least_from 0 s.board.posts ≡ None → ⊥
  some_is_least none = none-some goes_on.able.0 (sym none ∙ shown_least ∙ goes_on.able.1)

  module _ (p : ℕ) (shown : least_from 0 s.board.posts ≡ Some p) where
    least : IsLeast p m.reached
    least = sym shown_least ∙ shown

    pub least_there : p < length s.members.items
    least_there =
        let w = least_wants m.reached p least in
        let below = slice_get_within m.reached.processes p w.0 w.1 in
        omega (arith, below, m.at.members.counted)

    module _ (new : Scene) (set : Option Stop)
        (comes : (c : Configuration) → IsAt s c → Comes s new (event_behind s.history.items s.task p c) set) where
      pub made_turn : IsMade new set (turns + 1) recomputed
      made_turn =
          let same : recomputed + 0 ≡ recomputed = omega arith in
          subst (λ (r : ℕ). IsMade new set (turns + 1) r) same
          (made_by_turn p (least_wants m.reached p least) new set comes 0 (omega arith))

      has_turn : HasTurn (seen s.task s.clock s.history.items stop turns recomputed)
          (seen new.task new.clock new.history.items set (turns + 1) recomputed)
      has_turn = record {
        before = m.reached;
        is_reached = record { leads = m.at.leads; clock = m.at.clock };
        process = p;
        least = least;
        after = seen_by_turn p (least_wants m.reached p least) new set comes (turns + 1) recomputed;
      }

      pub goes_forward : (old : Seen) → seen s.task s.clock s.history.items stop turns recomputed ≡ old →
          GoesForward old.stop old (seen new.task new.clock new.history.items set (turns + 1) recomputed) true
      goes_forward old is =
          let after = seen new.task new.clock new.history.items set (turns + 1) recomputed in
          let before = seen s.task s.clock s.history.items stop turns recomputed in
          let none = none_is stop (sym going) in
          subst (λ (x : Seen). GoesForward x.stop x after true) is
          (subst (λ (o : Option Stop). GoesForward o before after true) (sym none) (refl, has_turn))
