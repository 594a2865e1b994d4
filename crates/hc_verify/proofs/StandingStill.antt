-- The end lines that time says: all processes take their steps, and there is no other way to reach a deadlock, the horizon or
-- an overflow of the clock.
use Rattle.std.proofs.Common.{◌≡◌, refl, sym, ap, ap₂, subst, ◌∙◌, ℕ, ◌≤◌, ◌<◌, Bool, true, false, not, List, Option, Some, None, is_some, arith}
use Rattle.std.specs.List.{list_all}
use Rattle.std.proofs.lemmas.Bool.{true≢false}
use Rattle.hc_rational.specs.Words.{Rational}
use Rattle.hc_term.specs.declared.task.Task.{Task}
use Rattle.hc_term.specs.declared.post.Post.{Post}
use Rattle.hc_term.specs.declared.run.Stop.{Stop}
use Rattle.hc_term.specs.declared.run.Stop.TheVariants.{Terminated, Deadlock, Horizon, Limit, Overflow}
use Rattle.hc_term.specs.declared.model.Meeting.{Meeting}
use Rattle.hc_term.specs.declared.model.Configuration.{Configuration}
use Rattle.hc_term.specs.Posts.{Passing, NoBound, AtHorizon, Overflows, Took, passing_on, first_meeting}
use Rattle.hc_term.specs.Silent.{silent}
use Rattle.hc_term.specs.Step.{all_ended, ready, rests, passing, passing_by, passing_quiet}
use Rattle.hc_term.specs.Stop.{StopsAt}
use Rattle.hc_term.specs.Canonical.{wanting_from}
use Rattle.hc_term.proofs.Wanting.{active-wants, rests_where_none_wants, none_wants_where_rests}
use Rattle.hc_board.specs.declared.delayed.Delayed.{Delayed}
use Rattle.hc_board.specs.Able.{least_from}
use Rattle.hc_board.specs.Answers.{answer_of}
use Rattle.hc_order.specs.Demand.{Movers, Advances, AreHalted, everyone}
use Rattle.hc_order.specs.Verified.{asked_at_stop}
use Rattle.hc_order.proofs.OneWay.{resting}
use Rattle.hc_order.proofs.Ending.{halted_end_moves_are_all}
use Rattle.hc_member.specs.Ended.{is_ended}
use Rattle.hc_member.proofs.Showing.{least_shown, ended_shown}
use Rattle.hc_verify.specs.declared.walk.Walk.{Walk}
use Rattle.hc_verify.specs.Stands.{IsAt}
use Rattle.hc_verify.specs.Halting.{AreStill, AllHalt}
use Rattle.hc_verify.specs.Following.{IsReached}
use Rattle.hc_verify.specs.Ending.{Reaches, answered, is_of_time, stops_time}
use Rattle.hc_verify.proofs.Stilling.{still_is_halted}
use Rattle.hc_verify.proofs.Delaying.{not_idle}

-- ---- what a walk learns of time

meets : (o : Option Meeting) (b : Bool) (what : Passing) → is_some o ≡ true → passing_by o b what ≡ None
meets None b what h = absurd (true≢false (sym h))
meets (Some m) b what h = refl

moves : (o : Option Meeting) (b : Bool) (what : Passing) → b ≡ false → passing_by o b what ≡ None
moves None false what h = refl
moves None true what h = absurd (true≢false h)
moves (Some m) b what h = refl

tells : (o : Option Meeting) (b : Bool) (what : Passing) → is_some o ≡ false → b ≡ true → passing_by o b what ≡ Some what
tells None false what h e = absurd (true≢false (sym e))
tells None true what h e = refl
tells (Some m) b what h e = absurd (true≢false h)

nobody : (o : Option ℕ) → is_some o ≡ false → o ≡ None
nobody None h = refl
nobody (Some p) h = absurd (true≢false h)

module _ (t : Task) (w : Walk) (c : Configuration) (at : IsAt t.system w c) (fired : Option Meeting)
    (fires : fired ≡ first_meeting w.board.channels w.board.posts) where
  ready_is : fired ≡ ready t c
  ready_is = fires ∙ ap₂ first_meeting at.channels at.shown

  pub none_where_ready : is_some fired ≡ true → None ≡ answered (passing t c)
  none_where_ready some =
      sym (ap answered (meets (ready t c) (rests c.processes) (passing_quiet t c) (sym (ap is_some ready_is) ∙ some)))

  module _ (able : Option ℕ) (least : able ≡ least_from 0 w.board.posts) where
    wanting_is : able ≡ wanting_from 0 c.processes
    wanting_is = least ∙ ap (λ (ps : List Post). least_from 0 ps) at.shown ∙ least_shown c.clock 0 c.processes

    no_rest : (b : Bool) → rests c.processes ≡ b → is_some able ≡ true → rests c.processes ≡ false
    no_rest false e some = e
    no_rest true e some =
        let nobody_wants : able ≡ None = wanting_is ∙ none_wants_where_rests 0 c.processes e in
        absurd (true≢false (sym some ∙ ap is_some nobody_wants))

    pub none_where_able : is_some able ≡ true → None ≡ answered (passing t c)
    none_where_able some =
        sym (ap answered (moves (ready t c) (rests c.processes) (passing_quiet t c) (no_rest (rests c.processes) refl some)))

    pub time_tells : is_some fired ≡ false → is_some able ≡ false → (told : Delayed) →
        told ≡ answer_of (passing_on w.clock t.horizon w.board.posts) → Some told ≡ answered (passing t c)
    time_tells quiet still told answer =
        let rest = rests_where_none_wants 0 c.processes (sym wanting_is ∙ nobody able still) in
        let what = tells (ready t c) (rests c.processes) (passing_quiet t c) (sym (ap is_some ready_is) ∙ quiet) rest in
        ap Some (answer ∙ ap₂ (λ (k : Rational) (ps : List Post). answer_of (passing_on k t.horizon ps)) at.clock at.shown)
        ∙ sym (ap answered what)

-- ---- the stops of time

rests_by : (o : Option Meeting) (b : Bool) (what said : Passing) → passing_by o b what ≡ Some said → b ≡ true
rests_by (Some m) b what said e = cc
rests_by None false what said e = cc
rests_by None true what said e = refl

-- where time does something no process has a step
still_where_told : (t : Task) (d : Configuration) (what : Passing) → passing t d ≡ Some what → AreStill t d
still_where_told t d what e p q there logged x s =
    let rest = rests_by (ready t d) (rests d.processes) (passing_quiet t d) what e in
    let settled = resting t d d.processes p q rest there in
    true≢false (sym (active-wants t.seed p d.clock q (not_idle logged x (silent t.seed p d.clock q) s)) ∙ settled)

-- what time does where it stops so
record StopsBy (t : Task) (d : Configuration) (stop : Stop) : Type 0 where
  what : Passing
  passes : passing t d ≡ Some what
  stops : stops_time stop (answer_of what) (all_ended d.processes) ≡ true

stops_by : (t : Task) (d : Configuration) (stop : Stop) → is_of_time stop ≡ true → StopsAt t d stop → StopsBy t d stop
stops_by t d Deadlock timed s = record { what = NoBound; passes = s.0; stops = ap not s.1 }
stops_by t d Horizon timed s = record { what = AtHorizon; passes = s; stops = refl }
stops_by t d (Overflow None) timed s = record { what = Overflows; passes = s; stops = refl }
stops_by t d Terminated timed s = absurd (true≢false (sym timed))
stops_by t d Limit timed s = absurd s
stops_by t d (Overflow (Some p)) timed s = absurd (true≢false (sym timed))

not_true : (b : Bool) → not b ≡ true → b ≡ false
not_true false h = refl
not_true true h = absurd (true≢false (sym h))

stops_so : (t : Task) (d : Configuration) (stop : Stop) (what : Passing) → passing t d ≡ Some what →
    stops_time stop (answer_of what) (all_ended d.processes) ≡ true → StopsAt t d stop
stops_so t d Deadlock NoBound e h = (e, not_true (all_ended d.processes) h)
stops_so t d Deadlock AtHorizon e h = absurd (true≢false (sym h))
stops_so t d Deadlock Overflows e h = absurd (true≢false (sym h))
stops_so t d Deadlock (Took by) e h = absurd (true≢false (sym h))
stops_so t d Horizon NoBound e h = absurd (true≢false (sym h))
stops_so t d Horizon AtHorizon e h = e
stops_so t d Horizon Overflows e h = absurd (true≢false (sym h))
stops_so t d Horizon (Took by) e h = absurd (true≢false (sym h))
stops_so t d (Overflow None) NoBound e h = absurd (true≢false (sym h))
stops_so t d (Overflow None) AtHorizon e h = absurd (true≢false (sym h))
stops_so t d (Overflow None) Overflows e h = e
stops_so t d (Overflow None) (Took by) e h = absurd (true≢false (sym h))
stops_so t d Terminated what e h = absurd (true≢false (sym h))
stops_so t d Limit what e h = absurd (true≢false (sym h))
stops_so t d (Overflow (Some p)) what e h = absurd (true≢false (sym h))

-- they ask for all processes
for_all : (stop : Stop) → is_of_time stop ≡ true → asked_at_stop stop ≡ everyone
for_all Deadlock h = refl
for_all Horizon h = refl
for_all (Overflow None) h = refl
for_all Terminated h = refl
for_all Limit h = refl
for_all (Overflow (Some p)) h = absurd (true≢false (sym h))

-- ---- the end

module _ (t : Task) (stop : Stop) (timed : is_of_time stop ≡ true) (at : Rational) (room : ℕ) (w : Walk) (c : Configuration)
    (r : IsReached t w room c) where
  pub other_clock : (at ≡ w.clock → ⊥) → Reaches t stop at room c None
  other_clock other m d adv here stops le = other (here ∙ sym adv.same_clock ∙ sym r.at.clock)

  pub never_still : (new : Walk) → AllHalt t room c new None → Reaches t stop at room c None
  never_still new h m d adv here stops le =
      let by = stops_by t d stop timed stops in
      h m d (subst (λ (who : Movers). Advances who t m c d) (for_all stop timed) adv) (still_where_told t d by.what by.passes) le

  module _ (m : ℕ) (d : Configuration) (advances : Advances everyone t m c d) (still : AreStill t d) where
    asked : Advances (asked_at_stop stop) t m c d
    asked = subst (λ (who : Movers). Advances who t m c d) (sym (for_all stop timed)) advances

    -- it is reached there or nowhere
    there : (k : ℕ) (last : Configuration) → Advances (asked_at_stop stop) t k c last → StopsAt t last stop → (k ≡ m) × StopsAt t d stop
    there k last adv stops =
        let halted = subst (λ (who : Movers). AreHalted who t d) (sym (for_all stop timed)) (still_is_halted t d still) in
        let all = halted_end_moves_are_all t stop m k c d last asked halted adv stops in
        (all.0, subst (λ (x : Configuration). StopsAt t x stop) all.1 stops)

    pub too_late : room ≤ m → Reaches t stop at room c None
    too_late past k last adv here stops le =
        let all = (there k last adv stops).0 in
        omega (arith, all, past, le)

    pub nothing_told : None ≡ answered (passing t d) → Reaches t stop at room c None
    nothing_told none k last adv here stops le =
        let by = stops_by t d stop timed (there k last adv stops).1 in
        let some : answered (passing t d) ≡ Some (answer_of by.what) = ap answered by.passes in
        cc

    module _ (told : Delayed) (tells : Some told ≡ answered (passing t d)) (new : Walk) (stands : IsAt t.system new d)
        (ps : List Post) (same : ps ≡ new.board.posts) (b : Bool) (test : b ≡ list_all (λ (p : Post). is_ended p.phase) ps) where
      ended_is : b ≡ all_ended d.processes
      ended_is = test ∙ ap (λ (l : List Post). list_all (λ (p : Post). is_ended p.phase) l) (same ∙ stands.shown) ∙ ended_shown d.clock d.processes

      answer_is : (what : Passing) → passing t d ≡ Some what → told ≡ answer_of what
      answer_is what e = let said : Some told ≡ Some (answer_of what) = tells ∙ ap answered e in cc

      stop_is : (what : Passing) → passing t d ≡ Some what → stops_time stop told b ≡ stops_time stop (answer_of what) (all_ended d.processes)
      stop_is what e = ap₂ (λ (x : Delayed) (y : Bool). stops_time stop x y) (answer_is what e) ended_is

      pub other_stop : false ≡ stops_time stop told b → Reaches t stop at room c None
      other_stop not_so k last adv here stops le =
          let by = stops_by t d stop timed (there k last adv stops).1 in
          true≢false (sym by.stops ∙ sym (stop_is by.what by.passes) ∙ sym not_so)

      pub stops_there : at ≡ w.clock → m < room → true ≡ stops_time stop told b → Reaches t stop at room c (Some m)
      stops_there here low so = (low, (d, asked, here ∙ r.at.clock ∙ advances.same_clock, by_passing (passing t d) refl)) where
        by_passing : (o : Option Passing) → passing t d ≡ o → StopsAt t d stop
        by_passing None e = let said : Some told ≡ None = tells ∙ ap answered e in cc
        by_passing (Some what) e = stops_so t d stop what e (sym (stop_is what e) ∙ sym so)
