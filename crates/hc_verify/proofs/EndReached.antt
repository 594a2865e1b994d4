-- The end line of a trace, whatever its stop: where it is reached the trace is verified, and where it can't be the end line fails.
use Rattle.std.proofs.Common.{◌≡◌, refl, sym, subst, ℕ, ◌+◌, ◌≤◌, true, [], length, Option, Some, None, inl, inr, arith}
use Rattle.std.proofs.lemmas.Bool.{true≢false}
use Rattle.hc_rational.specs.Words.{Rational}
use Rattle.hc_term.specs.declared.task.Task.{Task}
use Rattle.hc_term.specs.declared.run.Stop.{Stop}
use Rattle.hc_term.specs.declared.run.Stop.TheVariants.{Terminated, Deadlock, Horizon, Limit, Overflow}
use Rattle.hc_term.specs.declared.model.Configuration.{Configuration}
use Rattle.hc_term.specs.Stop.{Stops}
use Rattle.hc_trace.specs.declared.traces.TraceEnd.{TraceEnd}
use Rattle.hc_order.specs.Shown.{End}
use Rattle.hc_order.specs.Demand.{Advances}
use Rattle.hc_order.specs.Verified.{IsVerified, IsRefused, asked_at_stop}
use Rattle.hc_order.proofs.Loop.{end_is_refused}
use Rattle.hc_order.proofs.Verifying.{verified_on_demand}
use Rattle.hc_verify.specs.declared.walk.Walk.{Walk}
use Rattle.hc_verify.specs.Named.{IsEndOf}
use Rattle.hc_verify.specs.Judging.{FailsFrom}
use Rattle.hc_verify.specs.Following.{IsReached}
use Rattle.hc_verify.specs.Ending.{Reaches, ReachesEnd, is_of_time}
use Rattle.hc_verify.proofs.LineByLine.{are_shown}

-- a stop of time isn't the limit
pub reached_in_time : (t : Task) (stop : Stop) (at : Rational) (room : ℕ) (c : Configuration) (o : Option ℕ) → is_of_time stop ≡ true →
    Reaches t stop at room c o → ReachesEnd t stop at room c o
reached_in_time t Deadlock at room c o timed h = h
reached_in_time t Horizon at room c o timed h = h
reached_in_time t (Overflow who) at room c o timed h = h
reached_in_time t Terminated at room c o timed h = h
reached_in_time t Limit at room c o timed h = absurd (true≢false (sym timed))

-- behind so many steps, with which the run has as many as the limit leaves, the end is as its line says
record EndsThere (t : Task) (steps : ℕ) (stop : Stop) (at : Rational) (room : ℕ) (c : Configuration) (m : ℕ) : Type 0 where
  last : Configuration
  within : m ≤ room
  advances : Advances (asked_at_stop stop) t m c last
  here : at ≡ last.clock
  stops : Stops t (steps + m) last stop

module _ (t : Task) (steps : ℕ) (at : Rational) (room : ℕ) (c : Configuration) (left : steps + room ≡ t.limit) where
  before_limit : (stop : Stop) (m : ℕ) → Reaches t stop at room c (Some m) → EndsThere t steps stop at room c m
  before_limit stop m h = record {
    last = h.1.0;
    within = omega (arith, h.0);
    advances = h.1.1;
    here = h.1.2;
    stops = inr (omega (arith, h.0, left), h.1.3);
  }

  ends_there : (stop : Stop) (m : ℕ) → ReachesEnd t stop at room c (Some m) → EndsThere t steps stop at room c m
  ends_there Limit m h = record {
    last = h.1.0;
    within = omega (arith, h.0);
    advances = h.1.1;
    here = h.1.2;
    stops = inl (omega (arith, h.0, left), refl);
  }
  ends_there Terminated m h = before_limit Terminated m h
  ends_there Deadlock m h = before_limit Deadlock m h
  ends_there Horizon m h = before_limit Horizon m h
  ends_there (Overflow who) m h = before_limit (Overflow who) m h

  never_before_limit : (stop : Stop) → (stop ≡ Limit → ⊥) → Reaches t stop at room c None → (k : ℕ) (last : Configuration) →
      Advances (asked_at_stop stop) t k c last → at ≡ last.clock → Stops t (steps + k) last stop → ⊥
  never_before_limit stop other h k last adv here (inl s) = other s.1
  never_before_limit stop other h k last adv here (inr s) = h k last adv here s.1 (omega (arith, s.0, left))

  never_there : (stop : Stop) → ReachesEnd t stop at room c None → (k : ℕ) (last : Configuration) →
      Advances (asked_at_stop stop) t k c last → at ≡ last.clock → Stops t (steps + k) last stop → ⊥
  never_there Limit h k last adv here (inl s) =
      let all : k ≡ room = omega (arith, s.0, left) in
      h last (subst (λ (n : ℕ). Advances (asked_at_stop Limit) t n c last) all adv) here
  never_there Limit h k last adv here (inr s) = s.1
  never_there Terminated h k last adv here s = never_before_limit Terminated (λ e. cc) h k last adv here s
  never_there Deadlock h k last adv here s = never_before_limit Deadlock (λ e. cc) h k last adv here s
  never_there Horizon h k last adv here s = never_before_limit Horizon (λ e. cc) h k last adv here s
  never_there (Overflow who) h k last adv here s = never_before_limit (Overflow who) (λ e. cc) h k last adv here s

module _ (t : Task) (w : Walk) (room : ℕ) (c : Configuration) (r : IsReached t w room c) where
  -- the steps up to the stop are the least that verify the lines with this end
  pub verified_by_end : (e : End) (m : ℕ) → ReachesEnd t e.stop e.at room c (Some m) → IsVerified t r.lines (Some e) (r.steps + m)
  verified_by_end e m h =
      let s = ends_there t r.steps e.at room c r.left e.stop m h in
      (verified_on_demand t r.lines (Some e) (r.steps + m) r.visible).1 (record {
        steps = r.steps;
        moves = m;
        mid = c;
        last = s.last;
        counted = refl;
        within = omega (arith, s.within, r.left);
        follows = r.follows;
        advances = s.advances;
        ends = (s.here, s.stops);
      })

  -- no run shows the lines with an end that can't be reached
  pub refused_by_end : (e : End) → ReachesEnd t e.stop e.at room c None → IsRefused t r.lines (Some e)
  refused_by_end e h =
      end_is_refused t r.lines (Some e) r.steps c r.visible r.follows
      (λ k last adv le ends. never_there t r.steps e.at room c r.left e.stop h k last adv ends.0 ends.1)

  -- so an end line whose stop can't be reached is the first line that fails; and so is one that names none
  pub fails_by_end : (line : TraceEnd) → ((e : End) → IsEndOf t.system line e → ReachesEnd t e.stop e.at room c None) →
      FailsFrom t r.lines [] (Some line) (length r.lines + 2)
  fails_by_end line h = (
    refl,
    record { shown = are_shown t w room c r; refused = λ e is. refused_by_end e (h e is) },
  )
