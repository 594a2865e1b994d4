-- The line of a delay: all processes take their steps, and then time passes; there is no other way to follow it.
use Rattle.std.proofs.Common.{◌≡◌, refl, sym, ◌∙◌, ℕ, suc, ◌+◌, ◌≤◌, ◌<◌, true, false, [], Option, Some, None, arith}
use Rattle.std.proofs.lemmas.Bool.{true≢false}
use Rattle.hc_rational.specs.Words.{Rational}
use Rattle.hc_term.specs.declared.task.Task.{Task}
use Rattle.hc_term.specs.declared.run.Step.TheVariants.{Delay}
use Rattle.hc_term.specs.declared.run.Item.{Item}
use Rattle.hc_term.specs.declared.model.ProcessState.{ProcessState}
use Rattle.hc_term.specs.declared.model.Configuration.{Configuration}
use Rattle.hc_term.specs.Posts.{Took}
use Rattle.hc_term.specs.Silent.{Outcome, Idle, Did, silent}
use Rattle.hc_term.specs.Step.{opening, passing, rests, ready, passing_quiet, delayed, StepTo}
use Rattle.hc_term.proofs.Wanting.{active-wants}
use Rattle.hc_order.specs.Demand.{Advances, Follows, everyone}
use Rattle.hc_order.proofs.Advancing.{halted_moves_are_all}
use Rattle.hc_order.proofs.OneWay.{resting}
use Rattle.hc_order.proofs.Paths.{demand-path, advance-path, path_then}
use Rattle.hc_verify.specs.declared.walk.Walk.{Walk}
use Rattle.hc_verify.specs.Stands.{IsAt}
use Rattle.hc_verify.specs.Halting.{AreStill, AllHalt}
use Rattle.hc_verify.specs.Timing.{IsRunTo, Delays}
use Rattle.hc_verify.specs.Following.{IsReached, Followed}
use Rattle.hc_verify.proofs.Stilling.{still_is_halted}
use Rattle.hc_verify.proofs.TimePasses.{passes_by}

pub not_idle : (logged : Option Rational) (x : ProcessState) (o : Outcome) → o ≡ Did logged x → o ≡ Idle → ⊥
not_idle logged x o e f = cc

module _ (t : Task) (by : Rational) (room : ℕ) (w : Walk) (c : Configuration) (r : IsReached t w room c) where
  abbrev line_at : Rational → Item
  line_at at = record { at = at; step = Delay by }

  -- where time passes no process has a step
  still_where_passes : (d : Configuration) → passing t d ≡ Some (Took by) → AreStill t d
  still_where_passes d e p q there logged x s =
      let rest = (passes_by (ready t d) (rests d.processes) (passing_quiet t d) by e).rest in
      let settled = resting t d d.processes p q rest there in
      true≢false (sym (active-wants t.seed p d.clock q (not_idle logged x (silent t.seed p d.clock q) s)) ∙ settled)

  pub other_moment : (at : Rational) (new : Walk) → (at ≡ w.clock → ⊥) → Followed t (line_at at) room c new None
  other_moment at new other k d f le = other (f.at ∙ sym r.at.clock)

  pub no_stillness : (at : Rational) (new : Walk) → AllHalt t room c new None → Followed t (line_at at) room c new None
  no_stillness at new h k d f le =
      h f.moves f.mid f.advances (still_where_passes f.mid f.step.0) (omega (arith, le, f.counted))

  module _ (m : ℕ) (d : Configuration) (advances : Advances everyone t m c d) (still : AreStill t d) where
    -- only the delay is missing
    must : (at : Rational) (k : ℕ) (new : Configuration) → Follows t (line_at at) k c new → (k ≡ suc m) × StepTo t d (Delay by) new
    must at k new f =
        halted_moves_are_all t r.lines (line_at at) r.steps m k c d new refl r.follows advances (still_is_halted t d still) f

    pub too_many : (at : Rational) (new : Walk) → room ≤ m → Followed t (line_at at) room c new None
    too_many at new past k e f le = let all = (must at k e f).0 in omega (arith, all, past, le)

    pub not_passed : (at : Rational) (new : Walk) → Delays t d by new false → Followed t (line_at at) room c new None
    not_passed at new h k e f le = h (must at k e f).1.0

    pub delayed_by : (at : Rational) (new : Walk) → at ≡ w.clock → m < room → Delays t d by new true →
        Followed t (line_at at) room c new (Some (m + 1))
    delayed_by at new here low h = (
      omega (arith, low),
      (
        delayed by d,
        (record {
          moves = m;
          mid = d;
          counted = omega arith;
          at = here ∙ r.at.clock;
          advances = advances;
          step = (h.0, refl);
        }),
        h.1,
      ),
    )

    -- a run leads there
    pub run_to : (new : Walk) → IsAt t.system new d → IsRunTo t new d
    run_to new at =
        let path = path_then t r.lines [] r.steps m (opening t) c d
        (demand-path t r.lines r.steps (opening t) c r.visible r.follows) (advance-path t everyone m c d advances) in
        record { items = path.items; leads = path.leads; at = at }
