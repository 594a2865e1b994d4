-- The loop over the lines of a trace: one line more, a line that fails, and the end of a trace without an end line.
use Rattle.std.proofs.Common.{◌≡◌, refl, ap, ◌∙◌, ℕ, ◌+◌, ◌-◌, Bool, true, ◌&&◌, List, [], ◌∷◌, ◌++◌, length, Option, Some, None, inl, inr, arith}
use Rattle.std.proofs.lemmas.Bool.{and_parts}
use Rattle.hc_term.specs.declared.task.Task.{Task}
use Rattle.hc_term.specs.declared.system.System.{System}
use Rattle.hc_term.specs.declared.run.Step.{Step}
use Rattle.hc_term.specs.declared.run.Step.TheVariants as step
use Rattle.hc_term.specs.declared.run.Item.{Item}
use Rattle.hc_term.specs.declared.model.Configuration.{Configuration}
use Rattle.hc_term.specs.Step.{opening}
use Rattle.hc_trace.specs.declared.traces.TraceLine.{TraceLine}
use Rattle.hc_trace.specs.declared.traces.TraceEnd.{TraceEnd}
use Rattle.hc_trace.specs.declared.traces.TraceEvent.{TraceEvent}
use Rattle.hc_trace.specs.declared.traces.TraceEvent.TheVariants as event
use Rattle.hc_order.specs.Shown.{is_visible, all_visible}
use Rattle.hc_order.specs.Verified.{IsVerified, IsRefused, IsShown, asked_at_end}
use Rattle.hc_order.proofs.Stroll.{all_stay}
use Rattle.hc_order.proofs.Loop.{demand_goes_on, line_is_refused, demand_is_shown}
use Rattle.hc_order.proofs.Verifying.{verified_on_demand}
use Rattle.hc_verify.specs.declared.walk.Walk.{Walk}
use Rattle.hc_verify.specs.Named.{IsStepOf, IsItemOf}
use Rattle.hc_verify.specs.Judging.{FailsFrom}
use Rattle.hc_verify.specs.Following.{IsReached, Followed}

-- what a line names is visible
pub named_visible : (sys : System) (e : TraceEvent) (s : Step) → IsStepOf sys e s → is_visible s ≡ true
named_visible sys (event.Delay by) (step.Silent p None) h = absurd h
named_visible sys (event.Comm channel sender receiver value) (step.Silent p None) h = absurd h
named_visible sys (event.Log process value) (step.Silent p None) h = absurd h
named_visible sys e (step.Silent p (Some v)) h = refl
named_visible sys e (step.Comm c v) h = refl
named_visible sys e (step.Delay d) h = refl

both : (a b : Bool) → a ≡ true → b ≡ true → (a && b) ≡ true
both a b h k = ap (λ x. x && b) h ∙ k

visible_behind : (is : List Item) (i : Item) → all_visible is ≡ true → is_visible i.step ≡ true → all_visible (is ++ i ∷ []) ≡ true
visible_behind [] i h v = both (is_visible i.step) true v refl
visible_behind (j ∷ is) i h v =
    let parts = and_parts (is_visible j.step) (all_visible is) h in
    both (is_visible j.step) (all_visible (is ++ i ∷ [])) parts.0 (visible_behind is i parts.1 v)

module _ (t : Task) (w : Walk) (room : ℕ) (c : Configuration) (r : IsReached t w room c) where
  -- one line more
  pub goes_on : (i : Item) (k : ℕ) (new : Walk) → is_visible i.step ≡ true → Followed t i room c new (Some k) →
      (d : Configuration) × ((s : IsReached t new (room - k) d) × (s.lines ≡ r.lines ++ i ∷ []))
  goes_on i k new v h = (
    h.1.0,
    (
      record {
        lines = r.lines ++ i ∷ [];
        visible = visible_behind r.lines i r.visible v;
        steps = r.steps + k;
        follows = demand_goes_on t r.lines i r.steps k (opening t) c h.1.0 r.follows h.1.1;
        left = omega (arith, h.0, r.left);
        at = h.1.2;
      },
      refl,
    ),
  )

  -- a run shows the lines so far
  pub are_shown : IsShown t r.lines
  are_shown = demand_is_shown t r.lines r.steps c r.visible (omega (arith, r.left)) r.follows

  refused : (i : Item) (new : Walk) → is_visible i.step ≡ true → Followed t i room c new None → IsRefused t (r.lines ++ i ∷ []) None
  refused i new v h =
      line_is_refused t r.lines i r.steps c (visible_behind r.lines i r.visible v) r.follows (λ k d f le. h k d f (omega (arith, le, r.left)))

  -- a line whose item can't be followed is the first that fails; and so is one that names none
  pub fails_here : (line : TraceLine) (ls : List TraceLine) (end : Option TraceEnd) →
      ((i : Item) → IsItemOf t.system line i → (new : Walk) × Followed t i room c new None) →
      FailsFrom t r.lines (line ∷ ls) end (length r.lines + 2)
  fails_here line ls end h = inl (
    refl,
    record {
      shown = are_shown;
      refused = λ i is. (let f = h i is in refused i f.0 (named_visible t.system line.event i.step is.step) f.1);
    },
  )

  -- and a later line that fails is the first
  pub fails_later : (line : TraceLine) (ls : List TraceLine) (end : Option TraceEnd) (i : Item) (n : ℕ) → IsItemOf t.system line i →
      FailsFrom t (r.lines ++ i ∷ []) ls end n → FailsFrom t r.lines (line ∷ ls) end n
  fails_later line ls end i n is h = inr (i, is, h)

  -- without an end line the steps so far are the least that verify the lines
  pub verified_here : IsVerified t r.lines None r.steps
  verified_here = (verified_on_demand t r.lines None r.steps r.visible).1 (record {
    steps = r.steps;
    moves = 0;
    mid = c;
    last = c;
    counted = omega arith;
    within = omega (arith, r.left);
    follows = r.follows;
    advances = record { same_clock = refl; stroll = all_stay t c.clock (asked_at_end None) 0 c.processes };
    ends = tt;
  })
