-- Where no channel is ready, the canonical steps begin with the event of the least process that wants a step.
use Rattle.std.proofs.Common.{◌≡◌, refl, sym, ap, ap₂, ◌∙◌, subst, ℕ, zero, suc, ◌+◌, ◌-◌, ◌≤◌, min, [], ◌∷◌, length, slice_get, Option, Some, None, arith}
use Rattle.hc_rational.specs.Words.{Rational}
use Rattle.hc_limits.specs.Limits.{most_silent_steps}
use Rattle.hc_term.specs.declared.task.Task.{Task}
use Rattle.hc_term.specs.declared.run.Step.TheVariants.{Silent}
use Rattle.hc_term.specs.declared.run.Item.{Item}
use Rattle.hc_term.specs.declared.run.Stop.TheVariants.{Overflow}
use Rattle.hc_term.specs.declared.run.StretchEnd.{StretchEnd}
use Rattle.hc_term.specs.declared.run.StretchEnd.TheVariants as ends
use Rattle.hc_term.specs.declared.model.ProcessState.{ProcessState}
use Rattle.hc_term.specs.declared.model.Configuration.{Configuration}
use Rattle.hc_term.specs.Silent.{Outcome, Idle, Unfit, Did, silent}
use Rattle.hc_term.specs.Step.{ready, silent_by, replaced}
use Rattle.hc_term.specs.Canonical.{Halts, wanting_from, turn_silent, turn_quiet, turn_by, turn, course_by, course}
use Rattle.hc_term.specs.Event.{Event, Progress, progress, progress_by, spent_by, stopped, idle_end, with_silent, event_after, second_part, silent_items, event_by, event_of}
use Rattle.hc_term.specs.Laws.{BeginsWith, CanonicalByEvents}
use Rattle.hc_term.proofs.Places.{get-set_same}
use Rattle.hc_term.proofs.Wanting.{active-wants, least-set, least-wants}
use Rattle.hc_term.proofs.Offering.{active-offers}
use Rattle.hc_term.proofs.Stretches.{replaced_back, replaced_twice, idle_end-unfit, Stretches, progress-stretches}
use Rattle.hc_term.proofs.EventRuns.{length-silent_items}
use Rattle.hc_term.proofs.Quiet.{quiet-set}
use Rattle.hc_term.proofs.Courses.{led, course_then, then-after, Begins, second_part-begins}

-- the canonical steps from c begin with those of the stretch, and end with it where the next doesn't fit
record TakesStretch (t : Task) (c : Configuration) (p : ℕ) (g : Progress) : Type 0 where
  path : (n : ℕ) → length g.logs ≤ n →
      course n t c ≡ led (silent_items c.clock p g.logs) (course (n - length g.logs) t (replaced c p g.next))
  unfit : g.end ≡ ends.Unfit → turn t (replaced c p g.next) ≡ Halts (Overflow (Some p))

module _ (t : Task) (p : ℕ) where
  -- no channel is ready, and process p is the least that wants a silent step
  record IsNext (c : Configuration) : Type 0 where
    quiet : ready t c ≡ None
    least : wanting_from 0 c.processes ≡ Some p

  -- it stays so in a state of p that has a silent step
  next_again : (c : Configuration) (x : ProcessState) → IsNext c → (silent t.seed p c.clock x ≡ Idle → ⊥) →
      IsNext (replaced c p x)
  next_again c x h active = record {
    quiet = quiet-set t c p x (active-offers t.seed p c.clock x active) h.quiet;
    least = least-set c.processes p x (active-wants t.seed p c.clock x active) h.least;
  }

  module _ (c : Configuration) (q : ProcessState) (at : slice_get c.processes p ≡ Some q) where
    abbrev NextIfActive : Type 0
    NextIfActive = (silent t.seed p c.clock q ≡ Idle → ⊥) → IsNext c

    turn-silent : IsNext c → turn t c ≡ turn_silent c p (silent t.seed p c.clock q)
    turn-silent h =
        ap (turn_by t c) h.quiet ∙ ap (turn_quiet t c) h.least
        ∙ ap (λ (o : Option ProcessState). turn_silent c p (silent_by t c.clock p o)) at

    stopped-takes : (end : StretchEnd) → (end ≡ ends.Unfit → turn t c ≡ Halts (Overflow (Some p))) →
        TakesStretch t c p (stopped q end)
    stopped-takes end h =
        let back = replaced_back t p c q at in
        record {
          path = λ n within.
              let none : n ≡ n - 0 = omega arith in
              ap₂ (λ (m : ℕ) (d : Configuration). course m t d) none (sym back);
          unfit = λ e. ap (turn t) back ∙ h e;
        }

    idle-takes : TakesStretch t c p (stopped q (idle_end q))
    idle-takes = stopped-takes (idle_end q) (λ e. absurd (idle_end-unfit q e))

    unfit-takes : NextIfActive → silent t.seed p c.clock q ≡ Unfit → TakesStretch t c p (stopped q ends.Unfit)
    unfit-takes h e = stopped-takes ends.Unfit (λ f. turn-silent (h (λ i. cc)) ∙ ap (turn_silent c p) e)

    -- one step of p
    did-course : (n : ℕ) (next : ProcessState) (logged : Option Rational) → IsNext c →
        silent t.seed p c.clock q ≡ Did logged next →
        course (suc n) t c ≡ led (silent_items c.clock p (logged ∷ [])) (course n t (replaced c p next))
    did-course n next logged h e = ap (course_by c (course n t)) (turn-silent h ∙ ap (turn_silent c p) e)

    logged-path : (next : ProcessState) (v : Rational) → IsNext c →
        silent t.seed p c.clock q ≡ Did (Some v) next → (n : ℕ) → 1 ≤ n →
        course n t c ≡ led (silent_items c.clock p (Some v ∷ [])) (course (n - 1) t (replaced c p next))
    logged-path next v h e zero within = absurd (omega arith)
    logged-path next v h e (suc n) within =
        let left : n ≡ suc n - 1 = omega arith in
        did-course n next (Some v) h e
        ∙ ap (λ (m : ℕ). led (silent_items c.clock p (Some v ∷ [])) (course m t (replaced c p next))) left

    with_silent-path : (next : ProcessState) (g : Progress) → IsNext c → silent t.seed p c.clock q ≡ Did None next →
        TakesStretch t (replaced c p next) p g → (n : ℕ) → suc (length g.logs) ≤ n →
        let logs = (with_silent g).logs in
        course n t c ≡ led (silent_items c.clock p logs) (course (n - length logs) t (replaced c p g.next))
    with_silent-path next g h e b zero within = absurd (omega arith)
    with_silent-path next g h e b (suc n) within =
        let i : Item = record { at = c.clock; step = Silent p None } in
        let is = i ∷ silent_items c.clock p g.logs in
        let left : n - length g.logs ≡ suc n - suc (length g.logs) = omega arith in
        let twice = replaced_twice t p c next g.next in
        did-course n next None h e ∙ ap (led (i ∷ [])) (b.path n (omega arith))
        ∙ ap₂ (λ (m : ℕ) (d : Configuration). led is (course m t d)) left twice

    with_silent-takes : (next : ProcessState) (g : Progress) → IsNext c →
        silent t.seed p c.clock q ≡ Did None next → TakesStretch t (replaced c p next) p g →
        TakesStretch t c p (with_silent g)
    with_silent-takes next g h e b = record {
      path = with_silent-path next g h e b;
      unfit = λ f. ap (turn t) (sym (replaced_twice t p c next g.next)) ∙ b.unfit f;
    }

  -- what is to be shown of a stretch of at most n steps, from each configuration
  abbrev AllTake : ℕ → Type 0
  AllTake n =
      (c : Configuration) (q : ProcessState) (at : slice_get c.processes p ≡ Some q) → NextIfActive c q at →
      TakesStretch t c p (progress n t.seed p c.clock q)

  spent_by-takes : (c : Configuration) (q : ProcessState) (at : slice_get c.processes p ≡ Some q) (o : Outcome) →
      NextIfActive c q at → silent t.seed p c.clock q ≡ o → TakesStretch t c p (spent_by q o)
  spent_by-takes c q at Idle h e = idle-takes c q at
  spent_by-takes c q at Unfit h e = unfit-takes c q at h e
  spent_by-takes c q at (Did logged next) h e = stopped-takes c q at ends.Spent (λ f. cc)

  progress_by-takes : (n : ℕ) → AllTake n →
      (c : Configuration) (q : ProcessState) (at : slice_get c.processes p ≡ Some q) (o : Outcome) →
      NextIfActive c q at → silent t.seed p c.clock q ≡ o →
      TakesStretch t c p (progress_by q (progress n t.seed p c.clock) o)
  progress_by-takes n ih c q at Idle h e = idle-takes c q at
  progress_by-takes n ih c q at Unfit h e = unfit-takes c q at h e
  progress_by-takes n ih c q at (Did (Some v) next) h e =
      record { path = logged-path c q at next v (h (λ i. cc)) e; unfit = λ f. cc }
  progress_by-takes n ih c q at (Did None next) h e =
      let now = h (λ i. cc) in
      with_silent-takes c q at next (progress n t.seed p c.clock next) now e
      (ih (replaced c p next) next (get-set_same c.processes p q next at) (next_again c next now))

  progress-takes : (n : ℕ) → AllTake n
  progress-takes zero c q at h = spent_by-takes c q at (silent t.seed p c.clock q) h refl
  progress-takes (suc n) c q at h =
      progress_by-takes n (progress-takes n) c q at (silent t.seed p c.clock q) h refl

-- ---- the event

event_by-begins : (t : Task) (room n p : ℕ) (c : Configuration) (g : Progress) → n ≤ room → Stretches t c p n g →
    TakesStretch t c p g → Begins room t c (event_by room t p c g)
event_by-begins t room n p c g least h b =
    let is = silent_items c.clock p g.logs in
    let mid = replaced c p g.next in
    let left = room - length g.logs in
    let e = second_part left t p mid g.end in
    let all : length is + left ≡ room = omega (arith, length-silent_items c.clock p g.logs, h.within) in
    b.path room (omega (arith, h.within)) ∙ ap (led is) (second_part-begins t left p mid g.end b.unfit)
    ∙ sym (then-after t left is e e.stop)
    ∙ ap (λ (m : ℕ). course_then m t (event_after is e) e.stop) all

begins-with : (room : ℕ) (t : Task) (c : Configuration) (e : Event) → Begins room t c e → BeginsWith room t c e
begins-with room t c e h = record {
  stopped = λ stop f. h ∙ ap (course_then room t e) f;
  going = λ f. h ∙ ap (course_then room t e) f;
}

pub canonical_by_events : CanonicalByEvents
canonical_by_events room t p c quiet least =
    let w = least-wants c.processes p least in
    let n = min most_silent_steps room in
    let g = progress n t.seed p c.clock w.process in
    let h = progress-stretches t p n c w.process w.there in
    let b = progress-takes t p n c w.process w.there (λ i. record { quiet = quiet; least = least }) in
    subst (λ (o : Option ProcessState). BeginsWith room t c (event_of room t p c o)) (sym w.there)
    (begins-with room t c (event_by room t p c g) (event_by-begins t room n p c g (omega arith) h b))
