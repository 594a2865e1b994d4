-- The communications and the delay at the end of an event are canonical steps.
use Rattle.std.proofs.Common.{◌≡◌, refl, sym, ap, ◌∙◌, ℕ, zero, suc, ◌+◌, ◌-◌, List, [], ◌∷◌, ◌++◌, length, append_assoc, length-append, Option, Some, None, arith}
use Rattle.hc_term.specs.declared.task.Task.{Task}
use Rattle.hc_term.specs.declared.run.Step.TheVariants.{Comm, Delay}
use Rattle.hc_term.specs.declared.run.Item.{Item}
use Rattle.hc_term.specs.declared.run.Stop.{Stop}
use Rattle.hc_term.specs.declared.run.Stop.TheVariants.{Overflow}
use Rattle.hc_term.specs.declared.run.StretchEnd.{StretchEnd}
use Rattle.hc_term.specs.declared.run.StretchEnd.TheVariants as ends
use Rattle.hc_term.specs.declared.model.Meeting.{Meeting}
use Rattle.hc_term.specs.declared.model.Configuration.{Configuration}
use Rattle.hc_term.specs.Posts.{Passing, NoBound, AtHorizon, Overflows, Took}
use Rattle.hc_term.specs.Step.{ready, passing, met, delayed}
use Rattle.hc_term.specs.Canonical.{Halts, turn_passing, turn_quiet, turn_by, turn, Course, preceded, course_by, course}
use Rattle.hc_term.specs.Event.{Event, event_after, stop_of_passing, stop_after, last_part_by, meetings_by, meetings, second_part}
use Rattle.hc_term.proofs.Wanting.{none_wants_where_rests}
use Rattle.hc_term.proofs.Turns.{passing-quiet}

-- these steps, and then the course
abbrev pub led : List Item → Course → Course
led before k = record k { items = before ++ k.items }

-- the steps of the event, and then the canonical ones, where it sets no stop
abbrev pub course_then : ℕ → Task → Event → Option Stop → Course
course_then n t e None = led e.items (course (n - length e.items) t e.end)
course_then n t e (Some stop) = record { items = e.items; end = e.end; stop = stop }

-- other steps before an event
pub then-after : (t : Task) (n : ℕ) (before : List Item) (e : Event) (stop : Option Stop) →
    course_then (length before + n) t (event_after before e) stop ≡ led before (course_then n t e stop)
then-after t n before e (Some stop) = refl
then-after t n before e None =
    let k = course (n - length e.items) t e.end in
    let both = length-append before e.items in
    let left : length before + n - length (before ++ e.items) ≡ n - length e.items = omega (arith, both) in
    let items = append_assoc before e.items k.items in
    ap (λ (m : ℕ). led (before ++ e.items) (course m t e.end)) left
    ∙ ap (λ (is : List Item). record { items = is; end = k.end; stop = k.stop }) items

-- the canonical steps from c, of which n are left to the limit, begin with those of the event
abbrev pub Begins : ℕ → Task → Configuration → Event → Type 0
Begins n t c e = course n t c ≡ course_then n t e e.stop

module _ (t : Task) where
  -- ---- the delay

  turn-passing : (c : Configuration) (what : Passing) → passing t c ≡ Some what → turn t c ≡ turn_passing c what
  turn-passing c what e =
      let h = passing-quiet t c what e in
      let none = none_wants_where_rests 0 c.processes h.resting in
      ap (turn_by t c) h.quiet ∙ ap (turn_quiet t c) none ∙ ap (turn_passing c) h.what

  course-passing : (n : ℕ) (c : Configuration) (what : Passing) → passing t c ≡ Some what →
      course (suc n) t c ≡ course_by c (course n t) (turn_passing c what)
  course-passing n c what e = ap (course_by c (course n t)) (turn-passing c what e)

  same_course : (n m : ℕ) (c : Configuration) → n ≡ m → course n t c ≡ course m t c
  same_course n m c e = ap (λ (i : ℕ). course i t c) e

  -- after the delay, which was the item i, by what time would do next
  delayed_by : (n : ℕ) (i : Item) (c : Configuration) (o : Option Passing) → passing t c ≡ o →
      let stop = stop_of_passing c o in
      preceded i (course (suc n) t c) ≡ course_then (suc (suc n)) t (record { items = i ∷ []; end = c; stop = stop }) stop
  delayed_by n i c (Some NoBound) e = ap (preceded i) (course-passing n c NoBound e)
  delayed_by n i c (Some AtHorizon) e = ap (preceded i) (course-passing n c AtHorizon e)
  delayed_by n i c (Some Overflows) e = ap (preceded i) (same_course (suc n) (suc (suc n) - 1) c (omega arith))
  delayed_by n i c (Some (Took d)) e = ap (preceded i) (same_course (suc n) (suc (suc n) - 1) c (omega arith))
  delayed_by n i c None e = ap (preceded i) (same_course (suc n) (suc (suc n) - 1) c (omega arith))

  delayed-begins : (n : ℕ) (i : Item) (c : Configuration) →
      let stop = stop_after n t c in
      preceded i (course n t c) ≡ course_then (suc n) t (record { items = i ∷ []; end = c; stop = stop }) stop
  delayed-begins zero i c = refl
  delayed-begins (suc n) i c = delayed_by n i c (passing t c) refl

  last_part-begins : (n : ℕ) (c : Configuration) (o : Option Passing) → passing t c ≡ o →
      Begins (suc n) t c (last_part_by n t c o)
  last_part-begins n c (Some (Took d)) e =
      course-passing n c (Took d) e ∙ delayed-begins n (record { at = c.clock; step = Delay d }) (delayed d c)
  last_part-begins n c (Some Overflows) e = course-passing n c Overflows e
  last_part-begins n c (Some NoBound) e = course-passing n c NoBound e
  last_part-begins n c (Some AtHorizon) e = course-passing n c AtHorizon e
  last_part-begins n c None e = same_course (suc n) (suc n - 0) c (omega arith)

  -- ---- the communications

  meetings_by-begins : (n : ℕ) (c : Configuration) (o : Option Meeting) → ready t c ≡ o →
      ((d : Configuration) → Begins n t d (meetings n t d)) →
      Begins (suc n) t c (meetings_by c (meetings n t) (last_part_by n t c (passing t c)) o)
  meetings_by-begins n c None h ih = last_part-begins n c (passing t c) refl
  meetings_by-begins n c (Some m) h ih =
      let i : Item = record { at = c.clock; step = Comm m.channel m.value } in
      let e = meetings n t (met m c) in
      let one : 1 + n ≡ suc n = omega arith in
      ap (course_by c (course n t)) (ap (turn_by t c) h) ∙ ap (preceded i) (ih (met m c))
      ∙ sym (then-after t n (i ∷ []) e e.stop)
      ∙ ap (λ (k : ℕ). course_then k t (event_after (i ∷ []) e) e.stop) one

  meetings-begins : (n : ℕ) (c : Configuration) → Begins n t c (meetings n t c)
  meetings-begins zero c = refl
  meetings-begins (suc n) c = meetings_by-begins n c (ready t c) refl (meetings-begins n)

  pub second_part-begins : (n p : ℕ) (c : Configuration) (end : StretchEnd) →
      (end ≡ ends.Unfit → turn t c ≡ Halts (Overflow (Some p))) → Begins n t c (second_part n t p c end)
  second_part-begins zero p c end h = refl
  second_part-begins (suc n) p c ends.Unfit h = ap (course_by c (course n t)) (h refl)
  second_part-begins (suc n) p c (ends.Logged v) h = meetings-begins (suc n) c
  second_part-begins (suc n) p c ends.Waits h = meetings-begins (suc n) c
  second_part-begins (suc n) p c ends.Ended h = meetings-begins (suc n) c
  second_part-begins (suc n) p c ends.Spent h = meetings-begins (suc n) c
