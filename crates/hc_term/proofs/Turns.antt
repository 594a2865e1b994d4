-- What a configuration does next is one of its steps or its stops, and so the canonical run is a run.
use Rattle.std.proofs.Common.{◌≡◌, refl, sym, ap, ◌∙◌, ℕ, zero, suc, ◌+◌, ◌-◌, Bool, true, false, if◌then◌else◌, length, slice_get, Option, Some, None, ◌⊎◌, inl, inr, arith}
use Rattle.hc_term.specs.declared.task.Task.{Task}
use Rattle.hc_term.specs.declared.run.Step.{Step}
use Rattle.hc_term.specs.declared.run.Stop.{Stop}
use Rattle.hc_term.specs.declared.run.Stop.TheVariants.{Terminated, Deadlock, Limit}
use Rattle.hc_term.specs.declared.model.Meeting.{Meeting}
use Rattle.hc_term.specs.declared.model.Configuration.{Configuration}
use Rattle.hc_term.specs.Silent.{Outcome, Idle, Unfit, Did}
use Rattle.hc_term.specs.Posts.{Passing, NoBound, AtHorizon, Overflows, Took}
use Rattle.hc_term.specs.Step.{opening, ready, rests, all_ended, passing, passing_by, passing_quiet, silent_by, silent_of, StepTo}
use Rattle.hc_term.specs.Stop.{StopsAt}
use Rattle.hc_term.specs.Canonical.{Turn, Goes, Halts, wanting_from, turn_silent, turn_passing, turn_quiet, turn_by, turn, Course, course_by, course}
use Rattle.hc_term.specs.Laws.{CanonicalIsBehaviour, GoesOnOrStops, RunIsPrefix}
use Rattle.hc_term.proofs.Wanting.{silent-not_idle, WantsAt, least-wants, rests_where_none_wants}
use Rattle.hc_term.proofs.Pieces.{Piece, no_steps, piece_after, piece_next}
use Rattle.hc_term.proofs.Ready.{ready-steps}

-- ---- one turn

-- the turn is a step of the configuration, or one of its stops
abbrev Sound : Task → Configuration → Turn → Type 0
Sound t c (Goes step next) = StepTo t c step next
Sound t c (Halts stop) = StopsAt t c stop

turn_silent-sound : (t : Task) (c : Configuration) (p : ℕ) (o : Outcome) → silent_of t c p ≡ o → (o ≡ Idle → ⊥) →
    Sound t c (turn_silent c p o)
turn_silent-sound t c p (Did logged q) e n = (q, e, refl)
turn_silent-sound t c p Unfit e n = e
turn_silent-sound t c p Idle e n = absurd (n refl)

ended_by-sound : (t : Task) (c : Configuration) (b : Bool) → all_ended c.processes ≡ b →
    passing t c ≡ Some NoBound → StopsAt t c (if b then Terminated else Deadlock)
ended_by-sound t c true h e = h
ended_by-sound t c false h e = (e, h)

pub ended_by-stops : (t : Task) (c : Configuration) → passing t c ≡ Some NoBound →
    StopsAt t c (if all_ended c.processes then Terminated else Deadlock)
ended_by-stops t c e = ended_by-sound t c (all_ended c.processes) refl e

turn_passing-sound : (t : Task) (c : Configuration) (what : Passing) → passing t c ≡ Some what →
    Sound t c (turn_passing c what)
turn_passing-sound t c (Took d) e = (e, refl)
turn_passing-sound t c Overflows e = e
turn_passing-sound t c AtHorizon e = e
turn_passing-sound t c NoBound e = ended_by-stops t c e

-- where time does this, no channel is ready and no process wants a silent step
pub record Passes (t : Task) (c : Configuration) (took : Passing) : Type 0 where
  pub quiet : ready t c ≡ None
  pub resting : rests c.processes ≡ true
  pub what : passing_quiet t c ≡ took

passing_by-parts : (o : Option Meeting) (b : Bool) (what took : Passing) → passing_by o b what ≡ Some took →
    (o ≡ None) × (b ≡ true) × (what ≡ took)
passing_by-parts (Some m) b what took e = cc
passing_by-parts None false what took e = cc
passing_by-parts None true what took e = (refl, refl, cc)

pub passing-quiet : (t : Task) (c : Configuration) (took : Passing) → passing t c ≡ Some took → Passes t c took
passing-quiet t c took e =
    let parts = passing_by-parts (ready t c) (rests c.processes) (passing_quiet t c) took e in
    record { quiet = parts.0; resting = parts.1; what = parts.2 }

passing_at : (t : Task) (c : Configuration) → ready t c ≡ None → rests c.processes ≡ true →
    passing t c ≡ Some (passing_quiet t c)
passing_at t c quiet r =
    ap (λ o. passing_by o (rests c.processes) (passing_quiet t c)) quiet
    ∙ ap (λ b. passing_by None b (passing_quiet t c)) r

wanting-not_idle : (t : Task) (c : Configuration) (p : ℕ) → WantsAt (slice_get c.processes p) →
    silent_of t c p ≡ Idle → ⊥
wanting-not_idle t c p w e =
    silent-not_idle t.seed p c.clock w.process w.wanting (sym (ap (silent_by t c.clock p) w.there) ∙ e)

turn_quiet-sound : (t : Task) (c : Configuration) (o : Option ℕ) → ready t c ≡ None →
    wanting_from 0 c.processes ≡ o → Sound t c (turn_quiet t c o)
turn_quiet-sound t c (Some p) quiet e =
    turn_silent-sound t c p (silent_of t c p) refl (wanting-not_idle t c p (least-wants c.processes p e))
turn_quiet-sound t c None quiet e =
    turn_passing-sound t c (passing_quiet t c) (passing_at t c quiet (rests_where_none_wants 0 c.processes e))

turn_by-sound : (t : Task) (c : Configuration) (o : Option Meeting) → ready t c ≡ o → Sound t c (turn_by t c o)
turn_by-sound t c (Some m) e = ready-steps t c m e
turn_by-sound t c None e = turn_quiet-sound t c (wanting_from 0 c.processes) e refl

turn-sound : (t : Task) (c : Configuration) → Sound t c (turn t c)
turn-sound t c = turn_by-sound t c (ready t c) refl

sound-goes_or_stops : (t : Task) (c : Configuration) (o : Turn) → Sound t c o →
    ((step : Step) × (next : Configuration) × StepTo t c step next) ⊎ ((stop : Stop) × StopsAt t c stop)
sound-goes_or_stops t c (Goes step next) h = inl (step, next, h)
sound-goes_or_stops t c (Halts stop) h = inr (stop, h)

pub goes_on_or_stops : GoesOnOrStops
goes_on_or_stops t c = sound-goes_or_stops t c (turn t c) (turn-sound t c)

-- ---- the course from a configuration

course_by-piece : (n : ℕ) (t : Task) (c : Configuration) (o : Turn) → Sound t c o →
    ((next : Configuration) → let k = course n t next in Piece t n next k.items k.end (Some k.stop)) →
    let k = course_by c (course n t) o in Piece t (suc n) c k.items k.end (Some k.stop)
course_by-piece n t c (Halts stop) h ih = no_steps t (suc n) c (Some stop) (inr (omega arith, h))
course_by-piece n t c (Goes step next) h ih =
    let k : Course = course n t next in
    piece_next t n c next k.end step k.items (Some k.stop) h (ih next)

course-piece : (n : ℕ) (t : Task) (c : Configuration) →
    let k = course n t c in Piece t n c k.items k.end (Some k.stop)
course-piece zero t c = no_steps t zero c (Some Limit) (inl (refl, refl))
course-piece (suc n) t c = course_by-piece n t c (turn t c) (turn-sound t c) (course-piece n t)

pub canonical_is_behaviour : CanonicalIsBehaviour
canonical_is_behaviour t =
    let k = course-piece t.limit t (opening t) in
    record { run = record { leads = k.leads; within = k.within }; stops = k.ends }

pub run_is_prefix : RunIsPrefix
run_is_prefix t items end r =
    let left = t.limit - length items in
    let k : Course = course left t end in
    let all : length items + left ≡ t.limit = omega (arith, r.within) in
    let more = course-piece left t end in
    let w = piece_after t t.limit left (opening t) end k.end items k.items (Some k.stop) all r.leads more in
    (k.items, k.end, k.stop, record { run = record { leads = w.leads; within = w.within }; stops = w.ends })
