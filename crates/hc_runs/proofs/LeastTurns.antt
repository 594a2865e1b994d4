-- Where the least process that wants a step has each turn, the turns are what the canonical run begins with.
use Rattle.std.proofs.Common.{◌≡◌, refl, sym, ap, ◌∙◌, ℕ, ◌+◌, ◌-◌, List, length, Option, Some, None, arith}
use Rattle.hc_term.specs.declared.task.Task.{Task}
use Rattle.hc_term.specs.declared.run.Item.{Item}
use Rattle.hc_term.specs.declared.run.Stop.{Stop}
use Rattle.hc_term.specs.declared.model.Configuration.{Configuration}
use Rattle.hc_term.specs.Step.{opening}
use Rattle.hc_term.specs.Canonical.{course}
use Rattle.hc_term.specs.Event.{Event, event_after}
use Rattle.hc_term.specs.Laws.{BeginsWith}
use Rattle.hc_term.proofs.Courses.{led, course_then, then-after, Begins}
use Rattle.hc_term.proofs.Leading.{canonical_by_events}
use Rattle.hc_runs.specs.Turns.{IsLeast, event_behind, no_turn, one_more, Turns, LeastTurns, completed}
use Rattle.hc_runs.specs.Laws.{LeastTurnsAreTurns, LeastTurnAdvances, LeastTurnsBegin, LeastTurnsAreCanonical}
use Rattle.hc_runs.proofs.Turning.{least_wants, turns_go_on}

pub least_turns_are_turns : LeastTurnsAreTurns
least_turns_are_turns t _ _ _ _ no_turn = no_turn
least_turns_are_turns t _ _ _ _ (one_more n items c p before least) =
    one_more n items c p (least_turns_are_turns t n items c None before) (least_wants c p least)

-- ---- one turn

begins_by : (room : ℕ) (t : Task) (c : Configuration) (e : Event) (stop : Option Stop) → BeginsWith room t c e →
    e.stop ≡ stop → course room t c ≡ course_then room t e stop
begins_by room t c e (Some stop) h f = h.stopped stop f
begins_by room t c e None h f = h.going f

advance_by : (t : Task) (n : ℕ) (items : List Item) (p : ℕ) (c : Configuration) (stop : Option Stop) →
    Turns t n items c None → IsLeast p c →
    let e = event_behind items t p c in
    e.stop ≡ stop → completed t items c ≡ course_then t.limit t (event_after items e) stop
advance_by t n items p c stop turns least f =
    let room = t.limit - length items in
    let e = event_behind items t p c in
    let on = turns_go_on t n items c turns in
    let all : length items + room ≡ t.limit = omega (arith, on.room) in
    ap (led items) (begins_by room t c e stop (canonical_by_events room t p c on.quiet least) f)
    ∙ sym (then-after t room items e stop)
    ∙ ap (λ (m : ℕ). course_then m t (event_after items e) stop) all

pub least_turn_advances : LeastTurnAdvances
least_turn_advances t n items p c turns least = record {
  going = λ f. advance_by t n items p c None turns least f;
  stopped = λ stop f. advance_by t n items p c (Some stop) turns least f;
}

-- ---- all turns

-- the items so far, and behind them the canonical steps, where no stop was set
least-begins : (t : Task) (n : ℕ) (items : List Item) (end : Configuration) (stop : Option Stop) →
    LeastTurns t n items end stop → Begins t.limit t (opening t) (record { items = items; end = end; stop = stop })
least-begins t _ _ _ _ no_turn =
    let none : t.limit ≡ t.limit - 0 = omega arith in
    ap (λ (m : ℕ). course m t (opening t)) none
least-begins t _ _ _ _ (one_more n items c p before least) =
    let turns = least_turns_are_turns t n items c None before in
    least-begins t n items c None before
    ∙ advance_by t n items p c (event_behind items t p c).stop turns least refl

pub least_turns_begin : LeastTurnsBegin
least_turns_begin t n items end turns = least-begins t n items end None turns

pub least_turns_are_canonical : LeastTurnsAreCanonical
least_turns_are_canonical t n items end stop turns = least-begins t n items end (Some stop) turns
