-- A turn that sets no stop has an item at least, so each leaves less room, and there are few.
use Rattle.std.proofs.Common.{◌≡◌, refl, sym, subst, ℕ, zero, suc, ◌-◌, ◌<◌, min, true, length, length-append, Option, Some, None, ◌⊎◌, inl, inr, arith}
use Rattle.hc_limits.specs.Limits.{most_silent_steps}
use Rattle.hc_rational.specs.Words.{Rational}
use Rattle.hc_term.specs.declared.task.Task.{Task}
use Rattle.hc_term.specs.declared.run.Stop.{Stop}
use Rattle.hc_term.specs.declared.run.StretchEnd.{StretchEnd}
use Rattle.hc_term.specs.declared.run.StretchEnd.TheVariants as ends
use Rattle.hc_term.specs.declared.model.ProcessState.{ProcessState}
use Rattle.hc_term.specs.declared.model.Configuration.{Configuration}
use Rattle.hc_term.specs.Process.{wants}
use Rattle.hc_term.specs.Silent.{Outcome, Idle, Unfit, Did, silent}
use Rattle.hc_term.specs.Step.{replaced}
use Rattle.hc_term.specs.Event.{Progress, progress, progress_by, second_part, silent_items, event_by, event_of, Event, event, EndsWell}
use Rattle.hc_term.proofs.Wanting.{silent-not_idle}
use Rattle.hc_term.proofs.EventRuns.{event_is_run, length-silent_items}
use Rattle.hc_runs.specs.Turns.{WantsAt, event_behind, no_turn, one_more}
use Rattle.hc_runs.specs.Laws.{TurnsAreVisible, TurnsEnd, TurnsAreFew}
use Rattle.hc_runs.proofs.Turning.{turns_go_on}

-- a stretch took a step, or the working values of its first don't fit
abbrev Moves : Progress → Type 0
Moves g = (0 < length g.logs) ⊎ (g.end ≡ ends.Unfit)

progress_by-moves : (q : ProcessState) (later : ProcessState → Progress) (o : Outcome) → (o ≡ Idle → ⊥) →
    Moves (progress_by q later o)
progress_by-moves q later Idle h = absurd (h refl)
progress_by-moves q later Unfit h = inr refl
progress_by-moves q later (Did (Some v) next) h = inl (omega arith)
progress_by-moves q later (Did None next) h = inl (omega arith)

progress-moves : (n seed p : ℕ) (clock : Rational) (q : ProcessState) → 0 < n → wants q ≡ true →
    Moves (progress n seed p clock q)
progress-moves zero seed p clock q some w = absurd (omega (arith, some))
progress-moves (suc n) seed p clock q some w =
    progress_by-moves q (progress n seed p clock) (silent seed p clock q) (silent-not_idle seed p clock q w)

unfit-stops : (n : ℕ) (t : Task) (p : ℕ) (c : Configuration) → (second_part n t p c ends.Unfit).stop ≡ None → ⊥
unfit-stops zero t p c f = cc
unfit-stops (suc n) t p c f = cc

-- the event has an item, if it sets no stop
abbrev IsVisible : Event → Type 0
IsVisible e = e.stop ≡ None → 0 < length e.items

event_by-visible : (room : ℕ) (t : Task) (p : ℕ) (c : Configuration) (g : Progress) → Moves g →
    IsVisible (event_by room t p c g)
event_by-visible room t p c g (inl some) f =
    let is = silent_items c.clock p g.logs in
    let later = second_part (room - length g.logs) t p (replaced c p g.next) g.end in
    omega (arith, some, length-append is later.items, length-silent_items c.clock p g.logs)
event_by-visible room t p c g (inr unfit) f =
    let second = second_part (room - length g.logs) t p (replaced c p g.next) in
    let none = subst (λ (end : StretchEnd). (second end).stop ≡ None) unfit f in
    absurd (unfit-stops (room - length g.logs) t p (replaced c p g.next) none)

-- an event that sets no stop ends short of its room
ends_short : (room : ℕ) (t : Task) (p : ℕ) (c : Configuration) → WantsAt p c →
    let e = event room t p c in e.stop ≡ None → length e.items < room
ends_short room t p c w f =
    let e = event room t p c in
    subst (λ (o : Option Stop). EndsWell t room (length e.items) e.end o) f (event_is_run room t p c w.0 w.1).2

pub turns_are_visible : TurnsAreVisible
turns_are_visible room t p c w f =
    let n = min most_silent_steps room in
    let some : 0 < n = omega (arith, ends_short room t p c w f) in
    let g = progress n t.seed p c.clock w.0 in
    let whole = event_by-visible room t p c g (progress-moves n t.seed p c.clock w.0 some w.2) in
    subst (λ (o : Option ProcessState). IsVisible (event_of room t p c o)) (sym w.1) whole f

-- ---- their number

pub turns_end : TurnsEnd
turns_end t items p c w f =
    let room = t.limit - length items in
    let e = event_behind items t p c in
    omega (arith, ends_short room t p c w f, turns_are_visible room t p c w f, length-append items e.items)

pub turns_are_few : TurnsAreFew
turns_are_few t _ _ _ _ no_turn = record {
  going = λ f. omega arith;
  in_all = omega arith;
  within = omega arith;
  begun = λ h. elim h [
    | inl some ↦ some
    | inr stop ↦ absurd (stop refl)
  ];
}
turns_are_few t _ _ _ _ (one_more n items c p before w) =
    let e = event_behind items t p c in
    let few = (turns_are_few t n items c None before).going refl in
    let both = length-append items e.items in
    record {
      going = λ f. omega (arith, few, both, turns_are_visible (t.limit - length items) t p c w f);
      in_all = omega (arith, few, both);
      within = omega (arith, few, (turns_go_on t n items c before).room);
      begun = λ h. omega arith;
    }
