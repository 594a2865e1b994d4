-- An event is a piece of a run, and the stop that it sets holds at its end.
use Rattle.std.proofs.Common.{◌≡◌, refl, sym, ap, subst, ℕ, zero, suc, ◌+◌, ◌-◌, ◌≤◌, ◌<◌, min, List, [], ◌∷◌, length, Option, Some, None, inl, inr, arith}
use Rattle.hc_rational.specs.Words.{Rational}
use Rattle.hc_limits.specs.Limits.{most_silent_steps}
use Rattle.hc_term.specs.declared.task.Task.{Task}
use Rattle.hc_term.specs.declared.run.Step.TheVariants.{Comm}
use Rattle.hc_term.specs.declared.run.StretchEnd.{StretchEnd}
use Rattle.hc_term.specs.declared.run.StretchEnd.TheVariants as ends
use Rattle.hc_term.specs.declared.model.ProcessState.{ProcessState}
use Rattle.hc_term.specs.declared.model.Meeting.{Meeting}
use Rattle.hc_term.specs.declared.model.Configuration.{Configuration}
use Rattle.hc_term.specs.Silent.{Unfit}
use Rattle.hc_term.specs.Posts.{Passing, NoBound, AtHorizon, Overflows, Took}
use Rattle.hc_term.specs.Step.{ready, passing, silent_of, replaced, met, delayed}
use Rattle.hc_term.specs.Event.{Progress, progress, Event, stop_of_passing, stop_after, last_part_by, meetings_by, meetings, second_part, silent_items, event_by, event_of, EndsWell}
use Rattle.hc_term.specs.Laws.{EventIsRun}
use Rattle.hc_term.proofs.Pieces.{Piece, no_steps, piece_after, piece_next}
use Rattle.hc_term.proofs.Ready.{ready-steps}
use Rattle.hc_term.proofs.Turns.{ended_by-stops}
use Rattle.hc_term.proofs.Stretches.{Stretches, progress-stretches}

-- the event is a piece of a run from c where there is room for so many steps
abbrev Runs : Task → ℕ → Configuration → Event → Type 0
Runs t room c e = Piece t room c e.items e.end e.stop

-- ---- the delay at the end

stop_of_passing-ends : (t : Task) (n k : ℕ) (c : Configuration) (o : Option Passing) → passing t c ≡ o → k < n →
    EndsWell t n k c (stop_of_passing c o)
stop_of_passing-ends t n k c (Some NoBound) e below = inr (below, ended_by-stops t c e)
stop_of_passing-ends t n k c (Some AtHorizon) e below = inr (below, e)
stop_of_passing-ends t n k c (Some Overflows) e below = below
stop_of_passing-ends t n k c (Some (Took d)) e below = below
stop_of_passing-ends t n k c None e below = below

stop_after-ends : (t : Task) (n : ℕ) (c : Configuration) → EndsWell t (suc n) 1 c (stop_after n t c)
stop_after-ends t zero c = inl (refl, refl)
stop_after-ends t (suc n) c = stop_of_passing-ends t (suc (suc n)) 1 c (passing t c) refl (omega arith)

last_part-runs : (t : Task) (n : ℕ) (c : Configuration) (o : Option Passing) → passing t c ≡ o →
    Runs t (suc n) c (last_part_by n t c o)
last_part-runs t n c (Some (Took d)) e = record {
  leads = (refl, (delayed d c, (e, refl), refl));
  within = omega arith;
  ends = stop_after-ends t n (delayed d c);
}
last_part-runs t n c (Some Overflows) e = no_steps t (suc n) c _ (inr (omega arith, e))
last_part-runs t n c (Some NoBound) e =
    no_steps t (suc n) c _ (stop_of_passing-ends t (suc n) 0 c (Some NoBound) e (omega arith))
last_part-runs t n c (Some AtHorizon) e =
    no_steps t (suc n) c _ (stop_of_passing-ends t (suc n) 0 c (Some AtHorizon) e (omega arith))
last_part-runs t n c None e = no_steps t (suc n) c None (omega arith)

-- ---- the steps before it

meetings_by-runs : (t : Task) (n : ℕ) (c : Configuration) (last : Event) (o : Option Meeting) → ready t c ≡ o →
    ((d : Configuration) → Runs t n d (meetings n t d)) → Runs t (suc n) c last →
    Runs t (suc n) c (meetings_by c (meetings n t) last o)
meetings_by-runs t n c last None e ih h = h
meetings_by-runs t n c last (Some m) e ih h =
    let later = meetings n t (met m c) in
    piece_next t n c (met m c) later.end (Comm m.channel m.value) later.items later.stop (ready-steps t c m e)
    (ih (met m c))

meetings-runs : (t : Task) (n : ℕ) (c : Configuration) → Runs t n c (meetings n t c)
meetings-runs t zero c = no_steps t zero c _ (inl (refl, refl))
meetings-runs t (suc n) c =
    meetings_by-runs t n c (last_part_by n t c (passing t c)) (ready t c) refl (meetings-runs t n)
    (last_part-runs t n c (passing t c) refl)

second_part-runs : (t : Task) (n p : ℕ) (c : Configuration) (end : StretchEnd) →
    (end ≡ ends.Unfit → silent_of t c p ≡ Unfit) → Runs t n c (second_part n t p c end)
second_part-runs t zero p c end h = no_steps t zero c _ (inl (refl, refl))
second_part-runs t (suc n) p c ends.Unfit h = no_steps t (suc n) c _ (inr (omega arith, h refl))
second_part-runs t (suc n) p c (ends.Logged v) h = meetings-runs t (suc n) c
second_part-runs t (suc n) p c ends.Waits h = meetings-runs t (suc n) c
second_part-runs t (suc n) p c ends.Ended h = meetings-runs t (suc n) c
second_part-runs t (suc n) p c ends.Spent h = meetings-runs t (suc n) c

-- ---- the event

pub length-silent_items : (clock : Rational) (p : ℕ) (ls : List (Option Rational)) →
    length (silent_items clock p ls) ≡ length ls
length-silent_items clock p [] = refl
length-silent_items clock p (l ∷ ls) = ap suc (length-silent_items clock p ls)

event_by-runs : (t : Task) (room n p : ℕ) (c : Configuration) (g : Progress) → n ≤ room → Stretches t c p n g →
    Runs t room c (event_by room t p c g)
event_by-runs t room n p c g least h =
    let is = silent_items c.clock p g.logs in
    let mid = replaced c p g.next in
    let left = room - length g.logs in
    let e = second_part left t p mid g.end in
    let all : length is + left ≡ room = omega (arith, length-silent_items c.clock p g.logs, h.within) in
    piece_after t room left c mid e.end is e.items e.stop all h.leads
    (second_part-runs t left p mid g.end h.unfit)

pub event_is_run : EventIsRun
event_is_run room t p c q at =
    let n = min most_silent_steps room in
    let g = progress n t.seed p c.clock q in
    let r = event_by-runs t room n p c g (omega arith) (progress-stretches t p n c q at) in
    let whole = subst (λ (o : Option ProcessState). Runs t room c (event_of room t p c o)) (sym at) r in
    (whole.leads, whole.within, whole.ends)
