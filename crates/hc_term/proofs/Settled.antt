-- An event that sets no stop leaves no channel ready, and none is ready at the opening.
use Rattle.std.proofs.Common.{◌≡◌, refl, ap, subst, sym, ℕ, zero, suc, ◌+◌, List, [], ◌∷◌, map, length, Option, Some, None, inl}
use Rattle.hc_rational.specs.Words.{Rational, zero_ℚ}
use Rattle.hc_term.specs.declared.stmt.Stmt.{Stmt}
use Rattle.hc_term.specs.declared.system.Process.{Process}
use Rattle.hc_term.specs.declared.task.Task.{Task}
use Rattle.hc_term.specs.declared.run.StretchEnd.{StretchEnd}
use Rattle.hc_term.specs.declared.run.StretchEnd.TheVariants as ends
use Rattle.hc_term.specs.declared.model.Mark.TheVariants.{Going}
use Rattle.hc_term.specs.declared.model.ProcessState.{ProcessState}
use Rattle.hc_term.specs.declared.model.Meeting.{Meeting}
use Rattle.hc_term.specs.declared.model.Configuration.{Configuration}
use Rattle.hc_term.specs.Value.{Store}
use Rattle.hc_term.specs.Offers.{post_at, post}
use Rattle.hc_term.specs.Posts.{Passing, NoBound, AtHorizon, Overflows, Took, sent_on, numbered, sender, meeting_from}
use Rattle.hc_term.specs.Step.{opening_of, ready, passing}
use Rattle.hc_term.specs.Event.{Event, last_part_by, meetings_by, meetings, second_part, event_of}
use Rattle.hc_term.specs.Laws.{EventsEndQuiet, OpeningIsQuiet}
use Rattle.hc_term.proofs.Quiet.{none_first_of, none_meeting_by, delays_keep_quiet}

-- ---- an event

module _ (t : Task) where
  abbrev Settles : Event → Type 0
  Settles e = e.stop ≡ None → ready t e.end ≡ None

  last_part-settles : (n : ℕ) (c : Configuration) (o : Option Passing) → ready t c ≡ None → passing t c ≡ o →
      Settles (last_part_by n t c o)
  last_part-settles n c (Some (Took d)) h e f = delays_keep_quiet t c d e
  last_part-settles n c (Some Overflows) h e f = cc
  last_part-settles n c (Some NoBound) h e f = cc
  last_part-settles n c (Some AtHorizon) h e f = cc
  last_part-settles n c None h e f = h

  meetings_by-settles : (n : ℕ) (c : Configuration) (o : Option Meeting) → ready t c ≡ o →
      ((d : Configuration) → Settles (meetings n t d)) →
      Settles (meetings_by c (meetings n t) (last_part_by n t c (passing t c)) o)
  meetings_by-settles n c None h ih = last_part-settles n c (passing t c) h refl
  meetings_by-settles n c (Some m) h ih = ih _

  meetings-settles : (n : ℕ) (c : Configuration) → Settles (meetings n t c)
  meetings-settles zero c f = cc
  meetings-settles (suc n) c f = meetings_by-settles n c (ready t c) refl (meetings-settles n) f

  second_part-settles : (n p : ℕ) (c : Configuration) (end : StretchEnd) → Settles (second_part n t p c end)
  second_part-settles zero p c end f = cc
  second_part-settles (suc n) p c ends.Unfit f = cc
  second_part-settles (suc n) p c (ends.Logged v) f = meetings-settles (suc n) c f
  second_part-settles (suc n) p c ends.Waits f = meetings-settles (suc n) c f
  second_part-settles (suc n) p c ends.Ended f = meetings-settles (suc n) c f
  second_part-settles (suc n) p c ends.Spent f = meetings-settles (suc n) c f

pub events_end_quiet : EventsEndQuiet
events_end_quiet room t p c q at =
    subst (λ (o : Option ProcessState). Settles t (event_of room t p c o)) (sym at)
    (second_part-settles t _ p _ _)

-- ---- the opening

module _ (clock : Rational) where
  going-offers : (s : Store) (todo : List Stmt) → (post_at clock s None Going todo).offers ≡ []
  going-offers s [] = refl
  going-offers s (head ∷ rest) = refl

  opening-sender : (c p : ℕ) (bodies : List Process) → sender c p (map (post clock) (map opening_of bodies)) ≡ None
  opening-sender c p [] = refl
  opening-sender c p (b ∷ bodies) =
      none_first_of _ _ (ap (λ os. numbered p (sent_on c os)) (going-offers (opening_of b).store b.body))
      (opening-sender c (p + 1) bodies)

  opening-meeting : (c n : ℕ) (bodies : List Process) →
      meeting_from c n (map (post clock) (map opening_of bodies)) ≡ None
  opening-meeting c zero bodies = refl
  opening-meeting c (suc n) bodies =
      none_first_of _ _ (none_meeting_by c _ _ (inl (opening-sender c 0 bodies)))
      (opening-meeting (c + 1) n bodies)

pub opening_is_quiet : OpeningIsQuiet
opening_is_quiet t = opening-meeting zero_ℚ 0 (length t.system.channels) t.system.processes
