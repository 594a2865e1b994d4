-- What meets, and how time passes, on the list of what all processes show.
use Rattle.std.specs.Prelude.{ℕ, zero, suc, ◌+◌, Bool, true, false, not, ◌&&◌, ◌||◌, ◌==◌, if◌then◌else◌, List, [], ◌∷◌, Option, Some, None, is_some}
use Rattle.std.specs.List.{list_all, list_any}
use Rattle.std.specs.declared.cmp.Ordering.{Ordering}
use Rattle.std.specs.declared.cmp.Ordering.TheVariants as side
use Rattle.hc_rational.specs.Words.{Rational, ◌+ℚ◌, ◌-ℚ◌, ◌*ℚ◌, rank, lesser, earlier, fits}
use Rattle.hc_term.specs.declared.post.Post.{Post}
use Rattle.hc_term.specs.declared.post.Moving.{Moving}
use Rattle.hc_term.specs.declared.post.Offer.{Offer}
use Rattle.hc_term.specs.declared.post.Offer.TheVariants.{Send, Receive}
use Rattle.hc_term.specs.declared.model.Meeting.{Meeting}

-- ---- meetings

abbrev pub first_of : {A : Type 0} → Option A → Option A → Option A
first_of (Some a) other = Some a
first_of None other = other

-- what one offer sends on channel c
abbrev pub offer_sent_on : ℕ → Offer → Option Rational
offer_sent_on c (Send channel at slope) = if channel == c then Some at else None
offer_sent_on c (Receive channel) = None

-- whether it receives there
abbrev pub offer_receives_on : ℕ → Offer → Bool
offer_receives_on c (Send channel at slope) = false
offer_receives_on c (Receive channel) = channel == c

-- what these offers send on channel c
abbrev pub sent_on : ℕ → List Offer → Option Rational
sent_on c [] = None
sent_on c (o ∷ os) = first_of (offer_sent_on c o) (sent_on c os)

-- whether these offers receive on channel c
abbrev pub receives_on : ℕ → List Offer → Bool
receives_on c os = list_any (offer_receives_on c) os

abbrev pub numbered : ℕ → Option Rational → Option (ℕ × Rational)
numbered p None = None
numbered p (Some v) = Some (p, v)

-- the process that offers to send on channel c, of which there is at most one, and its value
abbrev pub sender : ℕ → ℕ → List Post → Option (ℕ × Rational)
sender c p [] = None
sender c p (q ∷ qs) = first_of (numbered p (sent_on c q.offers)) (sender c (p + 1) qs)

-- the process that offers to receive on channel c, of which there is at most one
abbrev pub receiver : ℕ → ℕ → List Post → Option ℕ
receiver c p [] = None
receiver c p (q ∷ qs) = if receives_on c q.offers then Some p else receiver c (p + 1) qs

abbrev pub meeting_by : ℕ → Option (ℕ × Rational) → Option ℕ → Option Meeting
meeting_by c (Some s) (Some r) = Some (record { channel = c; sender = s.0; receiver = r; value = s.1 })
meeting_by c (Some s) None = None
meeting_by c None r = None

-- the meeting on channel c, where both ends are offered
abbrev pub meeting_on : ℕ → List Post → Option Meeting
meeting_on c ps = meeting_by c (sender c 0 ps) (receiver c 0 ps)

abbrev pub meeting_from : ℕ → ℕ → List Post → Option Meeting
meeting_from c zero ps = None
meeting_from c (suc more) ps = first_of (meeting_on c ps) (meeting_from (c + 1) more ps)

-- the meeting on the ready channel of least number, of so many channels
abbrev pub first_meeting : ℕ → List Post → Option Meeting
first_meeting channels ps = meeting_from 0 channels ps

-- ---- delays

abbrev pub least_bound : List Post → Option Rational
least_bound [] = None
least_bound (p ∷ ps) = earlier p.bound (least_bound ps)

abbrev pub is_empty : {A : Type 0} → List A → Bool
is_empty [] = true
is_empty (x ∷ xs) = false

-- whether some post has a bound or evolves
abbrev pub is_timed : List Post → Bool
is_timed ps = list_any (λ p. is_some p.bound || not (is_empty p.moving)) ps

-- whether the working values of a delay d fit: what is left of a bound, the way of a variable, that of an offered value
abbrev pub bound_fits : Rational → Option Rational → Bool
bound_fits d None = true
bound_fits d (Some b) = fits (b -ℚ d)

abbrev pub moving_fits : Rational → Moving → Bool
moving_fits d m = fits (m.rate *ℚ d) && fits (m.at +ℚ m.rate *ℚ d)

abbrev pub offer_fits : Rational → Offer → Bool
offer_fits d (Send channel at slope) = fits (slope *ℚ d) && fits (at +ℚ slope *ℚ d)
offer_fits d (Receive channel) = true

-- those of one process; only an evolution's offers move
abbrev pub post_fits : Rational → Post → Bool
post_fits d p = list_all (moving_fits d) p.moving && (is_empty p.moving || list_all (offer_fits d) p.offers) && bound_fits d p.bound

abbrev pub delay_fits : Rational → Rational → List Post → Bool
delay_fits d clock ps = fits d && fits (clock +ℚ d) && list_all (post_fits d) ps

-- the lesser of the least bound and the rest to the horizon
abbrev pub length_of_delay : Rational → Option Rational → Rational
length_of_delay most None = most
length_of_delay most (Some b) = lesser b most

-- what time does where no process wants a silent step and no channel is ready: nothing waits for it, the horizon is
-- reached, a working value of the delay doesn't fit, or so much time passes
pub data Passing : Type 0 where
  NoBound : Passing
  AtHorizon : Passing
  Overflows : Passing
  Took : (by : Rational) → Passing

abbrev pub passing_for : Rational → Rational → List Post → Passing
passing_for d clock ps = if delay_fits d clock ps then Took d else Overflows

abbrev pub passing_below : Ordering → Rational → Rational → List Post → Passing
passing_below side.Less clock horizon ps = passing_for (length_of_delay (horizon -ℚ clock) (least_bound ps)) clock ps
passing_below side.Equal clock horizon ps = AtHorizon
passing_below side.Greater clock horizon ps = AtHorizon

abbrev pub passing_on : Rational → Rational → List Post → Passing
passing_on clock horizon ps = if is_timed ps then passing_below (rank clock horizon) clock horizon ps else NoBound
