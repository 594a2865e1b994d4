-- What a delay and a meeting make of what processes show.
use Rattle.std.specs.Prelude.{if◌then◌else◌, List, [], map, slice_set, Option, Some, None, ⊤}
use Rattle.hc_rational.specs.Words.{Rational, ◌+ℚ◌, ◌-ℚ◌, ◌*ℚ◌, ◌≤ℚ◌}
use Rattle.hc_term.specs.declared.post.Post.{Post}
use Rattle.hc_term.specs.declared.post.Moving.{Moving}
use Rattle.hc_term.specs.declared.post.Offer.{Offer}
use Rattle.hc_term.specs.declared.post.Offer.TheVariants.{Send, Receive}
use Rattle.hc_term.specs.declared.model.Meeting.{Meeting}
use Rattle.hc_term.specs.Process.{is_due}
use Rattle.hc_term.specs.Offers.{going_post}
use Rattle.hc_term.specs.Posts.{is_empty}

-- ---- a delay

-- d is at most this bound
abbrev pub IsWithin : Rational → Option Rational → Type 0
IsWithin d None = ⊤
IsWithin d (Some b) = d ≤ℚ b

-- what is left of a bound after d time units
abbrev pub less_by : Rational → Option Rational → Option Rational
less_by d None = None
less_by d (Some b) = Some (b -ℚ d)

-- an evolving variable after d time units
abbrev pub moving_after : Rational → Moving → Moving
moving_after d m = record m { at = m.at +ℚ m.rate *ℚ d }

-- what an evolution offers after d time units
abbrev pub offer_after : Rational → Offer → Offer
offer_after d (Send channel at slope) = Send channel (at +ℚ slope *ℚ d) slope
offer_after d (Receive channel) = Receive channel

-- only an evolution's offers move
abbrev pub offers_after : Rational → Post → List Offer
offers_after d p = if is_empty p.moving then p.offers else map (offer_after d) p.offers

-- the post with this bound: one that has run out isn't due any more, and offers nothing
abbrev pub with_bound : Option Rational → Post → Post
with_bound b p = record p { bound = b; due = if is_due b then None else p.due; offers = if is_due b then [] else p.offers }

-- the post after d time units, which are at most its bound
abbrev pub moved_post : Rational → Post → Post
moved_post d p = with_bound (less_by d p.bound) (record p { moving = map (moving_after d) p.moving; offers = offers_after d p })

-- ---- a meeting

-- the posts after a meeting: both processes are going
abbrev pub fired : Meeting → List Post → List Post
fired m ps = slice_set (slice_set ps m.sender going_post) m.receiver going_post
