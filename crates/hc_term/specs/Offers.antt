-- What a process shows to the others: its phase, its bound, its evolving variables and its offers.
use Rattle.std.specs.Prelude.{if◌then◌else◌, List, [], ◌∷◌, map, slice_index_or, Option, Some, None}
use Rattle.hc_rational.specs.Words.{Rational, zero_ℚ, ◌+ℚ◌, is_positive}
use Rattle.hc_term.specs.declared.stmt.Io.{Io}
use Rattle.hc_term.specs.declared.stmt.Io.TheVariants.{Send, Receive}
use Rattle.hc_term.specs.declared.stmt.Rate.{Rate}
use Rattle.hc_term.specs.declared.stmt.Stmt.{Stmt, out-Stmt}
use Rattle.hc_term.specs.declared.stmt.Stmt.TheOpen.{Stmt-F}
use Rattle.hc_term.specs.declared.stmt.Branch.{Branch, out-Branch}
use Rattle.hc_term.specs.declared.post.Post.{Post}
use Rattle.hc_term.specs.declared.post.Phase.TheVariants as phase
use Rattle.hc_term.specs.declared.post.Moving.{Moving}
use Rattle.hc_term.specs.declared.post.Offer.{Offer}
use Rattle.hc_term.specs.declared.post.Offer.TheVariants as offer
use Rattle.hc_term.specs.declared.model.Mark.{Mark}
use Rattle.hc_term.specs.declared.model.ProcessState.{ProcessState}
use Rattle.hc_term.specs.declared.model.Mark.TheVariants.{Going, Arrived}
use Rattle.hc_term.specs.Value.{Store, val}
use Rattle.hc_term.specs.Motion.{Rates, rates_in, line}
use Rattle.hc_term.specs.Process.{Layer, bound, is_due}

-- the evolving variables of an evolution, each with its value and its rate
abbrev pub moving_of : Store → List Rate → List Moving
moving_of s rs = map (λ r. record { variable = r.variable; at = slice_index_or s r.variable zero_ℚ; rate = val s r.value }) rs

-- the offer of a communication: the value sent is that of the store of now, and it grows along its line
abbrev pub offer_of : Store → Rates → Io → Offer
offer_of s r (Send channel value) = offer.Send channel (line s r value).at (line s r value).slope
offer_of s r (Receive channel variable) = offer.Receive channel

abbrev pub offers_of : Store → Rates → List Branch → List Offer
offers_of s r bs = map (λ b. offer_of s r (out-Branch b).io) bs

abbrev pub moving_here : Store → Layer → List Moving
moving_here s (Stmt-F.Evolve rates domain branches) = moving_of s rates
moving_here s _ = []

-- an evolution offers nothing at its end moment
abbrev pub offers_here : Store → Option Rational → Layer → List Offer
offers_here s b (Stmt-F.Io io) = offer_of s [] io ∷ []
offers_here s b (Stmt-F.Choice branches) = offers_of s [] branches
offers_here s b (Stmt-F.Evolve rates domain branches) = if is_due b then [] else offers_of s (rates_in rates s) branches
offers_here s b _ = []

-- the moment at which a bound runs out, where it is later than now
abbrev pub due_of : Rational → Option Rational → Option Rational
due_of clock None = None
due_of clock (Some b) = if is_positive b then Some (clock +ℚ b) else None

abbrev pub going_post : Post
going_post = record { phase = phase.Going; bound = None; due = None; moving = []; offers = [] }

abbrev pub post_at : Rational → Store → Option Rational → Mark → List Stmt → Post
post_at clock s b mark [] = record { phase = phase.Ended; bound = None; due = None; moving = []; offers = [] }
post_at clock s b Going (head ∷ rest) = going_post
post_at clock s b (Arrived left) (head ∷ rest) =
    record { phase = phase.Arrived; bound = b; due = due_of clock b; moving = moving_here s (out-Stmt head); offers = offers_here s b (out-Stmt head) }

-- what the others see of a process
abbrev pub post : Rational → ProcessState → Post
post clock p = post_at clock p.store (bound p) p.mark p.todo
