-- Arrival at an instruction: what must fit, what is left to wait, and what a process shows from then on.
use Rattle.std.specs.Prelude.{Bool, true, false, ◌&&◌, if◌then◌else◌, List, [], ◌∷◌, map, replicate, slice_set, slice_index_or, Option, Some, None}
use Rattle.std.specs.List.{list_all}
use Rattle.hc_rational.specs.Words.{Rational, zero_ℚ, greater}
use Rattle.hc_term.specs.declared.expr.Cond.{Cond}
use Rattle.hc_term.specs.declared.stmt.Rate.{Rate}
use Rattle.hc_term.specs.declared.post.Post.{Post}
use Rattle.hc_term.specs.declared.post.Moving.{Moving}
use Rattle.hc_term.specs.declared.post.Offer.{Offer}
use Rattle.hc_term.specs.declared.post.Phase.{Phase}
use Rattle.hc_term.specs.declared.post.Phase.TheVariants as phase
use Rattle.hc_term.specs.declared.model.Mark.{Mark}
use Rattle.hc_term.specs.declared.model.Mark.TheVariants.{Going, Arrived}
use Rattle.hc_term.specs.Value.{Store, val, is_fitting}
use Rattle.hc_term.specs.Motion.{Rates, rates_in}
use Rattle.hc_term.specs.EndMoment.{end_moment, domain_fits}
use Rattle.hc_term.specs.Process.{is_due}
use Rattle.hc_term.specs.Offers.{moving_of, offer_of, due_of}
use Rattle.hc_term.specs.Silent.{sent_fits, guard_fits, rates_fit, due_fits}
use Rattle.hc_code.specs.declared.code.Way.{Way}
use Rattle.hc_code.specs.declared.code.Instr.{Instr}
use Rattle.hc_code.specs.declared.code.Instr.TheVariants as instr

-- whether a process that comes to the instruction stays there, until time or a communication moves it on
abbrev pub is_stay : Instr → Bool
is_stay (instr.Wait e next) = true
is_stay (instr.Meet ways) = true
is_stay (instr.Evolve rates c ways next) = true
is_stay _ = false

-- whether its next step is an arrival
abbrev pub is_arriving : Mark → Instr → Bool
is_arriving Going i = is_stay i
is_arriving (Arrived left) i = false

-- ---- what must fit

-- the values and slopes of the domain and of the guards, where variables move with these rates, and the moment of the end
abbrev pub course_fits : Rational → Store → Rates → Cond → List Way → Bool
course_fits clock s r c ways = domain_fits s r c && list_all (λ w. guard_fits s r w.io) ways && due_fits clock (end_moment s r c)

abbrev pub may_evolve : Rational → Store → List Rate → Cond → List Way → Bool
may_evolve clock s rates c ways = rates_fit s rates && course_fits clock s (rates_in rates s) c ways

-- whether all values fit that an arrival works out
abbrev pub may_arrive : Rational → Store → Instr → Bool
may_arrive clock s (instr.Wait e next) = is_fitting s e && due_fits clock (Some (greater zero_ℚ (val s e)))
may_arrive clock s (instr.Meet ways) = list_all (λ w. sent_fits s w.io) ways
may_arrive clock s (instr.Evolve rates c ways next) = may_evolve clock s rates c ways
may_arrive clock s _ = false

-- ---- what is left to wait, and what is shown

abbrev pub left_at : Store → Instr → Rational
left_at s (instr.Wait e next) = val s e
left_at s _ = zero_ℚ

abbrev pub plain_post : Phase → Post
plain_post p = record { phase = p; bound = None; due = None; moving = []; offers = [] }

abbrev pub arrived_post : Rational → Option Rational → List Moving → List Offer → Post
arrived_post clock b moving offers = record { phase = phase.Arrived; bound = b; due = due_of clock b; moving = moving; offers = offers }

-- an evolving variable at its start
abbrev pub moving_at : Store → Rate → Moving
moving_at s r = record { variable = r.variable; at = slice_index_or s r.variable zero_ℚ; rate = val s r.value }

-- what ways offer where variables move with these rates
abbrev pub offers_in : Store → Rates → List Way → List Offer
offers_in s r ways = map (λ w. offer_of s r w.io) ways

-- an evolution offers nothing at its end moment
abbrev pub offers_before : Option Rational → List Offer → List Offer
offers_before b offers = if is_due b then [] else offers

-- the post with the bound and the offers of an evolution whose variables move with these rates
abbrev pub with_course : Rational → Store → Rates → Cond → List Way → Post → Post
with_course clock s r c ways p =
    let b = end_moment s r c in
    record p { bound = b; due = due_of clock b; offers = offers_before b (offers_in s r ways) }

abbrev pub evolving_post : Rational → Store → List Rate → Cond → List Way → Post
evolving_post clock s rates c ways = with_course clock s (rates_in rates s) c ways (arrived_post clock None (moving_of s rates) [])

abbrev pub post_of : Rational → Store → Instr → Post
post_of clock s (instr.Wait e next) = arrived_post clock (Some (greater zero_ℚ (val s e))) [] []
post_of clock s (instr.Meet ways) = arrived_post clock None [] (offers_in s [] ways)
post_of clock s (instr.Evolve rates c ways next) = evolving_post clock s rates c ways
post_of clock s _ = plain_post phase.Going

-- ---- rates by their variables

-- the rates that evolving variables show, in front of those of before
abbrev pub with_shown : Rates → List Moving → Rates
with_shown before [] = before
with_shown before (m ∷ ms) = with_shown (slice_set before m.variable (Some m.rate)) ms

-- for each of 64 variables its rate, or none where it keeps its value
abbrev pub rates_shown : List Moving → Rates
rates_shown ms = with_shown (replicate 64 None) ms
