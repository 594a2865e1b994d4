-- What the row and the locals of a thread stand for: a configuration of its process, at a moment, and the post that others see.
--   registers 0 to 63            the variables by number
--   register 64                  the clock
--   register 65                  the last logged value
--   register 66                  the bound, where v_bounded is 1
--   register 128 + x             the rate of variable x, where it evolves
--   registers 192 + g, 256 + g   the value that branch g sends, and its slope; a plain send is branch 0
--   registers from 320           scratch
--   v_place, v_choices           the place of the flat code; the choices taken, modulo 64
--   v_mark                       0 going, 1 arrived
--   v_most, v_steps              steps allowed, steps taken
--   v_end                        0 waits, 1 ended, 2 logged, 3 unfit, 4 spent
use Rattle.std.specs.Prelude.{◌≡◌, ℕ, ◌+◌, ◌%◌, Bool, true, false, List, [], ◌∷◌, length, take, slice_index_or, Option, Some, None}
use Rattle.hc_rational.specs.Words.{Rational, zero_ℚ}
use Rattle.hc_term.specs.declared.post.Moving.{Moving}
use Rattle.hc_term.specs.declared.post.Offer.{Offer}
use Rattle.hc_term.specs.declared.post.Offer.TheVariants as offer
use Rattle.hc_term.specs.declared.post.Post.{Post}
use Rattle.hc_term.specs.declared.model.Mark.{Mark}
use Rattle.hc_term.specs.declared.model.Mark.TheVariants.{Going, Arrived}
use Rattle.hc_term.specs.declared.model.ProcessState.{ProcessState}
use Rattle.hc_term.specs.Offers.{post}
use Rattle.hc_code.specs.Stands.{Table, At}
use Rattle.hc_cmach.specs.State.{width}
use Rattle.hc_cstep.specs.Locals.{Mine}

-- ---- registers

abbrev pub register : List Rational → ℕ → Rational
register row i = slice_index_or row i zero_ℚ

abbrev pub the_clock : ℕ
the_clock = 64

abbrev pub the_logged : ℕ
the_logged = 65

abbrev pub the_bound : ℕ
the_bound = 66

-- the rate of a variable
abbrev pub rate_of : ℕ → ℕ
rate_of x = 128 + x

-- the value that a branch sends, and its slope
abbrev pub value_of : ℕ → ℕ
value_of g = 192 + g

abbrev pub slope_of : ℕ → ℕ
slope_of g = 256 + g

-- from here on registers are scratch
abbrev pub first_scratch : ℕ
first_scratch = 320

-- ---- what is shown to the others

abbrev pub BoundIs : Bool → List Rational → Option Rational → Type 0
BoundIs bounded row None = bounded ≡ false
BoundIs bounded row (Some b) = (bounded ≡ true) × (register row the_bound ≡ b)

abbrev pub RatesAre : List Rational → List Moving → Type 0
RatesAre row [] = Unit {0}
RatesAre row (x ∷ xs) = (register row (rate_of x.variable) ≡ x.rate) × RatesAre row xs

abbrev pub SentIs : List Rational → ℕ → Offer → Type 0
SentIs row g (offer.Send channel at slope) = (register row (value_of g) ≡ at) × (register row (slope_of g) ≡ slope)
SentIs row g (offer.Receive channel) = Unit {0}

-- the first of the offers is that of branch g
abbrev pub SentAre : List Rational → ℕ → List Offer → Type 0
SentAre row g [] = Unit {0}
SentAre row g (o ∷ os) = SentIs row g o × SentAre row (g + 1) os

pub record Shows (bounded : Bool) (row : List Rational) (p : Post) : Type 0 where
  pub bound : BoundIs bounded row p.bound
  pub rates : RatesAre row p.moving
  pub sent : SentAre row 0 p.offers

-- ---- configurations

abbrev pub has_arrived : Mark → Bool
has_arrived Going = false
has_arrived (Arrived left) = true

-- of a process with n variables, by this table of lists, at this moment; so many locals stand behind those that have a name here
pub record StandsFor (t : Table) (n room : ℕ) (clock : Rational) (m : Mine) (q : ProcessState) : Type 0 where
  pub at_place : At t m.place q.todo
  pub wide : length m.row ≡ width
  pub spare : length m.others ≡ room
  pub same_store : take n m.row ≡ q.store
  pub same_clock : register m.row the_clock ≡ clock
  pub same_choices : m.choices ≡ q.choices % 64
  pub same_mark : m.arrived ≡ has_arrived q.mark
  pub shows : Shows m.bounded m.row (post clock q)
