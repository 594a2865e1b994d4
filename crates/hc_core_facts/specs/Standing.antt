-- The common row and the arrays stand for posts, a clock and a number of steps. This project's own.
--
-- place of row 64                  holds
-- 320 p + i, i < 64                variable i of process p
-- 320 p + 66                       its bound, where a_bounded[p] is 1
-- 320 p + 128 + i                  the rate of its variable i, where a_moves[64 p + i] is 1
-- 320 p + 192 + g, 320 p + 256 + g value and slope that its branch g sends
-- 64, 67                           the clock; the horizon
-- 68 to 127                        scratch
--
-- array                            holds
-- a_phase[p]                       0 going, 1 arrived, 2 ended
-- a_send[c], a_receive[c]          32 p + g + 1 where branch g of process p offers that end of channel c; else 0
-- a_into[c]                        the variable that the offered receive sets
-- a_met[p]                         g + 1 where branch g of p has met since its last post; else 0
-- a_steps[0], a_limit[0]           the number of steps; the limit
-- a_stop[0]                        0, or 1 plus the kind of the stop
-- a_self[0]                        the thread that runs the pass
use Rattle.std.specs.Prelude.{◌≡◌, ◌<◌, ◌≤◌, ℕ, ◌+◌, ◌*◌, ◌^◌, ◌==◌, Bool, true, false, nat_lt, if◌then◌else◌, List, [], ◌∷◌, length, slice_get, Option, Some, None, is_some, ⊤}
use Rattle.std.specs.List.{list_any}
use Rattle.hc_rational.specs.Words.{Rational, zero_ℚ, ◌+ℚ◌, ◌≤ℚ◌, fits, is_positive}
use Rattle.hc_term.specs.declared.post.Post.{Post}
use Rattle.hc_term.specs.declared.post.Phase.{Phase}
use Rattle.hc_term.specs.declared.post.Phase.TheVariants as phase
use Rattle.hc_term.specs.declared.post.Moving.{Moving}
use Rattle.hc_term.specs.declared.post.Offer.{Offer}
use Rattle.hc_term.specs.declared.post.Offer.TheVariants.{Send, Receive}
use Rattle.hc_term.specs.Process.{is_due}
use Rattle.hc_term.specs.Posts.{is_empty}
use Rattle.hc_term.specs.Together.{is_offer, ArePaired}
use Rattle.hc_core_c.specs.Twin.{Board64, nth, register, variable, rate_of, bound_of}

-- ---- codes

abbrev pub flag : Bool → ℕ
flag true = 1
flag false = 0

abbrev pub phase_code : Phase → ℕ
phase_code phase.Going = 0
phase_code phase.Arrived = 1
phase_code phase.Ended = 2

abbrev pub first_code : ℕ → ℕ → ℕ
first_code x other = if nat_lt 0 x then x else other

-- the code of the first of these offers that sends, or receives, on channel c, where the next one has code x; else 0
abbrev pub offer_code : Bool → ℕ → ℕ → List Offer → ℕ
offer_code sending c x [] = 0
offer_code sending c x (o ∷ os) = if is_offer sending c o then x else offer_code sending c (x + 1) os

-- that of all posts, from process p on
abbrev pub code_from : Bool → ℕ → ℕ → List Post → ℕ
code_from sending c p [] = 0
code_from sending c p (q ∷ qs) = first_code (offer_code sending c (p * 32 + 1) q.offers) (code_from sending c (p + 1) qs)

-- ---- one process

abbrev pub BoundIs : Rational → Option Rational → Type 0
BoundIs v None = ⊤
BoundIs v (Some b) = v ≡ b

-- the slope that counts: only an evolution's offers move
abbrev pub slope_of : Post → Rational → Rational
slope_of q slope = if is_empty q.moving then zero_ℚ else slope

-- what register 192 + g and 256 + g hold for branch g
abbrev pub OfferIs : Board64 → ℕ → ℕ → Post → Offer → Type 0
OfferIs b p g q (Send channel at slope) = (register b (p * 320 + 192 + g) ≡ at) × (register b (p * 320 + 256 + g) ≡ slope_of q slope)
OfferIs b p g q (Receive channel) = ⊤

-- process p shows q
pub record Shows (b : Board64) (p : ℕ) (q : Post) : Type 0 where
  pub phase : nth b.phase p ≡ phase_code q.phase
  pub bounded : nth b.bounded p ≡ flag (is_some q.bound)
  pub bound : BoundIs (register b (bound_of p)) q.bound
  pub moves : (i : ℕ) → i < 64 → nth b.moves (p * 64 + i) ≡ flag (list_any (λ m. m.variable == i) q.moving)
  pub moving : (k : ℕ) (m : Moving) → slice_get q.moving k ≡ Some m →
      (register b (variable p m.variable) ≡ m.at) × (register b (rate_of p m.variable) ≡ m.rate)
  pub offers : (g : ℕ) (o : Offer) → slice_get q.offers g ≡ Some o → OfferIs b p g q o

-- ---- conditions

-- a bound is at least 0, and the moment at which it runs out fits
abbrev pub BoundFits : Rational → Option Rational → Type 0
BoundFits clock None = ⊤
BoundFits clock (Some b) = (zero_ℚ ≤ℚ b) × (fits (clock +ℚ b) ≡ true)

-- a process that is going or has ended shows nothing else
abbrev pub ShowsOf : Phase → Post → Type 0
ShowsOf phase.Arrived q = ⊤
ShowsOf _ q = (q.bound ≡ None) × (q.moving ≡ []) × (q.offers ≡ [])

-- whether there is a bound that hasn't run out
abbrev pub is_ahead : Option Rational → Bool
is_ahead None = false
is_ahead (Some b) = is_positive b

-- what each post keeps; one whose bound has run out offers nothing
pub record KeepsPost (clock : Rational) (q : Post) : Type 0 where
  pub shows : ShowsOf q.phase q
  pub bound : BoundFits clock q.bound
  pub due : is_some q.due ≡ is_ahead q.bound
  pub silent : is_due q.bound ≡ true → q.offers ≡ []
  pub variables : (k : ℕ) (m : Moving) → slice_get q.moving k ≡ Some m → m.variable < 64
  pub once : (j k : ℕ) (m n : Moving) → slice_get q.moving j ≡ Some m → slice_get q.moving k ≡ Some n → m.variable ≡ n.variable → j ≡ k
  pub few : length q.offers ≤ 32

-- ---- all of them

-- lengths of the lists
pub record HasPlaces (P C : ℕ) (b : Board64) : Type 0 where
  pub row : length b.row ≡ 20480
  pub phase : P ≤ length b.phase
  pub bounded : P ≤ length b.bounded
  pub moves : P * 64 ≤ length b.moves
  pub met : P ≤ length b.met
  pub woke : P ≤ length b.woke
  pub send : C ≤ length b.send
  pub receive : C ≤ length b.receive
  pub into : C ≤ length b.into

-- the board stands for these posts of P processes over C channels, this clock and horizon, and so many steps below the limit
pub record StandsFor (P C : ℕ) (b : Board64) (ps : List Post) (clock horizon : Rational) (steps limit : ℕ) : Type 0 where
  pub places : HasPlaces P C b
  pub processes : length ps ≡ P
  pub most : P ≤ 64
  pub now : register b 64 ≡ clock
  pub end : register b 67 ≡ horizon
  pub counted : b.steps ≡ steps
  pub at_most : b.limit ≡ limit
  pub each : (p : ℕ) (q : Post) → slice_get ps p ≡ Some q → Shows b p q
  pub send : (c : ℕ) → c < C → nth b.send c ≡ code_from true c 0 ps
  pub receive : (c : ℕ) → c < C → nth b.receive c ≡ code_from false c 0 ps
  -- conditions
  pub keeps : (p : ℕ) (q : Post) → slice_get ps p ≡ Some q → KeepsPost clock q
  pub paired : ArePaired C ps
  pub into : (c : ℕ) → nth b.into c < 64
  pub in_time : clock ≤ℚ horizon
  pub in_limit : steps ≤ limit
  pub small : limit < 2 ^ 31
