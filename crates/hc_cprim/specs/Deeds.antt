-- What a primitive comes to: with rows by how a thread reaches them, and with nothing of where the thread stands.
use Rattle.std.specs.Prelude.{◌≡◌, ◌<◌, ◌^◌, unsigned_abs, if◌then◌else◌, List, [], ◌∷◌, length, ℤ, pos, Option, Some, None}
use Rattle.hc_rational.specs.Words.{Rational, fits, ratio, ◌+ℚ◌, ◌-ℚ◌, ◌*ℚ◌, ◌/ℚ◌}
use Rattle.hc_cast.specs.declared.primitive.Primitive.{Primitive}
use Rattle.hc_cast.specs.declared.primitive.Primitive.TheVariants.{FrSet}
use Rattle.hc_cast.specs.declared.stmt.CStmt.{CStmt}
use Rattle.hc_cast.specs.declared.program.CProgram.{CProgram}
use Rattle.hc_schedule.specs.Threads.{Fails, Does, Locks, Unlocks, Waits, Wakes, Prints}
use Rattle.hc_cmach.specs.declared.kind.Kind.{Kind}
use Rattle.hc_cmach.specs.State.{Word, Frame, Shared, Divides}
use Rattle.hc_cmach.specs.Line as told
use Rattle.hc_cmach.specs.Primitive.{CTurn, Spot, Reach, Its, Common, Beyond, behind, fails, results, puts, is_literal, primitive_turn}
use Rattle.hc_cprim.specs.declared.arithmetic.Two.{Two}
use Rattle.hc_cprim.specs.declared.arithmetic.Two.TheVariants as two
use Rattle.hc_cprim.specs.declared.deed.Way.{Way}
use Rattle.hc_cprim.specs.declared.deed.Way.TheVariants as way
use Rattle.hc_cprim.specs.declared.deed.Line.{Line}
use Rattle.hc_cprim.specs.declared.deed.Line.TheVariants as line
use Rattle.hc_cprim.specs.declared.deed.Deed.{Deed}
use Rattle.hc_cprim.specs.declared.deed.Deed.TheVariants as deed
use Rattle.hc_cprim.specs.declared.deed.Seat.{Seat}
use Rattle.hc_cprim.specs.Worth.{seen_by}

-- a value where it fits
abbrev pub fitting : Rational → Option Rational
fitting v = if fits v then Some v else None

-- the exact result of an operation
abbrev pub exact : Two → Rational → Rational → Rational
exact two.Add a b = a +ℚ b
exact two.Sub a b = a -ℚ b
exact two.Mul a b = a *ℚ b
exact two.Div a b = a /ℚ b

-- Where a thread stands, but for what primitives look at.
pub record Around : Type 0 where
  pub program : CProgram
  pub target : Option Word
  pub frame : Frame
  pub below : List Frame
  pub rest : List CStmt
  pub arrays : List (List ℤ)

-- the part that is shared
abbrev pub shared : Seat → Around → Shared
shared s q = record { row = s.common.now; arrays = q.arrays }

abbrev pub spot : Seat → Around → Spot
spot s q =
    record {
      thread = s.thread;
      row = s.row.now;
      seen = seen_by s.owns (shared s q);
      frame = q.frame;
      below = q.below;
      rest = q.rest;
    }

-- the numbers of channels and of processes are those of the program
pub record IsOf (s : Seat) (q : Around) : Type 0 where
  pub channels : s.channels ≡ length q.program.channels
  pub processes : s.processes ≡ length q.program.processes

-- the row that is reached so
abbrev pub reached : Seat → Around → Way → Reach
reached s q way.Its = Its s.row.now
reached s q way.Common = Common (shared s q)
reached s q (way.Beyond k) = Beyond k

abbrev pub line_of : Line → told.Line
line_of (line.Delays clock by) = told.Delays clock by
line_of (line.Meets clock c p q v) = told.Meets clock c p q v
line_of (line.Logs clock p v) = told.Logs clock p v
line_of (line.Ends kind clock who) = told.Ends kind clock who

-- what a thread asks for by a deed
abbrev pub deed_turn : Seat → Around → Deed → CTurn
deed_turn s q (deed.Fails k) = fails k
deed_turn s q (deed.Divides r b k) = Fails (Divides r b k)
deed_turn s q (deed.Gives z) = results (spot s q) q.target z
deed_turn s q (deed.Puts w d v z) = puts (spot s q) q.target (reached s q w) d v z
deed_turn s q (deed.Prints l) = Does (Prints (behind (spot s q) q.target (pos 0)) (line_of l))
deed_turn s q deed.Locks = Does (Locks (behind (spot s q) q.target (pos 0)))
deed_turn s q deed.Unlocks = Does (Unlocks (behind (spot s q) q.target (pos 0)))
deed_turn s q (deed.Waits k) = Does (Waits k (behind (spot s q) q.target (pos 0)))
deed_turn s q (deed.Wakes k) = Does (Wakes k (behind (spot s q) q.target (pos 0)))

-- two numbers of at most 63 bits
pub record IsSmall (n m : ℤ) : Type 0 where
  pub first : unsigned_abs n < 2 ^ 63
  pub second : unsigned_abs m < 2 ^ 63

-- n by m, where it is written in lowest terms
abbrev pub lowest : ℤ → ℤ → Option Rational
lowest n m = if is_literal n m then Some (ratio n m) else None

-- why a row isn't reached, if it isn't
abbrev pub kind_beyond : Way → Option Kind
kind_beyond way.Its = None
kind_beyond way.Common = None
kind_beyond (way.Beyond k) = Some k

-- the two numbers that `fr_set` takes as they are written have at most 63 bits
abbrev pub AreWritten : Primitive → List ℤ → Type 0
AreWritten FrSet (r ∷ d ∷ n ∷ m ∷ []) = IsSmall n m
AreWritten p zs = Unit {0}

-- the deed is what the primitive with these values of its arguments comes to
abbrev pub IsDeedOf : Seat → Primitive → List ℤ → Deed → Type 0
IsDeedOf s p zs x = (q : Around) → IsOf s q → AreWritten p zs → primitive_turn q.program (spot s q) q.target p zs ≡ deed_turn s q x
