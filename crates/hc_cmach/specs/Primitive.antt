-- What a call of a primitive asks for.
use Rattle.std.specs.Prelude.{ℕ, Bool, true, ◌&&◌, ◌==◌, if◌then◌else◌, List, [], ◌∷◌, length, slice_set, slice_index_or, ℤ, pos, negsuc, int_lt, unsigned_abs, Option, Some, None}
use Rattle.std.specs.List.{list_all}
use Rattle.std.specs.Int.{int_signum}
use Rattle.std.specs.Ordering.{int_eq}
use Rattle.std.specs.declared.cmp.Ordering.{Ordering}
use Rattle.std.specs.declared.cmp.Ordering.TheVariants as side
use Rattle.hc_rational.specs.Words.{Rational, zero_ℚ, ratio, gcd, ◌+ℚ◌, ◌-ℚ◌, ◌*ℚ◌, ◌/ℚ◌, neg_ℚ, rank, fits, is_zero}
use Rattle.hc_cast.specs.declared.primitive.Primitive.{Primitive}
use Rattle.hc_cast.specs.declared.primitive.Primitive.TheVariants.{FrSet, FrMove, FrAdd, FrSub, FrMul, FrDiv, FrNeg, FrCmp, FrSign, OutDelay, OutComm, OutLog, OutEnd, MLock, MUnlock, CWait, CWake}
use Rattle.hc_cast.specs.declared.stmt.CStmt.{CStmt}
use Rattle.hc_cast.specs.declared.program.CProgram.{CProgram}
use Rattle.hc_cmach.specs.declared.kind.Kind.{Kind}
use Rattle.hc_cmach.specs.declared.kind.Kind.TheVariants.{Index, ZeroDivisor, Literal, Unlocked, Foreign}
use Rattle.hc_schedule.specs.Threads.{Turn, Fails, Does, Goes, Locks, Unlocks, Waits, Wakes, Works, Prints}
use Rattle.hc_cmach.specs.State.{Word, Frame, storing, width, common_row, Own, Shared, Fault, Certain, Divides}
use Rattle.hc_cmach.specs.Line.{Line, Delays, Meets, Logs, Ends}
use Rattle.hc_cmach.specs.Expression.{is_index}

abbrev pub CTurn : Type 0
CTurn = Turn Own Shared Line Fault

-- Where a thread stands: its number, its row, the shared part if it owns the mutex, the frame of the statement at hand,
-- the frames below, and what comes behind the statement.
pub record Spot : Type 0 where
  pub thread : ℕ
  pub row : List Rational
  pub seen : Option Shared
  pub frame : Frame
  pub below : List Frame
  pub rest : List CStmt

-- the thread behind the statement, with the result z in the local that takes it
abbrev pub behind : Spot → Option Word → ℤ → Own
behind s target z = record { row = s.row; frames = storing s.frame target z s.rest ∷ s.below }

abbrev pub fails : Kind → CTurn
fails k = Fails (Certain k)

-- the statement is over, with the result z
abbrev pub results : Spot → Option Word → ℤ → CTurn
results s target z = Does (Goes (behind s target z))

-- ---- rows

-- the row that a primitive names, as the thread reaches it
pub data Reach : Type 0 where
  Its : (row : List Rational) → Reach
  Common : (shared : Shared) → Reach
  Beyond : (kind : Kind) → Reach

abbrev pub reach_common : Option Shared → Reach
reach_common None = Beyond Unlocked
reach_common (Some m) = Common m

abbrev pub reach : Spot → ℕ → Reach
reach s r = if r == common_row then reach_common s.seen else (if r == s.thread then Its s.row else Beyond Foreign)

abbrev pub register_in : Reach → ℕ → Rational
register_in (Its row) a = slice_index_or row a zero_ℚ
register_in (Common m) a = slice_index_or m.row a zero_ℚ
register_in (Beyond k) a = zero_ℚ

-- register d of the row becomes v, and the result is z
abbrev pub puts : Spot → Option Word → Reach → ℕ → Rational → ℤ → CTurn
puts s target (Its row) d v z = Does (Goes (record { row = slice_set row d v; frames = (behind s target z).frames }))
puts s target (Common m) d v z = Does (Works (behind s target z) (record { row = slice_set m.row d v; arrays = m.arrays }))
puts s target (Beyond k) d v z = fails k

-- ---- fractions

-- whether n by m is written in lowest terms
abbrev pub is_literal : ℤ → ℤ → Bool
is_literal n m = int_lt (pos 0) m && gcd (unsigned_abs n) (unsigned_abs m) == 1

abbrev pub sets : Spot → Option Word → ℕ → ℕ → ℤ → ℤ → CTurn
sets s target r d n m = if is_literal n m then puts s target (reach s r) d (ratio n m) (pos 0) else fails Literal

-- of two rows that may not be touched, one without the mutex counts first
abbrev pub moved : Spot → Option Word → Reach → ℕ → Reach → ℕ → CTurn
moved s target (Beyond Unlocked) d from a = fails Unlocked
moved s target to d (Beyond k) a = fails k
moved s target to d from a = puts s target to d (register_in from a) (pos 0)

-- the result is 1 where the value fits, and else 0 with nothing changed
abbrev pub computed : Spot → Option Word → Reach → ℕ → Rational → CTurn
computed s target (Beyond k) d v = fails k
computed s target to d v = if fits v then puts s target to d v (pos 1) else results s target (pos 0)

-- whether a division is undefined is known from what the thread reaches; its kind alone is not
abbrev pub divided : Spot → Option Word → Reach → ℕ → ℕ → ℕ → ℕ → CTurn
divided s target (Beyond k) r d a b = Fails (Divides r b k)
divided s target to r d a b =
    if is_zero (register_in to b) then fails ZeroDivisor else computed s target to d (register_in to a /ℚ register_in to b)

abbrev pub answered : Spot → Option Word → Reach → ℤ → CTurn
answered s target (Beyond k) z = fails k
answered s target from z = results s target z

abbrev pub rank_number : Ordering → ℤ
rank_number side.Less = negsuc 0
rank_number side.Equal = pos 0
rank_number side.Greater = pos 1

-- ---- lines

abbrev pub printed : Spot → Option Word → Reach → Option Shared → Line → CTurn
printed s target from None l = fails Unlocked
printed s target (Beyond k) (Some m) l = fails k
printed s target from (Some m) l = Does (Prints (behind s target (pos 0)) l)

-- a process, or -1 for none
abbrev pub is_who : ℤ → ℕ → Bool
is_who w n = if int_eq w (negsuc 0) then true else is_index w n

abbrev pub who_of : ℤ → Option ℕ
who_of (pos p) = Some p
who_of (negsuc n) = None

-- ---- primitives

-- whether r is a row, and these are registers
abbrev pub are_places : ℤ → List ℤ → Bool
are_places r ds = is_index r 65 && list_all (λ d. is_index d width) ds

abbrev pub or_index : Bool → CTurn → CTurn
or_index here turn = if here then turn else fails Index

-- a primitive with the values of its arguments; no other form has the right number of them
abbrev pub primitive_turn : CProgram → Spot → Option Word → Primitive → List ℤ → CTurn
primitive_turn g s target FrSet (r ∷ d ∷ n ∷ m ∷ []) = or_index (are_places r (d ∷ [])) (sets s target (unsigned_abs r) (unsigned_abs d) n m)
primitive_turn g s target FrMove (q ∷ d ∷ r ∷ a ∷ []) =
    or_index (are_places q (d ∷ []) && are_places r (a ∷ []))
    (moved s target (reach s (unsigned_abs q)) (unsigned_abs d) (reach s (unsigned_abs r)) (unsigned_abs a))
primitive_turn g s target FrAdd (r ∷ d ∷ a ∷ b ∷ []) =
    let row = reach s (unsigned_abs r) in
    or_index (are_places r (d ∷ a ∷ b ∷ []))
    (computed s target row (unsigned_abs d) (register_in row (unsigned_abs a) +ℚ register_in row (unsigned_abs b)))
primitive_turn g s target FrSub (r ∷ d ∷ a ∷ b ∷ []) =
    let row = reach s (unsigned_abs r) in
    or_index (are_places r (d ∷ a ∷ b ∷ []))
    (computed s target row (unsigned_abs d) (register_in row (unsigned_abs a) -ℚ register_in row (unsigned_abs b)))
primitive_turn g s target FrMul (r ∷ d ∷ a ∷ b ∷ []) =
    let row = reach s (unsigned_abs r) in
    or_index (are_places r (d ∷ a ∷ b ∷ []))
    (computed s target row (unsigned_abs d) (register_in row (unsigned_abs a) *ℚ register_in row (unsigned_abs b)))
primitive_turn g s target FrDiv (r ∷ d ∷ a ∷ b ∷ []) =
    or_index (are_places r (d ∷ a ∷ b ∷ []))
    (divided s target (reach s (unsigned_abs r)) (unsigned_abs r) (unsigned_abs d) (unsigned_abs a) (unsigned_abs b))
primitive_turn g s target FrNeg (r ∷ d ∷ a ∷ []) =
    let row = reach s (unsigned_abs r) in
    or_index (are_places r (d ∷ a ∷ [])) (puts s target row (unsigned_abs d) (neg_ℚ (register_in row (unsigned_abs a))) (pos 0))
primitive_turn g s target FrCmp (r ∷ a ∷ b ∷ []) =
    let row = reach s (unsigned_abs r) in
    or_index (are_places r (a ∷ b ∷ []))
    (answered s target row (rank_number (rank (register_in row (unsigned_abs a)) (register_in row (unsigned_abs b)))))
primitive_turn g s target FrSign (r ∷ a ∷ []) =
    let row = reach s (unsigned_abs r) in
    or_index (are_places r (a ∷ [])) (answered s target row (int_signum (register_in row (unsigned_abs a)).num))
primitive_turn g s target OutDelay (r ∷ a ∷ b ∷ []) =
    let row = reach s (unsigned_abs r) in
    or_index (are_places r (a ∷ b ∷ []))
    (printed s target row s.seen (Delays (register_in row (unsigned_abs a)) (register_in row (unsigned_abs b))))
primitive_turn g s target OutComm (r ∷ a ∷ c ∷ p ∷ q ∷ b ∷ []) =
    let row = reach s (unsigned_abs r) in
    or_index
    (are_places r (a ∷ b ∷ []) && is_index c (length g.channels) && is_index p (length g.processes) && is_index q (length g.processes))
    (
    printed s target row s.seen
    (Meets (register_in row (unsigned_abs a)) (unsigned_abs c) (unsigned_abs p) (unsigned_abs q) (register_in row (unsigned_abs b)))
    )
primitive_turn g s target OutLog (r ∷ a ∷ p ∷ b ∷ []) =
    let row = reach s (unsigned_abs r) in
    or_index (are_places r (a ∷ b ∷ []) && is_index p (length g.processes))
    (printed s target row s.seen (Logs (register_in row (unsigned_abs a)) (unsigned_abs p) (register_in row (unsigned_abs b))))
primitive_turn g s target OutEnd (k ∷ r ∷ a ∷ w ∷ []) =
    let row = reach s (unsigned_abs r) in
    or_index (is_index k 5 && are_places r (a ∷ []) && is_who w (length g.processes))
    (printed s target row s.seen (Ends (unsigned_abs k) (register_in row (unsigned_abs a)) (who_of w)))
primitive_turn g s target MLock [] = Does (Locks (behind s target (pos 0)))
primitive_turn g s target MUnlock [] = Does (Unlocks (behind s target (pos 0)))
primitive_turn g s target CWait (k ∷ []) = or_index (is_index k 64) (Does (Waits (unsigned_abs k) (behind s target (pos 0))))
primitive_turn g s target CWake (k ∷ []) = or_index (is_index k 64) (Does (Wakes (unsigned_abs k) (behind s target (pos 0))))
primitive_turn g s target p zs = fails Index
