-- What a call of a primitive does to a thread's view: the table of the machine, with no frames. None where the call is undefined, blocks, or takes
-- or gives up the mutex.
use Rattle.std.specs.Prelude.{ℕ, Bool, true, false, ◌&&◌, if◌then◌else◌, List, [], ◌∷◌, ◌++◌, length, slice_set, ℤ, pos, unsigned_abs, Option, Some, None}
use Rattle.std.specs.Int.{int_signum}
use Rattle.hc_rational.specs.Words.{Rational, ratio, ◌+ℚ◌, ◌-ℚ◌, ◌*ℚ◌, ◌/ℚ◌, neg_ℚ, rank, fits, is_zero}
use Rattle.hc_cast.specs.declared.primitive.Primitive.{Primitive}
use Rattle.hc_cast.specs.declared.primitive.Primitive.TheVariants.{FrSet, FrMove, FrAdd, FrSub, FrMul, FrDiv, FrNeg, FrCmp, FrSign, OutDelay, OutComm, OutLog, OutEnd, CWake}
use Rattle.hc_cast.specs.declared.program.CProgram.{CProgram}
use Rattle.hc_cmach.specs.State.{Word, Shared}
use Rattle.hc_cmach.specs.Line.{Line, Delays, Meets, Logs, Ends}
use Rattle.hc_cmach.specs.Expression.{is_index}
use Rattle.hc_cmach.specs.Primitive.{Spot, Reach, Its, Common, Beyond, reach, register_in, is_literal, rank_number, is_who, who_of, are_places}
use Rattle.hc_clogic.specs.Runs.{View, kept, caller}

-- ---- views

-- where thread t stands with this view, and nothing behind it
abbrev pub spot : ℕ → View → Spot
spot t v = record { thread = t; row = v.row; seen = v.shared; frame = caller v [] None false; below = []; rest = [] }

-- the row that a primitive names, as thread t reaches it
abbrev pub reached : ℕ → View → ℤ → Reach
reached t v r = reach (spot t v) (unsigned_abs r)

-- whether the thread may touch it
abbrev pub is_there : Reach → Bool
is_there (Its row) = true
is_there (Common m) = true
is_there (Beyond k) = false

-- behind a statement with the result z
abbrev pub given : View → Option Word → ℤ → View
given v target z = record { row = v.row; shared = v.shared; names = v.names; values = kept v target z; lines = v.lines; wakes = v.wakes }

-- the same, with another row of its own
abbrev pub with_row : View → Option Word → List Rational → ℤ → View
with_row v target row z = record { row = row; shared = v.shared; names = v.names; values = kept v target z; lines = v.lines; wakes = v.wakes }

-- the same, with another shared part
abbrev pub with_shared : View → Option Word → Shared → ℤ → View
with_shared v target m z = record { row = v.row; shared = Some m; names = v.names; values = kept v target z; lines = v.lines; wakes = v.wakes }

abbrev pub with_line : View → Option Word → Line → View
with_line v target l = record { row = v.row; shared = v.shared; names = v.names; values = kept v target (pos 0); lines = v.lines ++ l ∷ []; wakes = v.wakes }

abbrev pub with_wake : View → Option Word → ℕ → View
with_wake v target k = record { row = v.row; shared = v.shared; names = v.names; values = kept v target (pos 0); lines = v.lines; wakes = k ∷ v.wakes }

-- ---- what calls do

abbrev pub puts_common : View → Option Word → Shared → ℕ → Rational → ℤ → Option Shared → Option View
puts_common v target m d x z None = None
puts_common v target m d x z (Some s) = Some (with_shared v target (record { row = slice_set m.row d x; arrays = m.arrays }) z)

abbrev pub puts_in : View → Option Word → Reach → ℕ → Rational → ℤ → Option View
puts_in v target (Its row) d x z = Some (with_row v target (slice_set row d x) z)
puts_in v target (Common m) d x z = puts_common v target m d x z v.shared
puts_in v target (Beyond k) d x z = None

abbrev pub moves_in : View → Option Word → Reach → ℕ → Reach → ℕ → Option View
moves_in v target (Beyond k) d from a = None
moves_in v target to d (Beyond k) a = None
moves_in v target to d from a = puts_in v target to d (register_in from a) (pos 0)

abbrev pub computes_in : View → Option Word → Reach → ℕ → Rational → Option View
computes_in v target (Beyond k) d x = None
computes_in v target to d x = if fits x then puts_in v target to d x (pos 1) else Some (given v target (pos 0))

abbrev pub divides_in : View → Option Word → Reach → ℕ → ℕ → ℕ → Option View
divides_in v target (Beyond k) d a b = None
divides_in v target to d a b = if is_zero (register_in to b) then None else computes_in v target to d (register_in to a /ℚ register_in to b)

abbrev pub answers_in : View → Option Word → Reach → ℤ → Option View
answers_in v target (Beyond k) z = None
answers_in v target from z = Some (given v target z)

abbrev pub prints_in : View → Option Word → Reach → Option Shared → Line → Option View
prints_in v target from None l = None
prints_in v target (Beyond k) (Some m) l = None
prints_in v target from (Some m) l = Some (with_line v target l)

abbrev pub wakes_in : View → Option Word → ℕ → Option Shared → Option View
wakes_in v target k None = None
wakes_in v target k (Some m) = Some (with_wake v target k)

abbrev pub where_it_is : Bool → Option View → Option View
where_it_is here w = if here then w else None

-- a call of a primitive, with the values of its arguments
abbrev pub primitive_view : CProgram → ℕ → View → Option Word → Primitive → List ℤ → Option View
primitive_view g t v target FrSet (r ∷ d ∷ n ∷ m ∷ []) =
    where_it_is (are_places r (d ∷ [])) (where_it_is (is_literal n m) (puts_in v target (reached t v r) (unsigned_abs d) (ratio n m) (pos 0)))
primitive_view g t v target FrMove (q ∷ d ∷ r ∷ a ∷ []) =
    where_it_is (are_places q (d ∷ []) && are_places r (a ∷ [])) (moves_in v target (reached t v q) (unsigned_abs d) (reached t v r) (unsigned_abs a))
primitive_view g t v target FrAdd (r ∷ d ∷ a ∷ b ∷ []) =
    let row = reached t v r in
    where_it_is (are_places r (d ∷ a ∷ b ∷ []))
    (computes_in v target row (unsigned_abs d) (register_in row (unsigned_abs a) +ℚ register_in row (unsigned_abs b)))
primitive_view g t v target FrSub (r ∷ d ∷ a ∷ b ∷ []) =
    let row = reached t v r in
    where_it_is (are_places r (d ∷ a ∷ b ∷ []))
    (computes_in v target row (unsigned_abs d) (register_in row (unsigned_abs a) -ℚ register_in row (unsigned_abs b)))
primitive_view g t v target FrMul (r ∷ d ∷ a ∷ b ∷ []) =
    let row = reached t v r in
    where_it_is (are_places r (d ∷ a ∷ b ∷ []))
    (computes_in v target row (unsigned_abs d) (register_in row (unsigned_abs a) *ℚ register_in row (unsigned_abs b)))
primitive_view g t v target FrDiv (r ∷ d ∷ a ∷ b ∷ []) =
    where_it_is (are_places r (d ∷ a ∷ b ∷ [])) (divides_in v target (reached t v r) (unsigned_abs d) (unsigned_abs a) (unsigned_abs b))
primitive_view g t v target FrNeg (r ∷ d ∷ a ∷ []) =
    let row = reached t v r in
    where_it_is (are_places r (d ∷ a ∷ [])) (puts_in v target row (unsigned_abs d) (neg_ℚ (register_in row (unsigned_abs a))) (pos 0))
primitive_view g t v target FrCmp (r ∷ a ∷ b ∷ []) =
    let row = reached t v r in
    where_it_is (are_places r (a ∷ b ∷ []))
    (answers_in v target row (rank_number (rank (register_in row (unsigned_abs a)) (register_in row (unsigned_abs b)))))
primitive_view g t v target FrSign (r ∷ a ∷ []) =
    let row = reached t v r in
    where_it_is (are_places r (a ∷ [])) (answers_in v target row (int_signum (register_in row (unsigned_abs a)).num))
primitive_view g t v target OutDelay (r ∷ a ∷ b ∷ []) =
    let row = reached t v r in
    where_it_is (are_places r (a ∷ b ∷ []))
    (prints_in v target row v.shared (Delays (register_in row (unsigned_abs a)) (register_in row (unsigned_abs b))))
primitive_view g t v target OutComm (r ∷ a ∷ c ∷ p ∷ q ∷ b ∷ []) =
    let row = reached t v r in
    where_it_is
    (are_places r (a ∷ b ∷ []) && is_index c (length g.channels) && is_index p (length g.processes) && is_index q (length g.processes))
    (
    prints_in v target row v.shared
    (Meets (register_in row (unsigned_abs a)) (unsigned_abs c) (unsigned_abs p) (unsigned_abs q) (register_in row (unsigned_abs b)))
    )
primitive_view g t v target OutLog (r ∷ a ∷ p ∷ b ∷ []) =
    let row = reached t v r in
    where_it_is (are_places r (a ∷ b ∷ []) && is_index p (length g.processes))
    (prints_in v target row v.shared (Logs (register_in row (unsigned_abs a)) (unsigned_abs p) (register_in row (unsigned_abs b))))
primitive_view g t v target OutEnd (k ∷ r ∷ a ∷ w ∷ []) =
    let row = reached t v r in
    where_it_is (is_index k 5 && are_places r (a ∷ []) && is_who w (length g.processes))
    (prints_in v target row v.shared (Ends (unsigned_abs k) (register_in row (unsigned_abs a)) (who_of w)))
primitive_view g t v target CWake (k ∷ []) = where_it_is (is_index k 64) (wakes_in v target (unsigned_abs k) v.shared)
primitive_view g t v target p zs = None
