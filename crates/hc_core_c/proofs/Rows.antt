-- What only changes row 64.
use Rattle.std.specs.Prelude.{◌≡◌, ◌+◌, ◌*◌, ◌-◌, ℕ, Bool, true, false, ◌&&◌, if◌then◌else◌, nat_lt}
use Rattle.std.proofs.Common.{refl, ap, ◌∙◌, arith}
use Rattle.hc_rational.specs.Words.{Rational, ◌+ℚ◌, ◌-ℚ◌, ◌*ℚ◌, fits}
use Rattle.hc_core_c.specs.Twin.{Board64, rounds, nth, register, put, Tried, refused, kept_in, stored_in, shift, lower, bound_of, variable, rate_of, drift, drift_step, drifted, move_step, offer_step, send_at, move}
use Rattle.hc_core_c.proofs.Base.{kept_fits}

-- c is b with another row
abbrev pub IsRow : Board64 → Board64 → Type 0
IsRow b c = c ≡ record b { row = c.row }

pub row_on : (b c d : Board64) → IsRow b c → IsRow c d → IsRow b d
row_on b c d h k = k ∙ ap (λ (z : Board64). record z { row = d.row }) h

kept_row : (st : Bool) (d : ℕ) (b : Board64) → IsRow b (kept_in st d b)
kept_row true d b = refl
kept_row false d b = refl

stored_by : (st is : Bool) (d : ℕ) (v : Rational) (b : Board64) → IsRow b (if is then record { ok = true; board = kept_in st d (put 72 v b) } else refused b).board
stored_by true true d v b = refl
stored_by false true d v b = refl
stored_by st false d v b = refl

stored_row : (st : Bool) (d : ℕ) (v : Rational) (b : Board64) → IsRow b (stored_in st d v b).board
stored_row st d v b = stored_by st (fits v) d v b

shift_by : (st is : Bool) (a : ℕ) (v : Rational) (b : Board64) → IsRow b (if is then stored_in st a (register (put 72 v b) a +ℚ register (put 72 v b) 72) (put 72 v b) else refused b).board
shift_by st true a v b = row_on b (put 72 v b) _ refl (stored_row st a (register (put 72 v b) a +ℚ register (put 72 v b) 72) (put 72 v b))
shift_by st false a v b = refl

pub shift_row : (st : Bool) (a r : ℕ) (b : Board64) → IsRow b (shift st a r b).board
shift_row st a r b = shift_by st (fits (register b r *ℚ register b 70)) a (register b r *ℚ register b 70) b

pub lower_row : (st : Bool) (p : ℕ) (b : Board64) → IsRow b (lower st p b).board
lower_row st p b = stored_row st (bound_of p) (register b (bound_of p) -ℚ register b 70) b

-- where it is done
either_row : (b : Board64) (is : Bool) (u v : Tried) → IsRow b u.board → IsRow u.board v.board → IsRow b (if is then v else u).board
either_row b true u v h k = row_on b u.board v.board h k
either_row b false u v h k = h

drift_row : (st : Bool) (p : ℕ) (b : Board64) → IsRow b (drift st p b).board
drift_row st p b =
    kept_fits (drift_step st p) (λ i (u : Tried). IsRow b u.board) 64 (record { ok = true; board = b }) refl
    (λ i u low h. either_row b (u.ok && nat_lt 0 (nth u.board.moves (p * 64 + i))) u (shift st (variable p i) (rate_of p i) u.board) h (shift_row st (variable p i) (rate_of p i) u.board)) 64 (omega arith)

move_step_row : (st : Bool) (b : Board64) (p : ℕ) (u : Tried) → IsRow b u.board → IsRow b (move_step st p u).board
move_step_row st b p u h =
    either_row b ((drifted st p u).ok && nat_lt 0 (nth (drifted st p u).board.bounded p)) (drifted st p u) (lower st p (drifted st p u).board)
    (either_row b u.ok u (drift st p u.board) h (drift_row st p u.board)) (lower_row st p (drifted st p u).board)

pub states_row : (P : ℕ) (st : Bool) (b : Board64) → IsRow b (rounds (move_step st) P (record { ok = true; board = b })).board
states_row P st b =
    kept_fits (move_step st) (λ i (u : Tried). IsRow b u.board) P (record { ok = true; board = b }) refl (λ p u low h. move_step_row st b p u h) P (omega arith)

pub offer_row : (P : ℕ) (st : Bool) (b : Board64) (c : ℕ) (u : Tried) → IsRow b u.board → IsRow b (offer_step P st c u).board
offer_row P st b c u h =
    either_row b (u.ok && nat_lt 0 (nth u.board.send c)) u (shift st (send_at P c u.board) (send_at P c u.board + 64) u.board) h
    (shift_row st (send_at P c u.board) (send_at P c u.board + 64) u.board)

pub move_row : (P C : ℕ) (st : Bool) (b : Board64) → IsRow b (move P C st b).board
move_row P C st b =
    kept_fits (offer_step P st) (λ i (u : Tried). IsRow b u.board) C (rounds (move_step st) P (record { ok = true; board = b })) (states_row P st b) (λ c u low h. offer_row P st b c u h) C (omega arith)
