-- A pass only takes codes away: what the C needs of a board is kept.
use Rattle.std.specs.Prelude.{◌≡◌, ◌<◌, ◌≤◌, ◌+◌, ◌*◌, ◌-◌, ◌^◌, ℕ, Bool, true, false, not, ◌&&◌, if◌then◌else◌, nat_lt, [], ◌∷◌, ◌++◌, slice_set, Option, None}
use Rattle.std.proofs.Common.{refl, sym, ap, ◌∙◌, subst, arith}
use Rattle.hc_rational.specs.Words.{Rational, rank, fits, ◌+ℚ◌}
use Rattle.hc_cmach.specs.Line.{Delays}
use Rattle.hc_core_c.specs.Twin.{Board64, nth, register, put, rounds, bound_of, sender, receiver, handed, go, mute, counted, stopped, meet, is_ready, fire_step, fire, Tried, Due, due_of, due_step, due, able, Found, moving, lowered, is_lower, least_step, least, stand, stand_step, later, move, refused, moved_after, length_of, delay, delay_by, elapse_by, elapse, any_able, timed, wake, sleep_step, limited, pass, is_same}
use Rattle.hc_core_c.proofs.Base.{kept_fits}
use Rattle.hc_core_c.proofs.Rows.{IsRow, row_on, move_row}
use Rattle.hc_core_c.proofs.Length.{tried, tried_row}
use Rattle.hc_core_c.proofs.Keeping as keeping
use Rattle.hc_core_c.specs.Owner.{Sane}
use Rattle.hc_csection.proofs.Waking.{wake_same}

-- c has no greater codes than b
pub record Fewer (b c : Board64) : Type 0 where
  pub sends : (n : ℕ) → ((k : ℕ) → nth b.send k ≤ n) → (k : ℕ) → nth c.send k ≤ n
  pub receives : (n : ℕ) → ((k : ℕ) → nth b.receive k ≤ n) → (k : ℕ) → nth c.receive k ≤ n
  pub into : c.into ≡ b.into
  pub limit : c.limit ≡ b.limit

fewer_none : (b : Board64) → Fewer b b
fewer_none b = record { sends = λ n h. h; receives = λ n h. h; into = refl; limit = refl }

fewer_on : (b c d : Board64) → Fewer b c → Fewer c d → Fewer b d
fewer_on b c d h k = record {
  sends = λ n l. k.sends n (h.sends n l);
  receives = λ n l. k.receives n (h.receives n l);
  into = k.into ∙ h.into;
  limit = k.limit ∙ h.limit;
}

fewer_of : (b c : Board64) → keeping.Fewer b c → Fewer b c
fewer_of b c h = record { sends = λ n l k. h.sends n k (l k); receives = λ n l k. h.receives n k (l k); into = h.into; limit = h.limit }

fewer_same : (b c : Board64) → c.send ≡ b.send → c.receive ≡ b.receive → c.into ≡ b.into → c.limit ≡ b.limit → Fewer b c
fewer_same b c s r i l = record {
  sends = λ n h k. subst (λ xs. nth xs k ≤ n) (sym s) (h k);
  receives = λ n h k. subst (λ xs. nth xs k ≤ n) (sym r) (h k);
  into = i;
  limit = l;
}

fewer_row : (b c : Board64) → IsRow b c → Fewer b c
fewer_row b c h =
    fewer_same b c (ap (λ (x : Board64). x.send) h) (ap (λ (x : Board64). x.receive) h) (ap (λ (x : Board64). x.into) h) (ap (λ (x : Board64). x.limit) h)

fewer_if : (b c d : Board64) (is : Bool) → Fewer b c → Fewer b d → Fewer b (if is then c else d)
fewer_if b c d true h k = h
fewer_if b c d false h k = k

fewer_stopped : (k : ℕ) (w : Option ℕ) (b : Board64) → Fewer b (stopped k w b)
fewer_stopped k w b = fewer_same b _ refl refl refl refl

fewer_counted : (b : Board64) → Fewer b (counted b)
fewer_counted b =
    fewer_if b (record b { steps = b.steps + 1 }) (stopped 3 None (record b { steps = b.steps + 1 })) (nat_lt (b.steps + 1) b.limit)
    (fewer_same b _ refl refl refl refl) (fewer_same b _ refl refl refl refl)

-- ---- meetings

fewer_meet : (P C c : ℕ) (b : Board64) → Fewer b (meet P C c b)
fewer_meet P C c b =
    let s = sender P c b in
    let r = receiver P c b in
    let met = go C r (go C s (handed c s (nth b.send c - s * 32) r (nth b.receive c - r * 32) b)) in
    fewer_on b met (counted met)
    (fewer_of b met (keeping.met_fewer C c s (nth b.send c - s * 32) r (nth b.receive c - r * 32) b)) (fewer_counted met)

fewer_fire_step : (P C c : ℕ) (b : Board64) → Fewer b (fire_step P C c b)
fewer_fire_step P C c b = fewer_if b (meet P C c b) b (is_ready c b) (fewer_meet P C c b) (fewer_none b)

fewer_fire : (P C : ℕ) (b : Board64) → Fewer b (fire P C b)
fewer_fire P C b =
    kept_fits (fire_step P C) (λ i (d : Board64). Fewer b d) C b (fewer_none b) (λ c d low h. fewer_on b d (fire_step P C c d) h (fewer_fire_step P C c d)) C (omega arith)

-- ---- time

lowered_by : (is : Bool) (v : Rational) (b : Board64) → IsRow b (if is then put 68 v b else b)
lowered_by true v b = refl
lowered_by false v b = refl

least_by : (is : Bool) (b : Board64) (f h : Found) → IsRow b f.board → IsRow f.board h.board → IsRow b (if is then h else f).board
least_by true b f h k l = row_on b f.board h.board k l
least_by false b f h k l = k

-- as in the core's crate
least_row : (P : ℕ) (b : Board64) → IsRow b (least P b).board
least_row P b =
    kept_fits least_step (λ i (f : Found). IsRow b f.board) P (record { kind = moving P b; board = b }) refl
    (
    λ p f low h.
    least_by (nat_lt 0 (nth f.board.bounded p)) b f (record { kind = 2; board = lowered p f }) h (lowered_by (is_lower p f) (register f.board (bound_of p)) f.board)
    )
    P (omega arith)

after_by : (P C : ℕ) (is : Bool) (v : Rational) (b : Board64) → IsRow b (if is then move P C false (put 71 v b) else refused b).board
after_by P C true v b = row_on b (put 71 v b) _ refl (move_row P C false (put 71 v b))
after_by P C false v b = refl

length_by_row : (P C : ℕ) (is : Bool) (b : Board64) (u : Tried) → IsRow b u.board → IsRow b (if is then moved_after P C u.board else u).board
length_by_row P C true b u h = row_on b u.board _ h (after_by P C (fits (register u.board 64 +ℚ register u.board 70)) (register u.board 64 +ℚ register u.board 70) u.board)
length_by_row P C false b u h = h

length_row : (P C kind : ℕ) (b : Board64) → IsRow b (length_of P C kind b).board
length_row P C kind b = length_by_row P C (tried kind b).ok b (tried kind b) (tried_row kind b)

fewer_due_of : (C p : ℕ) (b : Board64) → Fewer b (due_of C p b)
fewer_due_of C p b =
    let first : Board64 = record b { woke = slice_set b.woke p 1 } in
    fewer_on b first (mute C p first) (fewer_same b first refl refl refl refl) (fewer_of first (mute C p first) (keeping.mute_fewer C p first))

fewer_due_by : (C p : ℕ) (is : Bool) (u : Due) → Fewer u.board (if is then record { found = true; board = due_of C p u.board } else u).board
fewer_due_by C p true u = fewer_due_of C p u.board
fewer_due_by C p false u = fewer_none u.board

fewer_due : (P C : ℕ) (b : Board64) → Fewer b (due P C b).board
fewer_due P C b =
    kept_fits (due_step C) (λ i (u : Due). Fewer b u.board) P (record { found = false; board = b }) (fewer_none b)
    (λ p u low h. fewer_on b u.board (due_step C p u).board h (fewer_due_by C p (able u.board p) u)) P (omega arith)

module _ (P C : ℕ) (b : Board64) where
  abbrev printed : Board64
  printed = record b { lines = b.lines ++ Delays (register b 64) (register b 70) ∷ [] }

  abbrev moved : Board64
  moved = (move P C true printed).board

  abbrev last : Due
  last = due P C (counted (later moved))

  fewer_delay : Fewer b (delay P C b)
  fewer_delay =
      fewer_on b printed (delay P C b) (fewer_same b printed refl refl refl refl)
      (
      fewer_on printed moved (delay P C b) (fewer_row printed moved (move_row P C true printed))
      (
      fewer_on moved (later moved) (delay P C b) (fewer_same moved (later moved) refl refl refl refl)
      (
      fewer_on (later moved) (counted (later moved)) (delay P C b) (fewer_counted (later moved))
      (
      fewer_on (counted (later moved)) last.board (delay P C b) (fewer_due P C (counted (later moved)))
      (fewer_if last.board (stopped 2 None last.board) last.board (nat_lt last.board.stop 1 && not last.found) (fewer_stopped 2 None last.board) (fewer_none last.board))
      )
      )
      )
      )

fewer_delay_by : (P C : ℕ) (u : Tried) → Fewer u.board (delay_by P C u)
fewer_delay_by P C u = fewer_if u.board (delay P C u.board) (stopped 4 None u.board) u.ok (fewer_delay P C u.board) (fewer_stopped 4 None u.board)

fewer_elapse_by : (P C kind : ℕ) (b : Board64) → Fewer b (elapse_by P C kind b)
fewer_elapse_by P C kind b =
    let u = length_of P C kind b in
    fewer_if b (stopped 2 None b) (delay_by P C u) (is_same (rank (register b 64) (register b 67))) (fewer_stopped 2 None b)
    (fewer_on b u.board (delay_by P C u) (fewer_row b u.board (length_row P C kind b)) (fewer_delay_by P C u))

fewer_elapse : (P C : ℕ) (b : Board64) → Fewer b (elapse P C b)
fewer_elapse P C b =
    let f = least P b in
    fewer_on b f.board (elapse P C b) (fewer_row b f.board (least_row P b))
    (fewer_if f.board (stand P f.board) (elapse_by P C f.kind f.board) (nat_lt f.kind 1) (fewer_stopped (rounds (stand_step f.board) P 0) None f.board) (fewer_elapse_by P C f.kind f.board))

fewer_timed : (P C : ℕ) (b : Board64) → Fewer b (timed P C b)
fewer_timed P C b = fewer_if b (elapse P C b) b (nat_lt b.stop 1 && not (any_able P b)) (fewer_elapse P C b) (fewer_none b)

-- ---- the pass

fewer_wake : (P : ℕ) (b : Board64) → Fewer b (wake P b)
fewer_wake P b =
    let h = wake_same P b in
    fewer_same b (wake P b) (ap (λ (x : Board64). x.send) h) (ap (λ (x : Board64). x.receive) h) (ap (λ (x : Board64). x.into) h) (ap (λ (x : Board64). x.limit) h)

fewer_slept : (P : ℕ) (b : Board64) → Fewer b (rounds sleep_step P b)
fewer_slept P b =
    kept_fits sleep_step (λ i (c : Board64). Fewer b c) P b (fewer_none b) (λ p c low h. fewer_on b c (sleep_step p c) h (fewer_same c (sleep_step p c) refl refl refl refl)) P (omega arith)

pub fewer_pass : (P C : ℕ) (b : Board64) → Fewer b (pass P C b)
fewer_pass P C b =
    let one = rounds sleep_step P b in
    let two = limited one in
    let three = fire P C two in
    let four = timed P C three in
    fewer_on b one (pass P C b) (fewer_slept P b)
    (
    fewer_on one two (pass P C b) (fewer_if one one (stopped 3 None one) (nat_lt one.steps one.limit) (fewer_none one) (fewer_stopped 3 None one))
    (fewer_on two three (pass P C b) (fewer_fire P C two) (fewer_on three four (pass P C b) (fewer_timed P C three) (fewer_wake P four)))
    )

pub pass_sane : (P C : ℕ) (b : Board64) → Sane P b → Sane P (pass P C b)
pass_sane P C b s =
    let h = fewer_pass P C b in
    record {
      sends = h.sends (P * 32) s.sends;
      receives = h.receives (P * 32) s.receives;
      into = λ c. subst (λ xs. nth xs c < 64) (sym h.into) (s.into c);
      limit = subst (λ n. n < 2 ^ 31) (sym h.limit) s.limit;
    }
