-- A pass only takes codes away: what the C needs of a board is kept by it, and a board that stands for posts has it.
use Rattle.std.specs.Prelude.{◌≡◌, ◌<◌, ◌≤◌, ◌+◌, ◌*◌, ◌^◌, ℕ, Bool, true, false, not, ◌&&◌, nat_lt, if◌then◌else◌, List, [], ◌∷◌, ◌++◌, length, Option, None, slice_set}
use Rattle.std.proofs.Common.{refl, sym, ap, ◌∙◌, subst, arith, inr}
use Rattle.std.proofs.lemmas.Bool.{ltb-true, ltb-false}
use Rattle.std.proofs.lemmas.Option.{slice_get_within}
use Rattle.hc_rational.specs.Words.{Rational, rank}
use Rattle.hc_term.specs.declared.post.Post.{Post}
use Rattle.hc_cmach.specs.Line.{Delays}
use Rattle.hc_core_c.specs.Twin.{Board64, nth, register, rounds, sender, receiver, go, counted, stopped, meet, is_ready, fire_step, fire, Tried, Due, due_of, due_step, due, able, stand, stand_step, later, move, delay, delay_by, elapse_by, elapse, least, length_of, any_able, timed, wake, sleep_step, limited, pass, is_same}
use Rattle.hc_core_facts.specs.Standing.{StandsFor, code_from}
use Rattle.hc_core_fire.specs.Firing.{IsLeft}
use Rattle.hc_core_c.proofs.Pass.{Within}
use Rattle.hc_core_fire.proofs.Rounds.{behind}
use Rattle.hc_core_fire.proofs.Lists.{cleared_all, cleared_at, cleared_behind, cleared_same}
use Rattle.hc_core_fire.proofs.Owning.{Owned, Nobody, Somebody, owner_tells}
use Rattle.hc_core_fire.proofs.Going.{went, go_is, muted, mute_is}
use Rattle.hc_core_fire.proofs.MetBoard.{left_is, left_on}
use Rattle.hc_core_fire.proofs.Meeting.{handed_on}
use Rattle.hc_core_fire.proofs.Beginning.{slept, sleep_is}
use Rattle.hc_core_fire.proofs.Rows.{IsRow, least_row, length_row, move_row}
use Rattle.hc_core_fire.proofs.Waking.{woken}

-- c has the codes of b but for some that are gone
pub record Fewer (b c : Board64) : Type 0 where
  pub send : (k : ℕ) → IsLeft (nth b.send k) (nth c.send k)
  pub receive : (k : ℕ) → IsLeft (nth b.receive k) (nth c.receive k)
  pub sends : length c.send ≡ length b.send
  pub receives : length c.receive ≡ length b.receive
  pub into : c.into ≡ b.into
  pub limit : c.limit ≡ b.limit

pub fewer_none : (b : Board64) → Fewer b b
fewer_none b = record { send = λ k. inr refl; receive = λ k. inr refl; sends = refl; receives = refl; into = refl; limit = refl }

pub fewer_on : (b c d : Board64) → Fewer b c → Fewer c d → Fewer b d
fewer_on b c d h k = record {
  send = λ j. left_on (nth b.send j) (nth c.send j) (nth d.send j) (h.send j) (k.send j);
  receive = λ j. left_on (nth b.receive j) (nth c.receive j) (nth d.receive j) (h.receive j) (k.receive j);
  sends = k.sends ∙ h.sends;
  receives = k.receives ∙ h.receives;
  into = k.into ∙ h.into;
  limit = k.limit ∙ h.limit;
}

-- where none of these change
fewer_same : (b c : Board64) → c.send ≡ b.send → c.receive ≡ b.receive → c.into ≡ b.into → c.limit ≡ b.limit → Fewer b c
fewer_same b c s r i l = record {
  send = λ k. inr (ap (λ xs. nth xs k) s);
  receive = λ k. inr (ap (λ xs. nth xs k) r);
  sends = ap length s;
  receives = ap length r;
  into = i;
  limit = l;
}

fewer_row : (b c : Board64) → IsRow b c → Fewer b c
fewer_row b c h =
    fewer_same b c (ap (λ (x : Board64). x.send) h) (ap (λ (x : Board64). x.receive) h) (ap (λ (x : Board64). x.into) h) (ap (λ (x : Board64). x.limit) h)

fewer_if : (b c d : Board64) (is : Bool) → Fewer b c → Fewer b d → Fewer b (if is then c else d)
fewer_if b c d true h k = h
fewer_if b c d false h k = k

-- ---- codes of one process

cleared_left : (C p : ℕ) (xs : List ℕ) (k : ℕ) → IsLeft (nth xs k) (nth (cleared_all C p xs) k)
cleared_left C p xs k = by (nat_lt k C) refl
  where
    by : (is : Bool) → nat_lt k C ≡ is → IsLeft (nth xs k) (nth (cleared_all C p xs) k)
    by true e = subst (IsLeft (nth xs k)) (sym (cleared_at C p xs k (ltb-true k C e))) (left_is p (nth xs k))
    by false e = (let high = ltb-false k C e in inr (cleared_behind C p xs k (omega (arith, high))))

fewer_cleared : (C p : ℕ) (b c : Board64) → c.send ≡ cleared_all C p b.send → c.receive ≡ cleared_all C p b.receive → c.into ≡ b.into → c.limit ≡ b.limit → Fewer b c
fewer_cleared C p b c s r i l = record {
  send = λ k. subst (λ xs. IsLeft (nth b.send k) (nth xs k)) (sym s) (cleared_left C p b.send k);
  receive = λ k. subst (λ xs. IsLeft (nth b.receive k) (nth xs k)) (sym r) (cleared_left C p b.receive k);
  sends = ap length s ∙ cleared_same C p b.send;
  receives = ap length r ∙ cleared_same C p b.receive;
  into = i;
  limit = l;
}

fewer_go : (C p : ℕ) (b : Board64) → Fewer b (go C p b)
fewer_go C p b = subst (Fewer b) (sym (go_is C p b)) (fewer_cleared C p b (went C p b) refl refl refl refl)

fewer_counted : (b : Board64) → Fewer b (counted b)
fewer_counted b =
    fewer_if b (record b { steps = b.steps + 1 }) (stopped 3 None (record b { steps = b.steps + 1 })) (nat_lt (b.steps + 1) b.limit)
    (fewer_same b _ refl refl refl refl) (fewer_same b _ refl refl refl refl)

-- ---- meetings

module _ (P C c : ℕ) (b : Board64) where
  abbrev one : Board64
  one = handed_on P c b

  abbrev two : Board64
  two = go C (sender P c b) one

  abbrev three : Board64
  three = go C (receiver P c b) two

  fewer_meet : Fewer b (meet P C c b)
  fewer_meet =
      fewer_on b one (counted three) (fewer_same b one refl refl refl refl)
      (
      fewer_on one two (counted three) (fewer_go C (sender P c b) one)
      (fewer_on two three (counted three) (fewer_go C (receiver P c b) two) (fewer_counted three))
      )

  fewer_fire_step : Fewer b (fire_step P C c b)
  fewer_fire_step = fewer_if b (meet P C c b) b (is_ready c b) fewer_meet (fewer_none b)

fewer_fire : (P C : ℕ) (b : Board64) → Fewer b (fire P C b)
fewer_fire P C b = behind (fire_step P C) (λ c d. Fewer b d) C b (fewer_none b) (λ c d low h. fewer_on b d (fire_step P C c d) h (fewer_fire_step P C c d))

-- ---- time

fewer_due_of : (C p : ℕ) (b : Board64) → Fewer b (due_of C p b)
fewer_due_of C p b =
    let first = record b { woke = slice_set b.woke p 1 } in
    subst (Fewer b) (sym (mute_is C p first)) (fewer_cleared C p b (muted C p first) refl refl refl refl)

fewer_due_by : (C p : ℕ) (is : Bool) (u : Due) → Fewer u.board (if is then record { found = true; board = due_of C p u.board } else u).board
fewer_due_by C p true u = fewer_due_of C p u.board
fewer_due_by C p false u = fewer_none u.board

fewer_due : (P C : ℕ) (b : Board64) → Fewer b (due P C b).board
fewer_due P C b =
    behind (due_step C) (λ p (u : Due). Fewer b u.board) P (record { found = false; board = b }) (fewer_none b)
    (λ p u low h. fewer_on b u.board (due_step C p u).board h (fewer_due_by C p (able u.board p) u))

fewer_stopped : (k : ℕ) (w : Option ℕ) (b : Board64) → Fewer b (stopped k w b)
fewer_stopped k w b = fewer_same b _ refl refl refl refl

module _ (P C : ℕ) (b : Board64) where
  abbrev printed : Board64
  printed = record b { lines = b.lines ++ Delays (register b 64) (register b 70) ∷ [] }

  abbrev moved : Board64
  moved = (move P C true printed).board

  abbrev last : Due
  last = due P C (counted (later moved))

  fewer_delay : Fewer b (delay P C b)
  fewer_delay =
      fewer_on b printed (delay P C b) (fewer_same b printed refl refl refl refl)
      (
      fewer_on printed moved (delay P C b) (fewer_row printed moved (move_row P C true printed))
      (
      fewer_on moved (later moved) (delay P C b) (fewer_same moved (later moved) refl refl refl refl)
      (
      fewer_on (later moved) (counted (later moved)) (delay P C b) (fewer_counted (later moved))
      (
      fewer_on (counted (later moved)) last.board (delay P C b) (fewer_due P C (counted (later moved)))
      (fewer_if last.board (stopped 2 None last.board) last.board (nat_lt last.board.stop 1 && not last.found) (fewer_stopped 2 None last.board) (fewer_none last.board))
      )
      )
      )
      )

fewer_delay_by : (P C : ℕ) (u : Tried) → Fewer u.board (delay_by P C u)
fewer_delay_by P C u = fewer_if u.board (delay P C u.board) (stopped 4 None u.board) u.ok (fewer_delay P C u.board) (fewer_stopped 4 None u.board)

fewer_elapse_by : (P C kind : ℕ) (b : Board64) → Fewer b (elapse_by P C kind b)
fewer_elapse_by P C kind b =
    let u = length_of P C kind b in
    fewer_if b (stopped 2 None b) (delay_by P C u) (is_same (rank (register b 64) (register b 67))) (fewer_stopped 2 None b)
    (fewer_on b u.board (delay_by P C u) (fewer_row b u.board (length_row P C kind b)) (fewer_delay_by P C u))

fewer_elapse : (P C : ℕ) (b : Board64) → Fewer b (elapse P C b)
fewer_elapse P C b =
    let f = least P b in
    fewer_on b f.board (elapse P C b) (fewer_row b f.board (least_row P b))
    (fewer_if f.board (stand P f.board) (elapse_by P C f.kind f.board) (nat_lt f.kind 1) (fewer_stopped (rounds (stand_step f.board) P 0) None f.board) (fewer_elapse_by P C f.kind f.board))

fewer_timed : (P C : ℕ) (b : Board64) → Fewer b (timed P C b)
fewer_timed P C b = fewer_if b (elapse P C b) b (nat_lt b.stop 1 && not (any_able P b)) (fewer_elapse P C b) (fewer_none b)

-- ---- the pass

fewer_wake : (P : ℕ) (b : Board64) → Fewer b (wake P b)
fewer_wake P b =
    let h = (woken P b).same in
    fewer_same b (wake P b) (ap (λ (x : Board64). x.send) h) (ap (λ (x : Board64). x.receive) h) (ap (λ (x : Board64). x.into) h) (ap (λ (x : Board64). x.limit) h)

fewer_slept : (P : ℕ) (b : Board64) → Fewer b (rounds sleep_step P b)
fewer_slept P b = subst (Fewer b) (sym (sleep_is P b)) (fewer_same b (slept P b) refl refl refl refl)

pub fewer_pass : (P C : ℕ) (b : Board64) → Fewer b (pass P C b)
fewer_pass P C b =
    let one = rounds sleep_step P b in
    let two = limited one in
    let three = fire P C two in
    let four = timed P C three in
    fewer_on b one (pass P C b) (fewer_slept P b)
    (
    fewer_on one two (pass P C b) (fewer_if one one (stopped 3 None one) (nat_lt one.steps one.limit) (fewer_none one) (fewer_stopped 3 None one))
    (fewer_on two three (pass P C b) (fewer_fire P C two) (fewer_on three four (pass P C b) (fewer_timed P C three) (fewer_wake P four)))
    )

-- ---- what the C needs

small_code : (P C : ℕ) (b : Board64) (ps : List Post) (clock horizon : Rational) (steps limit : ℕ) → StandsFor P C b ps clock horizon steps limit →
    (sending : Bool) (c x : ℕ) → Owned sending c 0 ps x → x ≤ P * 32
small_code P C b ps clock horizon steps limit h sending c x (Nobody none n) = omega (arith, none)
small_code P C b ps clock horizon steps limit h sending c x (Somebody k g q o is n) =
    let inside = slice_get_within ps k q n.at in
    let within = slice_get_within q.offers g o n.first.at in
    let few = (h.keeps k q n.at).few in
    let size = h.processes in
    omega (arith, is, inside, within, few, size)

-- a board that stands for posts has it, where its arrays have a place for each channel and no more
pub stands_within : (P C : ℕ) (b : Board64) (ps : List Post) (clock horizon : Rational) (steps limit : ℕ) → StandsFor P C b ps clock horizon steps limit → Within P C b
stands_within P C b ps clock horizon steps limit h = record {
  sends = λ c low. by true b.send c (h.send c low);
  receives = λ c low. by false b.receive c (h.receive c low);
  into = h.into;
  limit = subst (λ n. n < 2 ^ 31) (sym h.at_most) h.small;
}
  where
    by : (sending : Bool) (xs : List ℕ) (c : ℕ) → nth xs c ≡ code_from sending c 0 ps → nth xs c ≤ P * 32
    by sending xs c code =
        subst (λ x. x ≤ P * 32) (sym code)
        (small_code P C b ps clock horizon steps limit h sending c (code_from sending c 0 ps) (owner_tells sending c 0 ps))
