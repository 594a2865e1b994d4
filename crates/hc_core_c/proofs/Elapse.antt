-- f_delay and f_elapse: time passes, or the run stops.
use Rattle.std.specs.Prelude.{◌≡◌, ◌<◌, ◌+◌, ◌-◌, ◌^◌, ℕ, Bool, true, false, not, ◌&&◌, if◌then◌else◌, nat_lt, List, [], ◌∷◌, ◌++◌, ℤ, pos, negsuc, Some, None, codes}
use Rattle.std.proofs.Common.{refl, sym, ap, subst, arith}
use Rattle.std.specs.declared.cmp.Ordering.{Ordering}
use Rattle.std.specs.declared.cmp.Ordering.TheVariants.{Less, Equal, Greater}
use Rattle.hc_rational.specs.Words.{Rational, ◌+ℚ◌, rank, fits}
use Rattle.hc_cast.specs.declared.program.CProgram.{CProgram}
use Rattle.hc_cast.specs.declared.stmt.CStmt.{CStmt}
use Rattle.hc_cast.specs.declared.stmt.CStmt.TheVariants.{Set}
use Rattle.hc_cmach.specs.State.{Word, function_among}
use Rattle.hc_cmach.specs.Expression.{int_of}
use Rattle.hc_cmach.proofs.Named.{named-function}
use Rattle.hc_cmach.proofs.Worths.{forms, worth-Binary, worth-Number}
use Rattle.hc_clogic.specs.Runs.{View, Runs, Is}
use Rattle.hc_clogic.proofs.Runs.{call_ends, runs_on, runs_longer, runs_straight}
use Rattle.hc_cbuild.specs.Written.{number, local, first_of, equals, both, above_zero, below_one, call, take_call, if_then, if_else}
use Rattle.hc_cmach.specs.Line.{Delays}
use Rattle.hc_core_c.specs.Twin.{Board64, nth, register, put, is_same, Found, lowered, is_lower, least, least_step, moving, bound_of, Tried, refused, move, moved_after, length_of, counted, later, Due, due, at_horizon, delay, delay_by, stopped, stand, elapse_by, elapse}
use Rattle.hc_core_c.specs.Code.{k, x, stops, f_delay, f_elapse}
use Rattle.hc_core_c.proofs.Base.{when_runs, when_else_runs, both_is, kept_fits}
use Rattle.hc_core_c.specs.Owner.{core, Has}
use Rattle.hc_core_c.proofs.Stops.{stop_here}
use Rattle.hc_core_c.proofs.Stand.{call_stand, stand_cost}
use Rattle.hc_core_c.proofs.Count.{call_count}
use Rattle.hc_core_c.proofs.Due.{call_due, due_cost}
use Rattle.hc_core_c.proofs.Least.{call_least, least_cost}
use Rattle.hc_core_c.proofs.Length.{call_length, length_cost, tried, tried_row}
use Rattle.hc_core_c.proofs.Rows.{IsRow, row_on, move_row}
use Rattle.hc_core_c.proofs.Drift.{ok_is}
use Rattle.hc_core_c.proofs.Move.{call_move, move_cost, Sends}
use Rattle.hc_core_c.proofs.Keeping.{Sound}

-- ---- only row 64 changes

lowered_by : (is : Bool) (v : Rational) (b : Board64) → IsRow b (if is then put 68 v b else b)
lowered_by true v b = refl
lowered_by false v b = refl

least_by : (is : Bool) (b : Board64) (f h : Found) → IsRow b f.board → IsRow f.board h.board → IsRow b (if is then h else f).board
least_by true b f h k l = row_on b f.board h.board k l
least_by false b f h k l = k

least_row : (P : ℕ) (b : Board64) → IsRow b (least P b).board
least_row P b =
    kept_fits least_step (λ i (f : Found). IsRow b f.board) P (record { kind = moving P b; board = b }) refl
    (
    λ p f low h.
    least_by (nat_lt 0 (nth f.board.bounded p)) b f (record { kind = 2; board = lowered p f }) h (lowered_by (is_lower p f) (register f.board (bound_of p)) f.board)
    )
    P (omega arith)

after_by : (P C : ℕ) (is : Bool) (v : Rational) (b : Board64) → IsRow b (if is then move P C false (put 71 v b) else refused b).board
after_by P C true v b = row_on b (put 71 v b) _ refl (move_row P C false (put 71 v b))
after_by P C false v b = refl

length_by_row : (P C : ℕ) (is : Bool) (b : Board64) (u : Tried) → IsRow b u.board → IsRow b (if is then moved_after P C u.board else u).board
length_by_row P C true b u h = row_on b u.board _ h (after_by P C (fits (register u.board 64 +ℚ register u.board 70)) (register u.board 64 +ℚ register u.board 70) u.board)
length_by_row P C false b u h = h

length_row : (P C kind : ℕ) (b : Board64) → IsRow b (length_of P C kind b).board
length_row P C kind b = length_by_row P C (tried kind b).ok b (tried kind b) (tried_row kind b)

-- ---- a run that may go on

-- no stop stands, and there is room for one more step
pub record Going (P C : ℕ) (b : Board64) : Type 0 where
  pub sends : Sends P C b
  pub steps : b.steps + 1 < 2 ^ 31

row_going : (P C : ℕ) (b d : Board64) → IsRow b d → Going P C b → Going P C d
row_going P C b d h k = subst (λ (z : Board64). Going P C z) (sym h) (record { sends = k.sends; steps = k.steps })

pub sound_going : (P C : ℕ) (b : Board64) → nat_lt b.stop 1 ≡ true → Sound P C b → Going P C b
sound_going P C b still s =
    let few = s.few still in
    let limit = s.limit in
    record { sends = s.sends; steps = omega (arith, few, limit) }

abbrev pub delay_cost : CProgram → ℕ → ℕ → ℕ → ℕ
delay_cost g t P C = 1 + ((1 + (move_cost g t P C + (1 + (8 + (due_cost g t P C + 5))))) + 1)

-- 7 of it are the comparison with the horizon
abbrev passing_cost : CProgram → ℕ → ℕ → ℕ → ℕ
passing_cost g t P C = length_cost g t P C + ((1 + (delay_cost g t P C + 4)) + 1)

abbrev lasting_cost : CProgram → ℕ → ℕ → ℕ → ℕ
lasting_cost g t P C = 1 + (1 + (passing_cost g t P C + 5))

abbrev pub elapse_cost : CProgram → ℕ → ℕ → ℕ → ℕ
elapse_cost g t P C = 1 + ((least_cost g t P + (1 + (stand_cost g t P + lasting_cost g t P C))) + 1)

pub none_is : (g : CProgram) (t : ℕ) (v : View) (x : Word) (is : Bool) → Is g t v (local x) (int_of is) → Is g t v (below_one (local x)) (int_of (not is))
none_is g t v x true h rest target gives = (let e = h rest target gives in simp (worth-Binary, worth-Number, e))
none_is g t v x false h rest target gives = (let e = h rest target gives in simp (worth-Binary, worth-Number, e))

module _ (g : CProgram) (t P C : ℕ) (has : Has g P C) (own : List Rational) where
  abbrev here : ℤ → Board64 → View
  here z b = core own (x ∷ []) (z ∷ []) b

  abbrev begun : Board64 → Board64
  begun b = record b { lines = b.lines ++ Delays (register b 64) (register b 70) ∷ [] }

  abbrev ends : CStmt
  ends = if_then (both (below_one (first_of (codes "a_stop"))) (below_one (local x))) (stops 2 ∷ [])

  stop_is : (z : ℤ) (b : Board64) (is : Bool) → nat_lt b.stop 1 ≡ is → Is g t (here z b) (below_one (first_of (codes "a_stop"))) (int_of is)
  stop_is z b is e rest target gives = (let arrays = has.declared in simp (forms, arrays, e))

  ended : (d : Due) → Runs g t 5 (ends ∷ []) (here (int_of d.found) d.board) (here (int_of d.found) (at_horizon d))
  ended d =
      when_runs g t (here (int_of d.found)) 4 (both (below_one (first_of (codes "a_stop"))) (below_one (local x))) (stops 2 ∷ []) d.board (stopped 2 None d.board) (nat_lt d.board.stop 1 && not d.found)
      (both_is g t (here (int_of d.found) d.board) (below_one (first_of (codes "a_stop"))) (below_one (local x)) (nat_lt d.board.stop 1) (not d.found) (stop_is (int_of d.found) d.board _ refl) (none_is g t (here (int_of d.found) d.board) x d.found (λ rest target gives. simp forms)))
      (λ is. stop_here g t P C has own (x ∷ []) (int_of d.found ∷ []) d.board 2 (omega arith))

  counts_on : (b d : Board64) → IsRow b d → Going P C b → (later d).steps + 1 < 2 ^ 31
  counts_on b d h k = (row_going P C b d h k).steps

  delay_runs : (b : Board64) → Going P C b →
      Runs g t (1 + (move_cost g t P C + (1 + (8 + (due_cost g t P C + 5))))) f_delay.body.statements (here (pos 0) b) (here (int_of (due P C (counted (later (move P C true (begun b)).board))).found) (delay P C b))
  delay_runs b h =
      runs_on g t 1 _ (call (codes "out_delay") (number 64 ∷ number 64 ∷ number 70 ∷ []) ∷ []) _ _ (here (pos 0) (begun b)) _
      (runs_straight g t 1 _ _ _ (λ rest target gives below. simp forms))
      (
      runs_on g t (move_cost g t P C) _ (take_call x (codes "f_move") (number 1 ∷ []) ∷ []) _ _ (here (int_of (move P C true (begun b)).ok) (move P C true (begun b)).board) _
      (call_move g t P C has own true (x ∷ []) (pos 0 ∷ []) (begun b) (Some x) (number 1 ∷ []) h.sends (λ rest target gives. simp forms))
      (
      runs_on g t 1 _ (call (codes "fr_move") (number 64 ∷ number 64 ∷ number 64 ∷ number 71 ∷ []) ∷ []) _ _ (here (int_of (move P C true (begun b)).ok) (later (move P C true (begun b)).board)) _
      (runs_straight g t 1 _ _ _ (λ rest target gives below. simp forms))
      (
      runs_on g t 8 _ (call (codes "f_count") [] ∷ []) _ _ (here (int_of (move P C true (begun b)).ok) (counted (later (move P C true (begun b)).board))) _
      (call_count g t P C has own (x ∷ []) (int_of (move P C true (begun b)).ok ∷ []) (later (move P C true (begun b)).board) (counts_on (begun b) (move P C true (begun b)).board (move_row P C true (begun b)) (record { sends = h.sends; steps = h.steps })))
      (
      runs_on g t (due_cost g t P C) 5 (take_call x (codes "f_due") [] ∷ []) (ends ∷ []) _ _ _
      (call_due g t P C has own (x ∷ []) (int_of (move P C true (begun b)).ok ∷ []) (counted (later (move P C true (begun b)).board)) (Some x))
      (ended (due P C (counted (later (move P C true (begun b)).board))))
      )
      )
      )
      )

  pub call_delay : (names : List Word) (values : List ℤ) (b : Board64) → Going P C b →
      Runs g t (delay_cost g t P C) (call (codes "f_delay") [] ∷ []) (core own names values b) (core own names values (delay P C b))
  call_delay names values b h =
      call_ends g t _ (core own names values b) (here (int_of (due P C (counted (later (move P C true (begun b)).board))).found) (delay P C b)) f_delay (codes "f_delay") [] []
      (named-function (codes "delay")) (ap (function_among (codes "f_delay")) has.functions) (λ rest target gives. refl) refl (delay_runs b h)

  -- ---- f_elapse

  abbrev there : ℕ → ℤ → Board64 → View
  there kind z b = core own (k ∷ x ∷ []) (pos kind ∷ z ∷ []) b

  abbrev delays : CStmt
  delays = if_else (above_zero (local x)) (call (codes "f_delay") [] ∷ []) (stops 4 ∷ [])

  abbrev lasts : List CStmt
  lasts = take_call x (codes "f_length") (local k ∷ []) ∷ delays ∷ Set x (number 0) ∷ []

  cleared : (kind : ℕ) (z : ℤ) (b : Board64) → Runs g t 1 (Set x (number 0) ∷ []) (there kind z b) (there kind (pos 0) b)
  cleared kind z b = runs_straight g t 1 _ _ _ (λ rest target gives below. simp forms)

  delayed : (kind : ℕ) (u : Tried) → Going P C u.board → Runs g t (1 + (delay_cost g t P C + 4)) (delays ∷ []) (there kind (int_of u.ok) u.board) (there kind (int_of u.ok) (delay_by P C u))
  delayed kind u h =
      when_else_runs g t (there kind (int_of u.ok)) (delay_cost g t P C + 4) (above_zero (local x)) (call (codes "f_delay") [] ∷ []) (stops 4 ∷ []) (there kind (int_of u.ok) u.board) (delay P C u.board) (stopped 4 None u.board) u.ok
      (ok_is g t (there kind (int_of u.ok) u.board) x u.ok (λ rest target gives. simp forms))
      (λ is. runs_longer g t (delay_cost g t P C) _ _ _ _ (omega arith) (call_delay (k ∷ x ∷ []) (pos kind ∷ int_of u.ok ∷ []) u.board h))
      (λ is. runs_longer g t 4 _ _ _ _ (omega arith) (stop_here g t P C has own (k ∷ x ∷ []) (pos kind ∷ int_of u.ok ∷ []) u.board 4 (omega arith)))

  lasted : (kind : ℕ) (z : ℤ) (b : Board64) → Going P C b → Runs g t (passing_cost g t P C) lasts (there kind z b) (there kind (pos 0) (delay_by P C (length_of P C kind b)))
  lasted kind z b h =
      runs_on g t (length_cost g t P C) ((1 + (delay_cost g t P C + 4)) + 1) (take_call x (codes "f_length") (local k ∷ []) ∷ []) (delays ∷ Set x (number 0) ∷ []) _ _ _
      (call_length g t P C has own kind (k ∷ x ∷ []) (pos kind ∷ z ∷ []) b (Some x) (local k ∷ []) h.sends (λ rest target gives. simp forms))
      (
      runs_on g t (1 + (delay_cost g t P C + 4)) 1 (delays ∷ []) (Set x (number 0) ∷ []) _ _ _
      (delayed kind (length_of P C kind b) (row_going P C b (length_of P C kind b).board (length_row P C kind b) h))
      (cleared kind (int_of (length_of P C kind b).ok) (delay_by P C (length_of P C kind b)))
      )

  abbrev compares : CStmt
  compares = take_call x (codes "fr_cmp") (number 64 ∷ number 64 ∷ number 67 ∷ [])

  abbrev at_end : List CStmt
  at_end = stops 2 ∷ Set x (number 0) ∷ []

  compared : (kind : ℕ) (b : Board64) (o : Ordering) → rank (register b 64) (register b 67) ≡ o → Going P C b →
      Runs g t (lasting_cost g t P C) (compares ∷ if_else (equals (local x) (number 0)) at_end lasts ∷ []) (there kind (pos 0) b)
      (there kind (pos 0) (if is_same o then stopped 2 None b else delay_by P C (length_of P C kind b)))
  compared kind b Less e h =
      runs_on g t 1 (1 + (passing_cost g t P C + 5)) (compares ∷ []) (if_else (equals (local x) (number 0)) at_end lasts ∷ []) _ (there kind (negsuc 0) b) _
      (runs_straight g t 1 _ _ _ (λ rest target gives below. simp (forms, e)))
      (when_else_runs g t (there kind (pos 0)) (passing_cost g t P C + 5) (equals (local x) (number 0)) at_end lasts (there kind (negsuc 0) b) b (delay_by P C (length_of P C kind b)) false (λ rest target gives. simp forms) (λ is. absurd cc) (λ is. runs_longer g t (passing_cost g t P C) _ _ _ _ (omega arith) (lasted kind (negsuc 0) b h)))
  compared kind b Greater e h =
      runs_on g t 1 (1 + (passing_cost g t P C + 5)) (compares ∷ []) (if_else (equals (local x) (number 0)) at_end lasts ∷ []) _ (there kind (pos 1) b) _
      (runs_straight g t 1 _ _ _ (λ rest target gives below. simp (forms, e)))
      (when_else_runs g t (there kind (pos 0)) (passing_cost g t P C + 5) (equals (local x) (number 0)) at_end lasts (there kind (pos 1) b) b (delay_by P C (length_of P C kind b)) false (λ rest target gives. simp forms) (λ is. absurd cc) (λ is. runs_longer g t (passing_cost g t P C) _ _ _ _ (omega arith) (lasted kind (pos 1) b h)))
  compared kind b Equal e h =
      runs_on g t 1 (1 + (passing_cost g t P C + 5)) (compares ∷ []) (if_else (equals (local x) (number 0)) at_end lasts ∷ []) _ (there kind (pos 0) b) _
      (runs_straight g t 1 _ _ _ (λ rest target gives below. simp (forms, e)))
      (
      when_else_runs g t (there kind (pos 0)) (passing_cost g t P C + 5) (equals (local x) (number 0)) at_end lasts (there kind (pos 0) b) (stopped 2 None b) b true (λ rest target gives. simp forms)
      (
      λ is.
      runs_longer g t 5 _ _ _ _ (omega arith)
      (runs_on g t 4 1 (stops 2 ∷ []) (Set x (number 0) ∷ []) _ _ _ (stop_here g t P C has own (k ∷ x ∷ []) (pos kind ∷ pos 0 ∷ []) b 2 (omega arith)) (cleared kind (pos 0) (stopped 2 None b)))
      )
      (λ is. absurd cc)
      )

  kind_is : (kind : ℕ) (b : Board64) (is : Bool) → nat_lt kind 1 ≡ is → Is g t (there kind (pos 0) b) (below_one (local k)) (int_of is)
  kind_is kind b is e rest target gives = simp (forms, e)

  elapse_runs : (b : Board64) → Going P C b → Runs g t (least_cost g t P + (1 + (stand_cost g t P + lasting_cost g t P C))) f_elapse.body.statements (there 0 (pos 0) b) (there (least P b).kind (pos 0) (elapse P C b))
  elapse_runs b h =
      let f = least P b in
      let going = row_going P C b (least P b).board (least_row P b) h in
      runs_on g t (least_cost g t P) (1 + (stand_cost g t P + lasting_cost g t P C)) (take_call k (codes "f_least") [] ∷ []) _ _ _ _
      (call_least g t P C has own (k ∷ x ∷ []) (pos 0 ∷ pos 0 ∷ []) b (Some k))
      (
      when_else_runs g t (there (least P b).kind (pos 0)) (stand_cost g t P + lasting_cost g t P C) (below_one (local k)) (call (codes "f_stand") [] ∷ []) (compares ∷ if_else (equals (local x) (number 0)) at_end lasts ∷ [])
      (there (least P b).kind (pos 0) (least P b).board) (stand P (least P b).board) (elapse_by P C (least P b).kind (least P b).board) (nat_lt (least P b).kind 1)
      (kind_is (least P b).kind (least P b).board _ refl)
      (λ is. runs_longer g t (stand_cost g t P) _ _ _ _ (omega arith) (call_stand g t P C has own (least P b).board (k ∷ x ∷ []) (pos (least P b).kind ∷ pos 0 ∷ [])))
      (λ is. runs_longer g t (lasting_cost g t P C) _ _ _ _ (omega arith) (compared (least P b).kind (least P b).board _ refl going))
      )

  pub call_elapse : (names : List Word) (values : List ℤ) (b : Board64) → Going P C b →
      Runs g t (elapse_cost g t P C) (call (codes "f_elapse") [] ∷ []) (core own names values b) (core own names values (elapse P C b))
  call_elapse names values b h =
      call_ends g t _ (core own names values b) (there (least P b).kind (pos 0) (elapse P C b)) f_elapse (codes "f_elapse") [] []
      (named-function (codes "elapse")) (ap (function_among (codes "f_elapse")) has.functions) (λ rest target gives. refl) refl (elapse_runs b h)
