-- A call of a primitive does to a thread what the table says that it does to its view.
use Rattle.std.specs.Prelude.{◌≡◌, ℕ, Bool, true, false, ◌&&◌, length, if◌then◌else◌, List, [], ◌∷◌, ℤ, pos, unsigned_abs, Option, Some, None}
use Rattle.std.proofs.Common.{refl}
use Rattle.std.specs.Int.{int_signum}
use Rattle.hc_rational.specs.Words.{Rational, ratio, rank, neg_ℚ, ◌+ℚ◌, ◌-ℚ◌, ◌*ℚ◌, ◌/ℚ◌, fits, is_zero}
use Rattle.hc_cast.specs.declared.primitive.Primitive.{Primitive}
use Rattle.hc_cast.specs.declared.primitive.Primitive.TheVariants.{FrSet, FrMove, FrAdd, FrSub, FrMul, FrDiv, FrNeg, FrCmp, FrSign, OutDelay, OutComm, OutLog, OutEnd, MLock, MUnlock, CWait, CWake}
use Rattle.hc_cast.specs.declared.stmt.CStmt.{CStmt}
use Rattle.hc_cast.specs.declared.program.CProgram.{CProgram}
use Rattle.hc_cmach.specs.declared.kind.Kind.{Kind}
use Rattle.hc_cmach.specs.declared.kind.Kind.TheVariants.{Unlocked}
use Rattle.hc_schedule.specs.Threads.{Does, Locks, Unlocks, Waits, Wakes}
use Rattle.hc_cmach.specs.State.{Word, Frame, Shared}
use Rattle.hc_cmach.specs.Line.{Line, Delays, Meets, Logs, Ends}
use Rattle.hc_cmach.specs.Expression.{is_index}
use Rattle.hc_cmach.specs.Primitive.{CTurn, Spot, Reach, Its, Common, Beyond, reach, register_in, are_places, rank_number, is_who, who_of, is_literal, behind, results, puts, moved, computed, divided, answered, printed, or_index, primitive_turn}
use Rattle.hc_clogic.specs.Runs.{Lone, View, at, caller, ahead_turn}
use Rattle.hc_clogic.specs.Views.{given, puts_in, moves_in, computes_in, divides_in, answers_in, prints_in, wakes_in, where_it_is, primitive_view}

-- a thread that comes to a view, with these statements to do
abbrev pub come_to : List CStmt → Option Word → Bool → List Frame → Option View → Option Lone
come_to rest into gives below None = None
come_to rest into gives below (Some w) = Some (at w rest into gives below)

module _ (g : CProgram) (t : ℕ) (row : List Rational) (names : List Word) (values : List ℤ) (lines : List Line) (wakes : List ℕ)
    (todo rest : List CStmt) (into : Option Word) (gives : Bool) (below : List Frame) where
  abbrev view : Option Shared → View
  view seen = record { row = row; shared = seen; names = names; values = values; lines = lines; wakes = wakes }

  abbrev stands : Option Shared → Spot
  stands seen = record { thread = t; row = row; seen = seen; frame = caller (view seen) todo into gives; below = below; rest = rest }

  -- a step of the thread, and what becomes of its view
  pub record Agrees (seen : Option Shared) (u : CTurn) (w : Option View) : Type 0 where
    pub by : ahead_turn (at (view seen) todo into gives below) u ≡ come_to rest into gives below w

  or_agrees : (seen : Option Shared) (b : Bool) (u : CTurn) (w : Option View) → Agrees seen u w → Agrees seen (or_index b u) (where_it_is b w)
  or_agrees seen true u w h = h
  or_agrees seen false u w h = record { by = refl }

  choice_agrees : (seen : Option Shared) (b : Bool) (u u' : CTurn) (w w' : Option View) → Agrees seen u w → Agrees seen u' w' →
      Agrees seen (if b then u else u') (if b then w else w')
  choice_agrees seen true u u' w w' h k = h
  choice_agrees seen false u u' w w' h k = k

  results_agrees : (seen : Option Shared) (target : Option Word) (z : ℤ) → Agrees seen (results (stands seen) target z) (Some (given (view seen) target z))
  results_agrees seen None z = record { by = refl }
  results_agrees seen (Some x) z = record { by = refl }

  puts_agrees : (seen : Option Shared) (target : Option Word) (to : Reach) (d : ℕ) (x : Rational) (z : ℤ) →
      Agrees seen (puts (stands seen) target to d x z) (puts_in (view seen) target to d x z)
  puts_agrees seen None (Its row) d x z = record { by = refl }
  puts_agrees seen (Some y) (Its row) d x z = record { by = refl }
  puts_agrees None target (Common m) d x z = record { by = refl }
  puts_agrees (Some s) None (Common m) d x z = record { by = refl }
  puts_agrees (Some s) (Some y) (Common m) d x z = record { by = refl }
  puts_agrees seen target (Beyond k) d x z = record { by = refl }

  beyond_agrees : (seen : Option Shared) (target : Option Word) (k : Kind) (d : ℕ) (from : Reach) (a : ℕ) →
      Agrees seen (moved (stands seen) target (Beyond k) d from a) None
  beyond_agrees seen target Unlocked d from a = record { by = refl }
  beyond_agrees seen target k d (Its r) a = record { by = refl }
  beyond_agrees seen target k d (Common m) a = record { by = refl }
  beyond_agrees seen target k d (Beyond j) a = record { by = refl }

  moves_agrees : (seen : Option Shared) (target : Option Word) (to : Reach) (d : ℕ) (from : Reach) (a : ℕ) →
      Agrees seen (moved (stands seen) target to d from a) (moves_in (view seen) target to d from a)
  moves_agrees seen target (Beyond k) d from a = beyond_agrees seen target k d from a
  moves_agrees seen target (Its r) d (Beyond k) a = record { by = refl }
  moves_agrees seen target (Its r) d (Its q) a = puts_agrees seen target (Its r) d (register_in (Its q) a) (pos 0)
  moves_agrees seen target (Its r) d (Common m) a = puts_agrees seen target (Its r) d (register_in (Common m) a) (pos 0)
  moves_agrees seen target (Common s) d (Beyond k) a = record { by = refl }
  moves_agrees seen target (Common s) d (Its q) a = puts_agrees seen target (Common s) d (register_in (Its q) a) (pos 0)
  moves_agrees seen target (Common s) d (Common m) a = puts_agrees seen target (Common s) d (register_in (Common m) a) (pos 0)

  computes_agrees : (seen : Option Shared) (target : Option Word) (to : Reach) (d : ℕ) (x : Rational) →
      Agrees seen (computed (stands seen) target to d x) (computes_in (view seen) target to d x)
  computes_agrees seen target (Beyond k) d x = record { by = refl }
  computes_agrees seen target (Its r) d x =
      choice_agrees seen (fits x) _ _ _ _ (puts_agrees seen target (Its r) d x (pos 1)) (results_agrees seen target (pos 0))
  computes_agrees seen target (Common m) d x =
      choice_agrees seen (fits x) _ _ _ _ (puts_agrees seen target (Common m) d x (pos 1)) (results_agrees seen target (pos 0))

  divides_agrees : (seen : Option Shared) (target : Option Word) (to : Reach) (r d a b : ℕ) →
      Agrees seen (divided (stands seen) target to r d a b) (divides_in (view seen) target to d a b)
  divides_agrees seen target (Beyond k) r d a b = record { by = refl }
  divides_agrees seen target (Its w) r d a b =
      choice_agrees seen (is_zero (register_in (Its w) b)) _ _ _ _ (record { by = refl })
      (computes_agrees seen target (Its w) d (register_in (Its w) a /ℚ register_in (Its w) b))
  divides_agrees seen target (Common m) r d a b =
      choice_agrees seen (is_zero (register_in (Common m) b)) _ _ _ _ (record { by = refl })
      (computes_agrees seen target (Common m) d (register_in (Common m) a /ℚ register_in (Common m) b))

  answers_agrees : (seen : Option Shared) (target : Option Word) (from : Reach) (z : ℤ) →
      Agrees seen (answered (stands seen) target from z) (answers_in (view seen) target from z)
  answers_agrees seen target (Beyond k) z = record { by = refl }
  answers_agrees seen target (Its r) z = results_agrees seen target z
  answers_agrees seen target (Common m) z = results_agrees seen target z

  prints_agrees : (seen : Option Shared) (target : Option Word) (from : Reach) (l : Line) →
      Agrees seen (printed (stands seen) target from seen l) (prints_in (view seen) target from seen l)
  prints_agrees None target from l = record { by = refl }
  prints_agrees (Some s) target (Beyond k) l = record { by = refl }
  prints_agrees (Some s) None (Its r) l = record { by = refl }
  prints_agrees (Some s) (Some x) (Its r) l = record { by = refl }
  prints_agrees (Some s) None (Common m) l = record { by = refl }
  prints_agrees (Some s) (Some x) (Common m) l = record { by = refl }

  wakes_agrees : (seen : Option Shared) (target : Option Word) (k : ℕ) →
      Agrees seen (Does (Wakes k (behind (stands seen) target (pos 0)))) (wakes_in (view seen) target k seen)
  wakes_agrees None target k = record { by = refl }
  wakes_agrees (Some s) None k = record { by = refl }
  wakes_agrees (Some s) (Some x) k = record { by = refl }

  -- the mutex is neither taken nor given up by a view
  locks_agrees : (seen : Option Shared) (target : Option Word) → Agrees seen (Does (Locks (behind (stands seen) target (pos 0)))) None
  locks_agrees None target = record { by = refl }
  locks_agrees (Some s) target = record { by = refl }

  unlocks_agrees : (seen : Option Shared) (target : Option Word) → Agrees seen (Does (Unlocks (behind (stands seen) target (pos 0)))) None
  unlocks_agrees None target = record { by = refl }
  unlocks_agrees (Some s) target = record { by = refl }

  waits_agrees : (seen : Option Shared) (target : Option Word) (k : ℕ) → Agrees seen (Does (Waits k (behind (stands seen) target (pos 0)))) None
  waits_agrees None target k = record { by = refl }
  waits_agrees (Some s) target k = record { by = refl }

  abbrev near : Option Shared → ℤ → Reach
  near seen r = reach (stands seen) (unsigned_abs r)

  abbrev value : Option Shared → ℤ → ℤ → Rational
  value seen r a = register_in (near seen r) (unsigned_abs a)

  fails_agrees : (seen : Option Shared) (b : Bool) (u : CTurn) → Agrees seen u None → Agrees seen (or_index b u) None
  fails_agrees seen true u h = h
  fails_agrees seen false u h = record { by = refl }

  pub agrees : (seen : Option Shared) (target : Option Word) (p : Primitive) (zs : List ℤ) →
      Agrees seen (primitive_turn g (stands seen) target p zs) (primitive_view g t (view seen) target p zs)
  agrees seen target FrSet (r ∷ d ∷ n ∷ m ∷ []) =
      or_agrees seen (are_places r (d ∷ [])) _ _ (
      choice_agrees seen (is_literal n m) _ _ _ _ (puts_agrees seen target (near seen r) (unsigned_abs d) (ratio n m) (pos 0)) (record { by = refl })
      )
  agrees seen target FrMove (q ∷ d ∷ r ∷ a ∷ []) =
      or_agrees seen (are_places q (d ∷ []) && are_places r (a ∷ [])) _ _
      (moves_agrees seen target (near seen q) (unsigned_abs d) (near seen r) (unsigned_abs a))
  agrees seen target FrAdd (r ∷ d ∷ a ∷ b ∷ []) =
      or_agrees seen (are_places r (d ∷ a ∷ b ∷ [])) _ _
      (computes_agrees seen target (near seen r) (unsigned_abs d) (value seen r a +ℚ value seen r b))
  agrees seen target FrSub (r ∷ d ∷ a ∷ b ∷ []) =
      or_agrees seen (are_places r (d ∷ a ∷ b ∷ [])) _ _
      (computes_agrees seen target (near seen r) (unsigned_abs d) (value seen r a -ℚ value seen r b))
  agrees seen target FrMul (r ∷ d ∷ a ∷ b ∷ []) =
      or_agrees seen (are_places r (d ∷ a ∷ b ∷ [])) _ _
      (computes_agrees seen target (near seen r) (unsigned_abs d) (value seen r a *ℚ value seen r b))
  agrees seen target FrDiv (r ∷ d ∷ a ∷ b ∷ []) =
      or_agrees seen (are_places r (d ∷ a ∷ b ∷ [])) _ _
      (divides_agrees seen target (near seen r) (unsigned_abs r) (unsigned_abs d) (unsigned_abs a) (unsigned_abs b))
  agrees seen target FrNeg (r ∷ d ∷ a ∷ []) =
      or_agrees seen (are_places r (d ∷ a ∷ [])) _ _ (puts_agrees seen target (near seen r) (unsigned_abs d) (neg_ℚ (value seen r a)) (pos 0))
  agrees seen target FrCmp (r ∷ a ∷ b ∷ []) =
      or_agrees seen (are_places r (a ∷ b ∷ [])) _ _
      (answers_agrees seen target (near seen r) (rank_number (rank (value seen r a) (value seen r b))))
  agrees seen target FrSign (r ∷ a ∷ []) =
      or_agrees seen (are_places r (a ∷ [])) _ _ (answers_agrees seen target (near seen r) (int_signum (value seen r a).num))
  agrees seen target OutDelay (r ∷ a ∷ b ∷ []) =
      or_agrees seen (are_places r (a ∷ b ∷ [])) _ _ (prints_agrees seen target (near seen r) (Delays (value seen r a) (value seen r b)))
  agrees seen target OutComm (r ∷ a ∷ c ∷ p ∷ q ∷ b ∷ []) =
      or_agrees seen
      (are_places r (a ∷ b ∷ []) && is_index c (length g.channels) && is_index p (length g.processes) && is_index q (length g.processes))
      _ _
      (prints_agrees seen target (near seen r) (Meets (value seen r a) (unsigned_abs c) (unsigned_abs p) (unsigned_abs q) (value seen r b)))
  agrees seen target OutLog (r ∷ a ∷ p ∷ b ∷ []) =
      or_agrees seen (are_places r (a ∷ b ∷ []) && is_index p (length g.processes)) _ _
      (prints_agrees seen target (near seen r) (Logs (value seen r a) (unsigned_abs p) (value seen r b)))
  agrees seen target OutEnd (k ∷ r ∷ a ∷ w ∷ []) =
      or_agrees seen (is_index k 5 && are_places r (a ∷ []) && is_who w (length g.processes)) _ _
      (prints_agrees seen target (near seen r) (Ends (unsigned_abs k) (value seen r a) (who_of w)))
  agrees seen target MLock [] = locks_agrees seen target
  agrees seen target MUnlock [] = unlocks_agrees seen target
  agrees seen target CWait (k ∷ []) = fails_agrees seen (is_index k 64) _ (waits_agrees seen target (unsigned_abs k))
  agrees seen target CWake (k ∷ []) = or_agrees seen (is_index k 64) _ _ (wakes_agrees seen target (unsigned_abs k))
  agrees seen target p zs = record { by = refl }
