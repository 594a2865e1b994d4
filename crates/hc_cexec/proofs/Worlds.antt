-- Threads in place of those of the definition: one of them, and what changes one or all.
use Rattle.std.proofs.Common.{◌≡◌, refl, ap, subst, ℕ, zero, suc, List, [], ◌∷◌, map, slice_get, slice_set, Some, None}
use Rattle.hc_ccode.specs.declared.code.Entry.{Entry}
use Rattle.hc_ccode.specs.Stages.{Stages}
use Rattle.hc_schedule.specs.Threads as world
use Rattle.hc_cmach.specs.State.{Own}
use Rattle.hc_cmach.specs.Turn as turn
use Rattle.hc_cexec.specs.declared.thread.Thread.{Thread}
use Rattle.hc_cexec.specs.Applied.{row_at, stirred_in, is_waiting}
use Rattle.hc_cexec.specs.Stands.{ThreadIs, ThreadsAre}

module _ (es : List Entry) (t : Stages) where
  -- thread q of the definition
  pub record HasThread (ws : List (world.Thread Own)) (q : ℕ) (th : Thread) : Type 0 where
    pub thread : world.Thread Own
    pub stands : slice_get ws q ≡ Some thread
    pub is : ThreadIs es t th thread

  pub get_some : (ths : List Thread) (ws : List (world.Thread Own)) (q : ℕ) (th : Thread) → ThreadsAre es t ths ws → slice_get ths q ≡ Some th → HasThread ws q th
  get_some [] [] q th all e = absurd (cc)
  get_some [] (w ∷ ws) q th all e = absurd all
  get_some (x ∷ xs) [] q th all e = absurd all
  get_some (x ∷ xs) (w ∷ ws) zero th all e =
      let same : x ≡ th = cc in record { thread = w; stands = refl; is = subst (λ (y : Thread). ThreadIs es t y w) same all.0 }
  get_some (x ∷ xs) (w ∷ ws) (suc q) th all e =
      let rest = get_some xs ws q th all.1 e in record { thread = rest.thread; stands = rest.stands; is = rest.is }

  pub get_none : (ths : List Thread) (ws : List (world.Thread Own)) (q : ℕ) → ThreadsAre es t ths ws → slice_get ths q ≡ None → slice_get ws q ≡ None
  get_none [] [] q all e = refl
  get_none [] (w ∷ ws) q all e = absurd all
  get_none (x ∷ xs) [] q all e = absurd all
  get_none (x ∷ xs) (w ∷ ws) zero all e = absurd (cc)
  get_none (x ∷ xs) (w ∷ ws) (suc q) all e = get_none xs ws q all.1 e

  pub set_both : (ths : List Thread) (ws : List (world.Thread Own)) (q : ℕ) (th : Thread) (w : world.Thread Own) → ThreadIs es t th w → ThreadsAre es t ths ws →
      ThreadsAre es t (slice_set ths q th) (slice_set ws q w)
  set_both [] [] q th w is all = tt
  set_both [] (y ∷ ys) q th w is all = absurd all
  set_both (x ∷ xs) [] q th w is all = absurd all
  set_both (x ∷ xs) (y ∷ ys) zero th w is all = (is, all.1)
  set_both (x ∷ xs) (y ∷ ys) (suc q) th w is all = (all.0, set_both xs ys q th w is all.1)

  stir_both : (k : ℕ) (th : Thread) (w : world.Thread Own) → ThreadIs es t th w → ThreadIs es t (stirred_in k th) (world.stirred_thread k w)
  stir_both k th w is =
      record { own = record { row = is.own.row; stack = is.own.stack; rooms = is.own.rooms }; status = ap (world.stirred k) is.status }

  pub map_both : (k : ℕ) (ths : List Thread) (ws : List (world.Thread Own)) → ThreadsAre es t ths ws →
      ThreadsAre es t (map (stirred_in k) ths) (map (world.stirred_thread k) ws)
  map_both k [] [] all = tt
  map_both k [] (y ∷ ys) all = absurd all
  map_both k (x ∷ xs) [] all = absurd all
  map_both k (x ∷ xs) (y ∷ ys) all = (stir_both k x y all.0, map_both k xs ys all.1)

  pub row_same : (ths : List Thread) (ws : List (world.Thread Own)) (q : ℕ) → ThreadsAre es t ths ws → row_at (slice_get ths q) ≡ turn.row_at (slice_get ws q)
  row_same [] [] q all = refl
  row_same [] (y ∷ ys) q all = absurd all
  row_same (x ∷ xs) [] q all = absurd all
  row_same (x ∷ xs) (y ∷ ys) zero all = all.0.own.row
  row_same (x ∷ xs) (y ∷ ys) (suc q) all = row_same xs ys q all.1

  pub waiting_same : (ths : List Thread) (ws : List (world.Thread Own)) (q : ℕ) → ThreadsAre es t ths ws → is_waiting (slice_get ths q) ≡ world.is_waiting (slice_get ws q)
  waiting_same [] [] q all = refl
  waiting_same [] (y ∷ ys) q all = absurd all
  waiting_same (x ∷ xs) [] q all = absurd all
  waiting_same (x ∷ xs) (y ∷ ys) zero all = ap world.waits all.0.status
  waiting_same (x ∷ xs) (y ∷ ys) (suc q) all = waiting_same xs ys q all.1
