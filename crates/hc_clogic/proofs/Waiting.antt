-- A thread in front of `while (test) { c_wait(k); more }` in a section: it waits again, or it goes on behind the loop.
use Rattle.std.specs.Prelude.{◌≡◌, ℕ, ◌+◌, nat_lt, Bool, true, false, List, [], ◌∷◌, ◌++◌, slice_get, ℤ, pos, Option, Some, None}
use Rattle.std.proofs.Common.{refl, ap, ◌∙◌}
use Rattle.hc_rational.specs.Words.{Rational}
use Rattle.hc_cast.specs.declared.expr.CExpr.{CExpr}
use Rattle.hc_cast.specs.declared.stmt.CStmt.{CStmt}
use Rattle.hc_cast.specs.declared.stmt.CStmt.TheVariants as a
use Rattle.hc_cast.specs.declared.program.CProgram.{CProgram}
use Rattle.hc_schedule.specs.declared.status.Status.TheVariants.{Woken}
use Rattle.hc_schedule.specs.Threads.{World, Code, Waits, Retakes, Takes, hold, answer, answer_at, retaking}
use Rattle.hc_schedule.specs.Solo.{then_solo, RunsAlone}
use Rattle.hc_cmach.specs.State.{Word, Frame, Own, Shared}
use Rattle.hc_cmach.specs.Line.{Line}
use Rattle.hc_cmach.specs.Expression.{is_true}
use Rattle.hc_cmach.specs.Machine.{CState}
use Rattle.hc_cmach.specs.Turn.{c_code}
use Rattle.hc_clogic.specs.Runs.{Lone, View, at, ahead, Leads, Runs, Is}
use Rattle.hc_clogic.proofs.Runs.{leads_on, runs_on}
use Rattle.hc_clogic.specs.Cuts.{wait_on}
use Rattle.hc_clogic.proofs.Blocks.{one_step}
use Rattle.hc_clogic.proofs.Cuts.{waits_at}
use Rattle.hc_clogic.proofs.Loops.{while_stops}
use Rattle.hc_clogic.proofs.Sections.{entering, held_view, come_alone, TakesMutex, SectionWithin, section_by, section_of}

-- a woken thread takes the mutex again where nobody has it
pub woken_retakes : {P S L F : Type 0} → (c : Code P S L F) (w : World P S) (t : ℕ) (p : P) → w.owner ≡ None →
    slice_get w.threads t ≡ Some (record { own = p; status = Woken }) → answer c w t ≡ Takes (Retakes p)
woken_retakes {S = S} {L = L} {F = F} c w t p free there =
    ap (answer_at c (hold w.owner t) w.shared t) there
    ∙ ap (λ (o : Option ℕ). retaking {S = S} {L = L} {F = F} (hold o t) p) free

module _ (g : CProgram) (t : ℕ) (test : CExpr) (k : CExpr) (more : List CStmt) where
  abbrev pub waiting : CStmt
  waiting = a.While test (wait_on k ∷ more)

  -- a test that holds leads to the wait
  to_wait : (v : View) (z : ℤ) (rest : List CStmt) (target : Option Word) (gives : Bool) (below : List Frame) → Is g t v test z → is_true z ≡ true →
      ahead g t (at v (waiting ∷ rest) target gives below) ≡ Some (at v (wait_on k ∷ (more ++ waiting ∷ rest)) target gives below)
  to_wait v z rest target gives below is on = simp (a.outs-While, is, on)

  -- from what stands behind the wait, through the test, to the wait again
  pub leads_to_wait : (n : ℕ) (v w : View) (z : ℤ) → Runs g t n more v w → Is g t w test z → is_true z ≡ true →
      (rest : List CStmt) (target : Option Word) (gives : Bool) (below : List Frame) →
      Leads g t (n + 1) (at v (more ++ waiting ∷ rest) target gives below) (at w (wait_on k ∷ (more ++ waiting ∷ rest)) target gives below)
  leads_to_wait n v w z h is on rest target gives below =
      leads_on g t n 1 _ _ _ (h.by (waiting ∷ rest) target gives below)
      (one_step g t _ _ (to_wait w z rest target gives below is on))

  -- or with a test that fails, to what comes behind the loop
  pub goes_past : (n : ℕ) (v w : View) (z : ℤ) → Runs g t n more v w → Is g t w test z → is_true z ≡ false → Runs g t (n + 1) (more ++ waiting ∷ []) v w
  goes_past n v w z h is off = runs_on g t n 1 more (waiting ∷ []) v w w h (while_stops g t test (wait_on k ∷ more) w z is off)

  module _ (a : CState) (free : a.world.owner ≡ None) (target : Option Word) (gives : Bool) (below : List Frame) (rest : List CStmt) where
    -- the thread behind its wait
    abbrev pub behind_wait : View → Own
    behind_wait v = (at v (more ++ waiting ∷ rest) target gives below).own

    -- and at it
    abbrev pub before_wait : View → Lone
    before_wait v = at v (wait_on k ∷ (more ++ waiting ∷ rest)) target gives below

    -- So a woken thread comes back to its wait in n + 1 steps at most: a section that leaves it waiting as it was.
    pub waits_again :
        (n : ℕ) (row : List Rational) (names : List Word) (values : List ℤ) (m : Shared) (row' : List Rational) (values' : List ℤ) (lines : List Line)
        (wakes : List ℕ) (z : ℤ) (on : ℕ) →
        TakesMutex g a t (behind_wait (entering a row names values)) →
        Runs g t n more (entering a row names values) (held_view m row' names values' lines wakes) →
        Is g t (held_view m row' names values' lines wakes) test z → is_true z ≡ true →
        Is g t (held_view m row' names values' lines wakes) k (pos on) → nat_lt on 64 ≡ true →
        SectionWithin g a t (n + 1) (behind_wait (entering a row names values))
        (come_alone m (before_wait (held_view m row' names values' lines wakes)))
        (Waits on (behind_wait (held_view m row' names values' lines wakes)))
    waits_again n row names values m row' values' lines wakes z on takes h is true_there is_on low =
        section_of g a t (behind_wait (entering a row names values)) free takes (n + 1)
        (come_alone m (before_wait (held_view m row' names values' lines wakes)))
        (Waits on (behind_wait (held_view m row' names values' lines wakes)))
        (leads_to_wait n (entering a row names values) (held_view m row' names values' lines wakes) z h is true_there rest target gives below)
        (waits_at g t (held_view m row' names values' lines wakes) target gives below (more ++ waiting ∷ rest) k on is_on low)
        refl

-- where nothing stands behind the wait, it is one step, and nothing is changed
module _ (g : CProgram) (t : ℕ) (test k : CExpr) (a : CState) (free : a.world.owner ≡ None) (target : Option Word) (gives : Bool) (below : List Frame) (rest : List CStmt) where
  pub waits_still : (row : List Rational) (names : List Word) (values : List ℤ) (z : ℤ) (on : ℕ) →
      TakesMutex g a t (behind_wait g t test k [] a free target gives below rest (entering a row names values)) →
      Is g t (entering a row names values) test z → is_true z ≡ true → Is g t (entering a row names values) k (pos on) → nat_lt on 64 ≡ true →
      RunsAlone (c_code g) a t 1 (behind_wait g t test k [] a free target gives below rest (entering a row names values))
      (come_alone a.world.shared (before_wait g t test k [] a free target gives below rest (entering a row names values)))
      (Waits on (behind_wait g t test k [] a free target gives below rest (entering a row names values)))
  waits_still row names values z on takes is true_there is_on low =
      let v = entering a row names values in
      section_by g a t (behind_wait g t test k [] a free target gives below rest v) free takes 1
      (come_alone a.world.shared (before_wait g t test k [] a free target gives below rest v))
      (Waits on (behind_wait g t test k [] a free target gives below rest v))
      (ap (then_solo (λ (x : Lone). Some x)) (to_wait g t test k [] v z rest target gives below is true_there))
      (waits_at g t v target gives below (waiting g t test k [] ∷ rest) k on is_on low)
      refl
