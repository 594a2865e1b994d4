-- What was printed before makes no difference to a run: its lines come behind.
use Rattle.std.specs.Prelude.{◌≡◌, ℕ, zero, suc, List, [], ◌∷◌, ◌++◌, Option, Some, None}
use Rattle.std.proofs.Common.{refl, ap, ◌∙◌, append_assoc}
use Rattle.hc_cast.specs.declared.stmt.CStmt.{CStmt}
use Rattle.hc_cast.specs.declared.program.CProgram.{CProgram}
use Rattle.hc_schedule.specs.Threads.{Act, Goes, Locks, Unlocks, Waits, Wakes, Works, Prints, Retakes, Returned, Fails, Does}
use Rattle.hc_schedule.specs.Solo.{then_solo}
use Rattle.hc_cmach.specs.State.{Own, Shared}
use Rattle.hc_cmach.specs.Line.{Line}
use Rattle.hc_cmach.specs.Primitive.{CTurn}
use Rattle.hc_cmach.specs.Turn.{c_code}
use Rattle.hc_clogic.specs.Runs.{Lone, View, at, ahead_inside, ahead_act, ahead_turn, ahead, aheads, Leads, Runs}

abbrev pub lone_behind : List Line → Lone → Lone
lone_behind ls x = record x { lines = ls ++ x.lines }

abbrev maybe_behind : List Line → Option Lone → Option Lone
maybe_behind ls None = None
maybe_behind ls (Some x) = Some (lone_behind ls x)

abbrev pub view_behind : List Line → View → View
view_behind ls v = record v { lines = ls ++ v.lines }

abbrev lone : Own → Option Shared → List Line → List ℕ → Lone
lone own shared lines wakes = record { own = own; shared = shared; lines = lines; wakes = wakes }

module _ (before : List Line) where
  inside_behind : (own : Own) (lines : List Line) (wakes : List ℕ) (a : Act Own Shared Line) (s : Option Shared) →
      ahead_inside (lone own s (before ++ lines) wakes) a s ≡ maybe_behind before (ahead_inside (lone own s lines wakes) a s)
  inside_behind own lines wakes a None = refl
  inside_behind own lines wakes (Works o m) (Some s) = refl
  inside_behind own lines wakes (Prints o l) (Some s) = ap (λ (ls : List Line). Some (lone o (Some s) ls wakes)) (append_assoc before lines (l ∷ []))
  inside_behind own lines wakes (Wakes k o) (Some s) = refl
  inside_behind own lines wakes (Goes o) (Some s) = refl
  inside_behind own lines wakes (Locks o) (Some s) = refl
  inside_behind own lines wakes (Unlocks o) (Some s) = refl
  inside_behind own lines wakes (Waits k o) (Some s) = refl
  inside_behind own lines wakes (Retakes o) (Some s) = refl

  act_behind : (x : Lone) (a : Act Own Shared Line) → ahead_act (lone_behind before x) a ≡ maybe_behind before (ahead_act x a)
  act_behind x (Goes o) = refl
  act_behind x (Locks o) = inside_behind x.own x.lines x.wakes (Locks o) x.shared
  act_behind x (Unlocks o) = inside_behind x.own x.lines x.wakes (Unlocks o) x.shared
  act_behind x (Waits k o) = inside_behind x.own x.lines x.wakes (Waits k o) x.shared
  act_behind x (Retakes o) = inside_behind x.own x.lines x.wakes (Retakes o) x.shared
  act_behind x (Wakes k o) = inside_behind x.own x.lines x.wakes (Wakes k o) x.shared
  act_behind x (Works o m) = inside_behind x.own x.lines x.wakes (Works o m) x.shared
  act_behind x (Prints o l) = inside_behind x.own x.lines x.wakes (Prints o l) x.shared

  turn_behind : (x : Lone) (c : CTurn) → ahead_turn (lone_behind before x) c ≡ maybe_behind before (ahead_turn x c)
  turn_behind x Returned = refl
  turn_behind x (Fails f) = refl
  turn_behind x (Does a) = act_behind x a

  module _ (g : CProgram) (t : ℕ) where
    step_behind : (x : Lone) → ahead g t (lone_behind before x) ≡ maybe_behind before (ahead g t x)
    step_behind x = turn_behind x ((c_code g).turn t x.own x.shared)

    next_behind : (n : ℕ) → ((x : Lone) → aheads g t n (lone_behind before x) ≡ maybe_behind before (aheads g t n x)) → (o : Option Lone) →
        then_solo (aheads g t n) (maybe_behind before o) ≡ maybe_behind before (then_solo (aheads g t n) o)
    next_behind n h None = refl
    next_behind n h (Some x) = h x

    steps_behind : (n : ℕ) (x : Lone) → aheads g t n (lone_behind before x) ≡ maybe_behind before (aheads g t n x)
    steps_behind zero x = refl
    steps_behind (suc n) x = ap (then_solo (aheads g t n)) (step_behind x) ∙ next_behind n (steps_behind n) (ahead g t x)

    -- behind these lines the statements print what they print
    pub runs_behind : (n : ℕ) (ss : List CStmt) (v w : View) → Runs g t n ss v w → Runs g t n ss (view_behind before v) (view_behind before w)
    runs_behind n ss v w h = record {
      by =
          λ rest target gives below.
          (
          let r : Leads g t n (at v (ss ++ rest) target gives below) (at w rest target gives below) = h.by rest target gives below in
          record {
            steps = r.steps;
            few = r.few;
            comes = steps_behind r.steps (at v (ss ++ rest) target gives below) ∙ ap (maybe_behind before) r.comes;
          }
          );
    }
