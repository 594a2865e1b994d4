-- How the schedule of a seed is left, and how many steps move under it.
use Rattle.std.proofs.Common.{◌≡◌, ◌≤◌, ◌⊎◌, ◌∙◌, inl, inr, refl, sym, ap, subst, false, ℕ, zero, suc, ◌+◌, List, [], ◌∷◌, ◌++◌, length, take, slice_get, Option, Some, None, arith, Result, Ok, Err, MatchResult}
use Rattle.std.proofs.Math.Nat.{min-eq_left}
use Rattle.hc_rational.specs.Words.{Rational}
use Rattle.hc_cast.specs.declared.program.CProgram.{CProgram}
use Rattle.hc_schedule.specs.Sections.{Item, Step, Wake, IsSafe, run}
use Rattle.hc_schedule.specs.Threads.{World, Blocked, Over, Undefined, Takes, answer}
use Rattle.hc_schedule.specs.Schedule.{after, is_fault, moves, undefined as is_undefined}
use Rattle.hc_cmach.specs.declared.exec_end.ExecEnd.{ExecEnd}
use Rattle.hc_cmach.specs.declared.exec_end.ExecEnd.TheVariants as ended
use Rattle.hc_cmach.specs.declared.kind.Kind.{Kind}
use Rattle.hc_cmach.specs.declared.moved.Moved.TheVariants as said
use Rattle.hc_cmach.specs.State.{Own, Shared}
use Rattle.hc_cmach.specs.Laws.{LinesNameTheirThread}
use Rattle.hc_cmach.specs.Line.{Line, Delays, Meets, Logs, Ends, first_end}
use Rattle.hc_cmach.specs.Machine.{CState, CAnswer, opening, stepped, step_said, said_by, kind_by, printed_by}
use Rattle.hc_cmach.specs.Seeded.{Performed, item_kind, seeded_from, seeded, generator, performed_at, performed_from, performed}
use Rattle.hc_cmach.specs.Turn.{c_code}
use Rattle.hc_cmach.proofs.Stepping.{performed_is_scheduled}
use Rattle.hc_cexec.specs.Stands.{counted}
use Rattle.hc_words.specs.declared.settings.ExecutionRequest.{ExecutionRequest}
use Rattle.hc_cmd.specs.Reply.{Reply}
use Rattle.hc_cmd.specs.Executed.{end_text, moved_text, executed}
use Rattle.hc_cmd.specs.Laws.{IsLeft, at_end, used_up, undefined, TellsSchedule}

-- the state after the first j items
abbrev behind : CProgram → CState → List Item → ℕ → CState
behind g s w j = run (moves (c_code g)) s (take j w)

-- ---- how many steps move

module _ (g : CProgram) where
  after_once : (s : CState) (t : ℕ) (a : CAnswer) → (after s t a).moved ≤ s.moved + 1
  after_once s t (Takes a) = omega arith
  after_once s t Blocked = omega arith
  after_once s t Over = omega arith
  after_once s t (Undefined f) = omega arith

  moved_once : (s : CState) (i : Item) → (stepped g s i).moved ≤ s.moved + 1
  moved_once s (Step t) = after_once s t (answer (c_code g) s.world t)
  moved_once s (Wake t) = omega arith

  moved_within : (s : CState) (k : ℕ) (w : List Item) → (behind g s w k).moved ≤ s.moved + k
  moved_within s zero w = omega arith
  moved_within s (suc k) [] = omega arith
  moved_within s (suc k) (i ∷ w) = omega (arith, moved_once s i, moved_within (stepped g s i) k w)

  -- no more steps move than there are items
  moved_few : (seed steps : ℕ) → (performed g seed steps).state.moved ≤ steps
  moved_few seed steps =
      let h = performed_is_scheduled g seed steps in
      omega (arith, moved_within (opening g) h.0 (seeded g seed steps), h.1, ap (λ (s : CState). s.moved) h.2)

  -- so their count of 64 bits is their number
  pub moved_counted : (asked : ExecutionRequest) →
      counted (performed g asked.seed asked.steps).state.moved ≡ (performed g asked.seed asked.steps).state.moved
  moved_counted asked = min-eq_left (omega (arith, moved_few asked.seed asked.steps, asked.in_range.1))

-- ---- what is printed last

-- behind lines without an end line
first_end_behind : (ls rest : List (ℕ × Line)) → first_end ls ≡ None → first_end (ls ++ rest) ≡ first_end rest
first_end_behind [] rest none = refl
first_end_behind ((t, Delays clock by) ∷ ls) rest none = first_end_behind ls rest none
first_end_behind ((t, Meets clock c p q v) ∷ ls) rest none = first_end_behind ls rest none
first_end_behind ((t, Logs clock p v) ∷ ls) rest none = first_end_behind ls rest none
first_end_behind ((t, Ends kind clock who) ∷ ls) rest none = cc none

-- a line that is an end line of this kind stands behind these lines
record Closes (before after : List (ℕ × Line)) (kind : ℕ) : Type 0 where
  thread : ℕ
  clock : Rational
  who : Option ℕ
  lines : after ≡ before ++ (thread, Ends kind clock who) ∷ []

closes_by : (before after : List (ℕ × Line)) (kind t : ℕ) (l : Line) → after ≡ before ++ (t, l) ∷ [] → first_end ((t, l) ∷ []) ≡ Some kind → Closes before after kind
closes_by before after kind t (Delays clock by) is ends = cc ends
closes_by before after kind t (Meets clock c p q v) is ends = cc ends
closes_by before after kind t (Logs clock p v) is ends = cc ends
closes_by before after kind t (Ends other clock who) is ends =
    let same : other ≡ kind = cc ends in
    record { thread = t; clock = clock; who = who; lines = is ∙ ap (λ (k : ℕ). before ++ (t, Ends k clock who) ∷ []) same }

closes : (before after : List (ℕ × Line)) (i : Item) (kind : ℕ) →
    (after ≡ before) ⊎ ((t : ℕ) × (l : Line) × (i ≡ Step t) × (after ≡ before ++ (t, l) ∷ [])) →
    first_end before ≡ None → first_end after ≡ Some kind → Closes before after kind
closes before after i kind (inl same) none ends = let clash : None ≡ Some kind = sym none ∙ ap first_end (sym same) ∙ ends in cc clash
closes before after i kind (inr (t, l, is, lines)) none ends =
    closes_by before after kind t l lines (sym (first_end_behind before ((t, l) ∷ []) none) ∙ ap first_end (sym lines) ∙ ends)

-- ---- how items are left

undefined_said : (w : World Own Shared) (a : CAnswer) (kind : Kind) → kind_by w a ≡ Some kind → said_by w a ≡ said.Undefined kind
undefined_said w (Undefined f) kind e = cc e
undefined_said w Blocked kind e = cc e
undefined_said w Over kind e = cc e
undefined_said w (Takes a) kind e = cc e

not_fault : (w : World Own Shared) (a : CAnswer) → kind_by w a ≡ None → is_fault a ≡ false
not_fault w (Undefined f) e = cc e
not_fault w Blocked e = refl
not_fault w Over e = refl
not_fault w (Takes a) e = refl

-- items that are counted from k on are left behind the first j of them
data IsLeftAt (g : CProgram) (s : CState) (k : ℕ) (w : List Item) (j : ℕ) (end : ExecEnd) : Type 0 where
  closed : (lines : List (ℕ × Line)) (kind : ℕ) → Closes lines (behind g s w j).lines kind → first_end lines ≡ None → end ≡ ended.Ended kind →
      IsLeftAt g s k w j end
  used : j ≡ length w → first_end (behind g s w j).lines ≡ None → end ≡ ended.UsedUp → IsLeftAt g s k w j end
  stuck : (thread : ℕ) (kind : Kind) → slice_get w j ≡ Some (Step thread) → step_said g (behind g s w j) thread ≡ said.Undefined kind →
      first_end (behind g s w j).lines ≡ None → end ≡ ended.Undefined kind (suc (k + j)) → IsLeftAt g s k w j end

record Leaves (g : CProgram) (s : CState) (k : ℕ) (w : List Item) (p : Performed) : Type 0 where
  items : ℕ
  within : items ≤ length w
  safe : IsSafe (moves (c_code g)) s (take items w)
  state : p.state ≡ behind g s w items
  left : IsLeftAt g s k w items p.end

module _ (g : CProgram) (prints : LinesNameTheirThread) where
  is_defined : (s : CState) (i : Item) → item_kind g s i ≡ None → is_undefined (c_code g) s i ≡ false
  is_defined s (Step t) e = not_fault s.world (answer (c_code g) s.world t) e
  is_defined s (Wake t) e = refl

  later_at : (s : CState) (k : ℕ) (i : Item) (w : List Item) (j : ℕ) (end : ExecEnd) → IsLeftAt g (stepped g s i) (suc k) w j end → IsLeftAt g s k (i ∷ w) (suc j) end
  later_at s k i w j end (closed lines kind at none is_end) = closed lines kind at none is_end
  later_at s k i w j end (used all none is_end) = used (ap suc all) none is_end
  later_at s k i w j end (stuck thread kind at says none is_end) =
      let same : suc (suc k + j) ≡ suc (k + suc j) = omega arith in
      stuck thread kind at says none (is_end ∙ ap (λ (n : ℕ). ended.Undefined kind n) same)

  later : (s : CState) (k : ℕ) (i : Item) (w : List Item) (p : Performed) → item_kind g s i ≡ None → Leaves g (stepped g s i) (suc k) w p → Leaves g s k (i ∷ w) p
  later s k i w p e h = record {
    items = suc h.items;
    within = omega (arith, h.within);
    safe = (is_defined s i e, h.safe);
    state = h.state;
    left = later_at s k i w h.items p.end h.left;
  }

  stuck_at : (s : CState) (k : ℕ) (i : Item) (w : List Item) (kind : Kind) → item_kind g s i ≡ Some kind → first_end s.lines ≡ None →
      IsLeftAt g s k (i ∷ w) 0 (ended.Undefined kind (suc k))
  stuck_at s k (Step t) w kind e none =
      let same : suc k ≡ suc (k + 0) = omega arith in
      stuck t kind refl (undefined_said s.world (answer (c_code g) s.world t) kind e) none (ap (λ (n : ℕ). ended.Undefined kind n) same)
  stuck_at s k (Wake t) w kind e none = cc e

  leaves_at : (s : CState) (k : ℕ) (i : Item) (w : List Item) (x : Option Kind) (y : Option ℕ) (rest : Performed) → item_kind g s i ≡ x →
      first_end (stepped g s i).lines ≡ y → first_end s.lines ≡ None →
      (first_end (stepped g s i).lines ≡ None → Leaves g (stepped g s i) (suc k) w rest) → Leaves g s k (i ∷ w) (performed_at g k s x y (stepped g s i) rest)
  leaves_at s k i w (Some kind) y rest e ends none h =
      record { items = 0; within = omega arith; safe = tt; state = refl; left = stuck_at s k i w kind e none }
  leaves_at s k i w None (Some kind) rest e ends none h =
      record {
        items = 1;
        within = omega arith;
        safe = (is_defined s i e, tt);
        state = refl;
        left = closed s.lines kind (closes s.lines (stepped g s i).lines i kind (prints g s i) none ends) none refl;
      }
  leaves_at s k i w None None rest e ends none h = later s k i w rest e (h ends)

  leaves_from : (s : CState) (k : ℕ) (w : List Item) → first_end s.lines ≡ None → Leaves g s k w (performed_from g s k w)
  leaves_from s k [] none = record { items = 0; within = omega arith; safe = tt; state = refl; left = used refl none refl }
  leaves_from s k (i ∷ w) none =
      leaves_at s k i w (item_kind g s i) (first_end (stepped g s i).lines) (performed_from g (stepped g s i) (suc k) w) refl refl none
      (λ e. leaves_from (stepped g s i) (suc k) w e)

  -- ---- the schedule of a seed

  is_left : (w : List Item) (j : ℕ) (end : ExecEnd) → IsLeftAt g (opening g) 0 w j end → IsLeft g w j end
  is_left w j end (closed lines kind at none e) = at_end lines at.thread kind at.clock at.who at.lines none e
  is_left w j end (used all none e) = used_up all none e
  is_left w j end (stuck thread kind at says none e) =
      let same : suc (0 + j) ≡ suc j = omega arith in
      undefined thread kind at says none (e ∙ ap (λ (n : ℕ). ended.Undefined kind n) same)

  -- what is told of an execution is told of its schedule
  tells : (asked : ExecutionRequest) (reply : Reply) → reply ≡ executed asked g → TellsSchedule asked.report g (seeded g asked.seed asked.steps) reply
  tells asked reply e =
      let end = (performed g asked.seed asked.steps).end in
      let h = leaves_from (opening g) 0 (seeded g asked.seed asked.steps) refl in
      let moved = ap (λ (s : CState). s.moved) h.state in
      record {
        items = h.items;
        within = h.within;
        safe = h.safe;
        end = end;
        left = is_left (seeded g asked.seed asked.steps) h.items end h.left;
        out = ap (λ (r : Reply). r.out) e ∙ ap (printed_by g) h.state;
        status = ap (λ (r : Reply). r.status) e;
        err = ap (λ (r : Reply). r.err) e ∙ ap (λ (n : ℕ). end_text end ++ moved_text asked.report n) moved;
      }

  items_drawn : (n : ℕ) (r : _) (s : CState) → length (seeded_from g n r s) ≡ n
  items_drawn zero r s = refl
  items_drawn (suc n) r s = ap suc (items_drawn n _ _)

  pub tells_schedule : (asked : ExecutionRequest) (reply : Reply) → reply ≡ executed asked g →
      (length (seeded g asked.seed asked.steps) ≡ asked.steps) × TellsSchedule asked.report g (seeded g asked.seed asked.steps) reply
  tells_schedule asked reply e = (items_drawn asked.steps (generator asked.seed) (opening g), tells asked reply e)

-- what a call tells where it ended
pub ok_of : {A E : Type 0} (P : A → Type 0) (Q : E → Type 0) (r : Result A E) (x : A) → MatchResult r P Q → r ≡ Ok x → P x
ok_of P Q (Ok y) x is e = subst P (cc e) is
ok_of P Q (Err s) x is e = cc e

-- or where it failed
pub err_of : {A E : Type 0} (P : A → Type 0) (Q : E → Type 0) (r : Result A E) (e : E) → MatchResult r P Q → r ≡ Err e → Q e
err_of P Q (Ok y) e is same = cc same
err_of P Q (Err s) e is same = subst Q (cc same) is
