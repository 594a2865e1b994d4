-- How a thread goes on: its activations stand for the frames that the definition has then.
use Rattle.std.proofs.Common.{◌≡◌, refl, sym, ap, ap₂, ◌∙◌, subst, ℕ, ◌+◌, ◌-◌, ◌<◌, ◌≤◌, min, List, [], ◌∷◌, ◌++◌, length, take, replicate, slice_get, slice_set, Option, Some, None, arith}
use Rattle.std.specs.Prelude.{ℤ, pos}
use Rattle.std.proofs.lemmas.List.{length-append, length-take-le, length-replicate}
use Rattle.hc_rational.specs.Words.{Rational}
use Rattle.hc_term.proofs.Places.{get-set_other}
use Rattle.hc_cast.specs.declared.stmt.CStmt.{CStmt}
use Rattle.hc_cast.specs.declared.program.CFunction.{CFunction}
use Rattle.hc_cmach.specs.State.{Word, Frame, doing, storing, begun, Own}
use Rattle.hc_ccode.specs.declared.code.Entry.{Entry}
use Rattle.hc_ccode.specs.Placed.{placed_target}
use Rattle.hc_ccode.specs.Stages.{Stages, At, Begins}
use Rattle.hc_cexec.specs.declared.activation.Activation.{Activation}
use Rattle.hc_cexec.specs.declared.thread.Thread.{Thread}
use Rattle.hc_cexec.specs.declared.asked.Then.{Then}
use Rattle.hc_cexec.specs.declared.asked.Then.TheVariants as then
use Rattle.hc_cprim.specs.Worth.{loaded}
use Rattle.hc_cexec.specs.Goes.{stored, changed, goes_on, takes_value, starts, entered, left_to, left, went_from, went_by, went}
use Rattle.hc_cexec.specs.Stands.{FrameIs, TargetIs, IsBefore, IsOnTop, StackIs, HasRoom, HasRooms, OwnIs}
use Rattle.hc_cexec.proofs.Stacks.{changed_is, top_is, rooms_kept, stored_is, stored_even, storing_names, storing_todo, storing_target, storing_gives}

loaded_is : (old : List ℤ) (count rest : ℕ) (there : List ℤ) → length old ≡ count + rest → count ≤ length there →
    loaded old count there ≡ take count there ++ replicate rest (pos 0)
loaded_is old count rest there e h =
    let all : min (min count (length there)) (length old) ≡ count = omega (arith, e, h) in
    let left : length old - min (min count (length there)) (length old) ≡ rest = omega (arith, e, h) in
    ap₂ (λ (k n : ℕ). take k there ++ replicate n (pos 0)) all left

-- a thread of which activation number i is at hand goes on from there
pub from_current : (es : List Entry) (there : List ℤ) (x : Then) (th : Thread) (i : ℕ) → th.current ≡ Some i → went es there x th ≡ went_from es there x th i
from_current es there x th i e = ap (went_by es there x th) e

module _ (es : List Entry) (t : Stages) (there : List ℤ) (th : Thread) (row : List Rational) (f : Frame) (fs : List Frame)
    (same_row : th.row ≡ row) (stack : StackIs t th.activations th.current (f ∷ fs)) (rooms : HasRooms es th.activations) where
  abbrev top : IsOnTop t th.activations th.current f fs
  top = stack.0

  abbrev i : ℕ
  i = top.place

  abbrev a : Activation
  a = top.activation

  -- ---- on in the same body

  on_frame : (target : Option Word) (z : ℤ) (place : ℕ) (todo : List CStmt) → At t f.names i place todo →
      FrameIs t i (goes_on (placed_target f.names target) z place a) (storing f target z todo)
  on_frame target z place todo at =
      record {
        todo = subst (λ (ns : List Word). At t ns i place (storing f target z todo).todo) (sym (storing_names f target z todo))
            (subst (At t f.names i place) (sym (storing_todo f target z todo)) at);
        values = stored_is f a.values target z todo top.frame.values;
        gives = top.frame.gives ∙ sym (storing_gives f target z todo);
      }

  pub on_is : (target : Option Word) (z : ℤ) (place : ℕ) (todo : List CStmt) → At t f.names i place todo →
      OwnIs es t (went es there (then.On (placed_target f.names target) z place) th) (record { row = row; frames = storing f target z todo ∷ fs })
  on_is target z place todo at =
      let b = goes_on (placed_target f.names target) z place a in
      let new = changed_is th.activations i a (goes_on (placed_target f.names target) z place) top.stands in
      let stack_new : StackIs t (slice_set th.activations i b) (Some i) (storing f target z todo ∷ fs) =
      top_is t th.activations i a b (storing f target z todo) fs top.stands (on_frame target z place todo at)
      (subst (TargetIs b.result fs) (sym (storing_target f target z todo)) top.target) top.before stack.1 in
      let rooms_new : HasRooms es (slice_set th.activations i b) =
      rooms_kept es th.activations i a b top.stands (stored_even a.values (placed_target f.names target) z) rooms in
      subst (λ (new : Thread). OwnIs es t new (record { row = row; frames = storing f target z todo ∷ fs }))
      (sym (from_current es there (then.On (placed_target f.names target) z place) th i top.is))
      (
      record {
        row = same_row;
        stack = subst (λ (xs : List Activation). StackIs t xs (Some i) (storing f target z todo ∷ fs)) (sym new) stack_new;
        rooms = subst (HasRooms es) (sym new) rooms_new;
      }
      )

  -- ---- behind the call that began the body

  abbrev pub back_own : List Frame → ℤ → Own
  back_own [] z = record { row = row; frames = [] }
  back_own (g ∷ gs) z = record { row = row; frames = storing g f.target z g.todo ∷ gs }

  abbrev LeftIs : List Frame → ℤ → Option ℕ → Option ℕ → Type 0
  LeftIs gs z caller result = OwnIs es t (left_to th caller result z) (back_own gs z)

  left_nobody : (z : ℤ) (result : Option ℕ) (caller : Option ℕ) → caller ≡ None → LeftIs [] z caller result
  left_nobody z result None e = record { row = same_row; stack = refl; rooms = rooms }
  left_nobody z result (Some j) e = absurd (cc)

  left_at : (g : Frame) (gs : List Frame) (z : ℤ) (result : Option ℕ) (j : ℕ) (b : Activation) → slice_get th.activations j ≡ Some b → FrameIs t j b g →
      TargetIs b.result gs g.target → IsBefore j b.caller → StackIs t th.activations b.caller gs → result ≡ placed_target g.names f.target →
      LeftIs (g ∷ gs) z (Some j) result
  left_at g gs z result j b stands frame target before below result_is =
      let c = takes_value result z b in
      let new = changed_is th.activations j b (takes_value result z) stands in
      let kept : FrameIs t j c (storing g f.target z g.todo) =
      record {
        todo = subst (λ (ns : List Word). At t ns j b.place (storing g f.target z g.todo).todo) (sym (storing_names g f.target z g.todo))
            (subst (At t g.names j b.place) (sym (storing_todo g f.target z g.todo)) frame.todo);
        values = ap (λ (r : Option ℕ). stored b.values r z) result_is ∙ stored_is g b.values f.target z g.todo frame.values;
        gives = frame.gives ∙ sym (storing_gives g f.target z g.todo);
      } in
      let stack_new : StackIs t (slice_set th.activations j c) (Some j) (storing g f.target z g.todo ∷ gs) =
      top_is t th.activations j b c (storing g f.target z g.todo) gs stands kept
      (subst (TargetIs c.result gs) (sym (storing_target g f.target z g.todo)) target) before below in
      record {
        row = same_row;
        stack = subst (λ (xs : List Activation). StackIs t xs (Some j) (storing g f.target z g.todo ∷ gs)) (sym new) stack_new;
        rooms = subst (HasRooms es) (sym new) (rooms_kept es th.activations j b c stands (stored_even b.values result z) rooms);
      }

  left_is : (gs : List Frame) (z : ℤ) (caller result : Option ℕ) → StackIs t th.activations caller gs → TargetIs result gs f.target → LeftIs gs z caller result
  left_is [] z caller result below target = left_nobody z result caller below
  left_is (g ∷ gs) z caller result below target =
      let next = below.0 in
      subst (λ (c : Option ℕ). LeftIs (g ∷ gs) z c result) (sym next.is)
      (left_at g gs z result next.place next.activation next.stands next.frame next.target next.before below.1 target)

  pub back_is : (z : ℤ) → OwnIs es t (went es there (then.Back z) th) (back_own fs z)
  back_is z =
      subst (λ (new : Thread). OwnIs es t new (back_own fs z)) (sym (from_current es there (then.Back z) th i top.is ∙ ap (λ (o : Option Activation). left th o z) top.stands))
      (left_is fs z a.caller a.result stack.1 top.target)

  -- ---- into a function

  module _ (j : ℕ) (e : Entry) (callee : CFunction) (zs : List ℤ) (target : Option Word) (place : ℕ) (todo : List CStmt) (entry : slice_get es j ≡ Some e)
      (begins : Begins t j callee.params callee.body callee.gives e) (low : j < i) (at : At t f.names i place todo)
      (enough : e.params ≤ length there) (values : take e.params there ≡ zs) where
    abbrev caller_on : Activation
    caller_on = goes_on None (pos 0) place a

    abbrev room : HasRoom th.activations j e
    room = rooms j e entry

    abbrev begun_at : Activation
    begun_at = starts e there i (placed_target f.names target) room.activation

    abbrev with_caller : List Activation
    with_caller = slice_set th.activations i caller_on

    still : slice_get with_caller j ≡ Some room.activation
    still = get-set_other th.activations i j caller_on (λ e. omega (arith, low, e)) ∙ room.stands

    filled : begun_at.values ≡ take e.params there ++ replicate e.locals (pos 0)
    filled = loaded_is room.activation.values e.params e.locals there room.even enough

    even : length begun_at.values ≡ length room.activation.values
    even =
        ap length filled ∙ length-append (take e.params there) (replicate e.locals (pos 0))
        ∙ ap₂ (λ (n m : ℕ). n + m) (length-take-le e.params there enough) (length-replicate e.locals (pos 0)) ∙ sym room.even

    abbrev callee_frame : Frame
    callee_frame = begun target callee.gives callee.params zs callee.body

    frame_is : FrameIs t j begun_at callee_frame
    frame_is =
        record {
          todo = begins.start;
          values = filled ∙ ap₂ (λ (vs : List ℤ) (n : ℕ). vs ++ replicate n (pos 0)) values begins.locals;
          gives = begins.gives;
        }

    caller_is : StackIs t with_caller (Some i) (doing f todo ∷ fs)
    caller_is = top_is t th.activations i a caller_on (doing f todo) fs top.stands (on_frame None (pos 0) place todo at) top.target top.before stack.1

    pub into_is : OwnIs es t (went es there (then.Into j (placed_target f.names target) place) th)
        (record { row = row; frames = callee_frame ∷ doing f todo ∷ fs })
    into_is =
        let first = changed_is th.activations i a (goes_on None (pos 0) place) top.stands in
        let second = changed_is with_caller j room.activation (starts e there i (placed_target f.names target)) still in
        let new = ap (λ (xs : List Activation). changed xs j (starts e there i (placed_target f.names target))) first ∙ second in
        subst (λ (new : Thread). OwnIs es t new (record { row = row; frames = callee_frame ∷ doing f todo ∷ fs }))
        (
        sym (
        from_current es there (then.Into j (placed_target f.names target) place) th i top.is
        ∙ ap (λ (o : Option Entry). entered th i o there j (placed_target f.names target) place) entry
        )
        )
        (
        record {
          row = same_row;
          stack = subst (λ (xs : List Activation). StackIs t xs (Some j) (callee_frame ∷ doing f todo ∷ fs)) (sym new)
              (top_is t with_caller j room.activation begun_at callee_frame (doing f todo ∷ fs) still frame_is refl low caller_is);
          rooms = subst (HasRooms es) (sym new)
              (rooms_kept es with_caller j room.activation begun_at still even (rooms_kept es th.activations i a caller_on top.stands refl rooms));
        }
        )
