-- Activations in place of frames: what changes one of them.
use Rattle.std.proofs.Common.{◌≡◌, ◌≢◌, refl, sym, ap, ◌∙◌, subst, ℕ, ◌<◌, List, [], ◌∷◌, length, slice_get, slice_set, Option, Some, None, inl, inr, arith}
use Rattle.std.specs.Prelude.{ℤ}
use Rattle.std.proofs.lemmas.Bool.{cases_eq}
use Rattle.std.proofs.lemmas.List.{length-set}
use Rattle.hc_term.proofs.Places.{get-set_same, get-set_other}
use Rattle.hc_cast.specs.declared.stmt.CStmt.{CStmt}
use Rattle.hc_cmach.specs.State.{Word, Frame, storing, place_of}
use Rattle.hc_ccode.specs.declared.code.Entry.{Entry}
use Rattle.hc_ccode.specs.Placed.{placed_target}
use Rattle.hc_ccode.specs.Stages.{Stages}
use Rattle.hc_cexec.specs.declared.activation.Activation.{Activation}
use Rattle.hc_cexec.specs.Goes.{stored, changed, changed_at}
use Rattle.hc_cexec.specs.Stands.{FrameIs, TargetIs, IsBefore, StackIs, HasRoom, HasRooms}

-- ---- one activation

pub changed_is : (xs : List Activation) (i : ℕ) (a : Activation) (f : Activation → Activation) → slice_get xs i ≡ Some a →
    changed xs i f ≡ slice_set xs i (f a)
changed_is xs i a f e = ap (changed_at xs i f) e

apart : (j i : ℕ) → j < i → j ≢ i
apart j i h e = omega (arith, h, e)

-- ---- stacks

before_caller : (j i : ℕ) (c : Option ℕ) → j < i → IsBefore i c → IsBefore j c
before_caller j i None h b = tt
before_caller j i (Some k) h b = omega (arith, h, b)

at_number : (j i : ℕ) (c : Option ℕ) → c ≡ Some i → IsBefore j c → j < i
at_number j i None e b = absurd (cc)
at_number j i (Some k) e b = let same : k ≡ i = cc in subst (λ (n : ℕ). j < n) same b

module _ (t : Stages) (xs : List Activation) (j : ℕ) (b : Activation) where
  -- an activation in front of all that are at hand changes nothing
  pub stack_kept : (c : Option ℕ) (fs : List Frame) → IsBefore j c → StackIs t xs c fs → StackIs t (slice_set xs j b) c fs
  stack_kept c [] h s = s
  stack_kept c (f ∷ fs) h s =
      let top = s.0 in
      let low : j < top.place = at_number j top.place c top.is h in (
        record {
          place = top.place;
          activation = top.activation;
          is = top.is;
          stands = get-set_other xs j top.place b (apart j top.place low) ∙ top.stands;
          frame = top.frame;
          target = top.target;
          before = top.before;
        },
        stack_kept top.activation.caller fs (before_caller j top.place top.activation.caller low top.before) s.1,
      )

-- the activation at hand is another frame
pub top_is : (t : Stages) (xs : List Activation) (i : ℕ) (old b : Activation) (f : Frame) (fs : List Frame) → slice_get xs i ≡ Some old → FrameIs t i b f →
    TargetIs b.result fs f.target → IsBefore i b.caller → StackIs t xs b.caller fs → StackIs t (slice_set xs i b) (Some i) (f ∷ fs)
top_is t xs i old b f fs there frame target before below = (
  record {
    place = i;
    activation = b;
    is = refl;
    stands = get-set_same xs i old b there;
    frame = frame;
    target = target;
    before = before;
  },
  stack_kept t xs i b b.caller fs before below,
)

-- ---- rooms

module _ (es : List Entry) (xs : List Activation) (j : ℕ) (old b : Activation) (there : slice_get xs j ≡ Some old) where
  room_kept : (i : ℕ) (e : Entry) → length b.values ≡ length old.values → HasRoom xs i e → HasRoom (slice_set xs j b) i e
  room_kept i e even h = elim (cases_eq j i) [
    | inl same ↦
        let one : Some h.activation ≡ Some old = sym h.stands ∙ ap (slice_get xs) (sym same) ∙ there in
        let is : h.activation ≡ old = cc in
        record {
          activation = b;
          stands = subst (λ (k : ℕ). slice_get (slice_set xs j b) k ≡ Some b) same (get-set_same xs j old b there);
          even = even ∙ ap (λ (a : Activation). length a.values) (sym is) ∙ h.even;
        }
    | inr other ↦
        record { activation = h.activation; stands = get-set_other xs j i b other ∙ h.stands; even = h.even }
  ]

  pub rooms_kept : length b.values ≡ length old.values → HasRooms es xs → HasRooms es (slice_set xs j b)
  rooms_kept even h i e there = room_kept i e even (h i e there)

-- ---- values

pub stored_is : (f : Frame) (values : List ℤ) (target : Option Word) (z : ℤ) (todo : List CStmt) → values ≡ f.values →
    stored values (placed_target f.names target) z ≡ (storing f target z todo).values
stored_is f values None z todo e = e
stored_is f values (Some x) z todo e = ap (λ (vs : List ℤ). slice_set vs (place_of x f.names) z) e

pub stored_even : (values : List ℤ) (result : Option ℕ) (z : ℤ) → length (stored values result z) ≡ length values
stored_even values None z = refl
stored_even values (Some x) z = length-set values x z

-- what storing leaves
pub storing_names : (f : Frame) (target : Option Word) (z : ℤ) (todo : List CStmt) → (storing f target z todo).names ≡ f.names
storing_names f None z todo = refl
storing_names f (Some x) z todo = refl

pub storing_todo : (f : Frame) (target : Option Word) (z : ℤ) (todo : List CStmt) → (storing f target z todo).todo ≡ todo
storing_todo f None z todo = refl
storing_todo f (Some x) z todo = refl

pub storing_target : (f : Frame) (target : Option Word) (z : ℤ) (todo : List CStmt) → (storing f target z todo).target ≡ f.target
storing_target f None z todo = refl
storing_target f (Some x) z todo = refl

pub storing_gives : (f : Frame) (target : Option Word) (z : ℤ) (todo : List CStmt) → (storing f target z todo).gives ≡ f.gives
storing_gives f None z todo = refl
storing_gives f (Some x) z todo = refl
