-- Behind a pass of the core the words hold of what came of it.
use Rattle.std.specs.Prelude.{◌≡◌, ◌≢◌, ◌<◌, ◌≤◌, ◌+◌, ◌-◌, ◌==◌, ℕ, zero, suc, Bool, true, false, List, [], ◌∷◌, length, slice_get, slice_set, slice_index_or, Option, Some, None}
use Rattle.std.proofs.Common.{refl, sym, ap, ◌∙◌, subst, arith, true≢false, inl, inr}
use Rattle.std.proofs.lemmas.Bool.{eqb-true}
use Rattle.std.proofs.lemmas.List.{get_or-set_same, get_or-set_other, length-set}
use Rattle.std.proofs.lemmas.Option.{same_Some, slice_get_within}
use Rattle.hc_rational.specs.Words.{Rational, zero_ℚ}
use Rattle.hc_term.specs.declared.task.Task.{Task}
use Rattle.hc_term.specs.declared.stmt.Stmt.{Stmt}
use Rattle.hc_term.specs.declared.post.Post.{Post}
use Rattle.hc_term.specs.declared.model.Mark.{Mark}
use Rattle.hc_term.specs.declared.model.Meeting.{Meeting}
use Rattle.hc_term.specs.declared.model.ProcessState.{ProcessState}
use Rattle.hc_term.specs.declared.model.Configuration.{Configuration}
use Rattle.hc_term.specs.Process.{bound, is_done}
use Rattle.hc_term.specs.Offers.{post, post_at, going_post}
use Rattle.hc_term.specs.Communication.{sent, received, received_at, moved}
use Rattle.hc_term.specs.Posts.{receives_on}
use Rattle.hc_term.specs.Moved.{moved_post}
use Rattle.hc_cmach.specs.State.{Shared}
use Rattle.hc_cthreads.specs.Scenes.{HasShown, AllHaveShown}
use Rattle.hc_cthreads.specs.Outcomes.{Outcome}
use Rattle.hc_cthreads.proofs.Showing.{shown_at}
use Rattle.hc_core_c.specs.Twin.{Board64, nth, register, variable}
use Rattle.hc_core_c.specs.Owner.{shared_of, Sane}
use Rattle.hc_core_facts.specs.Standing.{flag, StandsFor}
use Rattle.hc_core_facts.specs.OnePass.{Passed, IsPass}
use Rattle.hc_csection.specs.Alike.{IsAlike}
use Rattle.hc_csection.specs.Fates.{Fate, Stays, Moves, Sends, Receives, Fated}
use Rattle.hc_csection.specs.Words.{processes, channels, IsShared, IsSet, received_in, VariablesAre, IntosAre}
use Rattle.hc_csection.proofs.Keeping.{sized}
use Rattle.hc_csection.proofs.Setting.{BoardStands, set_is, IsSetBoard, stands_set}
use Rattle.hc_csection.proofs.Sets.{few_variables}
use Rattle.hc_csection.proofs.Fates.{none_receives}
use Rattle.hc_csection.proofs.Drifting.{moves_in, mover_of, moves_after, shown_value, moved_keeps, moved_todo, moved_receives}

-- ---- lists

pub get_there : {A : Type 0} → (xs : List A) (r : ℕ) → r < length xs → (x : A) × (slice_get xs r ≡ Some x)
get_there {A} [] r less = absurd (omega (arith, less))
get_there {A} (x ∷ xs) zero less = (x, refl)
get_there {A} (x ∷ xs) (suc r) less = get_there xs r (omega (arith, less))

pub process_at : (clock : Rational) (qs : List ProcessState) (xs : List Post) (r : ℕ) (x : Post) → AllHaveShown clock qs xs → slice_get xs r ≡ Some x →
    (q : ProcessState) × (slice_get qs r ≡ Some q) × HasShown clock q x
process_at clock [] [] r x h e = absurd cc
process_at clock [] (y ∷ xs) r x h e = absurd h
process_at clock (q ∷ qs) [] r x h e = absurd h
process_at clock (q ∷ qs) (y ∷ xs) zero x h e = (q, refl, subst (HasShown clock q) (same_Some y x e) h.0)
process_at clock (q ∷ qs) (y ∷ xs) (suc r) x h e = process_at clock qs xs r x h.1 e

-- ---- one that has ended

done_moving : (clock : Rational) (s : List Rational) (b : Option Rational) (mark : Mark) (todo : List Stmt) → is_done todo ≡ true → (post_at clock s b mark todo).moving ≡ []
done_moving clock s b mark [] h = refl
done_moving clock s b mark (head ∷ rest) h = absurd (true≢false (sym h))

-- what it shows moves as its post does
pub shown_moving : (clock : Rational) (q : ProcessState) (x : Post) → HasShown clock q x → (post clock q).moving ≡ x.moving
shown_moving clock q x (inl e) = ap (λ (y : Post). y.moving) (sym e)
shown_moving clock q x (inr e) = done_moving clock q.store (bound q) q.mark q.todo e.0 ∙ ap (λ (y : Post). y.moving) (sym e.1)

-- one that offers to receive has something to do
offers_done : (clock : Rational) (s : List Rational) (b : Option Rational) (mark : Mark) (todo : List Stmt) (ch : ℕ) → receives_on ch (post_at clock s b mark todo).offers ≡ true → is_done todo ≡ false
offers_done clock s b mark [] ch h = absurd (true≢false (sym h))
offers_done clock s b mark (head ∷ rest) ch h = refl

pub receives_undone : (clock : Rational) (q : ProcessState) (x : Post) (ch : ℕ) → HasShown clock q x → receives_on ch x.offers ≡ true → is_done q.todo ≡ false
receives_undone clock q x ch (inl e) h =
    offers_done clock q.store (bound q) q.mark q.todo ch (ap (λ (y : Post). receives_on ch y.offers) (sym e) ∙ h)
receives_undone clock q x ch (inr e) h = absurd (true≢false (sym (sym (ap (λ (y : Post). receives_on ch y.offers) e.1) ∙ h)))

store_by : (ch : ℕ) (v : Rational) (q : ProcessState) (todo : List Stmt) → is_done todo ≡ false → (received_at ch v q todo).store ≡ slice_set q.store (received_in ch todo) v
store_by ch v q [] h = absurd (true≢false h)
store_by ch v q (head ∷ rest) h = refl

received_store : (ch : ℕ) (v : Rational) (q : ProcessState) → is_done q.todo ≡ false → (received ch v q).store ≡ slice_set q.store (received_in ch q.todo) v
received_store ch v q h = store_by ch v q q.todo h

module _ (t : Task) (p : ℕ) (c : Configuration) (ps : List Post) (n : ℕ) (m : Shared) (s : IsShared t c ps n m) (set : IsSet t p m) (few : n ≤ t.limit) (o : Outcome) (u : Passed)
    (fated : Fated t c ps o u.meetings) (alike : IsAlike t c (t.limit - n) o u) (e : Board64) where
  abbrev P : ℕ
  P = processes t

  abbrev C : ℕ
  C = channels t

  -- the board as the pass finds it, with nothing printed or woken
  abbrev b : Board64
  b = record s.board { lines = []; wakes = [] }

  abbrev Pass : Type 0
  Pass = IsPass P C p b e ps c.clock t.horizon n t.limit u

  module _ (done : Pass) where
    stands_e : BoardStands t o.at o.posts (n + length o.items) e
    stands_e =
        let count = alike.count in
        let within = done.stands.in_limit in
        let steps : t.limit - u.left ≡ n + length o.items = omega (arith, count, few) in
        subst (λ (xs : List Post). StandsFor P C e xs o.at.clock t.horizon (n + length o.items) t.limit) (sym alike.posts)
        (
        subst (λ (z : Rational). StandsFor P C e u.posts z t.horizon (n + length o.items) t.limit) (sym alike.clock)
        (subst (λ (i : ℕ). StandsFor P C e u.posts u.clock t.horizon i t.limit) steps done.stands)
        )

    number_c : length ps ≡ P
    number_c = s.stands.processes

    -- ---- before and behind

    record Both (r : ℕ) (new : ProcessState) (y : Post) : Type 0 where
      low : r < P
      old : ProcessState
      x : Post
      at : slice_get c.processes r ≡ Some old
      there : slice_get ps r ≡ Some x
      shown : HasShown c.clock old x
      fate : Fate c ps o u.meetings r old x

    both : (r : ℕ) (new : ProcessState) (y : Post) → slice_get o.posts r ≡ Some y → Both r new y
    both r new y at =
        let low : r < P = let within = slice_get_within o.posts r y at in let size = stands_e.processes in omega (arith, within, size) in
        let x = get_there ps r (omega (arith, low, number_c)) in
        let q = process_at c.clock c.processes ps r x.0 s.shown x.1 in
        record { low = low; old = q.0; x = x.0; at = q.1; there = x.1; shown = q.2; fate = fated.one r q.0 x.0 q.1 x.1 }

    -- ---- variables

    module _ (r i : ℕ) (new : ProcessState) (y : Post) (at_new : slice_get o.at.processes r ≡ Some new) (at_y : slice_get o.posts r ≡ Some y) (shows : HasShown o.at.clock new y)
        (less : i < length new.store) (small : i < 64) where
      abbrev Value : Type 0
      Value = register e (variable r i) ≡ slice_index_or new.store i zero_ℚ

      -- one that moves
      value_moving : moves_in i y.moving ≡ true → Value
      value_moving h =
          let w = mover_of i y.moving h in
          let shown = (stands_e.each r y at_y).moving w.place w.mover w.at in
          subst (λ (j : ℕ). register e (variable r j) ≡ slice_index_or new.store j zero_ℚ) w.is
          (shown.0 ∙ shown_value o.at.clock new y shows w.place w.mover w.at)

      -- one that doesn't, as it was
      same_register : r < P → moves_in i y.moving ≡ false → ((w : Meeting) (j : ℕ) → slice_get u.meetings j ≡ Some w → w.receiver ≡ r → nth b.into w.channel ≢ i) →
          register e (variable r i) ≡ register s.board (variable r i)
      same_register low h none =
          done.variables r i low small ((stands_e.each r y at_y).moves i small ∙ ap flag h) none

      value_by : moves_in i y.moving ≡ false → (w : Both r new y) → Fate c ps o u.meetings r w.old w.x → Value
      value_by h w (Stays a d clock none) =
          let same : w.old ≡ new = same_Some w.old new (sym a ∙ at_new) in
          same_register w.low h (λ n j is k. absurd (none_receives r u.meetings none n j is k))
          ∙ s.variables_are r i w.old w.at (subst (λ (q : ProcessState). i < length q.store) (sym same) less)
          ∙ ap (λ (q : ProcessState). slice_index_or q.store i zero_ℚ) same
      value_by h w (Moves d a k clock none rest) =
          let same : moved d w.old ≡ new = same_Some (moved d w.old) new (sym a ∙ at_new) in
          let post_same : moved_post d w.x ≡ y = same_Some (moved_post d w.x) y (sym k ∙ at_y) in
          let long : length w.old.store ≡ length new.store = sized t c r w.old s.reached w.at ∙ sym (sized t o.at r new fated.reached at_new) in
          let rests : moves_in i (post c.clock w.old).moving ≡ false =
          ap (moves_in i) (shown_moving c.clock w.old w.x w.shown) ∙ sym (moves_after d i w.x.moving) ∙ ap (λ (z : Post). moves_in i z.moving) post_same ∙ h in
          same_register w.low h (λ n j is l. absurd (no_meeting none n j is))
          ∙ s.variables_are r i w.old w.at (omega (arith, less, long))
          ∙ sym (moved_keeps c.clock d w.old i rests)
          ∙ ap (λ (q : ProcessState). slice_index_or q.store i zero_ℚ) same
        where
          no_meeting : u.meetings ≡ [] → (n : Meeting) (j : ℕ) → slice_get u.meetings j ≡ Some n → ⊥
          no_meeting e n j is = (let z : ◌≡◌ {A = Option Meeting} None (Some n) = sym (ap (λ (ms : List Meeting). slice_get ms j) e) ∙ is in cc)
      value_by h w (Sends z j is who a k clock offers only) =
          let same : sent z.channel w.old ≡ new = same_Some (sent z.channel w.old) new (sym a ∙ at_new) in
          same_register w.low h (λ n l there receives. absurd (only n l there receives))
          ∙ s.variables_are r i w.old w.at (subst (λ (q : ProcessState). i < length q.store) (sym same) less)
          ∙ ap (λ (q : ProcessState). slice_index_or q.store i zero_ℚ) same
      value_by h w (Receives z j is who a k clock offers only) =
          by (received_in z.channel w.old.todo == i) refl
        where
          same : received z.channel z.value w.old ≡ new
          same = same_Some (received z.channel z.value w.old) new (sym a ∙ at_new)

          undone : is_done w.old.todo ≡ false
          undone = receives_undone c.clock w.old w.x z.channel w.shown offers

          store : new.store ≡ slice_set w.old.store (received_in z.channel w.old.todo) z.value
          store = ap (λ (q : ProcessState). q.store) (sym same) ∙ received_store z.channel z.value w.old undone

          into : nth b.into z.channel ≡ received_in z.channel w.old.todo
          into = s.intos r z.channel w.old w.x w.at w.there offers

          long : i < length w.old.store
          long =
              let e = ap (λ (xs : List Rational). length xs) store ∙ length-set w.old.store (received_in z.channel w.old.todo) z.value in
              omega (arith, e, less)

          eqb-self : (n : ℕ) → (n == n) ≡ true
          eqb-self n = grind arith

          by : (x : Bool) → (received_in z.channel w.old.todo == i) ≡ x → Value
          by true f =
              let here : received_in z.channel w.old.todo ≡ i = eqb-true (received_in z.channel w.old.todo) i f in
              let read : register e (variable z.receiver (nth b.into z.channel)) ≡ z.value = done.values z j is in
              subst (λ (l : ℕ). register e (variable r l) ≡ z.value) (into ∙ here)
              (subst (λ (l : ℕ). register e (variable l (nth b.into z.channel)) ≡ z.value) who read)
              ∙ sym (get_or-set_same w.old.store i z.value zero_ℚ long)
              ∙ ap (λ (l : ℕ). slice_index_or (slice_set w.old.store l z.value) i zero_ℚ) (sym here)
              ∙ ap (λ (xs : List Rational). slice_index_or xs i zero_ℚ) (sym store)
          by false f =
              let apart : received_in z.channel w.old.todo ≢ i = λ l. true≢false (sym (eqb-self i) ∙ ap (λ (y : ℕ). y == i) (sym l) ∙ f) in
              same_register w.low h
              (
              λ n l there receives into_i.
              apart (sym into ∙ ap (λ (y : Meeting). nth b.into y.channel) (sym (only n l there receives)) ∙ into_i)
              )
              ∙ s.variables_are r i w.old w.at long
              ∙ sym (get_or-set_other w.old.store (received_in z.channel w.old.todo) i z.value zero_ℚ (λ l. apart (sym l)))
              ∙ ap (λ (xs : List Rational). slice_index_or xs i zero_ℚ) (sym store)

      value : Value
      value = choose (moves_in i y.moving) refl
        where
          choose : (x : Bool) → moves_in i y.moving ≡ x → Value
          choose true h = value_moving h
          choose false h = (let w = both r new y at_y in value_by h w w.fate)

    pub variables_behind : VariablesAre e o.at.processes
    variables_behind r i new at less =
        let y = shown_at o.at.clock o.at.processes o.posts r new fated.shown at in
        let few = few_variables t o.at r new fated.reached at in
        value r i new y.0 at y.1 y.2 less (omega (arith, less, few))

    -- ---- the variables that receive

    into_by : (r ch : ℕ) (new : ProcessState) (y : Post) → slice_get o.at.processes r ≡ Some new → slice_get o.posts r ≡ Some y → receives_on ch y.offers ≡ true → (w : Both r new y) →
        Fate c ps o u.meetings r w.old w.x → nth s.board.into ch ≡ received_in ch new.todo
    into_by r ch new y at at_y h w (Stays a d clock none) =
        s.intos r ch w.old w.x w.at w.there (ap (λ (z : Post). receives_on ch z.offers) (same_Some w.x y (sym d ∙ at_y)) ∙ h)
        ∙ ap (λ (q : ProcessState). received_in ch q.todo) (same_Some w.old new (sym a ∙ at))
    into_by r ch new y at at_y h w (Moves d a k clock none rest) =
        s.intos r ch w.old w.x w.at w.there
        (moved_receives d ch w.x (ap (λ (z : Post). receives_on ch z.offers) (same_Some (moved_post d w.x) y (sym k ∙ at_y)) ∙ h))
        ∙ ap (received_in ch) (sym (moved_todo d w.old))
        ∙ ap (λ (q : ProcessState). received_in ch q.todo) (same_Some (moved d w.old) new (sym a ∙ at))
    into_by r ch new y at at_y h w (Sends z j is who a k clock offers only) =
        absurd (true≢false (sym (ap (λ (z : Post). receives_on ch z.offers) (same_Some going_post y (sym k ∙ at_y)) ∙ h)))
    into_by r ch new y at at_y h w (Receives z j is who a k clock offers only) =
        absurd (true≢false (sym (ap (λ (z : Post). receives_on ch z.offers) (same_Some going_post y (sym k ∙ at_y)) ∙ h)))

    pub intos_behind : IntosAre e o.at.processes o.posts
    intos_behind r ch new y at at_y h =
        let w = both r new y at_y in
        ap (λ (xs : List ℕ). nth xs ch) done.into ∙ into_by r ch new y at at_y h w w.fate

    -- ---- all of it

    is_set_e : IsSetBoard t p e
    is_set_e = record { horizon = stands_e.end; limit = stands_e.at_most; self = done.self ∙ self_b } where
      self_b : s.board.self ≡ p
      self_b = (set_is t p m s.board s.is set).self

    pub shared_behind : e.stop ≡ 0 → Sane P e → IsShared t o.at o.posts (n + length o.items) (shared_of e)
    shared_behind stop sane = record {
      board = e;
      is = refl;
      goes_on = stop;
      stands = stands_set t p o.at o.posts (n + length o.items) e is_set_e stands_e;
      sane = sane;
      variables_are = variables_behind;
      intos = intos_behind;
      shown = fated.shown;
      reached = fated.reached;
    }
