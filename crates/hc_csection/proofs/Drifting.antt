-- What a delay makes of a process's variables, its post and the rest of it.
use Rattle.std.specs.Prelude.{◌≡◌, ◌==◌, ℕ, zero, suc, Bool, true, false, ◌||◌, if◌then◌else◌, List, [], ◌∷◌, map, length, replicate, slice_get, slice_set, slice_index_or, Option, Some, None, is_some}
use Rattle.std.specs.List.{list_any}
use Rattle.std.proofs.Common.{refl, sym, ap, ◌∙◌, subst, arith, true≢false, inl, inr}
use Rattle.std.proofs.lemmas.Bool.{eqb-true}
use Rattle.std.proofs.lemmas.List.{get_or-set_other}
use Rattle.std.proofs.lemmas.Option.{same_Some}
use Rattle.hc_rational.specs.Words.{Rational, zero_ℚ}
use Rattle.hc_term.specs.declared.stmt.Rate.{Rate}
use Rattle.hc_term.specs.declared.stmt.Stmt.{Stmt, out-Stmt}
use Rattle.hc_term.specs.declared.stmt.Stmt.TheOpen.{Stmt-F}
use Rattle.hc_term.specs.declared.post.Post.{Post}
use Rattle.hc_term.specs.declared.post.Moving.{Moving}
use Rattle.hc_term.specs.declared.post.Offer.{Offer}
use Rattle.hc_term.specs.declared.post.Offer.TheVariants as offer
use Rattle.hc_term.specs.declared.model.Mark.{Mark}
use Rattle.hc_term.specs.declared.model.Mark.TheVariants.{Going, Arrived}
use Rattle.hc_term.specs.declared.model.ProcessState.{ProcessState}
use Rattle.hc_term.specs.Value.{Store, val}
use Rattle.hc_term.specs.Motion.{Rates, with_rates, rates_in, value_after, after}
use Rattle.hc_term.specs.Process.{Layer, bound, is_due}
use Rattle.hc_term.specs.Offers.{post, post_at, moving_of, moving_here, going_post}
use Rattle.hc_term.specs.Communication.{moved, moved_at, moved_store}
use Rattle.hc_term.specs.Posts.{receives_on, is_empty}
use Rattle.hc_term.specs.Moved.{moved_post, moving_after, offer_after, offers_after, less_by}
use Rattle.hc_cthreads.specs.Scenes.{HasShown}
use Rattle.hc_cstep.specs.Stands.{RatesAre, has_arrived}

-- ---- whether a variable moves

abbrev pub moves_in : ℕ → List Moving → Bool
moves_in i ms = list_any (λ (m : Moving). m.variable == i) ms

pub record Mover (i : ℕ) (ms : List Moving) : Type 0 where
  pub place : ℕ
  pub mover : Moving
  pub at : slice_get ms place ≡ Some mover
  pub is : mover.variable ≡ i

pub mover_of : (i : ℕ) (ms : List Moving) → moves_in i ms ≡ true → Mover i ms
mover_of i [] h = absurd (true≢false (sym h))
mover_of i (m ∷ ms) h = by (m.variable == i) refl (mover_of i ms)
  where
    by : (b : Bool) → (m.variable == i) ≡ b → (moves_in i ms ≡ true → Mover i ms) → Mover i (m ∷ ms)
    by true e later = record { place = 0; mover = m; at = refl; is = eqb-true m.variable i e }
    by false e later =
        let r = later (sym (ap (λ (b : Bool). b || moves_in i ms) e) ∙ h) in
        record { place = suc r.place; mover = r.mover; at = r.at; is = r.is }

pub moves_after : (d : Rational) (i : ℕ) (ms : List Moving) → moves_in i (map (moving_after d) ms) ≡ moves_in i ms
moves_after d i [] = refl
moves_after d i (m ∷ ms) = ap (λ (b : Bool). (m.variable == i) || b) (moves_after d i ms)

-- ---- what moves shows its value

moving_value : (s : Store) (rs : List Rate) (k : ℕ) (m : Moving) → slice_get (moving_of s rs) k ≡ Some m → m.at ≡ slice_index_or s m.variable zero_ℚ
moving_value s [] k m e = absurd cc
moving_value s (r ∷ rs) zero m e =
    subst (λ (x : Moving). x.at ≡ slice_index_or s x.variable zero_ℚ)
    (same_Some (record { variable = r.variable; at = slice_index_or s r.variable zero_ℚ; rate = val s r.value }) m e) refl
moving_value s (r ∷ rs) (suc k) m e = moving_value s rs k m e

layer_value : (s : Store) (l : Layer) (k : ℕ) (m : Moving) → slice_get (moving_here s l) k ≡ Some m → m.at ≡ slice_index_or s m.variable zero_ℚ
layer_value s (Stmt-F.Evolve rates domain branches) k m e = moving_value s rates k m e
layer_value s _ k m e = absurd cc

post_value : (clock : Rational) (s : Store) (b : Option Rational) (mark : Mark) (todo : List Stmt) (k : ℕ) (m : Moving) →
    slice_get (post_at clock s b mark todo).moving k ≡ Some m → m.at ≡ slice_index_or s m.variable zero_ℚ
post_value clock s b mark [] k m e = absurd cc
post_value clock s b Going (head ∷ rest) k m e = absurd cc
post_value clock s b (Arrived left) (head ∷ rest) k m e = layer_value s (out-Stmt head) k m e

none_moves : {A : Type 0} → (x : Post) (k : ℕ) (m : Moving) → x ≡ going_post → slice_get x.moving k ≡ Some m → A
none_moves x k m same e = absurd (no (ap (λ (y : Post). slice_get y.moving k) (sym same) ∙ e))
  where
    no : ◌≡◌ {A = Option Moving} None (Some m) → ⊥
    no e = cc

pub shown_value : (clock : Rational) (q : ProcessState) (x : Post) → HasShown clock q x → (k : ℕ) (m : Moving) → slice_get x.moving k ≡ Some m →
    m.at ≡ slice_index_or q.store m.variable zero_ℚ
shown_value clock q x (inl e) k m at =
    post_value clock q.store (bound q) q.mark q.todo k m (ap (λ (y : Post). slice_get y.moving k) (sym e) ∙ at)
shown_value clock q x (inr e) k m at = none_moves x k m e.1 at

-- ---- what doesn't move keeps its value

with_rates_other : (before : Rates) (rs : List Rate) (s : Store) (i : ℕ) → moves_in i (moving_of s rs) ≡ false → slice_index_or (with_rates before rs s) i None ≡ slice_index_or before i None
with_rates_other before [] s i h = refl
with_rates_other before (r ∷ rs) s i h = by (r.variable == i) refl (with_rates_other (slice_set before r.variable (Some (val s r.value))) rs s i)
  where
    eqb-self : (n : ℕ) → (n == n) ≡ true
    eqb-self n = grind arith

    by : (b : Bool) → (r.variable == i) ≡ b →
        (moves_in i (moving_of s rs) ≡ false →
        slice_index_or (with_rates (slice_set before r.variable (Some (val s r.value))) rs s) i None ≡ slice_index_or (slice_set before r.variable (Some (val s r.value))) i None) →
        slice_index_or (with_rates (slice_set before r.variable (Some (val s r.value))) rs s) i None ≡ slice_index_or before i None
    by true e later = absurd (true≢false (sym (ap (λ (b : Bool). b || moves_in i (moving_of s rs)) e) ∙ h))
    by false e later =
        later (sym (ap (λ (b : Bool). b || moves_in i (moving_of s rs)) e) ∙ h)
        ∙ get_or-set_other before r.variable i (Some (val s r.value)) None
        (λ same. true≢false (sym (eqb-self i) ∙ ap (λ (n : ℕ). n == i) same ∙ e))

none_there : (n i : ℕ) → (slice_index_or {A = Option Rational}) (replicate n None) i None ≡ None
none_there zero i = refl
none_there (suc n) zero = refl
none_there (suc n) (suc i) = none_there n i

after_other : (s : Store) (r : Rates) (d : Rational) (i : ℕ) → slice_index_or r i None ≡ None → slice_index_or (after s r d) i zero_ℚ ≡ slice_index_or s i zero_ℚ
after_other [] r d i h = refl
after_other (v ∷ s) [] d i h = refl
after_other (v ∷ s) (k ∷ r) d zero h = ap (λ (o : Option Rational). value_after v o d) h
after_other (v ∷ s) (k ∷ r) d (suc i) h = after_other s r d i h

rates_other : (rs : List Rate) (s : Store) (i : ℕ) → moves_in i (moving_of s rs) ≡ false → slice_index_or (rates_in rs s) i None ≡ None
rates_other rs s i h = with_rates_other (replicate (length s) None) rs s i h ∙ none_there (length s) i

layer_keeps : (s : Store) (d : Rational) (l : Layer) (i : ℕ) → moves_in i (moving_here s l) ≡ false → slice_index_or (moved_store s d l) i zero_ℚ ≡ slice_index_or s i zero_ℚ
layer_keeps s d (Stmt-F.Evolve rates domain branches) i h = after_other s (rates_in rates s) d i (rates_other rates s i h)
layer_keeps s d _ i h = refl

keeps_by : (clock d : Rational) (q : ProcessState) (b : Option Rational) (mark : Mark) (todo : List Stmt) (i : ℕ) → moves_in i (post_at clock q.store b mark todo).moving ≡ false →
    slice_index_or (moved_at d q mark todo).store i zero_ℚ ≡ slice_index_or q.store i zero_ℚ
keeps_by clock d q b Going todo i h = refl
keeps_by clock d q b (Arrived left) [] i h = refl
keeps_by clock d q b (Arrived left) (head ∷ rest) i h = layer_keeps q.store d (out-Stmt head) i h

pub moved_keeps : (clock d : Rational) (q : ProcessState) (i : ℕ) → moves_in i (post clock q).moving ≡ false → slice_index_or (moved d q).store i zero_ℚ ≡ slice_index_or q.store i zero_ℚ
moved_keeps clock d q i h = keeps_by clock d q (bound q) q.mark q.todo i h

-- ---- the rest of it

todo_by : (d : Rational) (q : ProcessState) (mark : Mark) (todo : List Stmt) → (moved_at d q mark todo).todo ≡ q.todo
todo_by d q Going todo = refl
todo_by d q (Arrived left) [] = refl
todo_by d q (Arrived left) (head ∷ rest) = refl

pub moved_todo : (d : Rational) (q : ProcessState) → (moved d q).todo ≡ q.todo
moved_todo d q = todo_by d q q.mark q.todo

choices_by : (d : Rational) (q : ProcessState) (mark : Mark) (todo : List Stmt) → (moved_at d q mark todo).choices ≡ q.choices
choices_by d q Going todo = refl
choices_by d q (Arrived left) [] = refl
choices_by d q (Arrived left) (head ∷ rest) = refl

pub moved_choices : (d : Rational) (q : ProcessState) → (moved d q).choices ≡ q.choices
moved_choices d q = choices_by d q q.mark q.todo

mark_by : (d : Rational) (q : ProcessState) (mark : Mark) (todo : List Stmt) → q.mark ≡ mark → has_arrived (moved_at d q mark todo).mark ≡ has_arrived q.mark
mark_by d q Going todo e = refl
mark_by d q (Arrived left) [] e = refl
mark_by d q (Arrived left) (head ∷ rest) e = ap has_arrived (sym e)

pub moved_mark : (d : Rational) (q : ProcessState) → has_arrived (moved d q).mark ≡ has_arrived q.mark
moved_mark d q = mark_by d q q.mark q.todo refl

pub less_some : (d : Rational) (b : Option Rational) → is_some (less_by d b) ≡ is_some b
less_some d None = refl
less_some d (Some b) = refl

pub rates_after : (d : Rational) (row : List Rational) (ms : List Moving) → RatesAre row ms → RatesAre row (map (moving_after d) ms)
rates_after d row [] h = tt
rates_after d row (m ∷ ms) h = (h.0, rates_after d row ms h.1)

-- ---- offers

receives_after : (d : Rational) (c : ℕ) (os : List Offer) → receives_on c (map (offer_after d) os) ≡ receives_on c os
receives_after d c [] = refl
receives_after d c (offer.Send channel at slope ∷ os) = receives_after d c os
receives_after d c (offer.Receive channel ∷ os) = ap (λ (b : Bool). (channel == c) || b) (receives_after d c os)

receives_if : (b : Bool) (c : ℕ) (os : List Offer) → receives_on c (if b then [] else os) ≡ true → receives_on c os ≡ true
receives_if true c os h = absurd (true≢false (sym h))
receives_if false c os h = h

receives_either : (b : Bool) (c : ℕ) (os xs : List Offer) → receives_on c xs ≡ receives_on c os → receives_on c (if b then os else xs) ≡ receives_on c os
receives_either true c os xs h = refl
receives_either false c os xs h = h

pub moved_receives : (d : Rational) (c : ℕ) (x : Post) → receives_on c (moved_post d x).offers ≡ true → receives_on c x.offers ≡ true
moved_receives d c x h =
    sym (receives_either (is_empty x.moving) c x.offers (map (offer_after d) x.offers) (receives_after d c x.offers))
    ∙ receives_if (is_due (less_by d x.bound)) c (offers_after d x) h
