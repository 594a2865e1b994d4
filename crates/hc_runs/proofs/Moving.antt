-- What a process shows after a delay is what it showed before, moved.
use Rattle.std.proofs.Common.{◌≡◌, refl, sym, ap, ◌∙◌, IsTrue, ℕ, Bool, true, false, if◌then◌else◌, List, [], ◌∷◌, map, length, Option, Some}
use Rattle.hc_rational.specs.Words.{Rational, zero_ℚ, ◌+ℚ◌, ◌≤ℚ◌, greater}
use Rattle.hc_rational.proofs.RankLaws.{greater_is}
use Rattle.hc_term.specs.declared.stmt.Stmt.{Stmt, out-Stmt}
use Rattle.hc_term.specs.declared.stmt.Stmt.TheOpen.{Stmt-F}
use Rattle.hc_term.specs.declared.post.Post.{Post}
use Rattle.hc_term.specs.declared.post.Phase.TheVariants as phase
use Rattle.hc_term.specs.declared.post.Moving.{Moving}
use Rattle.hc_term.specs.declared.post.Offer.{Offer}
use Rattle.hc_term.specs.declared.model.Mark.{Mark}
use Rattle.hc_term.specs.declared.model.Mark.TheVariants.{Going, Arrived}
use Rattle.hc_term.specs.declared.model.ProcessState.{ProcessState}
use Rattle.hc_term.specs.Value.{Store}
use Rattle.hc_term.specs.Motion.{Rates, rates_in, after}
use Rattle.hc_term.specs.EndMoment.{end_moment}
use Rattle.hc_term.specs.Process.{Layer, bound_here, bound, is_due}
use Rattle.hc_term.specs.Posts.{is_empty}
use Rattle.hc_term.specs.Offers.{moving_of, moving_here, offers_of, offers_here, due_of, post}
use Rattle.hc_term.specs.Communication.{moved_store, left_after, moved}
use Rattle.hc_term.specs.Moved.{IsWithin, less_by, moving_after, offer_after, offers_after, moved_post}
use Rattle.hc_runs.specs.Laws.{in_profile, keeps_profile, PostsMove}
use Rattle.hc_runs.proofs.Evolving.{evolving}
use Rattle.hc_runs.proofs.Bounds.{wait_after, due_moves, not_due_before}

-- what a process shows that has arrived at a statement
abbrev here : Rational → Store → Rational → Layer → Post
here clock s left l = record {
  phase = phase.Arrived;
  bound = bound_here s left l;
  due = due_of clock (bound_here s left l);
  moving = moving_here s l;
  offers = offers_here s (bound_here s left l) l;
}

-- ---- bounds

not_past_here : (s : Store) (left : Rational) (l : Layer) → in_profile (length s) l ≡ true → IsWithin zero_ℚ (bound_here s left l)
not_past_here s left (Stmt-F.Wait time) h = (greater_is zero_ℚ left).first
not_past_here s left (Stmt-F.Evolve rates domain branches) h = (evolving s rates domain branches zero_ℚ h).ends.not_past
not_past_here s left _ h = tt

module _ (d : Rational) (from_zero : zero_ℚ ≤ℚ d) (s : Store) (left : Rational) where
  bound_moves_here : (l : Layer) → in_profile (length s) l ≡ true → IsWithin d (bound_here s left l) →
      bound_here (moved_store s d l) (left_after left d l) l ≡ less_by d (bound_here s left l)
  bound_moves_here (Stmt-F.Wait time) h w = ap Some (wait_after d left from_zero w)
  bound_moves_here (Stmt-F.Evolve rates domain branches) h w =
      let e = evolving s rates domain branches d h in
      ap (λ (r : Rates). end_moment (after s (rates_in rates s) d) r domain) e.rates ∙ e.ends.later d from_zero w
  bound_moves_here Stmt-F.Skip h w = refl
  bound_moves_here (Stmt-F.Assign x value) h w = refl
  bound_moves_here (Stmt-F.Log value) h w = refl
  bound_moves_here (Stmt-F.If test first second) h w = refl
  bound_moves_here (Stmt-F.Loop test body) h w = refl
  bound_moves_here (Stmt-F.Pick one other) h w = refl
  bound_moves_here (Stmt-F.Forever body) h w = refl
  bound_moves_here (Stmt-F.Io io) h w = refl
  bound_moves_here (Stmt-F.Choice bs) h w = refl

  -- ---- evolving variables and offers

  moving_moves_here : (l : Layer) → in_profile (length s) l ≡ true → moving_here (moved_store s d l) l ≡ map (moving_after d) (moving_here s l)
  moving_moves_here (Stmt-F.Evolve rates domain branches) h = (evolving s rates domain branches d h).variables
  moving_moves_here Stmt-F.Skip h = refl
  moving_moves_here (Stmt-F.Wait time) h = refl
  moving_moves_here (Stmt-F.Assign x value) h = refl
  moving_moves_here (Stmt-F.Log value) h = refl
  moving_moves_here (Stmt-F.If test first second) h = refl
  moving_moves_here (Stmt-F.Loop test body) h = refl
  moving_moves_here (Stmt-F.Pick one other) h = refl
  moving_moves_here (Stmt-F.Forever body) h = refl
  moving_moves_here (Stmt-F.Io io) h = refl
  moving_moves_here (Stmt-F.Choice bs) h = refl

  nothing : (b : Bool) → ◌≡◌ {A = List Offer} [] (if b then [] else [])
  nothing true = refl
  nothing false = refl

  unless_due : (b b₁ none : Bool) (os ns : List Offer) → (b₁ ≡ false → b ≡ false) → none ≡ false → ns ≡ map (offer_after d) os →
      (if b₁ then [] else ns) ≡ (if b₁ then [] else (if none then (if b then [] else os) else map (offer_after d) (if b then [] else os)))
  unless_due b true none os ns h i k = refl
  unless_due b false none os ns h i k =
      k ∙ ap (λ (c : Bool). map (offer_after d) (if c then [] else os)) (sym (h refl))
      ∙ ap (λ (c : Bool). if c then (if b then [] else os) else map (offer_after d) (if b then [] else os)) (sym i)

  offers_move_here : (clock : Rational) (l : Layer) → in_profile (length s) l ≡ true → IsWithin d (bound_here s left l) →
      offers_here (moved_store s d l) (less_by d (bound_here s left l)) l ≡
      (if is_due (less_by d (bound_here s left l)) then [] else offers_after d (here clock s left l))
  offers_move_here clock (Stmt-F.Evolve rates domain branches) h w =
      let e = evolving s rates domain branches d h in
      let b = end_moment s (rates_in rates s) domain in
      let s₁ = after s (rates_in rates s) d in
      unless_due (is_due b) (is_due (less_by d b)) (is_empty (moving_of s rates)) (offers_of s (rates_in rates s) branches) (offers_of s₁ (rates_in rates s₁) branches)
      (not_due_before d b from_zero w) e.some (ap (λ (r : Rates). offers_of s₁ r branches) e.rates ∙ e.offers)
  offers_move_here clock (Stmt-F.Wait time) h w = nothing (is_due (less_by d (Some (greater zero_ℚ left))))
  offers_move_here clock (Stmt-F.Io io) h w = refl
  offers_move_here clock (Stmt-F.Choice bs) h w = refl
  offers_move_here clock Stmt-F.Skip h w = refl
  offers_move_here clock (Stmt-F.Assign x value) h w = refl
  offers_move_here clock (Stmt-F.Log value) h w = refl
  offers_move_here clock (Stmt-F.If test first second) h w = refl
  offers_move_here clock (Stmt-F.Loop test body) h w = refl
  offers_move_here clock (Stmt-F.Pick one other) h w = refl
  offers_move_here clock (Stmt-F.Forever body) h w = refl

  -- ---- the post

  same_post : (b b₁ due due₁ : Option Rational) (ms ms₁ : List Moving) (os os₁ : List Offer) → b ≡ b₁ → due ≡ due₁ → ms ≡ ms₁ → os ≡ os₁ →
      ◌≡◌ {A = Post} (record { phase = phase.Arrived; bound = b; due = due; moving = ms; offers = os })
      (record { phase = phase.Arrived; bound = b₁; due = due₁; moving = ms₁; offers = os₁ })
  same_post b b₁ due due₁ ms ms₁ os os₁ h i j k = cc

  here_moves : (clock : Rational) (l : Layer) → in_profile (length s) l ≡ true → IsWithin d (bound_here s left l) →
      here (clock +ℚ d) (moved_store s d l) (left_after left d l) l ≡ moved_post d (here clock s left l)
  here_moves clock l h w =
      let is = bound_moves_here l h w in
      same_post _ _ _ _ _ _ _ _ is (ap (due_of (clock +ℚ d)) is ∙ due_moves clock d (bound_here s left l) from_zero w) (moving_moves_here l h)
      (ap (λ (b : Option Rational). offers_here (moved_store s d l) b l) is ∙ offers_move_here clock l h w)

-- ---- a process

module _ (choices : ℕ) (s : Store) where
  abbrev with_parts : Mark → List Stmt → ProcessState
  with_parts mark todo = record { todo = todo; store = s; choices = choices; mark = mark }

  post_by_parts : (clock d : Rational) (mark : Mark) (todo : List Stmt) → let q = with_parts mark todo in
      keeps_profile q ≡ true → zero_ℚ ≤ℚ d → IsWithin d (bound q) → post (clock +ℚ d) (moved d q) ≡ moved_post d (post clock q)
  post_by_parts clock d Going [] h k w = refl
  post_by_parts clock d Going (head ∷ rest) h k w = refl
  post_by_parts clock d (Arrived left) [] h k w = refl
  post_by_parts clock d (Arrived left) (head ∷ rest) h k w = here_moves d k s left clock (out-Stmt head) h w

  bound_by_parts : (d : Rational) (mark : Mark) (todo : List Stmt) → let q = with_parts mark todo in
      keeps_profile q ≡ true → zero_ℚ ≤ℚ d → IsWithin d (bound q) → bound (moved d q) ≡ less_by d (bound q)
  bound_by_parts d Going [] h k w = refl
  bound_by_parts d Going (head ∷ rest) h k w = refl
  bound_by_parts d (Arrived left) [] h k w = refl
  bound_by_parts d (Arrived left) (head ∷ rest) h k w = bound_moves_here d k s left (out-Stmt head) h w

  not_past_by_parts : (mark : Mark) (todo : List Stmt) → let q = with_parts mark todo in keeps_profile q ≡ true → IsWithin zero_ℚ (bound q)
  not_past_by_parts Going todo h = tt
  not_past_by_parts (Arrived left) [] h = tt
  not_past_by_parts (Arrived left) (head ∷ rest) h = not_past_here s left (out-Stmt head) h

pub posts_move : PostsMove
posts_move clock d q h k w = post_by_parts q.choices q.store clock d q.mark q.todo h k w

-- the bound after a delay that is at most the bound is the old one less the delay
pub bound_moves : (d : Rational) (q : ProcessState) → IsTrue (keeps_profile q) → zero_ℚ ≤ℚ d → IsWithin d (bound q) → bound (moved d q) ≡ less_by d (bound q)
bound_moves d q h k w = bound_by_parts q.choices q.store d q.mark q.todo h k w

-- a bound is at least 0
pub bound_not_past : (q : ProcessState) → IsTrue (keeps_profile q) → IsWithin zero_ℚ (bound q)
bound_not_past q h = not_past_by_parts q.choices q.store q.mark q.todo h
