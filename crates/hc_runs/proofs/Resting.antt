-- Where a delay has lasted to the least bound, the process with this bound wants a silent step; else it has lasted to the
-- horizon. So after a delay at which no process wants a step, time does nothing more.
use Rattle.std.proofs.Common.{◌≡◌, refl, sym, ap, ◌∙◌, subst, ℕ, Bool, true, false, not, if◌then◌else◌, List, [], ◌∷◌, map, Option, Some, None, ◌⊎◌, inl, inr, ⊎_elim}
use Rattle.std.specs.List.{list_all}
use Rattle.std.specs.declared.cmp.Ordering.{Ordering}
use Rattle.std.specs.declared.cmp.Ordering.TheVariants as side
use Rattle.std.proofs.lemmas.Bool.{false≢true, and_parts}
use Rattle.hc_rational.specs.Words.{Rational, zero_ℚ, ◌+ℚ◌, ◌-ℚ◌, ◌≤ℚ◌, rank, earlier}
use Rattle.hc_rational.proofs.FieldLaws.{+ℚ_comm, -ℚ-+ℚ}
use Rattle.hc_rational.proofs.OrderLaws.{≤ℚ_refl}
use Rattle.hc_rational.proofs.RankLaws.{rank-same, lesser_is}
use Rattle.hc_term.specs.declared.stmt.Stmt.{Stmt}
use Rattle.hc_term.specs.declared.post.Post.{Post}
use Rattle.hc_term.specs.declared.model.Mark.{Mark}
use Rattle.hc_term.specs.declared.model.Mark.TheVariants.{Going, Arrived}
use Rattle.hc_term.specs.declared.model.Meeting.{Meeting}
use Rattle.hc_term.specs.declared.model.ProcessState.{ProcessState}
use Rattle.hc_term.specs.Value.{Store}
use Rattle.hc_term.specs.Process.{bound, is_due, wants}
use Rattle.hc_term.specs.Offers.{post}
use Rattle.hc_term.specs.Communication.{moved}
use Rattle.hc_term.specs.Posts.{Passing, NoBound, AtHorizon, least_bound, is_timed, passing_below}
use Rattle.hc_term.specs.Step.{posts, ready, rests, passing, passing_by, passing_quiet, delayed}
use Rattle.hc_term.proofs.Quiet.{delays_keep_quiet}
use Rattle.hc_term.specs.Moved.{IsWithin, less_by}
use Rattle.hc_runs.specs.Laws.{keeps_profile, IsOver, DelaysEnd}
use Rattle.hc_runs.proofs.Bounds.{due_after_bound}
use Rattle.hc_runs.proofs.Moving.{bound_moves, bound_not_past}
use Rattle.hc_runs.proofs.Taking.{taking}

-- ---- one process

module _ (choices : ℕ) (s : Store) where
  abbrev with_parts : Mark → List Stmt → ProcessState
  with_parts mark todo = record { todo = todo; store = s; choices = choices; mark = mark }

  shown_by_parts : (clock : Rational) (mark : Mark) (todo : List Stmt) → (post clock (with_parts mark todo)).bound ≡ bound (with_parts mark todo)
  shown_by_parts clock Going [] = refl
  shown_by_parts clock Going (head ∷ rest) = refl
  shown_by_parts clock (Arrived left) [] = refl
  shown_by_parts clock (Arrived left) (head ∷ rest) = refl

  due_by_parts : (mark : Mark) (todo : List Stmt) → is_due (bound (with_parts mark todo)) ≡ true → wants (with_parts mark todo) ≡ true
  due_by_parts Going [] h = absurd (false≢true h)
  due_by_parts Going (head ∷ rest) h = refl
  due_by_parts (Arrived left) [] h = absurd (false≢true h)
  due_by_parts (Arrived left) (head ∷ rest) h = h

pub shown_bound : (clock : Rational) (q : ProcessState) → (post clock q).bound ≡ bound q
shown_bound clock q = shown_by_parts q.choices q.store clock q.mark q.todo

due_wants : (q : ProcessState) → is_due (bound q) ≡ true → wants q ≡ true
due_wants q h = due_by_parts q.choices q.store q.mark q.todo h

-- a process whose bound is as long as the delay wants a silent step after it
bound_wants : (d : Rational) (q : ProcessState) → keeps_profile q ≡ true → bound q ≡ Some d → wants (moved d q) ≡ true
bound_wants d q h e =
    let not_past : zero_ℚ ≤ℚ d = subst (IsWithin zero_ℚ) e (bound_not_past q h) in
    let is = bound_moves d q h not_past (subst (IsWithin d) (sym e) (≤ℚ_refl d)) in
    due_wants (moved d q) (ap is_due (is ∙ ap (less_by d) e) ∙ due_after_bound d)

-- ---- the least bound

earlier_one : (x y : Option Rational) (b : Rational) → earlier x y ≡ Some b → (x ≡ Some b) ⊎ (y ≡ Some b)
earlier_one None y b h = inr h
earlier_one (Some d) None b h = inl h
earlier_one (Some d) (Some e) b h = ⊎_elim (λ is. inl (ap Some (sym is) ∙ h)) (λ is. inr (ap Some (sym is) ∙ h)) (lesser_is d e).one

not_wanting : (b : Bool) → b ≡ true → not b ≡ true → ⊥
not_wanting true h k = false≢true k
not_wanting false h k = false≢true h

some_wants : (clock d : Rational) (qs : List ProcessState) → list_all keeps_profile qs ≡ true → least_bound (map (post clock) qs) ≡ Some d →
    rests (map (moved d) qs) ≡ true → ⊥
some_wants clock d [] h e r = cc
some_wants clock d (q ∷ qs) h e r =
    let kept = and_parts (keeps_profile q) (list_all keeps_profile qs) h in
    let resting = and_parts (not (wants (moved d q))) (rests (map (moved d) qs)) r in
    ⊎_elim (λ is. not_wanting (wants (moved d q)) (bound_wants d q kept.0 (sym (shown_bound clock q) ∙ is)) resting.0)
    (λ is. some_wants clock d qs kept.1 is resting.1) (earlier_one (post clock q).bound (least_bound (map (post clock) qs)) d e)

-- ---- at the horizon

module _ (clock horizon : Rational) (ps : List Post) where
  at_horizon : (b : Bool) (o : Ordering) → o ≡ side.Equal → let p = (if b then passing_below o clock horizon ps else NoBound) in (p ≡ NoBound) ⊎ (p ≡ AtHorizon)
  at_horizon true o e = inr (ap (λ (r : Ordering). passing_below r clock horizon ps) e)
  at_horizon false o e = inl refl

-- ---- the law

quiet_passing : (m : Option Meeting) (b : Bool) (what : Passing) → m ≡ None → b ≡ true → passing_by m b what ≡ Some what
quiet_passing m b what h k = ap (λ (o : Option Meeting). passing_by o b what) h ∙ ap (λ (r : Bool). passing_by None r what) k

pub delays_end : DelaysEnd
delays_end t c d kept e r =
    let next = delayed d c in
    let goes : passing t next ≡ Some (passing_quiet t next) = quiet_passing (ready t next) (rests next.processes) (passing_quiet t next) (delays_keep_quiet t c d e) r in
    let reaches : d ≡ t.horizon -ℚ c.clock → IsOver (passing t next) = λ is.
    let there : next.clock ≡ t.horizon = ap (λ (z : Rational). c.clock +ℚ z) is ∙ +ℚ_comm c.clock (t.horizon -ℚ c.clock) ∙ -ℚ-+ℚ t.horizon c.clock in
    let level : rank next.clock t.horizon ≡ side.Equal = ap (λ (z : Rational). rank z t.horizon) there ∙ rank-same t.horizon in
    ⊎_elim (λ is. inl (goes ∙ ap Some is)) (λ is. inr (goes ∙ ap Some is))
    (at_horizon next.clock t.horizon (posts next) (is_timed (posts next)) (rank next.clock t.horizon) level) in
    ⊎_elim (λ is. absurd (some_wants c.clock d c.processes kept is r)) reaches (taking t c d e).lasts
