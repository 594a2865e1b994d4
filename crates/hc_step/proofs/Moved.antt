-- A local stands after a delay for the configuration that has moved.
use Rattle.std.proofs.Common.{◌≡◌, refl, sym, ap, ap₂, ◌∙◌, arith, ℕ, zero, suc, ◌%◌, length, take, map, Bool, true, IsTrue, List, [], ◌∷◌, Option, Some, None}
use Rattle.std.specs.Prelude.{IfSome, replicate, slice_set, slice_index_or}
use Rattle.std.proofs.lemmas.List.{length-replicate}
use Rattle.hc_rational.specs.Words.{Rational, zero_ℚ, ◌+ℚ◌, ◌*ℚ◌, ◌≤ℚ◌}
use Rattle.hc_term.specs.declared.stmt.Io.{Io}
use Rattle.hc_term.specs.declared.stmt.Rate.{Rate}
use Rattle.hc_term.specs.declared.stmt.Branch.{Branch}
use Rattle.hc_term.specs.declared.stmt.Stmt.{Stmt, out-Stmt}
use Rattle.hc_term.specs.declared.stmt.Stmt.TheOpen.{Stmt-F}
use Rattle.hc_term.specs.declared.post.Moving.{Moving}
use Rattle.hc_term.specs.declared.model.Mark.{Mark}
use Rattle.hc_term.specs.declared.model.Mark.TheVariants.{Going, Arrived}
use Rattle.hc_term.specs.declared.model.ProcessState.{ProcessState}
use Rattle.hc_term.specs.Value.{Store, val}
use Rattle.hc_term.specs.Motion.{Rates, rates_in, with_rates, value_after, after}
use Rattle.hc_term.specs.Process.{Layer, bound_here, bound}
use Rattle.hc_term.specs.Posts.{is_empty}
use Rattle.hc_term.specs.Offers.{moving_of, moving_here, post}
use Rattle.hc_term.specs.Communication.{moved_store, left_after, moved}
use Rattle.hc_term.specs.Moved.{IsWithin, moving_after, moved_post}
use Rattle.hc_term.specs.Profile.{ios_in, is_evolution, are_guards}
use Rattle.hc_code.specs.declared.code.Way.{Way}
use Rattle.hc_code.specs.declared.code.Instr.{Instr}
use Rattle.hc_code.specs.Kept.{ios_of, is_instr}
use Rattle.hc_code.specs.Stands.{Table, At, AgreesHere, WaysAgree, Agrees}
use Rattle.hc_code.proofs.Growing.{first_of}
use Rattle.hc_runs.specs.Laws.{in_profile, keeps_profile, heads_in_profile}
use Rattle.hc_runs.proofs.Basics.{length-set}
use Rattle.hc_runs.proofs.Evolving.{evolving}
use Rattle.hc_runs.proofs.Moving.{posts_move}
use Rattle.hc_step.specs.declared.local.Local.{Local}
use Rattle.hc_step.specs.Delaying.{mark_after, with_values}
use Rattle.hc_step.specs.Represents.{Represents}
use Rattle.hc_step.proofs.Evolves.{take_set}
use Rattle.hc_step.proofs.Delays.{wait_left}

-- ---- the store: setting the values that evolving variables show is moving by the rates

after_set : (s : Store) (r : Rates) (d : Rational) (x : ℕ) (k : Rational) → length r ≡ length s →
    slice_set (after s r d) x (slice_index_or s x zero_ℚ +ℚ k *ℚ d) ≡ after s (slice_set r x (Some k)) d
after_set [] [] d x k h = refl
after_set [] (j ∷ r) d x k h = absurd (omega (arith, h))
after_set (v ∷ s) [] d x k h = absurd (omega (arith, h))
after_set (v ∷ s) (j ∷ r) d zero k h = refl
after_set (v ∷ s) (j ∷ r) d (suc x) k h = ap (λ l. value_after v j d ∷ l) (after_set s r d x k (omega (arith, h)))

values_after : (s : Store) (rs : List Rate) (before : Rates) (d : Rational) → length before ≡ length s →
    with_values (after s before d) (map (moving_after d) (moving_of s rs)) ≡ after s (with_rates before rs s) d
values_after s [] before d h = refl
values_after s (r ∷ rs) before d h =
    ap (λ (st : Store). with_values st (map (moving_after d) (moving_of s rs))) (after_set s before d r.variable (val s r.value) h)
    ∙ values_after s rs (slice_set before r.variable (Some (val s r.value))) d (length-set before r.variable (Some (val s r.value)) ∙ h)

after_none : (s : Store) (d : Rational) → after s (replicate (length s) None) d ≡ s
after_none [] d = refl
after_none (v ∷ s) d = ap (λ l. v ∷ l) (after_none s d)

values_moved : (s : Store) (rs : List Rate) (d : Rational) → with_values s (map (moving_after d) (moving_of s rs)) ≡ after s (rates_in rs s) d
values_moved s rs d =
    ap (λ (st : Store). with_values st (map (moving_after d) (moving_of s rs))) (sym (after_none s d))
    ∙ values_after s rs (replicate (length s) None) d (length-replicate (length s) None)

pub take_values : (n : ℕ) (st : Store) (ms : List Moving) → take n (with_values st ms) ≡ with_values (take n st) ms
take_values n st [] = refl
take_values n st (m ∷ ms) = take_values n (slice_set st m.variable m.at) ms ∙ ap (λ (z : Store). with_values z ms) (take_set n st m.variable m.at)

store_moves : (s : Store) (d : Rational) (l : Layer) → with_values s (map (moving_after d) (moving_here s l)) ≡ moved_store s d l
store_moves s d (Stmt-F.Evolve rates domain branches) = values_moved s rates d
store_moves s d Stmt-F.Skip = refl
store_moves s d (Stmt-F.Assign x e) = refl
store_moves s d (Stmt-F.Log e) = refl
store_moves s d (Stmt-F.Wait e) = refl
store_moves s d (Stmt-F.Io io) = refl
store_moves s d (Stmt-F.Choice branches) = refl
store_moves s d (Stmt-F.If test first second) = refl
store_moves s d (Stmt-F.Loop test body) = refl
store_moves s d (Stmt-F.Pick one other) = refl
store_moves s d (Stmt-F.Forever body) = refl

-- ---- the mark

mark_moves : (s : Store) (d left : Rational) (l : Layer) → in_profile (length s) l ≡ true → zero_ℚ ≤ℚ d → IsWithin d (bound_here s left l) →
    mark_after d (is_empty (moving_here s l)) (bound_here s left l) (Arrived left) ≡ Arrived (left_after left d l)
mark_moves s d left (Stmt-F.Evolve rates domain branches) h k w =
    ap (λ (b : Bool). mark_after d b (bound_here s left (Stmt-F.Evolve rates domain branches)) (Arrived left)) (evolving s rates domain branches d h).some
mark_moves s d left (Stmt-F.Wait e) h k w = wait_left d left k w
mark_moves s d left Stmt-F.Skip h k w = refl
mark_moves s d left (Stmt-F.Assign x e) h k w = refl
mark_moves s d left (Stmt-F.Log e) h k w = refl
mark_moves s d left (Stmt-F.Io io) h k w = refl
mark_moves s d left (Stmt-F.Choice branches) h k w = refl
mark_moves s d left (Stmt-F.If test first second) h k w = refl
mark_moves s d left (Stmt-F.Loop test body) h k w = refl
mark_moves s d left (Stmt-F.Pick one other) h k w = refl
mark_moves s d left (Stmt-F.Forever body) h k w = refl

-- ---- a process

module _ (t : Table) (clock d : Rational) (new : Local) (s : Store) (choices : ℕ) (from_zero : zero_ℚ ≤ℚ d) where
  abbrev with_parts : Mark → List Stmt → ProcessState
  with_parts mark todo = record { todo = todo; store = s; choices = choices; mark = mark }

  pub stands_moved : (m : Mark) (todo : List Stmt) → let q = with_parts m todo in
      At t new.place todo → take new.variables new.store ≡ with_values s (map (moving_after d) (post clock q).moving) → new.choices ≡ choices % 64 →
      new.mark ≡ mark_after d (is_empty (post clock q).moving) (post clock q).bound m → new.post ≡ moved_post d (post clock q) →
      keeps_profile q ≡ true → IsWithin d (bound q) → Represents t (clock +ℚ d) new (moved d q)
  stands_moved Going [] at store number mark shows h w = record {
    at_place = at;
    same_store = store;
    same_choices = number;
    same_mark = mark;
    same_post = shows ∙ sym (posts_move clock d (with_parts Going []) h from_zero w);
  }
  stands_moved Going (head ∷ rest) at store number mark shows h w = record {
    at_place = at;
    same_store = store;
    same_choices = number;
    same_mark = mark;
    same_post = shows ∙ sym (posts_move clock d (with_parts Going (head ∷ rest)) h from_zero w);
  }
  stands_moved (Arrived left) [] at store number mark shows h w = record {
    at_place = at;
    same_store = store;
    same_choices = number;
    same_mark = mark;
    same_post = shows ∙ sym (posts_move clock d (with_parts (Arrived left) []) h from_zero w);
  }
  stands_moved (Arrived left) (head ∷ rest) at store number mark shows h w = record {
    at_place = at;
    same_store = store ∙ store_moves s d (out-Stmt head);
    same_choices = number;
    same_mark = mark ∙ mark_moves s d left (out-Stmt head) h from_zero w;
    same_post = shows ∙ sym (posts_move clock d (with_parts (Arrived left) (head ∷ rest)) h from_zero w);
  }

-- ---- what a delay needs

pub within_of : (d : Rational) (o : Option Rational) → IfSome o (λ b. d ≤ℚ b) → IsWithin d o
within_of d None h = tt
within_of d (Some b) h = h

ways_same : (t : Table) (rest : List Stmt) (ways : List Way) (bs : List Branch) → WaysAgree t rest ways bs → ios_of ways ≡ ios_in bs
ways_same t rest [] [] h = refl
ways_same t rest [] (b ∷ bs) h = absurd h
ways_same t rest (w ∷ ws) [] h = absurd h
ways_same t rest (w ∷ ws) (b ∷ bs) h = ap₂ (λ (io : Io) (ios : List Io). io ∷ ios) h.0 (ways_same t rest ws bs h.2)

profile_here : (t : Table) (channels n : ℕ) (i : Instr) (head : Stmt) (rest : List Stmt) (l : Layer) → AgreesHere t i head rest l →
    IsTrue (is_instr channels n i) → in_profile n l ≡ true
profile_here t channels n i head rest (Stmt-F.Evolve rates c bs) h u =
    ap (is_evolution n rates c) (sym (ways_same t rest h.0 bs h.3))
    ∙ first_of (is_evolution n rates c (ios_of h.0)) (are_guards channels n (ios_of h.0)) (sym (ap (is_instr channels n) h.2) ∙ u)
profile_here t channels n i head rest Stmt-F.Skip h u = refl
profile_here t channels n i head rest (Stmt-F.Assign x e) h u = refl
profile_here t channels n i head rest (Stmt-F.Log e) h u = refl
profile_here t channels n i head rest (Stmt-F.Wait e) h u = refl
profile_here t channels n i head rest (Stmt-F.Io io) h u = refl
profile_here t channels n i head rest (Stmt-F.Choice bs) h u = refl
profile_here t channels n i head rest (Stmt-F.If test first second) h u = refl
profile_here t channels n i head rest (Stmt-F.Loop test body) h u = refl
profile_here t channels n i head rest (Stmt-F.Pick one other) h u = refl
profile_here t channels n i head rest (Stmt-F.Forever body) h u = refl

-- where its instruction keeps the rules, a process keeps the profile
pub heads_keep : (t : Table) (channels n : ℕ) (i : Instr) (todo : List Stmt) → Agrees t i todo → IsTrue (is_instr channels n i) → heads_in_profile n todo ≡ true
heads_keep t channels n i [] h u = refl
heads_keep t channels n i (head ∷ rest) h u = profile_here t channels n i head rest (out-Stmt head) h u
