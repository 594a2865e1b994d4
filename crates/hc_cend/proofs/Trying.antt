-- A candidate that is below the best so far and passes takes its place.
use Rattle.std.specs.Prelude.{◌≡◌, ℕ, ◌+◌, ◌==◌, nat_lt, Bool, true, false, ◌&&◌, if◌then◌else◌, List, ◌++◌, length, slice_set, ℤ, pos, Option, Some, None}
use Rattle.std.proofs.Common.{refl, sym, ap, ap₂, ◌∙◌, subst, arith}
use Rattle.std.proofs.lemmas.List.{length-set}
use Rattle.std.specs.declared.cmp.Ordering.{Ordering}
use Rattle.std.specs.declared.cmp.Ordering.TheVariants as side
use Rattle.hc_rational.specs.Words.{Rational, zero_ℚ, rank, ◌≤ℚ◌}
use Rattle.hc_term.specs.Motion.{Line}
use Rattle.hc_term.specs.declared.expr.Cond.{Cond}
use Rattle.hc_cast.specs.declared.stmt.CStmt.{CStmt}
use Rattle.hc_cast.specs.declared.program.CProgram.{CProgram}
use Rattle.hc_cmach.specs.Expression.{int_of}
use Rattle.hc_cmach.specs.Primitive.{rank_number}
use Rattle.hc_clogic.specs.Runs.{View, Runs, Is}
use Rattle.hc_clogic.proofs.Runs.{runs_on, runs_longer, if_runs}
use Rattle.hc_cmach.proofs.Worths.{forms}
use Rattle.hc_clogic.specs.Block.{block}
use Rattle.hc_clogic.proofs.Values.{is_worth}
use Rattle.hc_clogic.proofs.Blocks.{block_runs}
use Rattle.hc_cend.specs.Candidates.{numbered, is_false_at, is_less, is_better, tried}
use Rattle.hc_cend.specs.Searching as seen
use Rattle.hc_cend.specs.Searching.{Mine, Around, register, v_x}
use Rattle.hc_cend.specs.Places.{Places, AreApart, IsGiven}
use Rattle.hc_cend.specs.Written.{is_number}
use Rattle.hc_cend.specs.Tree.{tree}
use Rattle.hc_cend.specs.Search.{trial, betters, keeps, tries}
use Rattle.hc_cend.proofs.Registers.{Same, same_register, same_less, same_set, set_there}
use Rattle.hc_cend.proofs.Given.{is_there}
use Rattle.hc_cend.proofs.Choosing.{Chosen}
use Rattle.hc_cend.proofs.BothPoints as both

-- v_truth and the register of the best say which that is
abbrev pub BestIs : Places → List Rational → Bool → Option Rational → Type 0
BestIs p row truth None = truth ≡ false
BestIs p row truth (Some d) = (truth ≡ true) × (register row p.best ≡ d)

-- whether there is a candidate, and it is below the best
abbrev pub goes_in : Option Rational → Option Rational → Bool
goes_in best None = false
goes_in best (Some q) = is_better best q

module _ (g : CProgram) (t : ℕ) (low : nat_lt t 65 ≡ true) (not_last : (t == 64) ≡ false) (self : (t == t) ≡ true) (p : Places) (around : Around)
    (f : ℕ) (c : Cond) (ls : List Line) (apart : AreApart f p (length ls) (tree t p c).deep) (sized : (tree t p c).size ≡ length ls) where
  abbrev view : Mine → View
  view m = seen.view around m

  abbrev test : Rational → Bool
  test q = is_false_at (numbered c) ls q

  -- ---- is it below the best?

  Betters : Mine → Option Rational → Option Rational → Type 0
  Betters m best o = (y : ℤ) × Runs g t 3 (betters t p) (view m) (view (record m { x = int_of (goes_in best o); y = y }))

  nothing_told : (m : Mine) → m.x ≡ pos 0 → block g t 3 (view m) (betters t p) ≡ Some (view (record m { x = pos 0 }))
  nothing_told m e = simp (forms, e)

  first_told : (m : Mine) → m.x ≡ pos 1 → m.truth ≡ false → block g t 3 (view m) (betters t p) ≡ Some (view (record m { x = pos 1 }))
  first_told m e h = simp (forms, e, h)

  below_told : (m : Mine) → m.x ≡ pos 1 → m.truth ≡ true → nat_lt p.moment 20480 ≡ true → nat_lt p.best 20480 ≡ true → (o : Ordering) →
      rank (register m.row p.moment) (register m.row p.best) ≡ o →
      block g t 3 (view m) (betters t p) ≡ Some (view (record m { x = int_of (is_less o); y = rank_number o }))
  below_told m e h i k side.Less q = simp (forms, low, not_last, self, e, h, i, k, q)
  below_told m e h i k side.Equal q = simp (forms, low, not_last, self, e, h, i, k, q)
  below_told m e h i k side.Greater q = simp (forms, low, not_last, self, e, h, i, k, q)

  moment_there : nat_lt p.moment 20480 ≡ true
  moment_there = is_there p.moment (omega (arith, apart.best, apart.sign, apart.truth, apart.end))

  best_there : nat_lt p.best 20480 ≡ true
  best_there = is_there p.best (omega (arith, apart.sign, apart.truth, apart.end))

  pub betters_run : (m : Mine) (best o : Option Rational) → Chosen p m.row m.x o → BestIs p m.row m.truth best →
      (y : ℤ) × Runs g t 3 (betters t p) (view m) (view (record m { x = int_of (goes_in best o); y = y }))
  betters_run m best None h k = (m.y, block_runs g t 3 _ _ _ (nothing_told m h))
  betters_run m None (Some q) h k = (m.y, block_runs g t 3 _ _ _ (first_told m h.0 k))
  betters_run m (Some d) (Some q) h k =
      let o = rank (register m.row p.moment) (register m.row p.best) in (
        rank_number o,
        subst (λ (z : Ordering). Runs g t 3 (betters t p) (view m) (view (record m { x = int_of (is_less z); y = rank_number o }))) (ap₂ rank h.1 k.1)
            (block_runs g t 3 _ _ _ (below_told m h.0 k.0 moment_there best_there o refl)),
      )

  -- ---- it is tried, and kept where it passes

  abbrev pub tries_steps : ℕ
  tries_steps = 1 + (both.trial_steps g t low not_last self p around f c ls apart sized + 3)

  pub record Tries (m : Mine) (n : ℕ) (ss : List CStmt) (best : Option Rational) : Type 0 where
    pub row : List Rational
    pub truth : Bool
    pub i : ℕ
    pub x : ℤ
    pub y : ℤ
    pub after : Bool
    pub turn : ℕ
    pub fails : Bool
    pub runs : Runs g t n ss (view m) (view (record m { row = row; truth = truth; i = i; x = x; y = y; after = after; turn = turn; fails = fails }))
    pub long : length row ≡ length m.row
    pub same : Same p.moment row m.row
    pub now_best : BestIs p row truth best

  skipped : (m : Mine) (best : Option Rational) → m.x ≡ pos 0 → BestIs p m.row m.truth best → Tries m tries_steps (tries t p (length ls) c) best
  skipped m best e h = record {
    row = m.row;
    truth = m.truth;
    i = m.i;
    x = m.x;
    y = m.y;
    after = m.after;
    turn = m.turn;
    fails = m.fails;
    runs =
        runs_longer g t 1 tries_steps (tries t p (length ls) c) (view m) (view m) (omega arith)
        (block_runs g t 1 (tries t p (length ls) c) (view m) (view m) (simp (forms, e)));
    long = refl;
    same = refl;
    now_best = h;
  }

  -- the best is still what it was
  pub best_still : (row was : List Rational) (truth : Bool) (best : Option Rational) → register row p.best ≡ register was p.best → BestIs p was truth best → BestIs p row truth best
  best_still row was truth None e h = h
  best_still row was truth (Some d) e h = (h.0, e ∙ h.1)

  keeps_told : (m : Mine) → m.fails ≡ true → block g t 3 (view m) (keeps t p) ≡ Some (view (record m { row = slice_set m.row p.best (register m.row p.moment); truth = true }))
  keeps_told m e = simp (forms, low, not_last, self, e, moment_there, best_there)

  keeps_nothing : (m : Mine) → m.fails ≡ false → block g t 3 (view m) (keeps t p) ≡ Some (view m)
  keeps_nothing m e = simp (forms, e)

  -- behind the trial
  kept : (m : Mine) (q : Rational) (best : Option Rational) → length m.row ≡ 20480 → register m.row p.moment ≡ q → BestIs p m.row m.truth best → (z : Bool) → m.fails ≡ z →
      Tries m 3 (keeps t p) (if z then Some q else best)
  kept m q best wide e h true k = record {
    row = slice_set m.row p.best (register m.row p.moment);
    truth = true;
    i = m.i;
    x = m.x;
    y = m.y;
    after = m.after;
    turn = m.turn;
    fails = m.fails;
    runs = block_runs g t 3 _ _ _ (keeps_told m k);
    long = length-set m.row p.best (register m.row p.moment);
    same = same_set p.moment m.row m.row p.best (register m.row p.moment) refl (omega (arith, apart.best));
    now_best = (refl, set_there m.row p.best (register m.row p.moment) (omega (arith, wide, apart.sign, apart.truth, apart.end)) ∙ e);
  }
  kept m q best wide e h false k = record {
    row = m.row;
    truth = m.truth;
    i = m.i;
    x = m.x;
    y = m.y;
    after = m.after;
    turn = m.turn;
    fails = m.fails;
    runs = block_runs g t 3 _ _ _ (keeps_nothing m k);
    long = refl;
    same = refl;
    now_best = h;
  }

  module _ (m : Mine) (given : IsGiven p ls m.row) (q : Rational) (at : register m.row p.moment ≡ q) (not_past : zero_ℚ ≤ℚ q) (best : Option Rational) (h : BestIs p m.row m.truth best) where
    on : m.x ≡ pos 1 → Is g t (view m) (is_number v_x 1) (pos 1)
    on e = is_worth g t (view m) (is_number v_x 1) (pos 1) (simp (forms, e))

    tried_on : m.x ≡ pos 1 → Tries m tries_steps (tries t p (length ls) c) (if test q then Some q else best)
    tried_on e =
        let r = both.tried g t low not_last self p around f c ls apart sized m given (subst (λ (z : Rational). zero_ℚ ≤ℚ z) (sym at) not_past) in
        let mid = record m { row = r.row; i = r.i; x = r.x; y = r.y; after = r.after; turn = r.turn; fails = test (register m.row p.moment) } in
        let here : register r.row p.moment ≡ q = same_register p.sign r.row m.row r.same p.moment (omega (arith, apart.best, apart.sign)) ∙ at in
        let still = best_still r.row m.row m.truth best (same_register p.sign r.row m.row r.same p.best apart.sign) h in
        let k = kept mid q best (r.long ∙ given.wide) here still (test q) (ap test at) in
        let end = view (record mid { row = k.row; truth = k.truth; i = k.i; x = k.x; y = k.y; after = k.after; turn = k.turn; fails = k.fails }) in
        record {
          row = k.row;
          truth = k.truth;
          i = k.i;
          x = k.x;
          y = k.y;
          after = k.after;
          turn = k.turn;
          fails = k.fails;
          runs =
              if_runs g t (both.trial_steps g t low not_last self p around f c ls apart sized + 3) (is_number v_x 1) (trial t p (length ls) c ++ keeps t p) None (view m) end (pos 1) (on e)
              (
              runs_on g t (both.trial_steps g t low not_last self p around f c ls apart sized) 3 (trial t p (length ls) c) (keeps t p) (view m) (view mid) end r.runs k.runs
              );
          long = k.long ∙ r.long;
          same = k.same ∙ same_less p.moment p.sign r.row m.row (omega (arith, apart.best, apart.sign)) r.same;
          now_best = k.now_best;
        }

    tried_by : (b : Bool) → is_better best q ≡ b → m.x ≡ int_of b → Tries m tries_steps (tries t p (length ls) c) (tried test best (Some q))
    tried_by true e k =
        subst (Tries m tries_steps (tries t p (length ls) c)) (sym (ap (λ (b : Bool). if b && test q then Some q else best) e)) (tried_on k)
    tried_by false e k =
        subst (Tries m tries_steps (tries t p (length ls) c)) (sym (ap (λ (b : Bool). if b && test q then Some q else best) e)) (skipped m best k h)

  pub tries_run : (m : Mine) (best o : Option Rational) → IsGiven p ls m.row → m.x ≡ int_of (goes_in best o) →
      ((q : Rational) → o ≡ Some q → (register m.row p.moment ≡ q) × (zero_ℚ ≤ℚ q)) → BestIs p m.row m.truth best →
      Tries m tries_steps (tries t p (length ls) c) (tried test best o)
  tries_run m best None given e k h = skipped m best e h
  tries_run m best (Some q) given e k h =
      let at = k q refl in
      tried_by m given q at.0 at.1 best h (is_better best q) refl e
