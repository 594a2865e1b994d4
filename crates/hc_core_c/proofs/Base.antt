-- The owner of the mutex over a board: its view, the places of the arrays, and loops that count.
use Rattle.std.specs.Prelude.{◌≡◌, ◌<◌, ◌≤◌, ◌+◌, ◌-◌, cond, ◌-ℤ◌, negsuc, ℕ, zero, suc, Bool, true, false, ◌&&◌, if◌then◌else◌, nat_lt, List, [], ◌∷◌, map, slice_set, slice_index_or, ℤ, pos, Some, None}
use Rattle.std.proofs.Common.{refl, sym, ap, ◌∙◌, subst, arith}
use Rattle.std.proofs.Math.ListN.{get_or-map}
use Rattle.std.proofs.lemmas.Bool.{lt-ltb, le-ltb}
use Rattle.std.proofs.lemmas.List.{map-set}
use Rattle.hc_cast.specs.declared.expr.CExpr.{CExpr}
use Rattle.hc_cast.specs.declared.stmt.CStmt.{CStmt}
use Rattle.hc_cast.specs.declared.stmt.CStmt.TheVariants as a
use Rattle.hc_cast.specs.declared.program.CProgram.{CProgram}
use Rattle.hc_cmach.specs.State.{Word}
use Rattle.hc_clogic.specs.Runs.{View, Runs, Is}
use Rattle.hc_clogic.proofs.Runs.{if_runs, runs_none, runs_longer, while_ends, while_turns, loop_cost}
use Rattle.hc_core_c.specs.Twin.{rounds}
use Rattle.hc_cmach.specs.Expression.{int_of}
use Rattle.hc_cmach.proofs.Worths.{worth-Binary, worth-Number}
use Rattle.hc_cbuild.specs.Written.{number, local, less, both, if_then, if_else, count_to, round}

-- ---- elements

pub element_is : (xs : List ℕ) (i : ℕ) → slice_index_or (map pos xs) i (pos 0) ≡ pos (slice_index_or xs i 0)
element_is xs i = get_or-map pos xs i 0

pub element_set : (xs : List ℕ) (i z : ℕ) → slice_set (map pos xs) i (pos z) ≡ map pos (slice_set xs i z)
element_set xs i z = sym (map-set pos xs i z)

-- ---- numbers

pub is_below : (m n : ℕ) → m < n → nat_lt m n ≡ true
is_below m n h = lt-ltb m n h

pub is_not_below : (m n : ℕ) → n ≤ m → nat_lt m n ≡ false
is_not_below m n h = le-ltb m n h

pub minus-nat : (a b : ℕ) → b ≤ a → pos a -ℤ pos b ≡ pos (a - b)
minus-nat a zero h = ap pos (omega arith)
minus-nat a (suc b) h = ap (λ (x : Bool). cond x (negsuc (suc b - suc a)) (pos (a - suc b))) (is_not_below a (suc b) h)

-- ---- rounds

pub no_round : {Q : Type 0} (f : ℕ → Q → Q) (q : Q) → rounds f 0 q ≡ q
unfolding rounds
no_round f q = refl

next_is : (n : ℕ) → n + 1 ≡ suc n
next_is n = omega arith

round_after : {Q : Type 0} (f : ℕ → Q → Q) (n : ℕ) (q : Q) → rounds f (suc n) q ≡ f n (rounds f n q)
unfolding rounds
round_after f n q = refl

pub one_more : {Q : Type 0} (f : ℕ → Q → Q) (n : ℕ) (q : Q) → rounds f (n + 1) q ≡ f n (rounds f n q)
one_more f n q = ap (λ k. rounds f k q) (next_is n) ∙ round_after f n q

-- what holds at first and is kept by each round
pub kept_fits : {Q : Type 0} (f : ℕ → Q → Q) (Fits : ℕ → Q → Type 0) (n : ℕ) (q : Q) → Fits 0 q → ((i : ℕ) (q : Q) → i < n → Fits i q → Fits (i + 1) (f i q)) →
    (i : ℕ) → i ≤ n → Fits i (rounds f i q)
kept_fits f Fits n q first keeps zero low = subst (Fits 0) (sym (no_round f q)) first
kept_fits f Fits n q first keeps (suc i) low =
    let lower : i ≤ n = omega (arith, low) in
    let below : i < n = omega (arith, low) in
    let here : i + 1 ≡ suc i = next_is i in
    subst (λ k. Fits k (rounds f k q)) here
    (subst (Fits (i + 1)) (sym (one_more f i q)) (keeps i (rounds f i q) below (kept_fits f Fits n q first keeps i lower)))

-- ---- loops

module _ (g : CProgram) (t : ℕ) where
  -- a count_to whose i-th round leads from V i to V (i + 1), for i below n
  pub record Rounds (n cost : ℕ) (test : CExpr) (body : List CStmt) (V : ℕ → View) : Type 0 where
    pub goes : (i : ℕ) → i < n → Is g t (V i) test (pos 1)
    pub ends : Is g t (V n) test (pos 0)
    pub turns : (i : ℕ) → i < n → Runs g t cost body (V i) (V (i + 1))

  rounds_from : (n cost : ℕ) (test : CExpr) (body : List CStmt) (V : ℕ → View) → Rounds n cost test body V → (k i : ℕ) → i + k ≡ n →
      Runs g t (loop_cost g t cost k) (a.While test body ∷ []) (V i) (V n)
  rounds_from n cost test body V h zero i e =
      let same : i ≡ n = omega (arith, e) in
      subst (λ (j : ℕ). Runs g t 1 (a.While test body ∷ []) (V j) (V n)) (sym same) (while_ends g t test body (V n) h.ends)
  rounds_from n cost test body V h (suc k) i e =
      let low : i < n = omega (arith, e) in
      let rest : i + 1 + k ≡ n = omega (arith, e) in
      while_turns g t cost (loop_cost g t cost k) test body (V i) (V (i + 1)) (V n) (h.goes i low) (h.turns i low) (rounds_from n cost test body V h k (i + 1) rest)

  pub rounds_run : (n cost : ℕ) (test : CExpr) (body : List CStmt) (V : ℕ → View) → Rounds n cost test body V →
      Runs g t (loop_cost g t cost n) (a.While test body ∷ []) (V 0) (V n)
  rounds_run n cost test body V h = rounds_from n cost test body V h n 0 (omega arith)

  counts : (i n : ℕ) (x : Word) (v : View) (is : Bool) → Is g t v (local x) (pos i) → nat_lt i n ≡ is → Is g t v (less (local x) (number n)) (int_of is)
  counts i n x v is h e rest target gives = (let here = h rest target gives in simp (worth-Binary, worth-Number, here, e))

  -- a count_to that counts x up to n, over something of which each round i makes f i
  pub loop_runs :
      {Q : Type 0} (f : ℕ → Q → Q) (Fits : ℕ → Q → Type 0) (V : ℕ → Q → View) (x : Word) (n cost : ℕ) (ss : List CStmt) (q : Q) →
      ((i : ℕ) (q : Q) → Is g t (V i q) (local x) (pos i)) → Fits 0 q → ((i : ℕ) (q : Q) → i < n → Fits i q → Fits (i + 1) (f i q)) →
      ((i : ℕ) (q : Q) → i < n → Fits i q → Runs g t cost (round x ss) (V i q) (V (i + 1) (f i q))) →
      Runs g t (loop_cost g t cost n) (count_to x n ss ∷ []) (V 0 q) (V n (rounds f n q))
  loop_runs f Fits V x n cost ss q at first keeps one =
      let fits = kept_fits f Fits n q first keeps in
      subst (λ z. Runs g t (loop_cost g t cost n) (count_to x n ss ∷ []) (V 0 z) (V n (rounds f n q))) (no_round f q)
      (
      rounds_run n cost (less (local x) (number n)) (round x ss) (λ i. V i (rounds f i q))
      (
      record {
        goes = λ i low. counts i n x (V i (rounds f i q)) true (at i (rounds f i q)) (is_below i n low);
        ends = counts n n x (V n (rounds f n q)) false (at n (rounds f n q)) (is_not_below n n (omega arith));
        turns =
            λ i low.
            subst (λ z. Runs g t cost (round x ss) (V i (rounds f i q)) (V (i + 1) z)) (sym (one_more f i q))
            (one i (rounds f i q) low (fits i (omega (arith, low))));
      }
      )
      )

  -- ---- choices

  pub when_runs :
      {Q : Type 0} (V : Q → View) (n : ℕ) (test : CExpr) (ss : List CStmt) (q r : Q) (is : Bool) → Is g t (V q) test (int_of is) →
      (is ≡ true → Runs g t n ss (V q) (V r)) → Runs g t (1 + n) (if_then test ss ∷ []) (V q) (V (if is then r else q))
  when_runs V n test ss q r true h k = if_runs g t n test ss None (V q) (V r) (pos 1) h (k refl)
  when_runs V n test ss q r false h k =
      runs_longer g t 1 (1 + n) _ _ _ (omega arith) (if_runs g t 0 test ss None (V q) (V q) (pos 0) h (runs_none g t (V q)))

  pub when_else_runs :
      {Q : Type 0} (V : Q → View) (n : ℕ) (test : CExpr) (ss rs : List CStmt) (v : View) (r s : Q) (is : Bool) → Is g t v test (int_of is) →
      (is ≡ true → Runs g t n ss v (V r)) → (is ≡ false → Runs g t n rs v (V s)) → Runs g t (1 + n) (if_else test ss rs ∷ []) v (V (if is then r else s))
  when_else_runs V n test ss rs v r s true h k l = if_runs g t n test ss (Some rs) v (V r) (pos 1) h (k refl)
  when_else_runs V n test ss rs v r s false h k l = if_runs g t n test ss (Some rs) v (V s) (pos 0) h (l refl)

  pub both_is : (v : View) (a b : CExpr) (x y : Bool) → Is g t v a (int_of x) → Is g t v b (int_of y) → Is g t v (both a b) (int_of (x && y))
  both_is v a b true true h k rest target gives = (let m = h rest target gives in let n = k rest target gives in simp (worth-Binary, m, n))
  both_is v a b true false h k rest target gives = (let m = h rest target gives in let n = k rest target gives in simp (worth-Binary, m, n))
  both_is v a b false y h k rest target gives = (let m = h rest target gives in simp (worth-Binary, m))
