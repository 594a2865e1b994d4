-- The set of numbers is that of the seed's bit.
use Rattle.std.specs.Prelude.{◌≡◌, ◌<◌, ◌≤◌, ℕ, zero, suc, ◌+◌, ◌*◌, ◌/◌, ◌%◌, ◌^◌, Bool, true, false, not, ◌||◌, ◌==◌, nat_le, nat_lt, if◌then◌else◌, List, [], ◌∷◌, length, pos, Some, Ok}
use Rattle.std.specs.Ordering.{int_eq}
use Rattle.std.proofs.lemmas.Int.{ints}
use Rattle.std.proofs.lemmas.Bool.Decides.{nat_tests}
use Rattle.std.proofs.Common.{refl, sym, ap, ap₂, ◌∙◌, subst, arith}
use Rattle.std.proofs.lemmas.Bool.{eqb-true, eqb-false, lt-ltb}
use Rattle.hc_term.specs.Silent.{picks_left}
use Rattle.hc_cast.specs.declared.expr.COp.TheVariants as op
use Rattle.hc_cast.specs.declared.expr.CExpr.{CExpr}
use Rattle.hc_cast.specs.declared.expr.CExpr.TheVariants as e
use Rattle.hc_cast.specs.declared.stmt.CStmt.TheVariants as a
use Rattle.hc_cast.specs.declared.program.CProgram.{CProgram}
use Rattle.hc_cmach.specs.Expression.{combined, int_of}
use Rattle.hc_clogic.specs.Runs.{Runs, Is, caller}
use Rattle.hc_clogic.proofs.Runs.{runs_on, if_runs}
use Rattle.hc_cmach.proofs.Worths.{forms, worth-Binary}
use Rattle.hc_clogic.proofs.Blocks.{block_runs}
use Rattle.hc_cstep.specs.Locals.{Mine, Base, view, v_place}
use Rattle.hc_cstep.specs.Choosing.{among, chosen_is, any_behind, any_of, takes_side, side_by, counts_choice, picks}

same_number : (n : ℕ) → int_eq (pos n) (pos n) ≡ true
same_number n = grind (arith, ints, nat_tests)

-- ---- sets

abbrev is_any : ℕ → List ℕ → Bool
is_any k [] = false
is_any k (n ∷ ns) = (k == n) || is_any k ns

or_false : (x : Bool) → (x || false) ≡ x
or_false true = refl
or_false false = refl

or_assoc : (x y z : Bool) → ((x || y) || z) ≡ (x || (y || z))
or_assoc true y z = refl
or_assoc false y z = refl

either_way : (x : Bool) (k n : ℕ) (ns : List ℕ) → (k == n) ≡ false → is_any k (if x then n ∷ ns else ns) ≡ is_any k ns
either_way true k n ns e = ap (λ (y : Bool). y || is_any k ns) e
either_way false k n ns e = refl

other : (k n : ℕ) → n < k → (k == n) ≡ false
other k n less = by (k == n) refl
  where
    by : (x : Bool) → (k == n) ≡ x → x ≡ false
    by true e = let same = eqb-true k n e in absurd (omega (arith, less, same))
    by false e = refl

beyond : (f : ℕ → Bool) (n k : ℕ) → n ≤ k → is_any k (among f n) ≡ false
beyond f zero k less = refl
beyond f (suc n) k less = either_way (f n) k n (among f n) (other k n (omega (arith, less))) ∙ beyond f n k (omega (arith, less))

-- the number at hand
this : (f : ℕ → Bool) (n k : ℕ) (x : Bool) → (k == n) ≡ true → f n ≡ x → is_any k (among f n) ≡ false → is_any k (if x then n ∷ among f n else among f n) ≡ x
this f n k true e h far = ap (λ (y : Bool). y || is_any k (among f n)) e
this f n k false e h far = far

within : (f : ℕ → Bool) (n k : ℕ) → k < n → is_any k (among f n) ≡ f k
within f zero k less = absurd (omega (arith, less))
within f (suc n) k less = by (k == n) refl (within f n k)
  where
    by : (x : Bool) → (k == n) ≡ x → (k < n → is_any k (among f n) ≡ f k) → is_any k (among f (suc n)) ≡ f k
    by true e rest =
        let same : k ≡ n = eqb-true k n e in
        this f n k (f n) e refl (beyond f n k (omega (arith, same))) ∙ ap f (sym same)
    by false e rest =
        let apart = eqb-false k n e in
        either_way (f n) k n (among f n) e ∙ rest (omega (arith, less, apart))

-- ---- the test

int_is : (k n : ℕ) (x : Bool) → (k == n) ≡ x → int_eq (pos k) (pos n) ≡ x
int_is k n true h = let same : k ≡ n = eqb-true k n h in subst (λ (i : ℕ). int_eq (pos k) (pos i) ≡ true) same (same_number k)
int_is k n false h = let apart = eqb-false k n h in grind (arith, ints, nat_tests, apart)

or_worth : (x y : Bool) → combined op.Or (Ok (int_of x)) (Ok (int_of y)) ≡ Ok (int_of (x || y))
or_worth true true = refl
or_worth true false = refl
or_worth false true = refl
or_worth false false = refl

module _ (g : CProgram) (p : ℕ) (b : Base) (m : Mine) where
  one : (n : ℕ) → Is g p (view b m) (chosen_is n) (int_of (m.choices == n))
  one n rest target gives = let same = int_is m.choices n (m.choices == n) refl in simp (forms, same)

  behind : (before : CExpr) (x : Bool) (ns : List ℕ) → Is g p (view b m) before (int_of x) → Is g p (view b m) (any_behind before ns) (int_of (x || is_any m.choices ns))
  behind before x [] h rest target gives = h rest target gives ∙ ap (λ (y : Bool). Ok (int_of y)) (sym (or_false x))
  behind before x (n ∷ ns) h rest target gives =
      behind (e.Binary op.Or before (chosen_is n)) (x || (m.choices == n)) ns
      (
      λ rs into given.
      worth-Binary g (caller (view b m) rs into given) b.shared op.Or before (chosen_is n)
      ∙ ap₂ (combined op.Or) (h rs into given) (one n rs into given)
      ∙ or_worth x (m.choices == n)
      )
      rest target gives
      ∙ ap (λ (y : Bool). Ok (int_of y)) (or_assoc x (m.choices == n) (is_any m.choices ns))

  tests : (ns : List ℕ) → Is g p (view b m) (any_of ns) (int_of (is_any m.choices ns))
  tests [] rest target gives = simp forms
  tests (n ∷ ns) rest target gives = behind (chosen_is n) (m.choices == n) ns (one n) rest target gives

  takes_runs : (ns : List ℕ) (first second : ℕ) (x : Bool) → is_any m.choices ns ≡ x →
      Runs g p 2 (takes_side ns first second ∷ []) (view b m) (view b (record m { place = if x then first else second }))
  takes_runs ns first second true h =
      if_runs g p 1 (any_of ns) (a.Set v_place (e.Number (pos first)) ∷ []) (Some (a.Set v_place (e.Number (pos second)) ∷ [])) (view b m)
      (view b (record m { place = first })) (pos 1)
      (subst (λ (y : Bool). Is g p (view b m) (any_of ns) (int_of y)) h (tests ns))
      (block_runs g p 1 (a.Set v_place (e.Number (pos first)) ∷ []) (view b m) (view b (record m { place = first })) (simp forms))
  takes_runs ns first second false h =
      if_runs g p 1 (any_of ns) (a.Set v_place (e.Number (pos first)) ∷ []) (Some (a.Set v_place (e.Number (pos second)) ∷ [])) (view b m)
      (view b (record m { place = second })) (pos 0)
      (subst (λ (y : Bool). Is g p (view b m) (any_of ns) (int_of y)) h (tests ns))
      (block_runs g p 1 (a.Set v_place (e.Number (pos second)) ∷ []) (view b m) (view b (record m { place = second })) (simp forms))

  turned : (x : Bool) (left right : ℕ) → (if not x then right else left) ≡ (if x then left else right)
  turned true left right = refl
  turned false left right = refl

  side_runs : (f : ℕ → Bool) (few : Bool) (left right : ℕ) → m.choices < 64 →
      Runs g p 2 (side_by f few left right ∷ []) (view b m) (view b (record m { place = if f m.choices then left else right }))
  side_runs f true left right less = takes_runs (among f 64) left right (f m.choices) (within f 64 m.choices less)
  side_runs f false left right less =
      subst (λ (place : ℕ). Runs g p 2 (side_by f false left right ∷ []) (view b m) (view b (record m { place = place }))) (turned (f m.choices) left right)
      (takes_runs (among (λ k. not (f k)) 64) right left (not (f m.choices)) (within (λ k. not (f k)) 64 m.choices less))

  counts_runs : m.choices < 64 → (x : Bool) → ((m.choices + 1) == 64) ≡ x →
      Runs g p 3 counts_choice (view b m) (view b (record m { choices = if x then 0 else m.choices + 1 }))
  counts_runs less true h =
      let fit : nat_lt (m.choices + 1) (2 ^ 31) ≡ true = lt-ltb (m.choices + 1) (2 ^ 31) (omega (arith, less)) in
      let same = int_is (m.choices + 1) 64 _ h in
      block_runs g p 3 counts_choice (view b m) (view b (record m { choices = 0 })) (simp (forms, fit, same))
  counts_runs less false h =
      let fit : nat_lt (m.choices + 1) (2 ^ 31) ≡ true = lt-ltb (m.choices + 1) (2 ^ 31) (omega (arith, less)) in
      let same = int_is (m.choices + 1) 64 _ h in
      block_runs g p 3 counts_choice (view b m) (view b (record m { choices = m.choices + 1 })) (simp (forms, fit, same))

-- ---- choices are counted modulo 64

same_bit : (k p : ℕ) → (k % 64 + 7 * p) % 64 ≡ (k + 7 * p) % 64
same_bit k p = omega arith

pub same_side : (seed p k : ℕ) → picks_left seed p (k % 64) ≡ picks_left seed p k
same_side seed p k = ap (λ (n : ℕ). (seed / 2 ^ n) % 2 == 0) (same_bit k p)

pub one_more : (k n : ℕ) (x : Bool) → k ≡ n % 64 → ((k + 1) == 64) ≡ x → (if x then 0 else k + 1) ≡ (n + 1) % 64
one_more k n true e h = let same = eqb-true (k + 1) 64 h in omega (arith, e, same)
one_more k n false e h = let apart = eqb-false (k + 1) 64 h in omega (arith, e, apart)

pub picks_runs : (g : CProgram) (p seed : ℕ) (b : Base) (m : Mine) (left right : ℕ) → m.choices < 64 →
    Runs g p 5 (picks p seed left right) (view b m)
    (view b (record m { place = if picks_left seed p m.choices then left else right; choices = if (m.choices + 1) == 64 then 0 else m.choices + 1 }))
picks_runs g p seed b m left right less =
    let few = nat_le (length (among (picks_left seed p) 64)) 32 in
    let mid = record m { place = if picks_left seed p m.choices then left else right } in
    runs_on g p 2 3 (side_by (picks_left seed p) few left right ∷ []) counts_choice (view b m) (view b mid)
    (view b (record mid { choices = if (m.choices + 1) == 64 then 0 else m.choices + 1 }))
    (side_runs g p b m (picks_left seed p) few left right less) (counts_runs g p b mid less ((m.choices + 1) == 64) refl)
