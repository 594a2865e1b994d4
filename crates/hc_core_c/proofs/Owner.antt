-- f_owner: the last process p with 32 p below a code.
use Rattle.std.specs.Prelude.{◌≡◌, ◌<◌, ◌≤◌, ◌+◌, ◌*◌, ◌^◌, ℕ, Bool, true, false, if◌then◌else◌, nat_lt, List, [], ◌∷◌, ℤ, pos, Option, Some, codes}
use Rattle.std.proofs.Common.{refl, sym, ap, subst, arith}
use Rattle.hc_rational.specs.Words.{Rational}
use Rattle.hc_cast.specs.declared.program.CProgram.{CProgram}
use Rattle.hc_cast.specs.declared.stmt.CStmt.{CStmt}
use Rattle.hc_cast.specs.declared.stmt.CStmt.TheVariants.{Set, Call}
use Rattle.hc_cmach.specs.State.{Word, function_among}
use Rattle.hc_cmach.proofs.Named.{named-function}
use Rattle.hc_cast.specs.declared.expr.CExpr.{CExpr}
use Rattle.hc_cmach.proofs.Worths.{forms}
use Rattle.hc_clogic.specs.Runs.{View, Runs, Are, kept}
use Rattle.hc_clogic.proofs.Runs.{call_runs, runs_longer, runs_straight, loop_cost}
use Rattle.hc_core_c.specs.Twin.{Board64, rounds, owner, owner_step}
use Rattle.hc_cbuild.specs.Written.{number, local, less, times, if_then, round, count_to}
use Rattle.hc_core_c.specs.Code.{p, q, x, f_owner}
use Rattle.hc_core_c.proofs.Base.{is_below, is_not_below, no_round, one_more, Rounds, rounds_run}
use Rattle.hc_core_c.specs.Owner.{core, Has}

abbrev names : List Word
names = x ∷ p ∷ q ∷ []

module _ (g : CProgram) (t : ℕ) (own : List Rational) (b : Board64) (code : ℕ) where
  abbrev here : ℕ → ℕ → View
  here i last = core own names (pos code ∷ pos i ∷ pos last ∷ []) b

  abbrev turn : List CStmt
  turn = round p (if_then (less (times (local p) 32) (local x)) (Set q (local p) ∷ []) ∷ [])

  one : (i last : ℕ) (is : Bool) → nat_lt (i * 32) code ≡ is → i < 64 → Runs g t 3 turn (here i last) (here (i + 1) (if is then i else last))
  one i last true e low =
      let small : nat_lt (i * 32) (2 ^ 31) ≡ true = is_below (i * 32) (2 ^ 31) (omega (arith, low)) in
      let fits : nat_lt (i + 1) (2 ^ 31) ≡ true = is_below (i + 1) (2 ^ 31) (omega (arith, low)) in
      runs_straight g t 3 turn _ _ (λ rest target gives below. simp (forms, e, small, fits))
  one i last false e low =
      let small : nat_lt (i * 32) (2 ^ 31) ≡ true = is_below (i * 32) (2 ^ 31) (omega (arith, low)) in
      let fits : nat_lt (i + 1) (2 ^ 31) ≡ true = is_below (i + 1) (2 ^ 31) (omega (arith, low)) in
      runs_longer g t 2 3 turn _ _ (omega arith) (runs_straight g t 2 turn _ _ (λ rest target gives below. simp (forms, e, small, fits)))

  -- the count_to
  loops : (P : ℕ) → P ≤ 64 → Rounds g t P 3 (less (local p) (number P)) turn (λ i. here i (rounds (owner_step code) i 0))
  loops P few = record {
    goes = λ i low rest target gives. (let e : nat_lt i P ≡ true = is_below i P low in simp (forms, e));
    ends = λ rest target gives. (let e : nat_lt P P ≡ false = is_not_below P P (omega arith) in simp (forms, e));
    turns =
        λ i low.
        subst (λ last. Runs g t 3 turn (here i (rounds (owner_step code) i 0)) (here (i + 1) last)) (sym (one_more (owner_step code) i 0))
        (one i (rounds (owner_step code) i 0) (nat_lt (i * 32) code) refl (omega (arith, low, few)));
  }

abbrev pub owner_cost : ℕ → ℕ
owner_cost n = 1 + (n + 1)

module _ (g : CProgram) (t P C : ℕ) (has : Has g P C) (own : List Rational) where
  there : function_among (codes "f_owner") g.functions ≡ Some (f_owner P)
  there = ap (function_among (codes "f_owner")) has.functions

  pub call_owner : (names : List Word) (values : List ℤ) (b : Board64) (result : Option Word) (e : CExpr) (code : ℕ) → Are g t (core own names values b) (e ∷ []) (pos code ∷ []) →
      Runs g t (owner_cost (loop_cost g t 3 P)) (Call result (codes "f_owner") (e ∷ []) ∷ []) (core own names values b)
      (core own names (kept (core own names values b) result (pos (owner P code))) b)
  call_owner names values b result e code are =
      call_runs g t (loop_cost g t 3 P) (core own names values b) (here g t own b code P (owner P code)) (f_owner P) result (codes "f_owner") (e ∷ []) (pos code ∷ [])
      (count_to p P (if_then (less (times (local p) 32) (local x)) (Set q (local p) ∷ []) ∷ []) ∷ []) (local q) (pos (owner P code))
      (named-function (codes "owner")) there are refl
      (subst (λ last. Runs g t (loop_cost g t 3 P) (count_to p P (if_then (less (times (local p) 32) (local x)) (Set q (local p) ∷ []) ∷ []) ∷ []) (here g t own b code 0 last) (here g t own b code P (owner P code))) (no_round (owner_step code) 0)
      (rounds_run g t P 3 _ _ _ (loops g t own b code P has.few)))
      (λ rest target gives. simp forms)
