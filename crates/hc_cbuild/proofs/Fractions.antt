-- What the primitives on fractions do, on a thread's own row and on the shared row under the mutex.
use Rattle.std.specs.Prelude.{◌≡◌, ◌<◌, ℕ, ◌==◌, nat_lt, Bool, true, false, ◌&&◌, List, [], ◌∷◌, length, slice_set, slice_index_or, ℤ, pos, negsuc, unsigned_abs}
use Rattle.std.proofs.Common.{refl, ap₂, arith}
use Rattle.std.proofs.lemmas.Bool.{lt-ltb, eqb-true, eq-eqb}
use Rattle.std.proofs.lemmas.List.{get_or-set_same}
use Rattle.hc_rational.specs.Words.{Rational, zero_ℚ, gcd, neg_ℚ}
use Rattle.hc_rational.specs.Code.{den-pos, gcd-one}
use Rattle.hc_rational.proofs.FieldLaws.{ratio-own}
use Rattle.hc_cast.specs.declared.primitive.Primitive.TheVariants.{FrNeg}
use Rattle.hc_cast.specs.declared.program.CProgram.{CProgram}
use Rattle.hc_cmach.specs.State.{place_of, width}
use Rattle.hc_cmach.specs.Expression.{int_of, written}
use Rattle.hc_cmach.specs.Primitive.{is_literal}
use Rattle.hc_cmach.proofs.Worths.{forms, written-Number, written-Neg}
use Rattle.hc_clogic.specs.Runs.{View, Runs}
use Rattle.hc_clogic.proofs.Runs.{runs_straight}
use Rattle.hc_cbuild.specs.Written.{v_ok, numbers, signed, set_register, move_register, prim}

-- ---- threads and their rows

-- the number of a thread
pub record IsThread (t : ℕ) : Type 0 where
  pub low : t < 64

pub is_row : (t : ℕ) → IsThread t → nat_lt t 65 ≡ true
is_row t h = lt-ltb t 65 (omega (arith, h.low))

pub not_common : (t : ℕ) → IsThread t → (t == 64) ≡ false
not_common t h = by_test (t == 64) refl
  where
    by_test : (b : Bool) → (t == 64) ≡ b → b ≡ false
    by_test true e = absurd (let same : t ≡ 64 = eqb-true t 64 e in omega (arith, h.low, same))
    by_test false e = refl

pub own_row : (t : ℕ) → (t == t) ≡ true
own_row t = eq-eqb t t refl

-- ---- literals

pub written_signed : (z : ℤ) → written (signed z) ≡ z
written_signed (pos n) = written-Number (pos n)
written_signed (negsuc n) = simp (written-Neg, written-Number)

pub is_lowest : (q : Rational) → is_literal q.num (pos q.den) ≡ true
is_lowest q =
    ap₂ (λ (a b : Bool). a && b) (lt-ltb 0 q.den (den-pos q)) (eq-eqb (gcd (unsigned_abs q.num) q.den) 1 (gcd-one q))

-- ---- views

abbrev pub with_row : View → List Rational → View
with_row v row = record v { row = row }

-- the view u with this row and this local v_ok
abbrev pub seen : View → List Rational → Bool → View
seen u row b = record u { row = row; values = slice_set u.values (place_of v_ok u.names) (int_of b) }

-- the local v_ok is there
pub record HasOk (u : View) : Type 0 where
  pub there : place_of v_ok u.names < length u.values

pub ok_there : (u : View) (b : Bool) → HasOk u → slice_index_or (slice_set u.values (place_of v_ok u.names) (int_of b)) (place_of v_ok u.names) (pos 0) ≡ int_of b
ok_there u b h = get_or-set_same u.values (place_of v_ok u.names) (int_of b) (pos 0) h.there

-- ---- on a thread's own row

module _ (g : CProgram) (t : ℕ) (own : IsThread t) where
  pub sets_own : (v : View) (d : ℕ) (q : Rational) → d < width → Runs g t 1 (set_register t d q ∷ []) v (with_row v (slice_set v.row d q))
  sets_own v d q inside =
      let there : nat_lt d width ≡ true = lt-ltb d width inside in
      runs_straight g t 1 (set_register t d q ∷ []) v _
      (λ rest target gives below. simp (forms, is_row t own, not_common t own, own_row t, there, written_signed q.num, is_lowest q, ratio-own q))

  pub moves_own : (v : View) (d a : ℕ) → d < width → a < width → Runs g t 1 (move_register t d a ∷ []) v (with_row v (slice_set v.row d (slice_index_or v.row a zero_ℚ)))
  moves_own v d a inside from =
      let there : nat_lt d width ≡ true = lt-ltb d width inside in
      let here : nat_lt a width ≡ true = lt-ltb a width from in
      runs_straight g t 1 (move_register t d a ∷ []) v _
      (λ rest target gives below. simp (forms, is_row t own, not_common t own, own_row t, there, here))

  pub negates_own : (v : View) (d a : ℕ) → d < width → a < width → Runs g t 1 (prim FrNeg (numbers (t ∷ d ∷ a ∷ [])) ∷ []) v (with_row v (slice_set v.row d (neg_ℚ (slice_index_or v.row a zero_ℚ))))
  negates_own v d a inside from =
      let there : nat_lt d width ≡ true = lt-ltb d width inside in
      let here : nat_lt a width ≡ true = lt-ltb a width from in
      runs_straight g t 1 (prim FrNeg (numbers (t ∷ d ∷ a ∷ [])) ∷ []) v _
      (λ rest target gives below. simp (forms, is_row t own, not_common t own, own_row t, there, here))
