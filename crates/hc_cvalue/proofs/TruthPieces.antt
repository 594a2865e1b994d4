-- What the pieces of a condition's code do.
use Rattle.std.specs.Prelude.{◌≡◌, ◌<◌, ℕ, ◌+◌, Bool, true, false, not, if◌then◌else◌, [], ◌∷◌, slice_set, ℤ, pos, Some, None, Ok}
use Rattle.std.specs.Int.{int_signum}
use Rattle.std.specs.declared.cmp.Ordering.{Ordering}
use Rattle.std.specs.declared.cmp.Ordering.TheVariants as side
use Rattle.std.proofs.Common.{refl, ap, ◌∙◌, arith}
use Rattle.std.proofs.lemmas.Bool.{lt-ltb}
use Rattle.hc_rational.specs.Rational.{zero_ℚ, one_ℚ}
use Rattle.hc_rational.specs.Words.{Rational, rank}
use Rattle.hc_term.specs.declared.expr.Comparison.{Comparison}
use Rattle.hc_term.specs.declared.expr.Comparison.TheVariants as how
use Rattle.hc_term.specs.Value.{answer}
use Rattle.hc_cast.specs.declared.expr.CExpr.{CExpr}
use Rattle.hc_cast.specs.declared.expr.CExpr.TheVariants as e
use Rattle.hc_cast.specs.declared.primitive.Primitive.TheVariants.{FrCmp}
use Rattle.hc_cast.specs.declared.program.CProgram.{CProgram}
use Rattle.hc_cmach.specs.State.{width}
use Rattle.hc_cmach.specs.Expression.{int_of, combined}
use Rattle.hc_cmach.specs.Primitive.{rank_number}
use Rattle.hc_cmach.proofs.Worths.{forms}
use Rattle.hc_clogic.specs.Runs.{View, Runs, Is}
use Rattle.hc_clogic.proofs.Runs.{runs_none, runs_on, runs_longer, runs_straight, if_runs, set_runs}
use Rattle.hc_cbuild.specs.Written.{number, numbers, local, local_is, differs, set, take_prim, if_then, set_register, move_register}
use Rattle.hc_cbuild.proofs.Fractions.{IsThread, is_row, not_common, own_row, with_row, sets_own}
use Rattle.hc_cstep.specs.Locals.{Mine, Base, view, v_truth}
use Rattle.hc_cstep.specs.Stands.{register}
use Rattle.hc_cvalue.specs.Truths.{truth_of, compared_by, set_by, look, compares, inverts, conjoins, disjoins}
use Rattle.hc_cvalue.proofs.Pieces.{move_piece}

sign_of : (x : Bool) → int_signum (truth_of x).num ≡ int_of x
unfolding zero_ℚ one_ℚ
sign_of true = refl
sign_of false = refl

-- the answer of a comparison is that of C's sign on how the sides lie
tells : (how : Comparison) (o : Ordering) → combined (compared_by how) (Ok (rank_number o)) (Ok (pos 0)) ≡ Ok (int_of (answer how o))
tells how.Less side.Less = refl
tells how.Less side.Equal = refl
tells how.Less side.Greater = refl
tells how.AtMost side.Less = refl
tells how.AtMost side.Equal = refl
tells how.AtMost side.Greater = refl
tells how.Equal side.Less = refl
tells how.Equal side.Equal = refl
tells how.Equal side.Greater = refl
tells how.NotEqual side.Less = refl
tells how.NotEqual side.Equal = refl
tells how.NotEqual side.Greater = refl
tells how.AtLeast side.Less = refl
tells how.AtLeast side.Equal = refl
tells how.AtLeast side.Greater = refl
tells how.Greater side.Less = refl
tells how.Greater side.Equal = refl
tells how.Greater side.Greater = refl

module _ (g : CProgram) (p : ℕ) (low : p < 64) (b : Base) where
  own : IsThread p
  own = record { low = low }

  -- with the number z in v_truth
  abbrev told : Mine → ℤ → View
  told m z = record {
    row = m.row;
    shared = (view b m).shared;
    names = (view b m).names;
    values = pos m.place ∷ pos m.choices ∷ int_of m.arrived ∷ int_of m.bounded ∷ pos m.most ∷ pos m.steps ∷ pos m.end ∷ int_of m.ok ∷ z ∷ m.others;
    lines = b.lines;
    wakes = b.wakes;
  }

  -- a register becomes the truth of a test
  sets_by : (v : View) (d : ℕ) (test : CExpr) (x : Bool) → d < width → Is g p v test (int_of x) →
      Runs g p 2 (set_by p d test ∷ []) v (with_row v (slice_set v.row d (truth_of x)))
  sets_by v d test true inside h =
      if_runs g p 1 test (set_register p d one_ℚ ∷ []) (Some (set_register p d zero_ℚ ∷ [])) v _ (pos 1) h (sets_own g p own v d one_ℚ inside)
  sets_by v d test false inside h =
      if_runs g p 1 test (set_register p d one_ℚ ∷ []) (Some (set_register p d zero_ℚ ∷ [])) v _ (pos 0) h (sets_own g p own v d zero_ℚ inside)

  -- ---- comparisons

  ranks : (m : Mine) (d c : ℕ) → d < width → c < width →
      Runs g p 1 (take_prim v_truth FrCmp (numbers (p ∷ d ∷ c ∷ [])) ∷ []) (view b m) (told m (rank_number (rank (register m.row d) (register m.row c))))
  ranks m d c in_d in_c =
      let here_d = lt-ltb d width in_d in
      let here_c = lt-ltb c width in_c in
      runs_straight g p 1 (take_prim v_truth FrCmp (numbers (p ∷ d ∷ c ∷ [])) ∷ []) (view b m) _
      (λ rest target gives below. simp (forms, is_row p own, not_common p own, own_row p, here_d, here_c))

  pub compare_piece : (m : Mine) (how : Comparison) (d : ℕ) → d + 1 < width →
      Runs g p 4 (compares p how d) (view b m)
      (view b (record m { row = slice_set m.row d (truth_of (answer how (rank (register m.row d) (register m.row (d + 1))))); truth = false }))
  compare_piece m how d inside =
      let o = rank (register m.row d) (register m.row (d + 1)) in
      let v = told m (rank_number o) in
      let w = with_row v (slice_set m.row d (truth_of (answer how o))) in
      let test = e.Binary (compared_by how) (local v_truth) (number 0) in
      runs_on g p 1 3 (take_prim v_truth FrCmp (numbers (p ∷ d ∷ (d + 1) ∷ [])) ∷ []) (set_by p d test ∷ set v_truth (number 0) ∷ []) (view b m) v _
      (ranks m d (d + 1) (omega (arith, inside)) inside)
      (
      runs_on g p 2 1 (set_by p d test ∷ []) (set v_truth (number 0) ∷ []) v w _
      (sets_by v d test (answer how o) (omega (arith, inside)) (λ rest target gives. simp (forms, tells how o)))
      (set_runs g p v_truth (number 0) w (pos 0) (λ rest target gives. simp forms))
      )

  -- ---- truths

  pub look_piece : (m : Mine) (d : ℕ) (x : Bool) → d < width → register m.row d ≡ truth_of x → Runs g p 1 (look p d ∷ []) (view b m) (view b (record m { truth = x }))
  look_piece m d x inside is =
      let here = lt-ltb d width inside in
      let sign : int_signum (register m.row d).num ≡ int_of x = ap (λ (q : Rational). int_signum q.num) is ∙ sign_of x in
      runs_straight g p 1 (look p d ∷ []) (view b m) _ (λ rest target gives below. simp (forms, is_row p own, not_common p own, own_row p, here, sign))

  pub invert_piece : (m : Mine) (d : ℕ) (x : Bool) → d < width → register m.row d ≡ truth_of x →
      Runs g p 3 (inverts p d) (view b m) (view b (record m { row = slice_set m.row d (truth_of (not x)); truth = x }))
  invert_piece m d x inside is =
      let m1 = record m { truth = x } in
      runs_on g p 1 2 (look p d ∷ []) (set_by p d (local_is v_truth 0) ∷ []) (view b m) (view b m1) _ (look_piece m d x inside is)
      (sets_by (view b m1) d (local_is v_truth 0) (not x) inside (zero_or_one x))
    where
      zero_or_one : (x : Bool) → Is g p (view b (record m { truth = x })) (local_is v_truth 0) (int_of (not x))
      zero_or_one true rest target gives = simp forms
      zero_or_one false rest target gives = simp forms

  -- the first of two truths where it decides, and else the second
  pub conjoin_piece : (m : Mine) (d : ℕ) (x : Bool) → d + 1 < width → register m.row d ≡ truth_of x →
      Runs g p 3 (conjoins p d) (view b m) (view b (record m { row = if x then slice_set m.row d (register m.row (d + 1)) else m.row; truth = x }))
  conjoin_piece m d x inside is =
      let m1 = record m { truth = x } in
      runs_on g p 1 2 (look p d ∷ []) (if_then (differs (local v_truth) (number 0)) (move_register p d (d + 1) ∷ []) ∷ []) (view b m) (view b m1) _ (look_piece m d x (omega (arith, inside)) is)
      (goes x)
    where
      goes : (x : Bool) → Runs g p 2 (if_then (differs (local v_truth) (number 0)) (move_register p d (d + 1) ∷ []) ∷ []) (view b (record m { truth = x }))
          (view b (record m { row = if x then slice_set m.row d (register m.row (d + 1)) else m.row; truth = x }))
      goes true =
          if_runs g p 1 (differs (local v_truth) (number 0)) (move_register p d (d + 1) ∷ []) None (view b (record m { truth = true })) _ (pos 1) (λ rest target gives. simp forms)
          (move_piece g p low b (record m { truth = true }) d (d + 1) (omega (arith, inside)) inside)
      goes false =
          if_runs g p 1 (differs (local v_truth) (number 0)) (move_register p d (d + 1) ∷ []) None (view b (record m { truth = false })) _ (pos 0) (λ rest target gives. simp forms)
          (runs_longer g p 0 1 [] _ _ (omega arith) (runs_none g p (view b (record m { truth = false }))))

  pub disjoin_piece : (m : Mine) (d : ℕ) (x : Bool) → d + 1 < width → register m.row d ≡ truth_of x →
      Runs g p 3 (disjoins p d) (view b m) (view b (record m { row = if x then m.row else slice_set m.row d (register m.row (d + 1)); truth = x }))
  disjoin_piece m d x inside is =
      let m1 = record m { truth = x } in
      runs_on g p 1 2 (look p d ∷ []) (if_then (local_is v_truth 0) (move_register p d (d + 1) ∷ []) ∷ []) (view b m) (view b m1) _ (look_piece m d x (omega (arith, inside)) is)
      (goes x)
    where
      goes : (x : Bool) → Runs g p 2 (if_then (local_is v_truth 0) (move_register p d (d + 1) ∷ []) ∷ []) (view b (record m { truth = x }))
          (view b (record m { row = if x then m.row else slice_set m.row d (register m.row (d + 1)); truth = x }))
      goes false =
          if_runs g p 1 (local_is v_truth 0) (move_register p d (d + 1) ∷ []) None (view b (record m { truth = false })) _ (pos 1) (λ rest target gives. simp forms)
          (move_piece g p low b (record m { truth = false }) d (d + 1) (omega (arith, inside)) inside)
      goes true =
          if_runs g p 1 (local_is v_truth 0) (move_register p d (d + 1) ∷ []) None (view b (record m { truth = true })) _ (pos 0) (λ rest target gives. simp forms)
          (runs_longer g p 0 1 [] _ _ (omega arith) (runs_none g p (view b (record m { truth = true }))))
