-- What single statements of this code do, where a thread's locals are those of private code.
use Rattle.std.specs.Prelude.{◌≡◌, ◌<◌, ℕ, true, false, ◌&&◌, List, [], ◌∷◌, slice_set}
use Rattle.std.proofs.Common.{arith}
use Rattle.std.proofs.lemmas.Bool.{lt-ltb}
use Rattle.hc_rational.specs.Words.{Rational, neg_ℚ, fits}
use Rattle.hc_term.specs.declared.expr.Op.{Op}
use Rattle.hc_term.specs.Value.{applied, divides_by_zero}
use Rattle.hc_cast.specs.declared.program.CProgram.{CProgram}
use Rattle.hc_cmach.specs.State.{width}
use Rattle.hc_clogic.specs.Runs.{Runs}
use Rattle.hc_cbuild.specs.Written.{set_register, move_register, guarded, primitive_of}
use Rattle.hc_cbuild.proofs.Fractions.{IsThread, HasOk, sets_own, moves_own, negates_own}
use Rattle.hc_cbuild.proofs.Arithmetic.{put_if, works_out}
use Rattle.hc_cstep.specs.Locals.{Mine, Base, view}
use Rattle.hc_cstep.specs.Stands.{register}
use Rattle.hc_cvalue.specs.Values.{negate}

module _ (g : CProgram) (p : ℕ) (low : p < 64) (b : Base) where
  own : IsThread p
  own = record { low = low }

  abbrev pub with_row : Mine → List Rational → Mine
  with_row m row = record m { row = row }

  pub set_piece : (m : Mine) (d : ℕ) (q : Rational) → d < width → Runs g p 1 (set_register p d q ∷ []) (view b m) (view b (with_row m (slice_set m.row d q)))
  set_piece m d q inside = sets_own g p own (view b m) d q inside

  pub move_piece : (m : Mine) (d x : ℕ) → d < width → x < width → Runs g p 1 (move_register p d x ∷ []) (view b m) (view b (with_row m (slice_set m.row d (register m.row x))))
  move_piece m d x inside from = moves_own g p own (view b m) d x inside from

  pub negate_piece : (m : Mine) (d : ℕ) → d < width → Runs g p 1 (negate p d ∷ []) (view b m) (view b (with_row m (slice_set m.row d (neg_ℚ (register m.row d)))))
  negate_piece m d inside = negates_own g p own (view b m) d d inside inside

  has_ok : (m : Mine) → HasOk (view b m)
  has_ok m = record { there = omega arith }

  -- what a guarded call of arithmetic leaves
  abbrev pub worked_out : Mine → ℕ → Op → Rational → Rational → Mine
  worked_out m d op x y = record m { row = put_if (m.ok && fits (applied op x y)) m.row d (applied op x y); ok = m.ok && fits (applied op x y) }

  pub work_piece : (m : Mine) (op : Op) (d x y : ℕ) → d < width → x < width → y < width → (m.ok ≡ true → divides_by_zero op (register m.row y) ≡ false) →
      Runs g p 2 (guarded (primitive_of op) p d x y ∷ []) (view b m) (view b (worked_out m d op (register m.row x) (register m.row y)))
  work_piece m op d x y in_d in_x in_y some =
      works_out g p own (view b m) (has_ok m) m.row d x y (lt-ltb d width in_d) (lt-ltb x width in_x) (lt-ltb y width in_y) op m.ok some
