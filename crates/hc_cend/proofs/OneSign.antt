-- The code of one comparison, whole: it leaves in its register what stands for the comparison.
use Rattle.std.specs.Prelude.{◌≡◌, ℕ, ◌+◌, ◌==◌, nat_lt, Bool, true, false, if◌then◌else◌, List, [], ◌∷◌, slice_set, ℤ, pos, Some, None}
use Rattle.std.proofs.Common.{refl, ap}
use Rattle.hc_rational.specs.Words.{Rational, zero_ℚ, rank, ◌≤ℚ◌}
use Rattle.hc_term.specs.EndMoment.{opposite}
use Rattle.hc_cross.proofs.Sides.{root, crossing_at}
use Rattle.hc_cast.specs.declared.stmt.CStmt.{CStmt}
use Rattle.hc_cast.specs.declared.stmt.CStmt.TheVariants as a
use Rattle.hc_cast.specs.declared.program.CProgram.{CProgram}
use Rattle.hc_cmach.specs.Expression.{is_int, int_of, is_true}
use Rattle.hc_cmach.specs.Primitive.{rank_number}
use Rattle.hc_clogic.specs.Runs.{View, Runs}
use Rattle.hc_clogic.proofs.Runs.{if_runs, runs_on}
use Rattle.hc_clogic.proofs.Blocks.{block_runs}
use Rattle.hc_cend.specs.Places.{Places}
use Rattle.hc_cend.specs.Written.{signs, crossed, uncrossed, are_opposite, counts, one_sign}
use Rattle.hc_cend.specs.Searching.{Mine, Around, register}
use Rattle.hc_cend.proofs.Copying.{AreThere}
use Rattle.hc_cend.proofs.Copying as code

module _ (g : CProgram) (t : ℕ) (low : nat_lt t 65 ≡ true) (not_last : (t == 64) ≡ false) (self : (t == t) ≡ true) (p : Places) (around : Around) where
  abbrev pub view : Mine → View
  view m = code.view g t low not_last self p around m

  abbrev signed : Mine → Mine
  signed m = code.signed g t low not_last self p around m

  abbrev pub right_one : Mine → Rational
  right_one m = code.right_one g t low not_last self p around m

  abbrev pub KnowsCrossing : List Rational → ℕ → Type 0
  KnowsCrossing row i = code.KnowsCrossing g t low not_last self p around row i

  -- what comparison i finds
  pub record IsReady (m : Mine) : Type 0 where
    pub there : AreThere p m.i
    pub count : is_int (pos (m.i + 1)) ≡ true
    pub zero : register m.row p.zero ≡ zero_ℚ
    pub not_past : zero_ℚ ≤ℚ register m.row p.moment
    pub knows : KnowsCrossing m.row m.i

  abbrev pub Branch : Mine → List CStmt → Type 0
  Branch m ss = (y : ℤ) × Runs g t 4 ss (view m) (view (record m { row = slice_set m.row (p.sign + m.i) (right_one m); y = y }))

  branch_by : (m : Mine) → IsReady m → (b : Bool) → opposite (rank (register m.row (p.at + m.i)) zero_ℚ) (rank (register m.row (p.slope + m.i)) zero_ℚ) ≡ b →
      Branch (signed m) (if is_true (int_of b) then crossed t p else uncrossed t p)
  branch_by m h true e =
      let u = register m.row (p.at + m.i) in
      let w = register m.row (p.slope + m.i) in
      code.crossed_runs g t low not_last self p around (signed m) h.there h.zero (root u w) (crossing_at u w e)
      (h.knows (root u w) (crossing_at u w e))
  branch_by m h false e =
      let u = register m.row (p.at + m.i) in
      let w = register m.row (p.slope + m.i) in
      code.uncrossed_runs g t low not_last self p around (signed m) h.there h.zero h.not_past
      (ap (λ q. rank_number (rank u q)) h.zero) (ap (λ (b : Bool). if b then Some (root u w) else None) e)

  abbrev pub behind : Mine → ℤ → ℤ → Mine
  behind m x y = record m { row = slice_set m.row (p.sign + m.i) (right_one m); i = m.i + 1; x = x; y = y }

  -- in 8 steps at most
  pub one_sign_runs : (m : Mine) → IsReady m → (x : ℤ) × (y : ℤ) × Runs g t 8 (one_sign t p) (view m) (view (behind m x y))
  one_sign_runs m h =
      let u = register m.row (p.at + m.i) in
      let w = register m.row (p.slope + m.i) in
      let o = opposite (rank u zero_ℚ) (rank w zero_ℚ) in
      let r = branch_by m h o refl in
      let x = rank_number (rank u (register m.row p.zero)) in
      let mid = record (signed m) { row = slice_set m.row (p.sign + m.i) (right_one m); y = r.0 } in
      let first = block_runs g t 2 (signs t p) (view m) (view (signed m)) (code.signs_told g t low not_last self p around m h.there) in
      let told =
      code.opposite_told g t low not_last self p around (signed m) (rank u zero_ℚ) (rank w zero_ℚ)
      (ap (λ q. rank_number (rank u q)) h.zero) (ap (λ q. rank_number (rank w q)) h.zero) in
      let second = if_runs g t 4 are_opposite (crossed t p) (Some (uncrossed t p)) (view (signed m)) (view mid) (int_of o) told r.1 in
      let third = block_runs g t 1 (counts ∷ []) (view mid) (view (behind m x r.0)) (code.counts_on g t low not_last self p around mid h.count) in (
        x,
        r.0,
        runs_on g t 2 6 (signs t p) (a.If are_opposite (crossed t p) (Some (uncrossed t p)) ∷ counts ∷ []) (view m) (view (signed m)) (view (behind m x r.0)) first
            (runs_on g t 5 1 (a.If are_opposite (crossed t p) (Some (uncrossed t p)) ∷ []) (counts ∷ []) (view (signed m)) (view mid) (view (behind m x r.0)) second third),
      )
