-- The code of one comparison copies the working value that stands for it.
use Rattle.std.specs.Prelude.{◌≡◌, ℕ, ◌+◌, ◌==◌, nat_lt, Bool, true, false, not, ◌&&◌, if◌then◌else◌, List, [], ◌∷◌, slice_set, ℤ, pos, Some, None}
use Rattle.std.proofs.Common.{refl, sym, ap, ◌∙◌, subst, arith}
use Rattle.std.specs.declared.cmp.Ordering.{Ordering}
use Rattle.std.specs.declared.cmp.Ordering.TheVariants as side
use Rattle.hc_rational.specs.Words.{Rational, zero_ℚ, rank, is_zero, ◌≤ℚ◌, ◌<ℚ◌}
use Rattle.hc_rational.proofs.RankLaws.{rank_is, is_zero_is}
use Rattle.hc_rational.proofs.OrderLaws.{≤ℚ-not_<ℚ}
use Rattle.hc_cast.specs.declared.stmt.CStmt.{CStmt}
use Rattle.hc_cast.specs.declared.program.CProgram.{CProgram}
use Rattle.hc_term.specs.Motion.{Line as Affine}
use Rattle.hc_term.specs.EndMoment.{opposite, crossing}
use Rattle.hc_cmach.specs.Expression.{is_int, int_of}
use Rattle.hc_cmach.specs.Primitive.{rank_number}
use Rattle.hc_clogic.specs.Runs.{View, Runs, Is}
use Rattle.hc_clogic.proofs.Runs.{runs_longer}
use Rattle.hc_cmach.proofs.Worths.{forms}
use Rattle.hc_clogic.specs.Block.{block}
use Rattle.hc_clogic.proofs.Values.{is_worth}
use Rattle.hc_clogic.proofs.Blocks.{block_runs}
use Rattle.hc_cend.specs.Searching as seen
use Rattle.hc_cend.specs.Searching.{Mine, Around, register}
use Rattle.hc_cend.specs.Places.{Places}
use Rattle.hc_cend.specs.Written.{signs, crossed, uncrossed, are_opposite, counts}
use Rattle.hc_cend.specs.Candidates.{beside, stand_by, stand_in}
use Rattle.hc_cend.specs.Candidates as pure

-- the registers of comparison i are there
pub record AreThere (p : Places) (i : ℕ) : Type 0 where
  pub at : nat_lt (p.at + i) 20480 ≡ true
  pub slope : nat_lt (p.slope + i) 20480 ≡ true
  pub crossing : nat_lt (p.crossing + i) 20480 ≡ true
  pub sign : nat_lt (p.sign + i) 20480 ≡ true
  pub moment : nat_lt p.moment 20480 ≡ true
  pub zero : nat_lt p.zero 20480 ≡ true
  pub at_int : is_int (pos (p.at + i)) ≡ true
  pub slope_int : is_int (pos (p.slope + i)) ≡ true
  pub crossing_int : is_int (pos (p.crossing + i)) ≡ true
  pub sign_int : is_int (pos (p.sign + i)) ≡ true

-- ---- which working value stands for a line without a crossing

is_now : (q : Rational) → rank q zero_ℚ ≡ side.Equal → is_zero q ≡ true
is_now q e = (is_zero_is q).1 ((rank_is q zero_ℚ).equal.0 e)

pub not_zero : (q : Rational) (o : Ordering) → rank q zero_ℚ ≡ o → (o ≡ side.Equal → ⊥) → is_zero q ≡ false
not_zero q o e n = by (is_zero q) refl
  where
    by : (b : Bool) → is_zero q ≡ b → b ≡ false
    by false h = refl
    by true h = absurd (n (sym e ∙ (rank_is q zero_ℚ).equal.1 ((is_zero_is q).0 h)))

value_stands : (n : Bool) (l : Affine) → is_zero l.at ≡ false → pure.uncrossed n l ≡ l.at
value_stands true l h = refl
value_stands false l h = ap (λ (b : Bool). if b then l.slope else l.at) h

slope_stands : (l : Affine) → is_zero l.at ≡ true → pure.uncrossed false l ≡ l.slope
slope_stands l h = ap (λ (b : Bool). if b then l.slope else l.at) h

later_stands : (b : Bool) (l : Affine) → is_zero l.at ≡ true → pure.uncrossed (not b && false) l ≡ l.slope
later_stands true l h = slope_stands l h
later_stands false l h = slope_stands l h

module _ (g : CProgram) (t : ℕ) (low : nat_lt t 65 ≡ true) (not_last : (t == 64) ≡ false) (self : (t == t) ≡ true) (p : Places) (around : Around) where
  abbrev pub view : Mine → View
  view m = seen.view around m

  abbrev pub signed : Mine → Mine
  signed m = record m {
    x = rank_number (rank (register m.row (p.at + m.i)) (register m.row p.zero));
    y = rank_number (rank (register m.row (p.slope + m.i)) (register m.row p.zero));
  }

  pub signs_told : (m : Mine) → AreThere p m.i → block g t 2 (view m) (signs t p) ≡ Some (view (signed m))
  signs_told m h = simp (forms, low, not_last, self, h.at, h.slope, h.zero, h.at_int, h.slope_int)

  -- ---- what the registers say of comparison i

  abbrev pub line_at : List Rational → ℕ → Affine
  line_at row i = record { at = register row (p.at + i); slope = register row (p.slope + i); fits_all = true }

  abbrev pub copied : Mine → Rational → ℤ → Mine
  copied m q y = record m { row = slice_set m.row (p.sign + m.i) q; y = y }

  -- ---- with a crossing

  abbrev to_crossing : Mine → Ordering
  to_crossing m = rank (register m.row p.moment) (register m.row (p.crossing + m.i))

  pub beside_told : (m : Mine) → AreThere p m.i → register m.row p.zero ≡ zero_ℚ → (o : Ordering) → to_crossing m ≡ o → (b : Bool) → m.after ≡ b →
      block g t 4 (view m) (crossed t p) ≡ Some (view (copied m (beside b (line_at m.row m.i) o) (rank_number o)))
  beside_told m h z side.Less e b k =
      simp (forms, low, not_last, self, h.at, h.moment, h.crossing, h.sign, h.at_int, h.crossing_int, h.sign_int, e)
  beside_told m h z side.Greater e b k =
      simp (forms, low, not_last, self, h.slope, h.moment, h.crossing, h.sign, h.slope_int, h.crossing_int, h.sign_int, e)
  beside_told m h z side.Equal e true k =
      simp (forms, low, not_last, self, h.slope, h.moment, h.crossing, h.sign, h.slope_int, h.crossing_int, h.sign_int, e, k)
  beside_told m h z side.Equal e false k =
      simp (forms, low, not_last, self, h.zero, h.moment, h.crossing, h.sign, h.crossing_int, h.sign_int, e, k, z)

  pub opposite_told : (m : Mine) (o q : Ordering) → m.x ≡ rank_number o → m.y ≡ rank_number q →
      Is g t (view m) are_opposite (int_of (opposite o q))
  opposite_told m side.Less side.Less ex ey = is_worth g t (view m) are_opposite (pos 0) (simp (forms, ex, ey))
  opposite_told m side.Less side.Equal ex ey = is_worth g t (view m) are_opposite (pos 0) (simp (forms, ex, ey))
  opposite_told m side.Less side.Greater ex ey = is_worth g t (view m) are_opposite (pos 1) (simp (forms, ex, ey))
  opposite_told m side.Equal side.Less ex ey = is_worth g t (view m) are_opposite (pos 0) (simp (forms, ex, ey))
  opposite_told m side.Equal side.Equal ex ey = is_worth g t (view m) are_opposite (pos 0) (simp (forms, ex, ey))
  opposite_told m side.Equal side.Greater ex ey = is_worth g t (view m) are_opposite (pos 0) (simp (forms, ex, ey))
  opposite_told m side.Greater side.Less ex ey = is_worth g t (view m) are_opposite (pos 1) (simp (forms, ex, ey))
  opposite_told m side.Greater side.Equal ex ey = is_worth g t (view m) are_opposite (pos 0) (simp (forms, ex, ey))
  opposite_told m side.Greater side.Greater ex ey = is_worth g t (view m) are_opposite (pos 0) (simp (forms, ex, ey))

  -- ---- without one, by how its value now and the moment lie to 0

  abbrev to_zero : Mine → Ordering
  to_zero m = rank (register m.row p.moment) (register m.row p.zero)

  -- the value now, where it isn't 0
  value_told : (m : Mine) → AreThere p m.i → (o : Ordering) → m.x ≡ rank_number o → (o ≡ side.Equal → ⊥) → (q : Ordering) → to_zero m ≡ q →
      block g t 3 (view m) (uncrossed t p) ≡ Some (view (copied m (register m.row (p.at + m.i)) (rank_number q)))
  value_told m h side.Less ex n side.Less e = simp (forms, low, not_last, self, h.at, h.zero, h.moment, h.sign, h.at_int, h.sign_int, e, ex)
  value_told m h side.Less ex n side.Equal e = simp (forms, low, not_last, self, h.at, h.zero, h.moment, h.sign, h.at_int, h.sign_int, e, ex)
  value_told m h side.Less ex n side.Greater e = simp (forms, low, not_last, self, h.at, h.zero, h.moment, h.sign, h.at_int, h.sign_int, e, ex)
  value_told m h side.Greater ex n side.Less e = simp (forms, low, not_last, self, h.at, h.zero, h.moment, h.sign, h.at_int, h.sign_int, e, ex)
  value_told m h side.Greater ex n side.Equal e = simp (forms, low, not_last, self, h.at, h.zero, h.moment, h.sign, h.at_int, h.sign_int, e, ex)
  value_told m h side.Greater ex n side.Greater e = simp (forms, low, not_last, self, h.at, h.zero, h.moment, h.sign, h.at_int, h.sign_int, e, ex)
  value_told m h side.Equal ex n q e = absurd (n refl)

  -- where it is 0: the value at the moment 0 itself, and else the slope
  now_told : (m : Mine) → AreThere p m.i → m.x ≡ pos 0 → to_zero m ≡ side.Equal → m.after ≡ false →
      block g t 3 (view m) (uncrossed t p) ≡ Some (view (copied m (register m.row (p.at + m.i)) (pos 0)))
  now_told m h ex e k = simp (forms, low, not_last, self, h.at, h.zero, h.moment, h.sign, h.at_int, h.sign_int, e, ex, k)

  just_after_told : (m : Mine) → AreThere p m.i → m.x ≡ pos 0 → to_zero m ≡ side.Equal → m.after ≡ true →
      block g t 3 (view m) (uncrossed t p) ≡ Some (view (copied m (register m.row (p.slope + m.i)) (pos 0)))
  just_after_told m h ex e k = simp (forms, low, not_last, self, h.slope, h.zero, h.moment, h.sign, h.slope_int, h.sign_int, e, ex, k)

  later_told : (m : Mine) → AreThere p m.i → m.x ≡ pos 0 → to_zero m ≡ side.Greater →
      block g t 3 (view m) (uncrossed t p) ≡ Some (view (copied m (register m.row (p.slope + m.i)) (pos 1)))
  later_told m h ex e = simp (forms, low, not_last, self, h.slope, h.zero, h.moment, h.sign, h.slope_int, h.sign_int, e, ex)

  -- ---- the count

  pub counts_on : (m : Mine) → is_int (pos (m.i + 1)) ≡ true → block g t 1 (view m) (counts ∷ []) ≡ Some (view (record m { i = m.i + 1 }))
  counts_on m h = simp (forms, h)

  -- ---- one comparison

  -- the crossing's register holds it where there is one
  abbrev pub KnowsCrossing : List Rational → ℕ → Type 0
  KnowsCrossing row i = (x : Rational) → crossing (register row (p.at + i)) (register row (p.slope + i)) ≡ Some x → register row (p.crossing + i) ≡ x

  abbrev pub right_one : Mine → Rational
  right_one m = stand_in m.after (register m.row p.moment) (line_at m.row m.i)

  abbrev pub Branch : Mine → List CStmt → Type 0
  Branch m ss = (y : ℤ) × Runs g t 4 ss (view m) (view (copied m (right_one m) y))

  pub crossed_runs : (m : Mine) → AreThere p m.i → register m.row p.zero ≡ zero_ℚ → (x : Rational) →
      crossing (register m.row (p.at + m.i)) (register m.row (p.slope + m.i)) ≡ Some x → register m.row (p.crossing + m.i) ≡ x → Branch m (crossed t p)
  crossed_runs m h z x e k =
      let l = line_at m.row m.i in
      let same : right_one m ≡ beside m.after l (to_crossing m) =
      ap (stand_by m.after (register m.row p.moment) l) e ∙ ap (λ u. beside m.after l (rank (register m.row p.moment) u)) (sym k) in (
        rank_number (to_crossing m),
        subst (λ u. Runs g t 4 (crossed t p) (view m) (view (copied m u (rank_number (to_crossing m))))) (sym same)
            (block_runs g t 4 (crossed t p) (view m) _ (beside_told m h z (to_crossing m) refl m.after refl)),
      )

  uncrossed_by : (m : Mine) → AreThere p m.i → register m.row p.zero ≡ zero_ℚ → zero_ℚ ≤ℚ register m.row p.moment → (o : Ordering) →
      rank (register m.row (p.at + m.i)) zero_ℚ ≡ o → m.x ≡ rank_number o → (q : Ordering) → to_zero m ≡ q → (b : Bool) → m.after ≡ b →
      (y : ℤ)
      × Runs g t 3 (uncrossed t p) (view m)
      (view (copied m (pure.uncrossed (not b && is_zero (register m.row p.moment)) (line_at m.row m.i)) y))
  uncrossed_by m h z k side.Less e ex q f b j = (
    rank_number q,
    subst (λ u. Runs g t 3 (uncrossed t p) (view m) (view (copied m u (rank_number q))))
        (sym (value_stands (not b && is_zero (register m.row p.moment)) (line_at m.row m.i) (not_zero (register m.row (p.at + m.i)) side.Less e (λ n. absurd cc))))
        (block_runs g t 3 (uncrossed t p) (view m) _ (value_told m h side.Less ex (λ n. absurd cc) q f)),
  )
  uncrossed_by m h z k side.Greater e ex q f b j = (
    rank_number q,
    subst (λ u. Runs g t 3 (uncrossed t p) (view m) (view (copied m u (rank_number q))))
        (sym (value_stands (not b && is_zero (register m.row p.moment)) (line_at m.row m.i) (not_zero (register m.row (p.at + m.i)) side.Greater e (λ n. absurd cc))))
        (block_runs g t 3 (uncrossed t p) (view m) _ (value_told m h side.Greater ex (λ n. absurd cc) q f)),
  )
  uncrossed_by m h z k side.Equal e ex side.Less f b j =
      let past : register m.row p.moment <ℚ zero_ℚ = (rank_is (register m.row p.moment) zero_ℚ).less.0 (ap (rank (register m.row p.moment)) (sym z) ∙ f) in
      absurd (≤ℚ-not_<ℚ zero_ℚ (register m.row p.moment) k past)
  uncrossed_by m h z k side.Equal e ex side.Equal f false j =
      let now = is_now (register m.row p.moment) (ap (rank (register m.row p.moment)) (sym z) ∙ f) in (
        pos 0,
        subst (λ u. Runs g t 3 (uncrossed t p) (view m) (view (copied m (pure.uncrossed u (line_at m.row m.i)) (pos 0)))) (sym now)
            (block_runs g t 3 (uncrossed t p) (view m) _ (now_told m h ex f j)),
      )
  uncrossed_by m h z k side.Equal e ex side.Equal f true j = (
    pos 0,
    subst (λ u. Runs g t 3 (uncrossed t p) (view m) (view (copied m u (pos 0))))
        (sym (slope_stands (line_at m.row m.i) (is_now (register m.row (p.at + m.i)) e)))
        (block_runs g t 3 (uncrossed t p) (view m) _ (just_after_told m h ex f j)),
  )
  uncrossed_by m h z k side.Equal e ex side.Greater f b j =
      let later = not_zero (register m.row p.moment) side.Greater (ap (rank (register m.row p.moment)) (sym z) ∙ f) (λ n. absurd cc) in (
        pos 1,
        subst (λ u. Runs g t 3 (uncrossed t p) (view m) (view (copied m u (pos 1))))
            (sym (ap (λ u. pure.uncrossed (not b && u) (line_at m.row m.i)) later ∙ later_stands b (line_at m.row m.i) (is_now (register m.row (p.at + m.i)) e)))
            (block_runs g t 3 (uncrossed t p) (view m) _ (later_told m h ex f)),
      )

  pub uncrossed_runs : (m : Mine) → AreThere p m.i → register m.row p.zero ≡ zero_ℚ → zero_ℚ ≤ℚ register m.row p.moment →
      m.x ≡ rank_number (rank (register m.row (p.at + m.i)) zero_ℚ) →
      crossing (register m.row (p.at + m.i)) (register m.row (p.slope + m.i)) ≡ None → Branch m (uncrossed t p)
  uncrossed_runs m h z k ex none =
      let r = uncrossed_by m h z k (rank (register m.row (p.at + m.i)) zero_ℚ) refl ex (to_zero m) refl m.after refl in
      let same : right_one m ≡ pure.uncrossed (not m.after && is_zero (register m.row p.moment)) (line_at m.row m.i) =
      ap (stand_by m.after (register m.row p.moment) (line_at m.row m.i)) none in (
        r.0,
        subst (λ u. Runs g t 4 (uncrossed t p) (view m) (view (copied m u r.0))) (sym same)
            (runs_longer g t 3 4 (uncrossed t p) (view m) _ (omega arith) r.1),
      )
