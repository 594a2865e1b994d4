-- Tried at both its points, a candidate passes exactly where the condition is false at one of them.
use Rattle.std.specs.Prelude.{◌≡◌, ◌<◌, ℕ, zero, suc, ◌+◌, ◌==◌, nat_lt, Bool, true, false, not, ◌&&◌, ◌||◌, List, [], ◌∷◌, length, ℤ}
use Rattle.std.proofs.Common.{refl, sym, ap₂, ◌∙◌, subst, arith}
use Rattle.hc_rational.specs.Words.{Rational, zero_ℚ, ◌≤ℚ◌}
use Rattle.hc_term.specs.Motion.{Line}
use Rattle.hc_term.specs.declared.expr.Cond.{Cond}
use Rattle.hc_cast.specs.declared.stmt.CStmt.TheVariants as a
use Rattle.hc_cast.specs.declared.program.CProgram.{CProgram}
use Rattle.hc_cmach.specs.Expression.{int_of}
use Rattle.hc_clogic.specs.Runs.{View, Runs, Is}
use Rattle.hc_clogic.proofs.Runs.{runs_on}
use Rattle.hc_cmach.proofs.Worths.{forms}
use Rattle.hc_clogic.specs.Loops.{rounds}
use Rattle.hc_clogic.proofs.Values.{is_worth}
use Rattle.hc_clogic.proofs.Blocks.{block_runs}
use Rattle.hc_cend.specs.Candidates.{numbered, side_of, is_false_at}
use Rattle.hc_cend.specs.Searching as seen
use Rattle.hc_cend.specs.Searching.{Mine, Around, register, v_fails, v_after, v_turn}
use Rattle.hc_cend.specs.Places.{Places, AreApart, IsGiven}
use Rattle.hc_cend.specs.Tree.{tree}
use Rattle.hc_cend.specs.Search.{set, is_below, point, trial}
use Rattle.hc_cend.proofs.Registers.{Same, same_register, same_less}
use Rattle.hc_cend.proofs.Given.{given_still}
use Rattle.hc_cend.proofs.Counting.{counts_up}
use Rattle.hc_cend.proofs.Points as points

-- what the loop writes
pub record Spot : Type 0 where
  pub row : List Rational
  pub i : ℕ
  pub x : ℤ
  pub y : ℤ
  pub after : Bool
  pub turn : ℕ
  pub fails : Bool

-- at the moment first, and then just after it
abbrev after_at : ℕ → Bool
after_at zero = false
after_at (suc i) = true

-- what is known to fail once so many points are done, given the truths at both
abbrev fails_at : Bool → Bool → ℕ → Bool
fails_at there beyond zero = false
fails_at there beyond (suc zero) = not there
fails_at there beyond (suc (suc i)) = not (there && beyond)

or_not : (a b : Bool) → (not a || not b) ≡ not (a && b)
or_not true b = refl
or_not false b = refl

module _ (g : CProgram) (t : ℕ) (low : nat_lt t 65 ≡ true) (not_last : (t == 64) ≡ false) (self : (t == t) ≡ true) (p : Places) (around : Around)
    (f : ℕ) (c : Cond) (ls : List Line) (apart : AreApart f p (length ls) (tree t p c).deep) (sized : (tree t p c).size ≡ length ls) where
  abbrev view : Mine → View
  view m = seen.view around m

  abbrev steps : ℕ
  steps = points.point_steps g t low not_last self p around f c ls apart sized

  abbrev pub trial_steps : ℕ
  trial_steps = 3 + rounds steps 2

  pub record Tried (m : Mine) : Type 0 where
    pub row : List Rational
    pub i : ℕ
    pub x : ℤ
    pub y : ℤ
    pub after : Bool
    pub turn : ℕ
    pub runs : Runs g t trial_steps (trial t p (length ls) c) (view m)
        (view (record m { row = row; i = i; x = x; y = y; after = after; turn = turn; fails = is_false_at (numbered c) ls (register m.row p.moment) }))
    pub long : length row ≡ length m.row
    pub same : Same p.sign row m.row

  module _ (m : Mine) (given : IsGiven p ls m.row) (not_past : zero_ℚ ≤ℚ register m.row p.moment) where
    abbrev here : Spot → Mine
    here s = record m { row = s.row; i = s.i; x = s.x; y = s.y; after = s.after; turn = s.turn; fails = s.fails }

    abbrev seen_at : Spot → View
    seen_at s = view (here s)

    abbrev truth_if : Bool → Bool
    truth_if b = (numbered c).judged (side_of b (register m.row p.moment) ls)

    pub record IsAt (i : ℕ) (s : Spot) : Type 0 where
      pub turn : s.turn ≡ i
      pub after : s.after ≡ after_at i
      pub fails : s.fails ≡ fails_at (truth_if false) (truth_if true) i
      pub long : length s.row ≡ length m.row
      pub same : Same p.sign s.row m.row

    tested : (i : ℕ) (s : Spot) → IsAt i s → Is g t (seen_at s) (is_below v_turn 2) (int_of (nat_lt i 2))
    tested i s h =
        subst (λ (k : ℕ). Is g t (seen_at s) (is_below v_turn 2) (int_of (nat_lt k 2))) h.turn
        (is_worth g t (seen_at s) (is_below v_turn 2) (int_of (nat_lt s.turn 2)) (simp forms))

    same_moment : (i : ℕ) (s : Spot) → IsAt i s → register s.row p.moment ≡ register m.row p.moment
    same_moment i s h = same_register p.sign s.row m.row h.same p.moment (omega (arith, apart.best, apart.sign))

    -- one point more, whatever was known to fail
    abbrev Turned : ℕ → Spot → Type 0
    Turned i s = (w : Spot) × IsAt i w × Runs g t steps (point t p (length ls) c) (seen_at s) (seen_at w)

    turned : (i : ℕ) (s : Spot) → i < 2 → IsAt i s → (b : Bool) → after_at i ≡ b → true ≡ after_at (suc i) →
        (fails_at (truth_if false) (truth_if true) i || not (truth_if b)) ≡ fails_at (truth_if false) (truth_if true) (suc i) → Turned (suc i) s
    turned i s less h b e next k =
        let still : IsGiven p ls s.row =
        given_still f p (tree t p c).deep ls s.row m.row apart given h.long
        (same_less p.moment p.sign s.row m.row (omega (arith, apart.best, apart.sign)) h.same) in
        let later : zero_ℚ ≤ℚ register s.row p.moment = subst (λ (q : Rational). zero_ℚ ≤ℚ q) (sym (same_moment i s h)) not_past in
        let r = points.pointed g t low not_last self p around f c ls apart sized (here s) still later (omega (arith, less, h.turn)) in
        let truth : (numbered c).judged (side_of s.after (register s.row p.moment) ls) ≡ truth_if b =
        ap₂ (λ (x : Bool) (q : Rational). (numbered c).judged (side_of x q ls)) (h.after ∙ e) (same_moment i s h) in
        let fails = s.fails || not ((numbered c).judged (side_of s.after (register s.row p.moment) ls)) in (
          record { row = r.row; i = r.i; x = r.x; y = r.y; after = true; turn = s.turn + 1; fails = fails },
          record {
            turn = omega (arith, h.turn);
            after = next;
            fails = ap₂ (λ (x z : Bool). x || not z) h.fails truth ∙ k;
            long = r.long ∙ h.long;
            same = r.same ∙ h.same;
          },
          r.runs,
        )

    turns : (i : ℕ) (s : Spot) → i < 2 → IsAt i s → Turned (suc i) s
    turns zero s less h = turned zero s less h false refl refl refl
    turns (suc zero) s less h = turned (suc zero) s less h true refl refl (or_not (truth_if false) (truth_if true))
    turns (suc (suc i)) s less h = absurd (omega (arith, less))

    abbrev begun : Spot
    begun = record { row = m.row; i = m.i; x = m.x; y = m.y; after = false; turn = 0; fails = false }

    begins : Runs g t 3 (set v_fails 0 ∷ set v_after 0 ∷ set v_turn 0 ∷ []) (view m) (seen_at begun)
    begins = block_runs g t 3 _ _ _ (simp forms)

    pub tried : Tried m
    tried =
        let r =
        counts_up g t Spot seen_at IsAt 2 steps (is_below v_turn 2) (point t p (length ls) c) tested turns 2 0 begun (omega arith)
        (record { turn = refl; after = refl; fails = refl; long = refl; same = refl }) in
        let w = r.0 in
        record {
          row = w.row;
          i = w.i;
          x = w.x;
          y = w.y;
          after = w.after;
          turn = w.turn;
          runs =
              subst (λ (z : Bool). Runs g t trial_steps (trial t p (length ls) c) (view m) (view (record m { row = w.row; i = w.i; x = w.x; y = w.y; after = w.after; turn = w.turn; fails = z }))) r.1.fails
              (
              runs_on g t 3 (rounds steps 2) (set v_fails 0 ∷ set v_after 0 ∷ set v_turn 0 ∷ []) (a.While (is_below v_turn 2) (point t p (length ls) c) ∷ [])
              (view m) (seen_at begun) (seen_at w) begins r.2
              );
          long = r.1.long;
          same = r.1.same;
        }
