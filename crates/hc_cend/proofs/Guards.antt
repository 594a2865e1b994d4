-- Code that works out lines: what it leaves, and guarded pieces of it one behind the other.
use Rattle.std.specs.Prelude.{◌≡◌, ◌<◌, ◌≤◌, ℕ, ◌+◌, ◌==◌, nat_lt, Bool, true, false, ◌&&◌, List, [], ◌∷◌, length, slice_set, ℤ, pos, Some, None}
use Rattle.std.proofs.Common.{refl, sym, ap, ap₂, ◌∙◌, subst, arith}
use Rattle.std.proofs.lemmas.List.{length-set, get_or-set_other}
use Rattle.hc_rational.specs.Words.{Rational, zero_ℚ, ◌-ℚ◌, fits}
use Rattle.hc_cast.specs.declared.stmt.CStmt.{CStmt}
use Rattle.hc_cast.specs.declared.program.CProgram.{CProgram}
use Rattle.hc_clogic.specs.Runs.{Runs}
use Rattle.hc_clogic.proofs.Runs.{runs_longer, if_runs}
use Rattle.hc_cmach.proofs.Worths.{forms}
use Rattle.hc_clogic.specs.Block.{block}
use Rattle.hc_clogic.proofs.Values.{is_worth}
use Rattle.hc_clogic.proofs.Blocks.{block_runs}
use Rattle.hc_cstep.specs.Locals.{v_ok, Mine, Base, view}
use Rattle.hc_cend.specs.Written.{is_number}
use Rattle.hc_cend.specs.Searching.{register}
use Rattle.hc_cend.specs.Lining.{guard, subtracts}
use Rattle.hc_cend.proofs.Registers.{Same, same_set, set_there}

module _ (g : CProgram) (t : ℕ) (low : nat_lt t 65 ≡ true) (not_last : (t == 64) ≡ false) (self : (t == t) ≡ true) (b : Base) where
  -- v_ok 1 becomes `fit`, and v_ok 0 stays; only scratch changes, and of it not the registers that `Kept` names
  pub record Piece (Kept : ℕ → Type 0) (m : Mine) (n : ℕ) (ss : List CStmt) (fit : Bool) : Type 0 where
    pub row : List Rational
    pub truth : Bool
    pub others : List ℤ
    pub runs : Runs g t n ss (view b m) (view b (record m { row = row; ok = m.ok && fit; truth = truth; others = others }))
    pub long : length row ≡ length m.row
    pub spare : length others ≡ length m.others
    pub beneath : Same 320 row m.row
    pub same : (x : ℕ) → Kept x → register row x ≡ register m.row x

  -- one that was begun with v_ok 0 is passed over
  pub off_told : (m : Mine) (ss : List CStmt) → m.ok ≡ false → block g t 1 (view b m) (guard ss ∷ []) ≡ Some (view b m)
  off_told m ss off = simp (forms, off)

  abbrev pub passed : (Kept : ℕ → Type 0) (m : Mine) (n : ℕ) (ss : List CStmt) (fit : Bool) → m.ok ≡ false → Piece Kept m (1 + n) (guard ss ∷ []) fit
  passed Kept m n ss fit off = record {
    row = m.row;
    truth = m.truth;
    others = m.others;
    runs =
        runs_longer g t 1 (1 + n) (guard ss ∷ []) (view b m) _ (omega arith)
        (
        subst (λ (x : Bool). Runs g t 1 (guard ss ∷ []) (view b m) (view b (record m { ok = x }))) (off ∙ sym (ap (λ (x : Bool). x && fit) off))
        (block_runs g t 1 (guard ss ∷ []) (view b m) (view b m) (off_told m ss off))
        );
    long = refl;
    spare = refl;
    beneath = refl;
    same = λ x k. refl;
  }

  pub on_runs : (m : Mine) (n : ℕ) (ss : List CStmt) (w : Mine) → m.ok ≡ true → Runs g t n ss (view b m) (view b w) → Runs g t (1 + n) (guard ss ∷ []) (view b m) (view b w)
  on_runs m n ss w on h =
      if_runs g t n (is_number v_ok 1) ss None (view b m) (view b w) (pos 1) (is_worth g t (view b m) (is_number v_ok 1) (pos 1) (simp (forms, on))) h

  -- and one that was begun with v_ok 1 does what it says
  abbrev pub done : (Kept : ℕ → Type 0) (m : Mine) (n : ℕ) (ss : List CStmt) (fit : Bool) (row : List Rational) (truth : Bool) (others : List ℤ) → m.ok ≡ true →
      Runs g t n ss (view b m) (view b (record m { row = row; ok = fit; truth = truth; others = others })) →
      length row ≡ length m.row → length others ≡ length m.others → Same 320 row m.row → ((x : ℕ) → Kept x → register row x ≡ register m.row x) →
      Piece Kept m (1 + n) (guard ss ∷ []) fit
  done Kept m n ss fit row truth others on h long spare low' same = record {
    row = row;
    truth = truth;
    others = others;
    runs =
        subst (λ (x : Bool). Runs g t (1 + n) (guard ss ∷ []) (view b m) (view b (record m { row = row; ok = x && fit; truth = truth; others = others }))) (sym on)
        (on_runs m n ss (record m { row = row; ok = fit; truth = truth; others = others }) on h);
    long = long;
    spare = spare;
    beneath = low';
    same = same;
  }

  -- ---- a difference of two registers

  module _ (m : Mine) (d x y : ℕ) (d_there : nat_lt d 20480 ≡ true) (x_there : nat_lt x 20480 ≡ true) (y_there : nat_lt y 20480 ≡ true) where
    abbrev difference : Rational
    difference = register m.row x -ℚ register m.row y

    fitting_told : fits difference ≡ true →
        block g t 1 (view b m) (subtracts t d x y) ≡ Some (view b (record m { row = slice_set m.row d difference; ok = true }))
    fitting_told h = simp (forms, low, not_last, self, d_there, x_there, y_there, h)

    unfit_told : fits difference ≡ false → block g t 1 (view b m) (subtracts t d x y) ≡ Some (view b (record m { ok = false }))
    unfit_told h = simp (forms, low, not_last, self, d_there, x_there, y_there, h)

    -- the difference stands in register d where it fits and v_ok was 1
    abbrev pub Differs : (ℕ → Type 0) → Type 0
    Differs Kept =
        (h : Piece Kept m 2 (guard (subtracts t d x y) ∷ []) (fits difference)) × ((m.ok && fits difference) ≡ true → register h.row d ≡ difference)

    differs_by : (Kept : ℕ → Type 0) → ((k : ℕ) → Kept k → (k ≡ d → ⊥)) → length m.row ≡ 20480 → d < 20480 → 320 ≤ d → (o z : Bool) → m.ok ≡ o → fits difference ≡ z → Differs Kept
    differs_by Kept apart wide less scratch false z off h =
        let p = passed Kept m 1 (subtracts t d x y) (fits difference) off in
        (p, λ e. absurd (let no : false ≡ true = sym (ap (λ (u : Bool). u && fits difference) off) ∙ e in cc))
    differs_by Kept apart wide less scratch true true on h =
        let row = slice_set m.row d difference in
        let ran =
        subst (λ (z : Bool). Runs g t 1 (subtracts t d x y) (view b m) (view b (record m { row = row; ok = z }))) (sym h)
        (block_runs g t 1 (subtracts t d x y) (view b m) (view b (record m { row = row; ok = true })) (fitting_told h)) in
        let p =
        done Kept m 1 (subtracts t d x y) (fits difference) row m.truth m.others on ran (length-set m.row d difference) refl
        (same_set 320 m.row m.row d difference refl scratch) (λ k c. get_or-set_other m.row d k difference zero_ℚ (apart k c)) in
        (p, λ e. set_there m.row d difference (omega (arith, wide, less)))
    differs_by Kept apart wide less scratch true false on h =
        let ran =
        subst (λ (z : Bool). Runs g t 1 (subtracts t d x y) (view b m) (view b (record m { ok = z }))) (sym h)
        (block_runs g t 1 (subtracts t d x y) (view b m) (view b (record m { ok = false })) (unfit_told h)) in
        let p = done Kept m 1 (subtracts t d x y) (fits difference) m.row m.truth m.others on ran refl refl refl (λ k c. refl) in
        (p, λ e. absurd (let no : false ≡ true = sym (ap₂ (λ (u w : Bool). u && w) on h) ∙ e in cc))

    pub differs : (Kept : ℕ → Type 0) → ((k : ℕ) → Kept k → (k ≡ d → ⊥)) → length m.row ≡ 20480 → d < 20480 → 320 ≤ d → Differs Kept
    differs Kept apart wide less scratch = differs_by Kept apart wide less scratch m.ok (fits difference) refl refl
