-- At one point: the truth of the domain is that of its comparisons' signs there.
use Rattle.std.specs.Prelude.{◌≡◌, ◌<◌, ℕ, ◌+◌, ◌==◌, nat_lt, Bool, true, false, not, ◌||◌, List, [], ◌∷◌, ◌++◌, length, ℤ, pos, Some}
use Rattle.std.specs.Int.{int_signum}
use Rattle.std.proofs.Common.{refl, sym, ap, ap₂, ◌∙◌, arith}
use Rattle.std.proofs.lemmas.Option.{slice_get-get_or}
use Rattle.hc_rational.specs.Words.{Rational, zero_ℚ, rank, ◌≤ℚ◌}
use Rattle.hc_term.specs.Motion.{Line}
use Rattle.hc_term.specs.declared.expr.Cond.{Cond}
use Rattle.hc_cast.specs.declared.program.CProgram.{CProgram}
use Rattle.hc_cmach.specs.Expression.{is_int, int_of}
use Rattle.hc_clogic.specs.Runs.{View, Runs}
use Rattle.hc_clogic.proofs.Runs.{runs_on}
use Rattle.hc_cmach.proofs.Worths.{forms}
use Rattle.hc_clogic.specs.Loops.{rounds}
use Rattle.hc_clogic.specs.Block.{block}
use Rattle.hc_clogic.proofs.Blocks.{block_runs}
use Rattle.hc_cend.specs.Candidates.{numbered, side_or, side_of}
use Rattle.hc_cend.specs.Searching as seen
use Rattle.hc_cend.specs.Searching.{Mine, Around, register, v_i}
use Rattle.hc_cend.specs.Places.{Places, AreApart, IsGiven}
use Rattle.hc_cend.specs.Written.{all_signs}
use Rattle.hc_cend.specs.Tree.{tree}
use Rattle.hc_cend.specs.Search.{set, notes, point}
use Rattle.hc_cend.proofs.Registers.{Same, same_register, same_less}
use Rattle.hc_cend.proofs.Given.{is_there, is_small}
use Rattle.hc_cend.proofs.Leaves.{sign_is}
use Rattle.hc_cend.proofs.AllSigns as signs
use Rattle.hc_cend.proofs.AllTrees as trees

module _ (g : CProgram) (t : ℕ) (low : nat_lt t 65 ≡ true) (not_last : (t == 64) ≡ false) (self : (t == t) ≡ true) (p : Places) (around : Around)
    (f : ℕ) (c : Cond) (ls : List Line) (apart : AreApart f p (length ls) (tree t p c).deep) (sized : (tree t p c).size ≡ length ls) where
  abbrev view : Mine → View
  view m = seen.view around m

  -- the condition's truth at the moment in its register, or just after it
  abbrev pub truth_at : Mine → Bool
  truth_at m = (numbered c).judged (side_of m.after (register m.row p.moment) ls)

  -- ---- what is noted

  noted : Mine → Bool → Mine
  noted m b = record m { x = int_of b; after = true; turn = m.turn + 1; fails = m.fails || not b }

  notes_told : (m : Mine) → is_int (pos (m.turn + 1)) ≡ true → nat_lt p.truth 20480 ≡ true → (b : Bool) → int_signum (register m.row p.truth).num ≡ int_of b →
      (z : Bool) → m.fails ≡ z →
      block g t 5 (view m) (notes t p) ≡ Some (view (record m { x = int_of b; after = true; turn = m.turn + 1; fails = z || not b }))
  notes_told m h k true e true i = simp (forms, low, not_last, self, h, k, e, i)
  notes_told m h k true e false i = simp (forms, low, not_last, self, h, k, e, i)
  notes_told m h k false e true i = simp (forms, low, not_last, self, h, k, e)
  notes_told m h k false e false i = simp (forms, low, not_last, self, h, k, e)

  -- ---- a point

  abbrev pub point_steps : ℕ
  point_steps = 1 + (rounds 8 (length ls) + ((tree t p c).steps + 5))

  pub record Pointed (m : Mine) : Type 0 where
    pub row : List Rational
    pub i : ℕ
    pub x : ℤ
    pub y : ℤ
    pub runs : Runs g t point_steps (point t p (length ls) c) (view m)
        (view (record m { row = row; i = i; x = x; y = y; after = true; turn = m.turn + 1; fails = m.fails || not (truth_at m) }))
    pub long : length row ≡ length m.row
    pub same : Same p.sign row m.row

  module _ (m : Mine) (given : IsGiven p ls m.row) (not_past : zero_ℚ ≤ℚ register m.row p.moment) (few : m.turn < 2) where
    abbrev first : Mine
    first = record m { i = 0 }

    begins : Runs g t 1 (set v_i 0 ∷ []) (view m) (view first)
    begins = block_runs g t 1 _ _ _ (simp forms)

    abbrev Spotted : Type 0
    Spotted =
        (w : signs.Spot) × signs.IsFilled p ls m.after m.row w.row (length ls)
        × Runs g t (rounds 8 (length ls)) (all_signs t p (length ls)) (view first) (view (record first { row = w.row; i = w.i; x = w.x; y = w.y }))

    spotted : Spotted
    spotted = signs.all_signs_run g t low not_last self p around f (tree t p c).deep ls apart first given not_past refl

    module _ (w : signs.Spot) (h : signs.IsFilled p ls m.after m.row w.row (length ls))
        (run : Runs g t (rounds 8 (length ls)) (all_signs t p (length ls)) (view first) (view (record first { row = w.row; i = w.i; x = w.x; y = w.y }))) where
      abbrev mid : Mine
      mid = record first { row = w.row; i = w.i; x = w.x; y = w.y }

      zero_kept : register w.row p.zero ≡ zero_ℚ
      zero_kept =
          same_register p.sign w.row m.row h.same p.zero
          (omega (arith, apart.at, apart.slope, apart.crossing, apart.moment, apart.best, apart.sign))
          ∙ given.zero

      -- the sign of each comparison is how it lies
      lies : (j : ℕ) → j < (tree t p c).size → rank (register w.row (p.sign + j)) (register w.row p.zero) ≡ side_of m.after (register m.row p.moment) ls j
      lies j less =
          let there : j < length ls = omega (arith, less, sized) in
          let d : Line = record { at = zero_ℚ; slope = zero_ℚ; fits_all = true } in
          let has = slice_get-get_or ls j d there in
          ap₂ rank (h.stands j _ there has) zero_kept ∙ sym (ap (side_or m.after (register m.row p.moment)) has)

      judged : trees.WorksFor g t low not_last self p around c → Pointed m
      judged k =
          let u =
          k.does mid p.sign p.truth (side_of m.after (register m.row p.moment) ls) (h.long ∙ given.wide)
          (omega (arith, apart.at, apart.slope, apart.crossing, apart.moment, apart.best, apart.sign, apart.truth))
          (omega (arith, sized, apart.truth)) apart.end lies in
          let last = record mid { row = u.row; x = u.x } in
          let told : int_signum (register u.row p.truth).num ≡ int_of (truth_at m) = ap (λ (q : Rational). int_signum q.num) u.truth ∙ sign_is (truth_at m) in
          let some : p.truth < 20480 = omega (arith, apart.end, k.some) in
          let notes' =
          block_runs g t 5 (notes t p) (view last)
          (view (record last { x = int_of (truth_at m); after = true; turn = m.turn + 1; fails = m.fails || not (truth_at m) }))
          (notes_told last (is_small (m.turn + 1) (omega (arith, few))) (is_there p.truth some) (truth_at m) told m.fails refl) in
          let end = view (record last { x = int_of (truth_at m); after = true; turn = m.turn + 1; fails = m.fails || not (truth_at m) }) in
          record {
            row = u.row;
            i = w.i;
            x = int_of (truth_at m);
            y = w.y;
            runs =
                runs_on g t 1 (rounds 8 (length ls) + ((tree t p c).steps + 5)) (set v_i 0 ∷ [])
                (all_signs t p (length ls) ++ ((tree t p c).code p.sign p.truth ++ notes t p)) (view m) (view first) end begins
                (
                runs_on g t (rounds 8 (length ls)) ((tree t p c).steps + 5) (all_signs t p (length ls)) ((tree t p c).code p.sign p.truth ++ notes t p)
                (view first) (view mid) end run
                (runs_on g t (tree t p c).steps 5 ((tree t p c).code p.sign p.truth) (notes t p) (view mid) (view last) end u.runs notes')
                );
            long = u.long ∙ h.long;
            same = same_less p.sign p.truth u.row w.row (omega (arith, apart.truth)) u.same ∙ h.same;
          }

    pub pointed : Pointed m
    pointed = judged spotted.0 spotted.1 spotted.2 (trees.tree_works g t low not_last self p around c)
