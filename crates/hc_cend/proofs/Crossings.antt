-- The loop over the crossings: v_ok says whether all of them fit, and where they do they stand in their registers.
use Rattle.std.specs.Prelude.{◌≡◌, ◌⊎◌, ◌<◌, ℕ, suc, ◌+◌, ◌==◌, nat_lt, Bool, true, false, ◌&&◌, List, [], ◌∷◌, length, drop, get_or, slice_get, ℤ, Some}
use Rattle.std.specs.List.{list_all}
use Rattle.std.proofs.Common.{refl, sym, ap, ap₂, ◌∙◌, subst, arith, inl, inr}
use Rattle.std.proofs.lemmas.Bool.{ltb-true, ltb-false, and_parts}
use Rattle.std.proofs.lemmas.List.{drop_more, drop_all}
use Rattle.std.proofs.lemmas.Option.{slice_get-get_or, slice_get_within, same_Some}
use Rattle.hc_rational.specs.Words.{Rational, zero_ℚ}
use Rattle.hc_term.specs.Motion.{Line}
use Rattle.hc_term.specs.EndMoment.{fits_if}
use Rattle.hc_cast.specs.declared.stmt.CStmt.TheVariants as a
use Rattle.hc_cast.specs.declared.program.CProgram.{CProgram}
use Rattle.hc_cmach.specs.Expression.{int_of}
use Rattle.hc_clogic.specs.Runs.{View, Runs, Is}
use Rattle.hc_clogic.proofs.Runs.{runs_on}
use Rattle.hc_cmach.proofs.Worths.{forms}
use Rattle.hc_clogic.specs.Loops.{rounds}
use Rattle.hc_clogic.proofs.Values.{is_worth}
use Rattle.hc_clogic.proofs.Blocks.{block_runs}
use Rattle.hc_cend.specs.Candidates.{crossing_of}
use Rattle.hc_cend.specs.Searching as seen
use Rattle.hc_cend.specs.Searching.{Mine, Around, register, v_i}
use Rattle.hc_cend.specs.Places.{Places, AreApart, IsLined, IsGiven}
use Rattle.hc_cend.specs.Search.{set, is_below}
use Rattle.hc_cend.specs.Preparing.{one_crossing, crossings}
use Rattle.hc_cend.proofs.Registers.{Same, same_register, same_less}
use Rattle.hc_cend.proofs.Given.{lined_still}
use Rattle.hc_cend.proofs.Counting.{counts_up}
use Rattle.hc_cend.proofs.Dividing as dividing

-- what the loop writes
pub record Spot : Type 0 where
  pub row : List Rational
  pub ok : Bool
  pub i : ℕ
  pub x : ℤ
  pub y : ℤ

-- whether the crossing of a line fits, and those of all
abbrev pub crossing_fits : Line → Bool
crossing_fits l = fits_if (crossing_of l)

abbrev pub crossings_fit : List Line → Bool
crossings_fit ls = list_all crossing_fits ls

and_assoc : (a b c : Bool) → ((a && b) && c) ≡ (a && (b && c))
and_assoc true b c = refl
and_assoc false b c = refl

and_one : (b : Bool) → (b && true) ≡ b
and_one true = refl
and_one false = refl

-- the crossings of the first i lines stand in their registers
abbrev pub AreHeld : Places → List Line → List Rational → ℕ → Type 0
AreHeld p ls row i =
    (j : ℕ) (l : Line) (x : Rational) → j < i → slice_get ls j ≡ Some l → crossing_of l ≡ Some x → register row (p.crossing + j) ≡ x

module _ (g : CProgram) (t : ℕ) (low : nat_lt t 65 ≡ true) (not_last : (t == 64) ≡ false) (self : (t == t) ≡ true) (p : Places) (around : Around)
    (f deep : ℕ) (ls : List Line) (apart : AreApart f p (length ls) deep) (m : Mine) (given : IsLined p ls m.row) where
  abbrev here : Spot → Mine
  here s = record m { row = s.row; ok = s.ok; i = s.i; x = s.x; y = s.y }

  abbrev view : Spot → View
  view s = seen.view around (here s)

  pub record IsAt (i : ℕ) (s : Spot) : Type 0 where
    pub number : s.i ≡ i
    pub long : length s.row ≡ length m.row
    pub same : Same p.crossing s.row m.row
    pub fits : (s.ok && list_all crossing_fits (drop i ls)) ≡ (m.ok && crossings_fit ls)
    pub holds : s.ok ≡ true → AreHeld p ls s.row i

  tested : (i : ℕ) (s : Spot) → IsAt i s → Is g t (view s) (is_below v_i (length ls)) (int_of (nat_lt i (length ls)))
  tested i s h =
      subst (λ (k : ℕ). Is g t (view s) (is_below v_i (length ls)) (int_of (nat_lt k (length ls)))) h.number
      (is_worth g t (view s) (is_below v_i (length ls)) (int_of (nat_lt s.i (length ls))) (simp forms))

  abbrev Turned : ℕ → Spot → Type 0
  Turned i s = (w : Spot) × IsAt i w × Runs g t 7 (one_crossing t p) (view s) (view w)

  at_most : (j i : ℕ) → j < suc i → (j ≡ i) ⊎ (j < i)
  at_most j i before = by (nat_lt j i) refl
    where
      by : (b : Bool) → nat_lt j i ≡ b → (j ≡ i) ⊎ (j < i)
      by true q = inr (ltb-true j i q)
      by false q = inl (omega (arith, before, ltb-false j i q))

  turn : (s : Spot) → s.i < length ls → IsAt s.i s → (l : Line) → slice_get ls s.i ≡ Some l → get_or ls s.i l ≡ l → Turned (suc s.i) s
  turn s less h l has same_l =
      let now : IsLined p ls s.row = lined_still f p deep ls s.row m.row apart given h.long h.same in
      let r = dividing.crossed_runs g t low not_last self p around f deep ls apart (here s) now l has in
      let w : Spot = record { row = r.row; ok = s.ok && crossing_fits l; i = s.i + 1; x = r.x; y = r.y } in
      let next : s.i + 1 ≡ suc s.i = omega arith in
      let parts : drop s.i ls ≡ l ∷ drop (suc s.i) ls =
      drop_more ls s.i l less ∙ ap₂ (λ (k : Line) (n : ℕ). k ∷ drop n ls) same_l next in
      let held : w.ok ≡ true → (j : ℕ) (k : Line) (x : Rational) → slice_get ls j ≡ Some k → crossing_of k ≡ Some x → (j ≡ s.i) ⊎ (j < s.i) →
      register r.row (p.crossing + j) ≡ x =
      λ ok j k x e c which.
      elim which [
        | inl same ↦
            let which_line : l ≡ k = same_Some l k (sym has ∙ ap (slice_get ls) (sym same) ∙ e) in
            ap (λ (n : ℕ). register r.row (p.crossing + n)) same ∙ r.holds ok x (ap crossing_of which_line ∙ c)
        | inr before ↦
            same_register (p.crossing + s.i) r.row s.row r.same (p.crossing + j) (omega (arith, before))
            ∙ h.holds (and_parts s.ok (crossing_fits l) ok).0 j k x before e c
      ] in (
        w,
        record {
          number = next;
          long = r.long ∙ h.long;
          same = same_less p.crossing (p.crossing + s.i) r.row s.row (omega arith) r.same ∙ h.same;
          fits =
              and_assoc s.ok (crossing_fits l) (list_all crossing_fits (drop (suc s.i) ls))
              ∙ sym (ap (λ (ks : List Line). s.ok && list_all crossing_fits ks) parts)
              ∙ h.fits;
          holds = λ ok j k x before e c. held ok j k x e c (at_most j s.i before);
        },
        r.runs,
      )

  turns : (i : ℕ) (s : Spot) → i < length ls → IsAt i s → Turned (suc i) s
  turns i s less h =
      let d : Line = record { at = zero_ℚ; slope = zero_ℚ; fits_all = true } in
      let here_less : s.i < length ls = omega (arith, less, h.number) in
      let l = get_or ls s.i d in
      let has : slice_get ls s.i ≡ Some l = slice_get-get_or ls s.i d here_less in
      let same_l : get_or ls s.i l ≡ l = same_Some (get_or ls s.i l) l (sym (slice_get-get_or ls s.i l here_less) ∙ has) in
      subst (λ (k : ℕ). Turned (suc k) s) h.number (turn s here_less (subst (λ (k : ℕ). IsAt k s) (sym h.number) h) l has same_l)

  abbrev begun : Spot
  begun = record { row = m.row; ok = m.ok; i = 0; x = m.x; y = m.y }

  begins : Runs g t 1 (set v_i 0 ∷ []) (seen.view around m) (view begun)
  begins = block_runs g t 1 _ _ _ (simp forms)

  abbrev pub crossings_steps : ℕ
  crossings_steps = 1 + rounds 7 (length ls)

  pub record Crossed : Type 0 where
    pub row : List Rational
    pub i : ℕ
    pub x : ℤ
    pub y : ℤ
    pub runs : Runs g t crossings_steps (crossings t p (length ls)) (seen.view around m)
        (seen.view around (record m { row = row; ok = m.ok && crossings_fit ls; i = i; x = x; y = y }))
    pub long : length row ≡ length m.row
    pub same : Same p.crossing row m.row
    pub gives : (m.ok && crossings_fit ls) ≡ true → IsGiven p ls row

  pub crossed : Crossed
  crossed =
      let at : IsAt 0 begun = record { number = refl; long = refl; same = refl; fits = refl; holds = λ ok j l x less e c. absurd (omega (arith, less)) } in
      let r = counts_up g t Spot view IsAt (length ls) 7 (is_below v_i (length ls)) (one_crossing t p) tested turns (length ls) 0 begun (omega arith) at in
      let w = r.0 in
      let h = r.1 in
      let ok : w.ok ≡ (m.ok && crossings_fit ls) =
      sym (and_one w.ok) ∙ sym (ap (λ (ks : List Line). w.ok && list_all crossing_fits ks) (drop_all (length ls) ls (omega arith))) ∙ h.fits in
      let lined : IsLined p ls w.row = lined_still f p deep ls w.row m.row apart given h.long h.same in
      record {
        row = w.row;
        i = w.i;
        x = w.x;
        y = w.y;
        runs =
            subst (λ (b : Bool). Runs g t crossings_steps (crossings t p (length ls)) (seen.view around m) (seen.view around (record m { row = w.row; ok = b; i = w.i; x = w.x; y = w.y }))) ok
            (
            runs_on g t 1 (rounds 7 (length ls)) (set v_i 0 ∷ []) (a.While (is_below v_i (length ls)) (one_crossing t p) ∷ []) (seen.view around m) (view begun) (view w)
            begins r.2
            );
        long = h.long;
        same = h.same;
        gives =
            λ all.
            let on : w.ok ≡ true = ok ∙ all in
            record {
              wide = lined.wide;
              zero = lined.zero;
              values = lined.values;
              slopes = lined.slopes;
              crossings = λ i l x e c. h.holds on i l x (slice_get_within ls i l e) e c;
            };
      }
