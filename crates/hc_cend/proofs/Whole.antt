-- The code of a domain finds its end moment: that is what private code asks for.
use Rattle.std.specs.Prelude.{◌≡◌, ◌<◌, ◌≤◌, ℕ, ◌+◌, ◌*◌, ◌==◌, nat_lt, Bool, true, false, ◌&&◌, List, [], ◌∷◌, map, length, slice_get, ℤ, pos, Option, Some, None, IsTrue, option_map}
use Rattle.std.specs.List.{list_all}
use Rattle.std.proofs.Common.{refl, sym, ap, ◌∙◌, subst, arith}
use Rattle.std.proofs.lemmas.List.{length-map}
use Rattle.std.proofs.lemmas.Option.{slice_get-map, same_Some}
use Rattle.hc_rational.specs.Words.{Rational}
use Rattle.hc_term.specs.declared.expr.Expr.{Expr}
use Rattle.hc_term.specs.declared.expr.Cond.{Cond}
use Rattle.hc_term.specs.Value.{Store}
use Rattle.hc_term.specs.Motion.{Rates, Line}
use Rattle.hc_term.specs.EndMoment.{end_moment, domain_fits}
use Rattle.hc_cast.specs.declared.stmt.CStmt.{CStmt}
use Rattle.hc_cast.specs.declared.program.CProgram.{CProgram}
use Rattle.hc_cmach.specs.State.{Word}
use Rattle.hc_cmach.specs.Expression.{int_of}
use Rattle.hc_clogic.specs.Runs.{Runs}
use Rattle.hc_clogic.proofs.Runs.{runs_on, runs_longer}
use Rattle.hc_clogic.proofs.Blocks.{block_runs}
use Rattle.hc_cstep.specs.Locals.{Mine, Base, view}
use Rattle.hc_cstep.specs.Parts.{EndMoments, MomentIs}
use Rattle.hc_cend.specs.Candidates.{numbered, found, all_fit}
use Rattle.hc_cend.specs.Searching.{Around, register, search_names}
use Rattle.hc_cend.specs.Places.{Places, AreApart}
use Rattle.hc_cend.specs.Tree.{tree}
use Rattle.hc_cend.specs.Lining.{Compared, compared, gap_of_sides, line_fits, guard, gaps_code, are_sides, SideWorks}
use Rattle.hc_cend.specs.Ending.{crosses_and_finds, end_code, crosses_cost, end_cost}
use Rattle.hc_cend.proofs.Registers.{Same}
use Rattle.hc_cend.proofs.Found.{finds, fits_as_it_must}
use Rattle.hc_cend.proofs.Found as pure
use Rattle.hc_cend.proofs.Crossings.{crossings_fit}
use Rattle.hc_cend.proofs.Gaps.{gaps_are, all_fit_by}
use Rattle.hc_cend.proofs.AllTrees as trees
use Rattle.hc_cend.proofs.Guards as guards
use Rattle.hc_cend.proofs.OneGap.{IsReady}
use Rattle.hc_cend.proofs.AllGaps as all
use Rattle.hc_cend.proofs.Ending as ending

-- eight locals in front of others
pub record Eight (zs : List ℤ) : Type 0 where
  pub z0 : ℤ
  pub z1 : ℤ
  pub z2 : ℤ
  pub z3 : ℤ
  pub z4 : ℤ
  pub z5 : ℤ
  pub z6 : ℤ
  pub z7 : ℤ
  pub kept : List ℤ
  pub are : zs ≡ z0 ∷ z1 ∷ z2 ∷ z3 ∷ z4 ∷ z5 ∷ z6 ∷ z7 ∷ kept

too_few : (zs : List ℤ) (n : ℕ) → length zs ≡ n → n < 8 → 8 ≤ length zs → Eight zs
too_few zs n e less long = absurd (omega (arith, e, less, long))

eight : (zs : List ℤ) → 8 ≤ length zs → Eight zs
eight [] h = too_few [] 0 refl (omega arith) h
eight (a ∷ []) h = too_few (a ∷ []) 1 refl (omega arith) h
eight (a ∷ b ∷ []) h = too_few (a ∷ b ∷ []) 2 refl (omega arith) h
eight (a ∷ b ∷ c ∷ []) h = too_few (a ∷ b ∷ c ∷ []) 3 refl (omega arith) h
eight (a ∷ b ∷ c ∷ d ∷ []) h = too_few (a ∷ b ∷ c ∷ d ∷ []) 4 refl (omega arith) h
eight (a ∷ b ∷ c ∷ d ∷ e ∷ []) h = too_few (a ∷ b ∷ c ∷ d ∷ e ∷ []) 5 refl (omega arith) h
eight (a ∷ b ∷ c ∷ d ∷ e ∷ f ∷ []) h = too_few (a ∷ b ∷ c ∷ d ∷ e ∷ f ∷ []) 6 refl (omega arith) h
eight (a ∷ b ∷ c ∷ d ∷ e ∷ f ∷ g ∷ []) h = too_few (a ∷ b ∷ c ∷ d ∷ e ∷ f ∷ g ∷ []) 7 refl (omega arith) h
eight (a ∷ b ∷ c ∷ d ∷ e ∷ f ∷ g ∷ z ∷ zs) h =
    record { z0 = a; z1 = b; z2 = c; z3 = d; z4 = e; z5 = f; z6 = g; z7 = z; kept = zs; are = refl }

-- the comparison of a line
comparison_of : (s : Store) (r : Rates) (qs : List Compared) (i : ℕ) (l : Line) (x : Option Compared) → slice_get qs i ≡ x →
    option_map (gap_of_sides s r) x ≡ Some l → (q : Compared) × (slice_get qs i ≡ Some q) × (gap_of_sides s r q ≡ l)
comparison_of s r qs i l None e h = absurd (let no : None ≡ Some l = h in cc)
comparison_of s r qs i l (Some q) e h = (q, e, same_Some (gap_of_sides s r q) l h)

module _ (g : CProgram) (t : ℕ) (low : nat_lt t 65 ≡ true) (not_last : (t == 64) ≡ false) (self : (t == t) ≡ true) (p : Places)
    (plain : Base) (more : List Word) (c : Cond) (apart : AreApart 320 p (length (compared c)) (tree t p c).deep)
    (vars room : ℕ) (few : vars ≤ 64) (spare : 8 ≤ room) (pattern : Rates) (long : length pattern ≡ vars)
    (is_line : Expr → Bool) (side : ℕ → Expr → List CStmt) (s : Store) (r : Rates) (steps : ℕ) where
  abbrev b : Base
  b = record plain { scratch = search_names more }

  abbrev qs : List Compared
  qs = compared c

  abbrev ls : List Line
  ls = map (gap_of_sides s r) (compared c)

  abbrev cost : ℕ
  cost = end_cost steps (length (compared c)) (tree t p c).steps

  module _ (works : SideWorks g t steps b vars room pattern is_line side p.crossing s r) (m : Mine) (on : m.ok ≡ true) (ready : IsReady vars room pattern s r m)
      (good : IsTrue (list_all (are_sides vars pattern is_line) (compared c))) where
    abbrev lines_fit : Bool
    lines_fit = list_all (line_fits s r) (compared c)

    -- all working values fit
    fitting : ((m.ok && lines_fit) && crossings_fit ls) ≡ domain_fits s r c
    fitting =
        ap (λ (o : Bool). (o && lines_fit) && crossings_fit ls) on
        ∙ sym (all_fit_by s r (compared c))
        ∙ sym (ap all_fit (gaps_are s r c))
        ∙ fits_as_it_must c s r

    moment : found (numbered c) ls ≡ end_moment s r c
    moment = sym (ap (found (numbered c)) (gaps_are s r c)) ∙ finds c s r

    abbrev Gapped : Type 0
    Gapped = all.AllGapped g t low not_last self b p (length (compared c)) (tree t p c).deep apart vars room few pattern long is_line side s r steps works 0 m (compared c)

    module _ (h : Gapped) where
      abbrev m1 : Mine
      m1 = record m { row = h.row; ok = m.ok && lines_fit; truth = h.truth; others = h.others }

      -- behind the lines
      pub record Behind : Type 0 where
        pub row : List Rational
        pub truth : Bool
        pub others : List ℤ
        pub runs : Runs g t (1 + crosses_cost (length (compared c)) (tree t p c).steps) (guard (crosses_and_finds t p (length (compared c)) c) ∷ []) (view b m1)
            (view b (record m1 { row = row; ok = m1.ok && crossings_fit ls; truth = truth; others = others }))
        pub wide : length row ≡ length h.row
        pub kept : length others ≡ length h.others
        pub beneath : Same 320 row h.row
        pub finds_it : (m1.ok && crossings_fit ls) ≡ true → MomentIs truth row (found (numbered c) ls)

      off : (m.ok && lines_fit) ≡ false → Behind
      off e = record {
        row = h.row;
        truth = h.truth;
        others = h.others;
        runs =
            runs_longer g t 1 (1 + crosses_cost (length (compared c)) (tree t p c).steps) (guard (crosses_and_finds t p (length (compared c)) c) ∷ []) (view b m1) _ (omega arith)
            (
            subst (λ (o : Bool). Runs g t 1 (guard (crosses_and_finds t p (length (compared c)) c) ∷ []) (view b m1) (view b (record m1 { ok = o })))
            (e ∙ sym (ap (λ (o : Bool). o && crossings_fit ls) e))
            (block_runs g t 1 _ _ _ (guards.off_told g t low not_last self b m1 (crosses_and_finds t p (length (compared c)) c) e))
            );
        wide = refl;
        kept = refl;
        beneath = refl;
        finds_it = λ k. absurd (let no : false ≡ true = sym (ap (λ (o : Bool). o && crossings_fit ls) e) ∙ k in cc);
      }

      same_length : length ls ≡ length (compared c)
      same_length = length-map (compared c) (gap_of_sides s r)

      abbrev apart_lines : AreApart 320 p (length ls) (tree t p c).deep
      apart_lines = subst (λ (k : ℕ). AreApart 320 p k (tree t p c).deep) (sym same_length) apart

      module _ (z : Eight h.others) where
        abbrev around : Around
        around = record { base = plain; fixed = m1; more = more; done = z.z0; kept = z.kept }

        sized : (tree t p c).size ≡ length ls
        sized = (trees.tree_works g t low not_last self p around c).sized ∙ (pure.agrees s r c).long ∙ ap length (gaps_are s r c)

        value_held : m1.ok ≡ true → (i : ℕ) (l : Line) → slice_get ls i ≡ Some l → register h.row (p.at + i) ≡ l.at
        value_held yes' i l e =
            let k = comparison_of s r (compared c) i l (slice_get (compared c) i) refl (sym (slice_get-map (gap_of_sides s r) (compared c) i) ∙ e) in
            let first : i ≡ 0 + i = omega arith in
            ap (λ (x : ℕ). register h.row (p.at + x)) first ∙ h.at yes' i k.0 k.1 ∙ ap (λ (x : Line). x.at) k.2

        slope_held : m1.ok ≡ true → (i : ℕ) (l : Line) → slice_get ls i ≡ Some l → register h.row (p.slope + i) ≡ l.slope
        slope_held yes' i l e =
            let k = comparison_of s r (compared c) i l (slice_get (compared c) i) refl (sym (slice_get-map (gap_of_sides s r) (compared c) i) ∙ e) in
            let first : i ≡ 0 + i = omega arith in
            ap (λ (x : ℕ). register h.row (p.slope + x)) first ∙ h.slope yes' i k.0 k.1 ∙ ap (λ (x : Line). x.slope) k.2

        abbrev Comes : Type 0
        Comes =
            ending.Comes g t low not_last self p around c ls apart_lines sized (ending.before g t low not_last self p around c ls apart_lines sized z.z1 z.z2 z.z3 z.z4 z.z5 z.z6 z.z7)
            (crosses_cost (length ls) (tree t p c).steps) (m1.ok && crossings_fit ls)

        comes : m1.ok ≡ true → Comes
        comes e =
            ending.comes g t low not_last self p around c ls apart_lines sized z.z1 z.z2 z.z3 z.z4 z.z5 z.z6 z.z7
            (record { wide = h.wide ∙ ready.wide; values = value_held e; slopes = slope_held e })

        module _ (e : m1.ok ≡ true) (k : Comes) where
          abbrev others : List ℤ
          others = z.z0 ∷ k.end.x ∷ pos k.end.i ∷ int_of k.end.after ∷ k.end.y ∷ pos k.end.j ∷ pos k.end.turn ∷ int_of k.end.fails ∷ z.kept

          abbrev done : Mine
          done = record m1 { row = k.end.row; ok = m1.ok && crossings_fit ls; truth = k.end.truth; others = others }

          -- the statements at the number of lines
          ran : Runs g t (1 + crosses_cost (length ls) (tree t p c).steps) (guard (crosses_and_finds t p (length ls) c) ∷ []) (view b m1) (view b done)
          ran =
              guards.on_runs g t low not_last self b m1 (crosses_cost (length ls) (tree t p c).steps) (crosses_and_finds t p (length ls) c) done e
              (
              subst (λ (zs : List ℤ). Runs g t (crosses_cost (length ls) (tree t p c).steps) (crosses_and_finds t p (length ls) c) (view b (record m1 { others = zs })) (view b done)) (sym z.are)
              k.runs
              )

          same_spare : length others ≡ length h.others
          same_spare = sym (ap length z.are)

          behind_on : Behind
          behind_on = record {
            row = k.end.row;
            truth = k.end.truth;
            others = others;
            runs =
                subst (λ (n : ℕ). Runs g t (1 + crosses_cost n (tree t p c).steps) (guard (crosses_and_finds t p n c) ∷ []) (view b m1) (view b done)) same_length ran;
            wide = k.long;
            kept = same_spare;
            beneath = k.same;
            finds_it = k.finds_it;
          }

      behind_by : (o : Bool) → (m.ok && lines_fit) ≡ o → Behind
      behind_by false e = off e
      behind_by true e =
          let z = eight h.others (omega (arith, h.spare, ready.spare, spare)) in
          behind_on z e (comes z e)

      ends_as : Behind → EndMoments g t cost b (end_code side t p c) m s r c
      ends_as k =
          let end = record m { row = k.row; ok = (m.ok && lines_fit) && crossings_fit ls; truth = k.truth; others = k.others } in
          record {
            does = record {
              row = k.row;
              truth = k.truth;
              others = k.others;
              runs =
                  subst (λ (o : Bool). Runs g t cost (end_code side t p c) (view b m) (view b (record m { row = k.row; ok = o; truth = k.truth; others = k.others }))) fitting
                  (
                  runs_on g t (length (compared c) * ((1 + steps) + ((1 + steps) + (2 + 2)))) (1 + crosses_cost (length (compared c)) (tree t p c).steps)
                  (gaps_code side t p 0 (compared c)) (guard (crosses_and_finds t p (length (compared c)) c) ∷ []) (view b m) (view b m1) (view b end) h.runs k.runs
                  );
              wide = k.wide ∙ h.wide;
              kept = k.kept ∙ h.spare;
              low = k.beneath ∙ h.beneath;
            };
            found = λ e. subst (MomentIs k.truth k.row) moment (k.finds_it (fitting ∙ e));
          }

    pub finds_end : EndMoments g t cost b (end_code side t p c) m s r c
    finds_end =
        let h =
        all.gaps_run g t low not_last self b p (length (compared c)) (tree t p c).deep apart vars room few pattern long is_line side s r steps works (compared c) 0 m (omega arith) ready good in
        ends_as h (behind_by h (m.ok && lines_fit) refl)
