-- The search finds the least candidate at which the condition fails.
use Rattle.std.specs.Prelude.{◌≡◌, ◌<◌, ◌≤◌, ℕ, zero, suc, ◌+◌, ◌==◌, nat_lt, Bool, true, false, List, [], ◌∷◌, ◌++◌, length, drop, get_or, slice_get, ℤ, pos, Option, Some, None, option_map}
use Rattle.std.proofs.Common.{refl, sym, ap, ap₂, ◌∙◌, subst, arith}
use Rattle.std.proofs.lemmas.List.{drop_more, drop_all, length-map}
use Rattle.std.proofs.lemmas.Option.{slice_get-get_or, slice_get-map, get_or_from_slice_get, same_Some}
use Rattle.hc_rational.specs.Words.{Rational, zero_ℚ, ◌≤ℚ◌}
use Rattle.hc_rational.proofs.OrderLaws.{≤ℚ_refl}
use Rattle.hc_term.specs.Motion.{Line}
use Rattle.hc_term.specs.declared.expr.Cond.{Cond}
use Rattle.hc_cross.proofs.Sides.{crossing-not_past}
use Rattle.hc_cast.specs.declared.stmt.CStmt.TheVariants as a
use Rattle.hc_cast.specs.declared.program.CProgram.{CProgram}
use Rattle.hc_cmach.specs.Expression.{is_int, int_of}
use Rattle.hc_clogic.specs.Runs.{View, Runs, Is}
use Rattle.hc_clogic.proofs.Runs.{runs_on}
use Rattle.hc_cmach.proofs.Worths.{forms}
use Rattle.hc_clogic.specs.Loops.{rounds}
use Rattle.hc_clogic.specs.Block.{block}
use Rattle.hc_clogic.proofs.Values.{is_worth}
use Rattle.hc_clogic.proofs.Blocks.{block_runs}
use Rattle.hc_cstep.specs.Locals.{v_truth}
use Rattle.hc_cend.specs.Candidates.{numbered, is_false_at, tried, least, crossing_of, candidates, found}
use Rattle.hc_cend.specs.Searching as seen
use Rattle.hc_cend.specs.Searching.{Mine, Around, register, v_i, v_j}
use Rattle.hc_cend.specs.Places.{Places, AreApart, IsGiven}
use Rattle.hc_cend.specs.Tree.{tree}
use Rattle.hc_cend.specs.Search.{set, is_below, chooses, betters, tries, goes_on, candidate, search}
use Rattle.hc_cend.proofs.Registers.{Same}
use Rattle.hc_cend.proofs.Given.{is_small, given_still}
use Rattle.hc_cend.proofs.Counting.{counts_up}
use Rattle.hc_cend.proofs.Choosing.{Chosen}
use Rattle.hc_cend.proofs.Choosing as choosing
use Rattle.hc_cend.proofs.Trying.{BestIs, goes_in}
use Rattle.hc_cend.proofs.Trying as trying

-- what the search writes
pub record Spot : Type 0 where
  pub row : List Rational
  pub truth : Bool
  pub i : ℕ
  pub x : ℤ
  pub y : ℤ
  pub after : Bool
  pub turn : ℕ
  pub fails : Bool
  pub j : ℕ

-- candidate number j, and that none of them is past
pub record IsCandidate (ls : List Line) (j : ℕ) (o : Option Rational) : Type 0 where
  pub there : slice_get (candidates ls) j ≡ Some o
  pub not_past : (q : Rational) → o ≡ Some q → zero_ℚ ≤ℚ q

now_candidate : (ls : List Line) → IsCandidate ls 0 (Some zero_ℚ)
now_candidate ls = record {
  there = refl;
  not_past = λ q e. subst (λ (z : Rational). zero_ℚ ≤ℚ z) (same_Some zero_ℚ q e) (≤ℚ_refl zero_ℚ);
}

crossing_candidate : (ls : List Line) (k : ℕ) (l : Line) → slice_get ls k ≡ Some l → IsCandidate ls (suc k) (crossing_of l)
crossing_candidate ls k l h = record {
  there = slice_get-map crossing_of ls k ∙ ap (option_map crossing_of) h;
  not_past = λ q e. crossing-not_past l.at l.slope q e;
}

module _ (g : CProgram) (t : ℕ) (low : nat_lt t 65 ≡ true) (not_last : (t == 64) ≡ false) (self : (t == t) ≡ true) (p : Places) (around : Around)
    (f : ℕ) (c : Cond) (ls : List Line) (apart : AreApart f p (length ls) (tree t p c).deep) (sized : (tree t p c).size ≡ length ls) where
  abbrev view : Mine → View
  view m = seen.view around m

  abbrev test : Rational → Bool
  test q = is_false_at (numbered c) ls q

  abbrev tries_steps : ℕ
  tries_steps = trying.tries_steps g t low not_last self p around f c ls apart sized

  abbrev pub candidate_steps : ℕ
  candidate_steps = 6 + (3 + (tries_steps + 2))

  abbrev pub search_steps : ℕ
  search_steps = 3 + rounds candidate_steps (length ls + 1)

  module _ (m : Mine) (given : IsGiven p ls m.row) where
    abbrev here : Spot → Mine
    here s = record m { row = s.row; truth = s.truth; i = s.i; x = s.x; y = s.y; after = s.after; turn = s.turn; fails = s.fails; j = s.j }

    abbrev seen_at : Spot → View
    seen_at s = view (here s)

    -- With the best so far the remaining candidates lead to what is found.
    pub record IsAt (j : ℕ) (s : Spot) : Type 0 where
      pub number : s.j ≡ j
      pub behind : 0 < j → s.i + 1 ≡ j
      pub long : length s.row ≡ length m.row
      pub same : Same p.moment s.row m.row
      pub best : Option Rational
      pub best_is : BestIs p s.row s.truth best
      pub leads : least test best (drop j (candidates ls)) ≡ found (numbered c) ls

    still : (row : List Rational) → length row ≡ length m.row → Same p.moment row m.row → IsGiven p ls row
    still row long same = given_still f p (tree t p c).deep ls row m.row apart given long same

    tested : (j : ℕ) (s : Spot) → IsAt j s → Is g t (seen_at s) (is_below v_j (length ls + 1)) (int_of (nat_lt j (length ls + 1)))
    tested j s h =
        subst (λ (k : ℕ). Is g t (seen_at s) (is_below v_j (length ls + 1)) (int_of (nat_lt k (length ls + 1)))) h.number
        (is_worth g t (seen_at s) (is_below v_j (length ls + 1)) (int_of (nat_lt s.j (length ls + 1))) (simp forms))

    -- ---- the candidate of a number

    abbrev Choice : ℕ → Spot → Type 0
    Choice j s =
        (o : Option Rational) × IsCandidate ls j o × choosing.Chooses g t low not_last self p around f (tree t p c).deep ls apart 6 (chooses t p) (here s) o

    choice : (j : ℕ) (s : Spot) → j < length ls + 1 → IsAt j s → Choice j s
    choice zero s less h = (
      Some zero_ℚ,
      now_candidate ls,
      choosing.now_runs g t low not_last self p around f (tree t p c).deep ls apart (here s) h.number (h.long ∙ given.wide),
    )
    choice (suc k) s less h =
        let d : Line = record { at = zero_ℚ; slope = zero_ℚ; fits_all = true } in
        let l = get_or ls k d in
        let has : slice_get ls k ≡ Some l = slice_get-get_or ls k d (omega (arith, less)) in
        let at : s.i ≡ k = omega (arith, h.behind (omega arith)) in
        let here_has = subst (λ (i : ℕ). slice_get ls i ≡ Some l) (sym at) has in (
          crossing_of l,
          crossing_candidate ls k l has,
          choosing.crossing_runs g t low not_last self p around f (tree t p c).deep ls apart (here s) (still s.row h.long h.same) l here_has k h.number,
        )

    -- ---- one candidate

    goes_told : (u : Mine) → is_int (pos (u.j + 1)) ≡ true → block g t 2 (view u) goes_on ≡ Some (view (record u { i = u.j; j = u.j + 1 }))
    goes_told u h = simp (forms, h)

    -- what is left leads on
    leads_on : (j : ℕ) (best o : Option Rational) → j < length ls + 1 → IsCandidate ls j o → least test best (drop j (candidates ls)) ≡ found (numbered c) ls →
        least test (tried test best o) (drop (suc j) (candidates ls)) ≡ found (numbered c) ls
    leads_on j best o less is h =
        let long : j < length (candidates ls) = omega (arith, less, length-map ls crossing_of) in
        let first = get_or_from_slice_get (candidates ls) j o None is.there in
        let next : j + 1 ≡ suc j = omega arith in
        let parts : drop j (candidates ls) ≡ o ∷ drop (suc j) (candidates ls) =
        drop_more (candidates ls) j None long
        ∙ ap₂ (λ (x : Option Rational) (k : ℕ). x ∷ drop k (candidates ls)) first next in
        sym (ap (least test best) parts) ∙ h

    chosen_at : (row : List Rational) (x : ℤ) (o : Option Rational) → Chosen p row x o → (q : Rational) → o ≡ Some q → register row p.moment ≡ q
    chosen_at row x None h q e = absurd (let no : None ≡ Some q = e in cc)
    chosen_at row x (Some r) h q e = h.1 ∙ same_Some r q e

    abbrev Turned : ℕ → Spot → Type 0
    Turned j s = (w : Spot) × IsAt j w × Runs g t candidate_steps (candidate t p (length ls) c) (seen_at s) (seen_at w)

    turned : (j : ℕ) (s : Spot) → j < length ls + 1 → IsAt j s → Choice j s → Turned (suc j) s
    turned j s less h k =
        let o = k.0 in
        let r = k.2 in
        let one = record (here s) { row = r.row; x = r.x; y = r.y } in
        let best_there = trying.best_still g t low not_last self p around f c ls apart sized r.row s.row s.truth h.best r.best h.best_is in
        let below = trying.betters_run g t low not_last self p around f c ls apart sized one h.best o r.chosen best_there in
        let two = record one { x = int_of (goes_in h.best o); y = below.0 } in
        let u =
        trying.tries_run g t low not_last self p around f c ls apart sized two h.best o (still r.row (r.long ∙ h.long) (r.same ∙ h.same)) refl
        (λ q e. (chosen_at r.row r.x o r.chosen q e, k.1.not_past q e)) best_there in
        let three = record two { row = u.row; truth = u.truth; i = u.i; x = u.x; y = u.y; after = u.after; turn = u.turn; fails = u.fails } in
        let end : Spot = record { row = u.row; truth = u.truth; i = s.j; x = u.x; y = u.y; after = u.after; turn = u.turn; fails = u.fails; j = s.j + 1 } in
        let small : s.j + 1 < 20480 =
        omega (arith, h.number, less, apart.at, apart.slope, apart.crossing, apart.moment, apart.best, apart.sign, apart.truth, apart.end) in
        let counts = block_runs g t 2 goes_on (view three) (seen_at end) (goes_told three (is_small (s.j + 1) small)) in (
          end,
          record {
            number = omega (arith, h.number);
            behind = λ some. omega (arith, h.number);
            long = u.long ∙ r.long ∙ h.long;
            same = u.same ∙ r.same ∙ h.same;
            best = tried test h.best o;
            best_is = u.now_best;
            leads = leads_on j h.best o less k.1 h.leads;
          },
          runs_on g t 6 (3 + (tries_steps + 2)) (chooses t p) (betters t p ++ (tries t p (length ls) c ++ goes_on)) (seen_at s) (view one) (seen_at end) r.runs
              (
              runs_on g t 3 (tries_steps + 2) (betters t p) (tries t p (length ls) c ++ goes_on) (view one) (view two) (seen_at end) below.1
              (runs_on g t tries_steps 2 (tries t p (length ls) c) goes_on (view two) (view three) (seen_at end) u.runs counts)
              ),
        )

    turns : (j : ℕ) (s : Spot) → j < length ls + 1 → IsAt j s → Turned (suc j) s
    turns j s less h = turned j s less h (choice j s less h)

    -- ---- all of them

    abbrev begun : Spot
    begun = record { row = m.row; truth = false; i = 0; x = m.x; y = m.y; after = m.after; turn = m.turn; fails = m.fails; j = 0 }

    begins : Runs g t 3 (set v_truth 0 ∷ set v_i 0 ∷ set v_j 0 ∷ []) (view m) (seen_at begun)
    begins = block_runs g t 3 _ _ _ (simp forms)

    pub record Searched : Type 0 where
      pub end : Spot
      pub runs : Runs g t search_steps (search t p (length ls) c) (view m) (seen_at end)
      pub long : length end.row ≡ length m.row
      pub same : Same p.moment end.row m.row
      pub finds : BestIs p end.row end.truth (found (numbered c) ls)

    pub searched : Searched
    searched =
        let at : IsAt 0 begun = record { number = refl; behind = λ some. absurd (omega (arith, some)); long = refl; same = refl; best = None; best_is = refl; leads = refl } in
        let r =
        counts_up g t Spot seen_at IsAt (length ls + 1) candidate_steps (is_below v_j (length ls + 1)) (candidate t p (length ls) c) tested turns
        (length ls + 1) 0 begun (omega arith) at in
        let w = r.0 in
        let h = r.1 in
        let all : length (candidates ls) ≤ length ls + 1 = omega (arith, length-map ls crossing_of) in
        let is : h.best ≡ found (numbered c) ls = sym (ap (least test h.best) (drop_all (length ls + 1) (candidates ls) all)) ∙ h.leads in
        record {
          end = w;
          runs =
              runs_on g t 3 (rounds candidate_steps (length ls + 1)) (set v_truth 0 ∷ set v_i 0 ∷ set v_j 0 ∷ [])
              (a.While (is_below v_j (length ls + 1)) (candidate t p (length ls) c) ∷ []) (view m) (seen_at begun) (seen_at w) begins r.2;
          long = h.long;
          same = h.same;
          finds = subst (BestIs p w.row w.truth) is h.best_is;
        }
