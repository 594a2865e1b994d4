-- The C of taking over, piece by piece.
use Rattle.std.specs.Prelude.{◌≡◌, ◌<◌, ◌≤◌, ◌+◌, ◌*◌, ◌==◌, ℕ, zero, suc, Bool, true, false, not, ◌&&◌, ◌||◌, nat_lt, if◌then◌else◌, List, [], ◌∷◌, ◌++◌, length, slice_get, slice_set, slice_index_or, ℤ, pos, Option, Some, None, codes}
use Rattle.std.specs.List.{list_all}
use Rattle.std.proofs.Common.{refl, sym, ap, ◌∙◌, subst, arith, append_assoc}
use Rattle.std.proofs.lemmas.Bool.{eq-eqb, and_parts, ltb-true}
use Rattle.hc_rational.specs.Words.{Rational, zero_ℚ}
use Rattle.hc_code.specs.declared.code.Way.{Way}
use Rattle.hc_code.specs.declared.code.Instr.{Instr}
use Rattle.hc_code.specs.declared.code.Instr.TheVariants as instr
use Rattle.hc_cast.specs.declared.stmt.CStmt.{CStmt}
use Rattle.hc_cast.specs.declared.stmt.CStmt.TheVariants.{Set, Switch}
use Rattle.hc_cast.specs.declared.program.CProgram.{CProgram}
use Rattle.hc_cmach.specs.State.{Word}
use Rattle.hc_cmach.specs.Expression.{int_of}
use Rattle.hc_cmach.specs.Turn.{case_for}
use Rattle.hc_cmach.proofs.Worths.{forms}
use Rattle.hc_clogic.specs.Runs.{View, Runs, Is}
use Rattle.hc_clogic.proofs.Runs.{runs_none, runs_on, runs_longer, runs_straight, if_runs, switch_runs}
use Rattle.hc_clogic.specs.Cases.{cases_from}
use Rattle.hc_clogic.proofs.Cases.{case_there, case_runs}
use Rattle.hc_cbuild.specs.Written.{number, local, less, above_zero, if_then}
use Rattle.hc_core_c.specs.Twin.{Board64, nth}
use Rattle.hc_core_c.proofs.Base.{is_below, element_is}
use Rattle.hc_core_c.specs.Owner.{core, Has}
use Rattle.hc_cthreads.specs.Bodies.{v_done, v_x}
use Rattle.hc_cstep.specs.Locals as locals
use Rattle.hc_cstep.specs.Locals.{Mine, v_place}
use Rattle.hc_csection.specs.Values.{values_of}
use Rattle.hc_csection.specs.Words.{ways_of}
use Rattle.hc_cpost.specs.Parts.{own_registers}
use Rattle.hc_cpost.specs.Taking.{fetched, taken, fetch, fetches, fetch_clock, met_of, follows, take_case, goes_again, sets_done, take_parts, take_code}
use Rattle.hc_cpost.proofs.Copying.{not_same}
use Rattle.hc_cpost.proofs.Offering.{own_low}

-- the machine steps of taking over, for a process with n variables
abbrev pub take_cost : ℕ → ℕ
take_cost n = 1 + (1 + (length (own_registers n) + 1 + 6))

module _ (g : CProgram) (P C : ℕ) (has : Has g P C) (p : ℕ) (low : p < P) (scratch : List Word) (b : Board64) where
  -- the thread with this row and these locals
  abbrev pub at : List Rational → Mine → ℤ → ℤ → List ℤ → View
  at row m done x more = core row (locals.names (v_done ∷ v_x ∷ scratch)) (values_of (record m { others = done ∷ x ∷ more })) b

  few : p < 64
  few = (let most = has.few in omega (arith, low, most))

  -- ---- whether it is done

  done_runs : (row : List Rational) (m : Mine) (done x : ℤ) (more : List ℤ) (s f : Bool) → nat_lt 0 b.stop ≡ s → nat_lt 1 (nth b.phase p) ≡ f →
      Runs g p 1 (sets_done p ∷ []) (at row m done x more) (at row m (int_of (s || f)) x more)
  done_runs row m done x more true f e h =
      let arrays = has.declared in
      runs_straight g p 1 _ _ _ (λ rest target gives below. simp (forms, arrays, e))
  done_runs row m done x more false true e h =
      let arrays = has.declared in
      let inside : nat_lt p P ≡ true = is_below p P low in
      runs_straight g p 1 _ _ _ (λ rest target gives below. simp (forms, arrays, e, h, inside, element_is))
  done_runs row m done x more false false e h =
      let arrays = has.declared in
      let inside : nat_lt p P ≡ true = is_below p P low in
      runs_straight g p 1 _ _ _ (λ rest target gives below. simp (forms, arrays, e, h, inside, element_is))

  -- ---- registers

  module _ (m : Mine) (done x : ℤ) (more : List ℤ) where
    fetch_runs : (d : ℕ) → d < 320 → (row : List Rational) → Runs g p 1 (fetch p d ∷ []) (at row m done x more) (at (slice_set row d (slice_index_or b.row (p * 320 + d) zero_ℚ)) m done x more)
    fetch_runs d less row =
        let arrays = has.declared in
        let mine : nat_lt p 65 ≡ true = is_below p 65 (let h = few in omega (arith, h)) in
        let other : (p == 64) ≡ false = not_same p 64 few in
        let self : (p == p) ≡ true = eq-eqb p p refl in
        let from : nat_lt (p * 320 + d) 20480 ≡ true = is_below (p * 320 + d) 20480 (let h = few in omega (arith, h, less)) in
        let to : nat_lt d 20480 ≡ true = is_below d 20480 (omega (arith, less)) in
        runs_straight g p 1 _ _ _ (λ rest target gives below. simp (forms, mine, other, self, to, from))

    fetches_run : (ds : List ℕ) → list_all (λ (d : ℕ). nat_lt d 320) ds ≡ true → (row : List Rational) →
        Runs g p (length ds) (fetches p ds) (at row m done x more) (at (fetched p b.row ds row) m done x more)
    fetches_run [] h row = runs_none g p (at row m done x more)
    fetches_run (d ∷ ds) h row =
        let parts = and_parts (nat_lt d 320) (list_all (λ (d : ℕ). nat_lt d 320) ds) h in
        let next = slice_set row d (slice_index_or b.row (p * 320 + d) zero_ℚ) in
        runs_longer g p (1 + length ds) (suc (length ds)) (fetches p (d ∷ ds)) (at row m done x more) _ (omega arith)
        (runs_on g p 1 (length ds) (fetch p d ∷ []) (fetches p ds) (at row m done x more) (at next m done x more) _ (fetch_runs d (ltb-true d 320 parts.0) row) (fetches_run ds parts.1 next))

    clock_runs : (row : List Rational) → Runs g p 1 (fetch_clock p ∷ []) (at row m done x more) (at (slice_set row 64 (slice_index_or b.row 64 zero_ℚ)) m done x more)
    clock_runs row =
        let mine : nat_lt p 65 ≡ true = is_below p 65 (let h = few in omega (arith, h)) in
        let other : (p == 64) ≡ false = not_same p 64 few in
        let self : (p == p) ≡ true = eq-eqb p p refl in
        runs_straight g p 1 _ _ _ (λ rest target gives below. simp (forms, mine, other, self))

    pub taken_runs : (n : ℕ) → n ≤ 64 → (row : List Rational) →
        Runs g p (length (own_registers n) + 1) (fetches p (own_registers n) ++ fetch_clock p ∷ []) (at row m done x more) (at (taken p n b.row row) m done x more)
    taken_runs n short row =
        runs_on g p (length (own_registers n)) 1 (fetches p (own_registers n)) (fetch_clock p ∷ []) (at row m done x more) (at (fetched p b.row (own_registers n) row) m done x more) _
        (fetches_run (own_registers n) (own_low n short) row) (clock_runs (fetched p b.row (own_registers n) row))

  -- ---- where it has met

  module _ (row : List Rational) (done x : ℤ) (more : List ℤ) where
    -- its place becomes the follower of the branch
    follows_run : (m : Mine) (ways : List Way) (j : ℕ) (w : Way) → slice_get ways j ≡ Some w → nth b.met p ≡ 1 + j →
        Runs g p 2 (follows p ways ∷ []) (at row m done x more) (at row (record m { place = w.next }) done x more)
    follows_run m ways j w e met =
        let arrays = has.declared in
        let inside : nat_lt p P ≡ true = is_below p P low in
        let there : case_for (pos (1 + j)) (cases_from (λ (i : ℕ) (v : Way). Set v_place (number v.next) ∷ []) 1 ways) [] ≡ Set v_place (number w.next) ∷ [] =
        case_there (λ (i : ℕ) (v : Way). Set v_place (number v.next) ∷ []) [] j 1 ways w e in
        switch_runs g p 1 (met_of p) (cases_from (λ (i : ℕ) (v : Way). Set v_place (number v.next) ∷ []) 1 ways) [] (at row m done x more) _ (pos (1 + j))
        (λ rest target gives. simp (forms, arrays, inside, element_is, met))
        (
        subst (λ (ss : List CStmt). Runs g p 1 ss (at row m done x more) (at row (record m { place = w.next }) done x more)) (sym there)
        (runs_straight g p 1 _ _ _ (λ rest target gives below. simp forms))
        )

    take_case_runs : (m : Mine) (i : Instr) (j : ℕ) (w : Way) → slice_get (ways_of i) j ≡ Some w → nth b.met p ≡ 1 + j →
        Runs g p 2 (take_case p i) (at row m done x more) (at row (record m { place = w.next }) done x more)
    take_case_runs m (instr.Meet ways) j w e met = follows_run m ways j w e met
    take_case_runs m (instr.Evolve rates domain ways next) j w e met = follows_run m ways j w e met
    take_case_runs m instr.End j w e met = cc
    take_case_runs m (instr.Skip next) j w e met = cc
    take_case_runs m (instr.Assign v value next) j w e met = cc
    take_case_runs m (instr.Log value next) j w e met = cc
    take_case_runs m (instr.Test test yes' no') j w e met = cc
    take_case_runs m (instr.Pick left right) j w e met = cc
    take_case_runs m (instr.Again next) j w e met = cc
    take_case_runs m (instr.Wait time next) j w e met = cc

    abbrev stopped : Mine → Mine
    stopped m = record m { arrived = false; bounded = false }

    goes_runs : (m : Mine) (code : List Instr) (i : Instr) (j : ℕ) (w : Way) → slice_get code m.place ≡ Some i → slice_get (ways_of i) j ≡ Some w → nth b.met p ≡ 1 + j →
        Runs g p (2 + (1 + 2)) (goes_again p code) (at row m done x more) (at row (record m { place = w.next; arrived = false; bounded = false }) done x more)
    goes_runs m code i j w at_i at_w met =
        runs_on g p 2 (1 + 2) (Set locals.v_mark (number 0) ∷ Set locals.v_bounded (number 0) ∷ []) _ (at row m done x more) (at row (stopped m) done x more) _
        (runs_straight g p 2 _ _ _ (λ rest target gives below. simp forms))
        (
        case_runs (λ (place : ℕ) (k : Instr). take_case p k) [] g p 2 m.place (local v_place) code i (at row (stopped m) done x more) _ (λ rest target gives. simp forms) at_i
        (take_case_runs (stopped m) i j w at_w met)
        )

    is_met : (m : Mine) (j : ℕ) → nth b.met p ≡ 1 + j → Is g p (at row m done x more) (above_zero (met_of p)) (pos 1)
    is_met m j met rest target gives =
        (
        let arrays = has.declared in
        let inside : nat_lt p P ≡ true = is_below p P low in
        let above_zero : nat_lt 0 (1 + j) ≡ true = is_below 0 (1 + j) (omega arith) in
        simp (forms, arrays, inside, element_is, met, above_zero)
        )

    is_unmet : (m : Mine) → nth b.met p ≡ 0 → Is g p (at row m done x more) (above_zero (met_of p)) (pos 0)
    is_unmet m met rest target gives =
        (
        let arrays = has.declared in
        let inside : nat_lt p P ≡ true = is_below p P low in
        simp (forms, arrays, inside, element_is, met)
        )

  -- ---- the whole

  module _ (n : ℕ) (short : n ≤ 64) (code : List Instr) (row : List Rational) (m : Mine) (done x : ℤ) (more : List ℤ) where
    abbrev here : View
    here = at row m done x more

    -- at its end, or where a stop stands, it is done
    pub ends_run : (s f : Bool) → nat_lt 0 b.stop ≡ s → nat_lt 1 (nth b.phase p) ≡ f → (s || f) ≡ true →
        Runs g p (1 + 1) (take_code p n code) here (at row m (pos 1) x more)
    ends_run s f e h k =
        runs_on g p 1 1 (sets_done p ∷ []) _ here (at row m (int_of (s || f)) x more) (at row m (pos 1) x more) (done_runs row m done x more s f e h)
        (
        subst (λ (z : Bool). Runs g p 1 (if_then (less (local v_done) (number 1)) (take_parts p n code) ∷ []) (at row m (int_of z) x more) (at row m (pos 1) x more)) (sym k)
        (
        if_runs g p 0 (less (local v_done) (number 1)) (take_parts p n code) None (at row m (pos 1) x more) (at row m (pos 1) x more) (pos 0)
        (λ rest target gives. simp forms) (runs_none g p (at row m (pos 1) x more))
        )
        )

    abbrev fetched_row : List Rational
    fetched_row = taken p n b.row row

    -- what is asked of the part behind the registers
    goes_on : (w : Mine) → nat_lt 0 b.stop ≡ false → nat_lt 1 (nth b.phase p) ≡ false →
        Runs g p 6 (if_then (above_zero (met_of p)) (goes_again p code) ∷ []) (at fetched_row m (pos 0) x more) (at fetched_row w (pos 0) x more) →
        Runs g p (take_cost n) (take_code p n code) here (at fetched_row w (pos 0) x more)
    goes_on w e h r =
        runs_on g p 1 (1 + (length (own_registers n) + 1 + 6)) (sets_done p ∷ []) _ here (at row m (pos 0) x more) (at fetched_row w (pos 0) x more) (done_runs row m done x more false false e h)
        (
        if_runs g p (length (own_registers n) + 1 + 6) (less (local v_done) (number 1)) (take_parts p n code) None (at row m (pos 0) x more) (at fetched_row w (pos 0) x more) (pos 1)
        (λ rest target gives. simp forms)
        (
        subst (λ (ss : List CStmt). Runs g p (length (own_registers n) + 1 + 6) ss (at row m (pos 0) x more) (at fetched_row w (pos 0) x more))
        (append_assoc (fetches p (own_registers n)) (fetch_clock p ∷ []) (if_then (above_zero (met_of p)) (goes_again p code) ∷ []))
        (
        runs_on g p (length (own_registers n) + 1) 6 (fetches p (own_registers n) ++ fetch_clock p ∷ []) _ (at row m (pos 0) x more) (at fetched_row m (pos 0) x more) _
        (taken_runs m (pos 0) x more n short row) r
        )
        )
        )

    pub unmet_run : nat_lt 0 b.stop ≡ false → nat_lt 1 (nth b.phase p) ≡ false → nth b.met p ≡ 0 →
        Runs g p (take_cost n) (take_code p n code) here (at fetched_row m (pos 0) x more)
    unmet_run e h met =
        goes_on m e h
        (
        runs_longer g p 1 6 _ _ _ (omega arith)
        (
        if_runs g p 0 (above_zero (met_of p)) (goes_again p code) None (at fetched_row m (pos 0) x more) (at fetched_row m (pos 0) x more) (pos 0) (is_unmet fetched_row (pos 0) x more m met)
        (runs_none g p (at fetched_row m (pos 0) x more))
        )
        )

    pub met_run : (i : Instr) (j : ℕ) (w : Way) → nat_lt 0 b.stop ≡ false → nat_lt 1 (nth b.phase p) ≡ false → nth b.met p ≡ 1 + j → slice_get code m.place ≡ Some i → slice_get (ways_of i) j ≡ Some w →
        Runs g p (take_cost n) (take_code p n code) here (at fetched_row (record m { place = w.next; arrived = false; bounded = false }) (pos 0) x more)
    met_run i j w e h met at_i at_w =
        goes_on (record m { place = w.next; arrived = false; bounded = false }) e h
        (
        if_runs g p (2 + (1 + 2)) (above_zero (met_of p)) (goes_again p code) None (at fetched_row m (pos 0) x more) _ (pos 1) (is_met fetched_row (pos 0) x more m j met)
        (goes_runs fetched_row (pos 0) x more m code i j w at_i at_w met)
        )
