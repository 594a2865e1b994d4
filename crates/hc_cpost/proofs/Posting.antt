-- The C of posting does to the board what is said of it.
use Rattle.std.specs.Prelude.{◌≡◌, ◌<◌, ◌≤◌, ◌+◌, ◌*◌, ◌==◌, ℕ, zero, suc, Bool, true, false, not, ◌&&◌, nat_lt, if◌then◌else◌, List, [], ◌∷◌, ◌++◌, length, slice_get, slice_set, slice_index_or, IsTrue, ℤ, pos, Option, Some, None, codes}
use Rattle.std.proofs.Common.{refl, sym, ap, ap₂, ◌∙◌, subst, arith, append_assoc}
use Rattle.std.proofs.lemmas.Bool.{and_parts}
use Rattle.hc_rational.specs.Words.{Rational, zero_ℚ}
use Rattle.hc_term.specs.declared.expr.Cond.{Cond}
use Rattle.hc_term.specs.declared.stmt.Io.{Io}
use Rattle.hc_term.specs.declared.stmt.Rate.{Rate}
use Rattle.hc_term.specs.Profile.{are_guards, is_evolution}
use Rattle.hc_code.specs.declared.code.Way.{Way}
use Rattle.hc_code.specs.declared.code.Instr.{Instr}
use Rattle.hc_code.specs.declared.code.Instr.TheVariants as instr
use Rattle.hc_code.specs.Kept.{ios_of, is_instr}
use Rattle.hc_cast.specs.declared.stmt.CStmt.{CStmt}
use Rattle.hc_cast.specs.declared.stmt.CStmt.TheVariants.{Store, Switch}
use Rattle.hc_cast.specs.declared.program.CProgram.{CProgram}
use Rattle.hc_cmach.specs.State.{Word}
use Rattle.hc_cmach.proofs.Worths.{forms}
use Rattle.hc_clogic.specs.Runs.{View, Runs, Is}
use Rattle.hc_clogic.proofs.Runs.{runs_none, runs_on, runs_longer, runs_straight, if_runs}
use Rattle.hc_clogic.specs.Cases.{cases_from}
use Rattle.hc_clogic.proofs.Cases.{case_runs}
use Rattle.hc_runs.proofs.Basics.{set_twice}
use Rattle.hc_cbuild.specs.Written.{number, local, equals, call}
use Rattle.hc_core_c.specs.Twin.{Board64, go}
use Rattle.hc_core_c.proofs.Base.{is_below, element_set}
use Rattle.hc_core_c.specs.Owner.{core, Has}
use Rattle.hc_core_c.proofs.Going.{call_go, go_cost}
use Rattle.hc_core_facts.specs.Standing.{flag}
use Rattle.hc_cstep.specs.Locals as locals
use Rattle.hc_cstep.specs.Locals.{Mine, v_place, v_mark}
use Rattle.hc_csection.specs.Values.{values_of}
use Rattle.hc_cpost.specs.Parts.{copied, own_registers, rate_registers, all_sent_registers, all_registers, rates_at, ios_at, phase_at}
use Rattle.hc_cpost.specs.Posting.{put_up, posted, is_over}
use Rattle.hc_cpost.specs.Written.{copies, phases, offers, evolves, where_arrived, show_case, post_code}
use Rattle.hc_cpost.proofs.Rows.{copied-append}
use Rattle.hc_cpost.proofs.Offering.{at, with_parts, begun, offered_cost, evolved_cost, begun_runs, offers_run, evolves_run}
use Rattle.hc_cpost.proofs.Agreeing.{Kept, guards_keep, Rated, evolution_rated}

-- ---- boards

put_up_is : (p n : ℕ) (own : List Rational) (bounded arrived : Bool) (rates : List Rate) (ios : List Io) (b : Board64) →
    put_up p n own bounded (flag arrived) rates ios b ≡ with_parts p own rates ios (begun p n own bounded arrived b)
put_up_is p n own bounded arrived rates ios b =
    ap (λ (row : List Rational). record (put_up p n own bounded (flag arrived) rates ios b) { row = row })
    (copied-append p own (own_registers n) (rate_registers rates ++ all_sent_registers 0 ios) b.row)

-- ---- steps

abbrev pub case_cost : Instr → ℕ
case_cost instr.End = 1
case_cost (instr.Meet ways) = 1 + offered_cost (ios_of ways)
case_cost (instr.Evolve rates domain ways next) = 1 + evolved_cost rates (ios_of ways)
case_cost i = 0

abbrev pub post_cost : CProgram → ℕ → ℕ → ℕ → Instr → ℕ
post_cost g p C n i = go_cost g p C + (length (own_registers n) + 3 + (1 + case_cost i))

-- ---- the local that a case may change

abbrev pub truth_after : Mine → List Rational → Instr → Bool
truth_after m own (instr.Evolve rates domain ways next) = if m.arrived then is_over m.bounded own else m.truth
truth_after m own i = m.truth

abbrev pub after_case : Mine → List Rational → Instr → Mine
after_case m own i = record m { truth = truth_after m own i }

-- one that has arrived at communications has no bound
abbrev pub MeetsUnbounded : Mine → List Rational → Instr → Type 0
MeetsUnbounded m own (instr.Meet ways) = m.arrived ≡ true → is_over m.bounded own ≡ false
MeetsUnbounded m own i = Unit {0}

module _ (g : CProgram) (P C : ℕ) (has : Has g P C) (p : ℕ) (low : p < P) (own : List Rational) (more : List Word) (n : ℕ) (few : n ≤ 64) (m : Mine) where
  abbrev over : Bool
  over = is_over m.bounded own

  abbrev view : Mine → Board64 → View
  view q b = core own (locals.names more) (values_of q) b

  abbrev first : Board64 → Board64
  first b = begun p n own m.bounded m.arrived b

  abbrev shown : Instr → Board64 → Board64
  shown i b = put_up p n own m.bounded (phase_at m.arrived i) (if m.arrived then rates_at i else []) (if m.arrived && not over then ios_at i else []) b

  abbrev CaseRuns : Instr → Type 0
  CaseRuns i = (b : Board64) → Runs g p (case_cost i) (show_case p i) (view m (first b)) (view (after_case m own i) (shown i b))

  -- nothing more is to be put up
  plain_board : (z y : Bool) (b : Board64) → first b ≡ put_up p n own m.bounded (flag m.arrived) (if z then [] else []) (if y then [] else []) b
  plain_board true true b = sym (put_up_is p n own m.bounded m.arrived [] [] b)
  plain_board true false b = sym (put_up_is p n own m.bounded m.arrived [] [] b)
  plain_board false true b = sym (put_up_is p n own m.bounded m.arrived [] [] b)
  plain_board false false b = sym (put_up_is p n own m.bounded m.arrived [] [] b)

  plain_runs : (b : Board64) → Runs g p 0 [] (view m (first b)) (view m (put_up p n own m.bounded (flag m.arrived) (if m.arrived then [] else []) (if m.arrived && not over then [] else []) b))
  plain_runs b =
      subst (λ (c : Board64). Runs g p 0 [] (view m (first b)) (view m c)) (plain_board m.arrived (m.arrived && not over) b) (runs_none g p (view m (first b)))

  -- ---- the end

  end_board : (z y : Bool) (b : Board64) → record (first b) { phase = slice_set (slice_set b.phase p (flag m.arrived)) p 2 } ≡ put_up p n own m.bounded 2 (if z then [] else []) (if y then [] else []) b
  end_board z y b =
      ap (λ (ph : List ℕ). record (first b) { phase = ph }) (set_twice b.phase p (flag m.arrived) 2)
      ∙ ap (λ (c : Board64). record c { phase = slice_set b.phase p 2 }) (plain_board z y b)

  end_runs : CaseRuns instr.End
  end_runs b =
      let arrays = has.declared in
      let inside : nat_lt p P ≡ true = is_below p P low in
      subst (λ (c : Board64). Runs g p 1 (show_case p instr.End) (view m (first b)) (view m c)) (end_board m.arrived (m.arrived && not over) b)
      (runs_straight g p 1 _ _ _ (λ rest target gives below. simp (forms, arrays, inside, element_set)))

  -- ---- communications

  going_runs : (k : ℕ) (ss : List CStmt) (b c : Board64) → m.arrived ≡ false → first b ≡ c → Runs g p (1 + k) (where_arrived ss) (view m (first b)) (view m c)
  going_runs k ss b c e is =
      subst (λ (d : Board64). Runs g p (1 + k) (where_arrived ss) (view m (first b)) (view m d)) is
      (
      runs_longer g p 1 (1 + k) _ _ _ (omega arith)
      (if_runs g p 0 (equals (local v_mark) (number 1)) ss None (view m (first b)) (view m (first b)) (pos 0) (λ rest target gives. simp (forms, e)) (runs_none g p (view m (first b))))
      )

  arrived_runs : (k : ℕ) (ss : List CStmt) (b : Board64) (q : Mine) (c d : Board64) → m.arrived ≡ true → c ≡ d → Runs g p k ss (view m (first b)) (view q c) →
      Runs g p (1 + k) (where_arrived ss) (view m (first b)) (view q d)
  arrived_runs k ss b q c d e is r =
      if_runs g p k (equals (local v_mark) (number 1)) ss None (view m (first b)) (view q d) (pos 1) (λ rest target gives. simp (forms, e))
      (subst (λ (x : Board64). Runs g p k ss (view m (first b)) (view q x)) is r)

  meet_runs : (ways : List Way) → IsTrue (is_instr C n (instr.Meet ways)) → MeetsUnbounded m own (instr.Meet ways) → CaseRuns (instr.Meet ways)
  meet_runs ways ruled calm b = by_mark m.arrived refl
    where
      kept : Kept C n (ios_of ways)
      kept = guards_keep C n (ios_of ways) ruled

      by_mark : (z : Bool) → m.arrived ≡ z → Runs g p (1 + offered_cost (ios_of ways)) (where_arrived (offers p (ios_of ways))) (view m (first b)) (view m (shown (instr.Meet ways) b))
      by_mark true e =
          arrived_runs (offered_cost (ios_of ways)) (offers p (ios_of ways)) b m (with_parts p own [] (ios_of ways) (first b)) (shown (instr.Meet ways) b) e
          (
          sym (put_up_is p n own m.bounded m.arrived [] (ios_of ways) b)
          ∙ ap₂ (λ (x : Bool) (y : Bool). put_up p n own m.bounded (flag m.arrived) (if x then [] else []) (if x && not y then ios_of ways else []) b) (sym e) (sym (calm e))
          )
          (offers_run g P C has p low own more n (ios_of ways) kept.ruled kept.short m (first b))
      by_mark false e =
          going_runs (offered_cost (ios_of ways)) (offers p (ios_of ways)) b (shown (instr.Meet ways) b) e
          (
          sym (put_up_is p n own m.bounded m.arrived [] [] b)
          ∙ ap (λ (x : Bool). put_up p n own m.bounded (flag m.arrived) (if x then [] else []) (if x && not over then ios_of ways else []) b) (sym e)
          )

  evolve_runs : (rates : List Rate) (domain : Cond) (ways : List Way) (next : ℕ) → IsTrue (is_instr C n (instr.Evolve rates domain ways next)) → CaseRuns (instr.Evolve rates domain ways next)
  evolve_runs rates domain ways next ruled b = by_mark m.arrived refl
    where
      ios : List Io
      ios = ios_of ways

      parts : (is_evolution n rates domain ios ≡ true) × (are_guards C n ios ≡ true)
      parts = (let two = and_parts (is_evolution n rates domain ios) (are_guards C n ios) ruled in (two.0, two.1))

      kept : Kept C n ios
      kept = guards_keep C n ios parts.1

      rated : Rated C n rates
      rated = evolution_rated C n rates domain ios parts.0

      by_mark : (z : Bool) → m.arrived ≡ z →
          Runs g p (1 + evolved_cost rates ios) (where_arrived (evolves p rates ios)) (view m (first b))
          (view (after_case m own (instr.Evolve rates domain ways next)) (shown (instr.Evolve rates domain ways next) b))
      by_mark true e =
          subst
          (
          λ (x : Bool).
          Runs g p (1 + evolved_cost rates ios) (where_arrived (evolves p rates ios)) (view m (first b))
          (view (record m { truth = if x then over else m.truth }) (put_up p n own m.bounded (flag m.arrived) (if x then rates else []) (if x && not over then ios else []) b))
          )
          (sym e)
          (
          arrived_runs (evolved_cost rates ios) (evolves p rates ios) b (record m { truth = over }) (with_parts p own rates (if not over then ios else []) (first b))
          (put_up p n own m.bounded (flag m.arrived) rates (if not over then ios else []) b) e
          (sym (put_up_is p n own m.bounded m.arrived rates (if not over then ios else []) b))
          (evolves_run g P C has p low own more n ios kept.ruled kept.short few rates rated.varied m (first b))
          )
      by_mark false e =
          subst
          (
          λ (x : Bool).
          Runs g p (1 + evolved_cost rates ios) (where_arrived (evolves p rates ios)) (view m (first b))
          (view (record m { truth = if x then over else m.truth }) (put_up p n own m.bounded (flag m.arrived) (if x then rates else []) (if x && not over then ios else []) b))
          )
          (sym e)
          (
          going_runs (evolved_cost rates ios) (evolves p rates ios) b (put_up p n own m.bounded (flag m.arrived) [] [] b) e
          (sym (put_up_is p n own m.bounded m.arrived [] [] b))
          )

  -- ---- any instruction

  pub case_shows : (i : Instr) → IsTrue (is_instr C n i) → MeetsUnbounded m own i → CaseRuns i
  case_shows instr.End ruled calm = end_runs
  case_shows (instr.Meet ways) ruled calm = meet_runs ways ruled calm
  case_shows (instr.Evolve rates domain ways next) ruled calm = evolve_runs rates domain ways next ruled
  case_shows (instr.Skip next) ruled calm = plain_runs
  case_shows (instr.Assign x value next) ruled calm = plain_runs
  case_shows (instr.Log value next) ruled calm = plain_runs
  case_shows (instr.Test test yes' no') ruled calm = plain_runs
  case_shows (instr.Pick left right) ruled calm = plain_runs
  case_shows (instr.Again next) ruled calm = plain_runs
  case_shows (instr.Wait time next) ruled calm = plain_runs

  -- ---- the whole

  -- From any board the C posts what the thread's row and locals say at the instruction of its place.
  pub post_runs : (code : List Instr) (i : Instr) → slice_get code m.place ≡ Some i → IsTrue (is_instr C n i) → MeetsUnbounded m own i → (b : Board64) →
      Runs g p (post_cost g p C n i) (post_code p n code) (view m b) (view (after_case m own i) (posted C p n own m.bounded over m.arrived i b))
  post_runs code i at ruled calm b =
      runs_on g p (go_cost g p C) (length (own_registers n) + 3 + (1 + case_cost i)) (call (codes "f_go") (number p ∷ []) ∷ []) _ (view m b) (view m (go C p b)) _
      (call_go g p P C has own p low (locals.names more) (values_of m) b (number p) (λ rest target gives. simp forms))
      (
      subst (λ (ss : List CStmt). Runs g p (length (own_registers n) + 3 + (1 + case_cost i)) ss (view m (go C p b)) (view (after_case m own i) (shown i (go C p b))))
      (append_assoc (copies p (own_registers n)) (phases p) (choice ∷ []))
      (
      runs_on g p (length (own_registers n) + 3) (1 + case_cost i) (copies p (own_registers n) ++ phases p) (choice ∷ []) (view m (go C p b)) (view m (first (go C p b))) _
      (begun_runs g P C has p low own more n few m (go C p b))
      (
      case_runs (λ (place : ℕ) (j : Instr). show_case p j) [] g p (case_cost i) m.place (local v_place) code i (view m (first (go C p b))) _
      (λ rest target gives. simp forms) at (case_shows i ruled calm (go C p b))
      )
      )
      )
    where
      choice : CStmt
      choice = Switch (local v_place) (cases_from (λ (place : ℕ) (j : Instr). show_case p j) 0 code) []
