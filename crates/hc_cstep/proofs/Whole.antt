-- Private code is the stretch: each round takes the case of the place, each case the silent step, and the loop goes on as long as one was taken.
use Rattle.std.specs.Prelude.{◌≡◌, ◌<◌, ◌≤◌, ℕ, zero, suc, ◌+◌, Bool, true, List, [], ◌∷◌, slice_get, IsTrue, Some}
use Rattle.std.specs.List.{list_all}
use Rattle.std.proofs.Common.{refl, subst, arith}
use Rattle.std.proofs.lemmas.Bool.{and_parts}
use Rattle.std.proofs.lemmas.Option.{same_Some}
use Rattle.hc_rational.specs.Words.{Rational}
use Rattle.hc_term.specs.declared.model.ProcessState.{ProcessState}
use Rattle.hc_code.specs.declared.code.Instr.{Instr}
use Rattle.hc_code.specs.Stands.{Table, AllAgree}
use Rattle.hc_cast.specs.declared.expr.CExpr.TheVariants as e
use Rattle.hc_cast.specs.declared.program.CProgram.{CProgram}
use Rattle.hc_clogic.proofs.Runs.{runs_on, runs_longer}
use Rattle.hc_cmach.proofs.Worths.{forms}
use Rattle.hc_clogic.proofs.Cases.{case_runs}
use Rattle.hc_clogic.proofs.Blocks.{block_runs}
use Rattle.hc_cstep.specs.Locals.{Mine, Base, view, v_place, v_ok, v_steps, v_end}
use Rattle.hc_cstep.specs.Stands.{StandsFor}
use Rattle.hc_cstep.specs.Parts.{Parts}
use Rattle.hc_cstep.specs.Words.{set}
use Rattle.hc_cstep.specs.Written.{case_of, round, loop, goes_on, private_code}
use Rattle.hc_cstep.specs.Law.{Rounds, PrivateLaw, cost}
use Rattle.hc_cstep.specs.Premises.{PartsWork, is_made, case_steps}
use Rattle.hc_cstep.proofs.Borrowed.{instr_at}
use Rattle.hc_cstep.proofs.Cases.{case_works}
use Rattle.hc_cstep.proofs.Loop.{loop_is_stretch}

-- one of several that all pass
ruled_at : (f : Instr → Bool) (code : List Instr) (place : ℕ) (i : Instr) → IsTrue (list_all f code) → slice_get code place ≡ Some i → IsTrue (f i)
ruled_at f [] place i h e = absurd cc
ruled_at f (j ∷ is) zero i h e = subst (λ (k : Instr). IsTrue (f k)) (same_Some j i e) (and_parts (f j) (list_all f is) h).0
ruled_at f (j ∷ is) (suc place) i h e = ruled_at f is place i (and_parts (f j) (list_all f is) h).1 e

restated : (t : Table) (vars room : ℕ) (clock : Rational) (m : Mine) (q : ProcessState) (steps end : ℕ) (ok : Bool) → StandsFor t vars room clock m q →
    StandsFor t vars room clock (record m { steps = steps; end = end; ok = ok }) q
restated t vars room clock m q steps end ok s = record {
  at_place = s.at_place;
  wide = s.wide;
  same_store = s.same_store;
  same_clock = s.same_clock;
  same_choices = s.same_choices;
  same_mark = s.same_mark;
  shows = s.shows;
  spare = s.spare;
}

module _ (g : CProgram) (p : ℕ) (low : p < 64) (b : Base) (t : Table) (channels vars : ℕ) (few : vars ≤ 64) (room : ℕ) (clock : Rational) (n late most seed : ℕ) (c : Parts)
    (works : PartsWork g p n late b vars room c) (code : List Instr) (agree : AllAgree t code t)
    (ruled : IsTrue (list_all (is_made c most channels vars) code)) where
  pub round_works : Rounds g p (case_steps most n late + 3) seed b t vars room clock (round c p seed code)
  round_works m q s goes small =
      let begun = record m { ok = true } in
      let i = instr_at t t code m.place q.todo agree s.at_place in
      let at_begin = restated t vars room clock m q m.steps m.end true s in
      let r = case_works g p low b t channels vars few room clock n late most seed c works begun i.0 q refl goes small at_begin i.2 (ruled_at (is_made c most channels vars) code m.place i.0 ruled i.1) in
      let less : 1 + (1 + (1 + case_steps most n late)) ≤ case_steps most n late + 3 = omega arith in
      record {
        then = r.then;
        runs =
            runs_longer g p (1 + (1 + (1 + case_steps most n late))) (case_steps most n late + 3) (round c p seed code) (view b m) (view b r.then) less
            (
            runs_on g p 1 (1 + (1 + case_steps most n late)) (set v_ok 1 ∷ []) _ (view b m) (view b begun) (view b r.then)
            (block_runs g p 1 (set v_ok 1 ∷ []) (view b m) (view b begun) (simp forms))
            (
            case_runs (λ (place : ℕ) (j : Instr). case_of c p seed j) [] g p (1 + case_steps most n late) m.place (e.Local v_place) code i.0 (view b begun) (view b r.then)
            (λ rest target gives. simp forms) i.1 r.runs
            )
            );
        does = r.does;
      }

  -- the whole
  pub private_law : PrivateLaw g p (case_steps most n late + 3) seed b t vars room clock (private_code c p seed code)
  private_law m q s small =
      let begun = record m { steps = 0; end = goes_on } in
      let same : 0 + m.most ≡ m.most = omega arith in
      let r = loop_is_stretch g p (case_steps most n late + 3) seed b t vars room clock (round c p seed code) round_works m.most begun q (restated t vars room clock m q 0 goes_on m.ok s) refl small same in
      record {
        then = r.then;
        runs =
            runs_on g p 2 (cost (case_steps most n late + 3) m.most) (set v_steps 0 ∷ set v_end goes_on ∷ []) (loop (round c p seed code) ∷ []) (view b m) (view b begun) (view b r.then)
            (block_runs g p 2 (set v_steps 0 ∷ set v_end goes_on ∷ []) (view b m) (view b begun) (simp forms))
            r.runs;
        stands = r.stands;
        counted = r.counted;
        ended = r.ended;
        logged = r.logged;
      }
