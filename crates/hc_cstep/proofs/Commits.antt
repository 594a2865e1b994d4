-- The end of a case: a step is taken where its working values fit and it is allowed.
use Rattle.std.specs.Prelude.{◌≡◌, ◌<◌, ◌^◌, ℕ, ◌+◌, nat_lt, Bool, true, false, List, [], ◌∷◌, ◌++◌, pos, Option, Some, None}
use Rattle.std.proofs.Common.{refl, sym, subst, arith}
use Rattle.std.proofs.lemmas.Bool.{lt-ltb, ltb-true}
use Rattle.hc_rational.specs.Words.{Rational}
use Rattle.hc_term.specs.declared.model.ProcessState.{ProcessState}
use Rattle.hc_term.specs.Silent.{Unfit, Did}
use Rattle.hc_code.specs.Stands.{Table}
use Rattle.hc_cast.specs.declared.expr.COp.TheVariants as op
use Rattle.hc_cast.specs.declared.expr.CExpr.{CExpr}
use Rattle.hc_cast.specs.declared.expr.CExpr.TheVariants as e
use Rattle.hc_cast.specs.declared.stmt.CStmt.{CStmt}
use Rattle.hc_cast.specs.declared.program.CProgram.{CProgram}
use Rattle.hc_clogic.specs.Runs.{Runs, Is}
use Rattle.hc_clogic.proofs.Runs.{runs_on, runs_longer, if_runs}
use Rattle.hc_cmach.proofs.Worths.{forms}
use Rattle.hc_clogic.proofs.Blocks.{block_runs}
use Rattle.hc_cstep.specs.Locals.{Mine, Base, view, v_ok, v_steps, v_most, v_end}
use Rattle.hc_cstep.specs.Stands.{register, the_logged, StandsFor}
use Rattle.hc_cstep.specs.Words.{is, set}
use Rattle.hc_cstep.specs.Written.{counts, allowed, commit, goes_on, ends_logged, ends_unfit, ends_spent}
use Rattle.hc_cstep.specs.Law.{Takes, Round}

-- the acts of a step have logged this, or nothing
abbrev pub Logs : Mine → Option Rational → Type 0
Logs w None = w.end ≡ goes_on
Logs w (Some v) = (w.end ≡ ends_logged) × (register w.row the_logged ≡ v)

-- the same place and row
pub with_end : (t : Table) (vars room : ℕ) (clock : Rational) (m : Mine) (q : ProcessState) (end : ℕ) → StandsFor t vars room clock m q → StandsFor t vars room clock (record m { end = end }) q
with_end t vars room clock m q end s = record {
  at_place = s.at_place;
  wide = s.wide;
  same_store = s.same_store;
  same_clock = s.same_clock;
  same_choices = s.same_choices;
  same_mark = s.same_mark;
  shows = s.shows;
  spare = s.spare;
}

pub with_steps : (t : Table) (vars room : ℕ) (clock : Rational) (m : Mine) (q : ProcessState) (steps : ℕ) → StandsFor t vars room clock m q → StandsFor t vars room clock (record m { steps = steps }) q
with_steps t vars room clock m q steps s = record {
  at_place = s.at_place;
  wide = s.wide;
  same_store = s.same_store;
  same_clock = s.same_clock;
  same_choices = s.same_choices;
  same_mark = s.same_mark;
  shows = s.shows;
  spare = s.spare;
}

-- v_steps < v_most
abbrev is_allowed : CExpr
is_allowed = e.Binary op.Less (e.Local v_steps) (e.Local v_most)

module _ (g : CProgram) (p : ℕ) (b : Base) where
  fits_well : (m : Mine) → m.ok ≡ true → Is g p (view b m) (is v_ok 1) (pos 1)
  fits_well m on rest target gives = simp (forms, on)

  counted : (m : Mine) → m.steps < m.most → m.most < 2 ^ 31 → Runs g p 1 (counts ∷ []) (view b m) (view b (record m { steps = m.steps + 1 }))
  counted m less small =
      let fit : nat_lt (m.steps + 1) (2 ^ 31) ≡ true = lt-ltb (m.steps + 1) (2 ^ 31) (omega (arith, less, small)) in
      block_runs g p 1 (counts ∷ []) (view b m) (view b (record m { steps = m.steps + 1 })) (simp (forms, fit))

  unfit_runs : (acts : List CStmt) (m : Mine) → m.ok ≡ false → Runs g p 2 (commit acts ∷ []) (view b m) (view b (record m { end = ends_unfit }))
  unfit_runs acts m off = block_runs g p 2 (commit acts ∷ []) (view b m) (view b (record m { end = ends_unfit })) (simp (forms, off))

  spent_runs : (acts : List CStmt) (m : Mine) → m.ok ≡ true → nat_lt m.steps m.most ≡ false →
      Runs g p 3 (commit acts ∷ []) (view b m) (view b (record m { end = ends_spent }))
  spent_runs acts m on less = block_runs g p 3 (commit acts ∷ []) (view b m) (view b (record m { end = ends_spent })) (simp (forms, on, less))

  taken_runs : (n : ℕ) (acts : List CStmt) (m w : Mine) → m.ok ≡ true → nat_lt m.steps m.most ≡ true → m.most < 2 ^ 31 → w.steps ≡ m.steps → w.most ≡ m.most →
      Runs g p n acts (view b m) (view b w) → Runs g p (1 + (1 + (n + 1))) (commit acts ∷ []) (view b m) (view b (record w { steps = w.steps + 1 }))
  taken_runs n acts m w on less small steps most r =
      let l = ltb-true m.steps m.most less in
      let last = counted w (omega (arith, l, steps, most)) (omega (arith, small, most)) in
      if_runs g p (1 + (n + 1)) (is v_ok 1) (allowed acts ∷ []) (Some (set v_end ends_unfit ∷ [])) (view b m) (view b (record w { steps = w.steps + 1 })) (pos 1) (fits_well m on)
      (
      if_runs g p (n + 1) is_allowed (acts ++ counts ∷ []) (Some (set v_end ends_spent ∷ [])) (view b m) (view b (record w { steps = w.steps + 1 })) (pos 1) (λ rest target gives. simp (forms, less))
      (runs_on g p n 1 acts (counts ∷ []) (view b m) (view b w) (view b (record w { steps = w.steps + 1 })) r last)
      )

  module _ (t : Table) (vars room : ℕ) (clock : Rational) where
    -- a working value doesn't fit
    pub unfit_round : (acts : List CStmt) (m : Mine) (q : ProcessState) → m.ok ≡ false → StandsFor t vars room clock m q →
        Round g p 2 b t vars room clock (commit acts ∷ []) m q Unfit
    unfit_round acts m q off s = record {
      then = record m { end = ends_unfit };
      runs = unfit_runs acts m off;
      does = record { stands = with_end t vars room clock m q ends_unfit s; counted = refl; same_most = refl; ended = refl };
    }

    takes : (m w : Mine) (q next : ProcessState) (logged : Option Rational) → w.steps ≡ m.steps → w.most ≡ m.most → StandsFor t vars room clock w next → Logs w logged →
        Takes t vars room clock m.steps m.most (record w { steps = w.steps + 1 }) q logged next true
    takes m w q next None steps most s l =
        record { stands = with_steps t vars room clock w next (w.steps + 1) s; counted = omega (arith, steps); same_most = most; ended = l }
    takes m w q next (Some v) steps most s l =
        (record { stands = with_steps t vars room clock w next (w.steps + 1) s; counted = omega (arith, steps); same_most = most; ended = l.0 }, l.1)

    -- all fit, and the acts lead from m to w
    pub commit_round : (n : ℕ) (acts : List CStmt) (m w : Mine) (q next : ProcessState) (logged : Option Rational) → m.ok ≡ true → m.most < 2 ^ 31 →
        StandsFor t vars room clock m q → Runs g p n acts (view b m) (view b w) → w.steps ≡ m.steps → w.most ≡ m.most → StandsFor t vars room clock w next → Logs w logged →
        Round g p (n + 3) b t vars room clock (commit acts ∷ []) m q (Did logged next)
    commit_round n acts m w q next logged on small s r steps most after l = by (nat_lt m.steps m.most) refl
      where
        by : (x : Bool) → nat_lt m.steps m.most ≡ x → Round g p (n + 3) b t vars room clock (commit acts ∷ []) m q (Did logged next)
        by true less = record {
          then = record w { steps = w.steps + 1 };
          runs = runs_longer g p (1 + (1 + (n + 1))) (n + 3) (commit acts ∷ []) _ _ (omega arith) (taken_runs n acts m w on less small steps most r);
          does =
              subst (Takes t vars room clock m.steps m.most (record w { steps = w.steps + 1 }) q logged next) (sym less)
              (takes m w q next logged steps most after l);
        }
        by false less = record {
          then = record m { end = ends_spent };
          runs = runs_longer g p 3 (n + 3) (commit acts ∷ []) _ _ (omega arith) (spent_runs acts m on less);
          does =
              subst (Takes t vars room clock m.steps m.most (record m { end = ends_spent }) q logged next) (sym less)
              (record { stands = with_end t vars room clock m q ends_spent s; counted = refl; same_most = refl; ended = refl });
        }
