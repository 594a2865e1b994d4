-- A going process arrives: behind code that made ready what it shows, the step is committed.
use Rattle.std.specs.Prelude.{◌≡◌, ◌≤◌, ◌<◌, ◌^◌, ℕ, ◌+◌, Bool, true, false, List, [], ◌∷◌, ◌++◌, length, take, ℤ, None}
use Rattle.std.proofs.Common.{refl, sym, ◌∙◌, subst, arith}
use Rattle.hc_rational.specs.Words.{Rational, zero_ℚ}
use Rattle.hc_term.specs.declared.stmt.Stmt.{Stmt, out-Stmt}
use Rattle.hc_term.specs.declared.model.Mark.TheVariants.{Arrived}
use Rattle.hc_term.specs.declared.model.ProcessState.{ProcessState}
use Rattle.hc_term.specs.declared.post.Phase.TheVariants as phase
use Rattle.hc_term.specs.Process.{Layer, bound_here}
use Rattle.hc_term.specs.Offers.{due_of, moving_here, offers_here}
use Rattle.hc_term.specs.Silent.{Unfit, Did, if_fit}
use Rattle.hc_code.specs.Stands.{Table}
use Rattle.hc_cast.specs.declared.stmt.CStmt.{CStmt}
use Rattle.hc_cast.specs.declared.program.CProgram.{CProgram}
use Rattle.hc_clogic.specs.Runs.{Runs}
use Rattle.hc_clogic.proofs.Runs.{runs_on}
use Rattle.hc_cstep.specs.Locals.{Mine, Base, view}
use Rattle.hc_cstep.specs.Stands.{the_clock, Shows, StandsFor}
use Rattle.hc_cstep.specs.Written.{commit, goes_on}
use Rattle.hc_cstep.specs.Law.{Round}
use Rattle.hc_cstep.proofs.Standing.{at_going, going_unbounded, going_shows}
use Rattle.hc_cstep.proofs.Prepared.{same_below, fewer_same, Ready, Prepares, after}
use Rattle.hc_cstep.proofs.Commits.{unfit_round, commit_round}
use Rattle.hc_cstep.proofs.Forms.{round_longer}

module _ (g : CProgram) (p : ℕ) (low : p < 64) (b : Base) (t : Table) (vars : ℕ) (few : vars ≤ 64) (room : ℕ) (clock : Rational) (m : Mine) (head : Stmt) (rest : List Stmt)
    (store : List Rational) (choices : ℕ) (s : StandsFor t vars room clock m (at_going (head ∷ rest) store choices)) where
  abbrev here : ProcessState
  here = at_going (head ∷ rest) store choices

  abbrev pub begun : ProcessState
  begun = record { todo = head ∷ rest; store = store; choices = choices; mark = Arrived zero_ℚ }

  pub unbounded : m.bounded ≡ false
  unbounded = going_unbounded m.bounded m.row clock store None (head ∷ rest) s.shows

  pub is_ready : m.ok ≡ true → Ready vars room clock store m
  is_ready on = record { on = on; wide = s.wide; spare = s.spare; same_store = s.same_store; now = s.same_clock }

  -- it still goes, as nothing that changed is shown
  prepared_stands : (from : ℕ) (row : List Rational) (ok truth : Bool) (others : List ℤ) → 65 ≤ from → length row ≡ length m.row → length others ≡ length m.others →
      take from row ≡ take from m.row → StandsFor t vars room clock (after m row ok truth others) here
  prepared_stands from row ok truth others high wide kept low = record {
    at_place = s.at_place;
    wide = wide ∙ s.wide;
    spare = kept ∙ s.spare;
    same_store = fewer_same vars from row m.row (omega (arith, few, high)) low ∙ s.same_store;
    same_clock = same_below from row m.row the_clock (omega (arith, high)) low ∙ s.same_clock;
    same_choices = s.same_choices;
    same_mark = s.same_mark;
    shows = going_shows m.bounded row clock store None (head ∷ rest) unbounded;
  }

  -- ---- what is shown then

  abbrev pub Shown : Bool → List Rational → Layer → Type 0
  Shown bounded row layer =
      Shows bounded row
      (
      record {
        phase = phase.Arrived;
        bound = bound_here store zero_ℚ layer;
        due = due_of clock (bound_here store zero_ℚ layer);
        moving = moving_here store layer;
        offers = offers_here store (bound_here store zero_ℚ layer) layer;
      }
      )

  begun_stands : (m1 : Mine) (row : List Rational) (bounded : Bool) (layer : Layer) → StandsFor t vars room clock m1 here → length row ≡ length m1.row → take 65 row ≡ take 65 m1.row →
      out-Stmt head ≡ layer → Shown bounded row layer → StandsFor t vars room clock (record m1 { row = row; bounded = bounded; arrived = true }) begun
  begun_stands m1 row bounded layer s1 wide low l shown = record {
    at_place = s1.at_place;
    wide = wide ∙ s1.wide;
    spare = s1.spare;
    same_store = fewer_same vars 65 row m1.row (omega (arith, few)) low ∙ s1.same_store;
    same_clock = same_below 65 row m1.row the_clock (omega arith) low ∙ s1.same_clock;
    same_choices = s1.same_choices;
    same_mark = refl;
    shows = subst (λ (x : Layer). Shown bounded row x) (sym l) shown;
  }

  -- ---- the step

  -- the acts of the step, from m1
  pub record Acts (k : ℕ) (acts : List CStmt) (m1 : Mine) (layer : Layer) : Type 0 where
    pub row : List Rational
    pub bounded : Bool
    pub runs : Runs g p k acts (view b m1) (view b (record m1 { row = row; bounded = bounded; arrived = true }))
    pub wide : length row ≡ length m1.row
    pub front : take 65 row ≡ take 65 m1.row
    pub shows : Shown bounded row layer

  module _ (goes : m.end ≡ goes_on) (small : m.most < 2 ^ 31) where
    commits : (n k from : ℕ) (ss acts : List CStmt) (x : Bool) (Such : List Rational → Bool → Type 0) (layer : Layer) → 65 ≤ from → out-Stmt head ≡ layer →
        (a : Prepares g p n b from ss m x Such) → (x ≡ true → Acts k acts (after m a.row true a.truth a.others) layer) →
        Round g p (k + 3) b t vars room clock (commit acts ∷ []) (after m a.row x a.truth a.others) here (if_fit x (Did None begun))
    commits n k from ss acts false Such layer high l a f =
        let m1 = after m a.row false a.truth a.others in
        let s1 = prepared_stands from a.row false a.truth a.others high a.wide a.kept a.low in
        round_longer g p low b t vars few room clock 2 (k + 3) (commit acts ∷ []) m1 here Unfit (omega arith) (unfit_round g p b t vars room clock acts m1 here refl s1)
    commits n k from ss acts true Such layer high l a f =
        let m1 = after m a.row true a.truth a.others in
        let s1 = prepared_stands from a.row true a.truth a.others high a.wide a.kept a.low in
        let d = f refl in
        let w = record m1 { row = d.row; bounded = d.bounded; arrived = true } in
        commit_round g p b t vars room clock k acts m1 w here begun None refl small s1 d.runs refl refl (begun_stands m1 d.row d.bounded layer s1 d.wide d.front l d.shows) goes

    pub begins_round : (n k from : ℕ) (ss acts : List CStmt) (x : Bool) (Such : List Rational → Bool → Type 0) (layer : Layer) → 65 ≤ from → out-Stmt head ≡ layer →
        (a : Prepares g p n b from ss m x Such) → (x ≡ true → Acts k acts (after m a.row true a.truth a.others) layer) →
        Round g p (n + (k + 3)) b t vars room clock (ss ++ commit acts ∷ []) m here (if_fit x (Did None begun))
    begins_round n k from ss acts x Such layer high l a f =
        let r = commits n k from ss acts x Such layer high l a f in
        record {
          then = r.then;
          runs = runs_on g p n (k + 3) ss (commit acts ∷ []) (view b m) (view b (after m a.row x a.truth a.others)) (view b r.then) a.runs r.runs;
          does = r.does;
        }
