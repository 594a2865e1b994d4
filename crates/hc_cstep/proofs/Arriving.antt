-- A wait: its bound is worked out, and the process arrives.
use Rattle.std.specs.Prelude.{◌≡◌, ◌<◌, ◌≤◌, ◌^◌, ℕ, ◌+◌, Bool, true, false, ◌&&◌, List, [], ◌∷◌, ◌++◌, slice_set, Some, None}
use Rattle.std.proofs.Common.{refl, sym, ◌∙◌, subst, arith}
use Rattle.std.proofs.lemmas.Bool.{false≢true}
use Rattle.std.proofs.lemmas.List.{get_or-set_same, get_or-set_other, length-set, take-set-le}
use Rattle.hc_rational.specs.Words.{Rational, zero_ℚ, greater}
use Rattle.hc_term.specs.declared.expr.Expr.{Expr}
use Rattle.hc_term.specs.declared.stmt.Stmt.{Stmt, out-Stmt}
use Rattle.hc_term.specs.declared.stmt.Stmt.TheOpen.{Stmt-F}
use Rattle.hc_term.specs.declared.model.Mark.TheVariants.{Arrived}
use Rattle.hc_term.specs.declared.model.ProcessState.{ProcessState}
use Rattle.hc_term.specs.declared.post.Phase.TheVariants as phase
use Rattle.hc_term.specs.Value.{val, is_fitting}
use Rattle.hc_term.specs.Process.{Layer, bound_here}
use Rattle.hc_term.specs.Silent.{Unfit, Did, if_fit, due_fits}
use Rattle.hc_term.specs.Offers.{due_of, moving_here, offers_here}
use Rattle.hc_code.specs.Stands.{Table}
use Rattle.hc_cast.specs.declared.stmt.CStmt.{CStmt}
use Rattle.hc_cast.specs.declared.program.CProgram.{CProgram}
use Rattle.hc_clogic.proofs.Runs.{runs_on}
use Rattle.hc_cmach.proofs.Worths.{forms}
use Rattle.hc_clogic.proofs.Blocks.{block_runs}
use Rattle.hc_cstep.proofs.OwnRow.{row_there, not_common, own_row}
use Rattle.hc_cstep.specs.Locals.{Mine, Base, view}
use Rattle.hc_cstep.specs.Stands.{register, the_bound, the_clock, first_scratch, Shows, StandsFor}
use Rattle.hc_cstep.specs.Parts.{Evaluates, Values}
use Rattle.hc_cstep.specs.Written.{commit, goes_on, comes}
use Rattle.hc_cstep.specs.Waiting.{bounds}
use Rattle.hc_cstep.specs.Law.{Round}
use Rattle.hc_cstep.proofs.Standing.{at_going, scratch_stands, low_register}
use Rattle.hc_cstep.proofs.Commits.{unfit_round, commit_round}
use Rattle.hc_cstep.proofs.Forms.{round_longer, round_behind}
use Rattle.hc_cstep.proofs.Waiting.{bounds_work}

module _ (g : CProgram) (p : ℕ) (low : p < 64) (b : Base) (t : Table) (vars : ℕ) (few : vars ≤ 64) (room : ℕ) (clock : Rational) where
  module _ (m : Mine) (head : Stmt) (rest : List Stmt) (store : List Rational) (choices : ℕ) (s : StandsFor t vars room clock m (at_going (head ∷ rest) store choices))
      (goes : m.end ≡ goes_on) (small : m.most < 2 ^ 31) where
    abbrev here : ProcessState
    here = at_going (head ∷ rest) store choices

    abbrev arrived_at : Rational → ProcessState
    arrived_at left = record { todo = head ∷ rest; store = store; choices = choices; mark = Arrived left }

    -- the bound is in register 320 where all fits
    pub record Bounded (n : ℕ) (ss : List CStmt) (fitting : Bool) (bound : Rational) : Type 0 where
      pub does : Evaluates g p n b ss m fitting
      pub is : fitting ≡ true → register does.row first_scratch ≡ bound

    module _ (n : ℕ) (ss : List CStmt) (x : Bool) (d : Evaluates g p n b ss m x) where
      abbrev seen : Mine
      seen = record m { row = d.row; ok = x; truth = d.truth; others = d.others }

      abbrev value : Rational
      value = register d.row first_scratch

      abbrev due : Rational → Bool
      due v = due_fits clock (Some (greater zero_ℚ v))

      extended : Evaluates g p (n + 7) b (ss ++ bounds p) m (x && due value)
      extended =
          let k = bounds_work g p low b clock seen (d.wide ∙ s.wide) (low_register d.row m.row the_clock (omega arith) d.low ∙ s.same_clock) in
          record {
            row = k.row;
            truth = false;
            others = d.others;
            runs =
                runs_on g p n 7 ss (bounds p) (view b m) (view b seen) (view b (record seen { row = k.row; ok = x && due value; truth = false })) d.runs k.runs;
            wide = k.same_width ∙ d.wide;
            kept = d.kept;
            low = k.kept ∙ d.low;
          }

      pub with_bound : Bounded (n + 7) (ss ++ bounds p) (x && due value) (greater zero_ℚ value)
      unfolding extended
      with_bound =
          let k = bounds_work g p low b clock seen (d.wide ∙ s.wide) (low_register d.row m.row the_clock (omega arith) d.low ∙ s.same_clock) in
          record { does = extended; is = λ h. k.bound_is }

    bounded : (n : ℕ) (ss : List CStmt) (fitting : Bool) (v : Rational) (d : Evaluates g p n b ss m fitting) → (fitting ≡ true → register d.row first_scratch ≡ v) →
        Bounded (n + 7) (ss ++ bounds p) (fitting && due_fits clock (Some (greater zero_ℚ v))) (greater zero_ℚ v)
    bounded n ss false v d is = record { does = (with_bound n ss false d).does; is = λ h. absurd (false≢true h) }
    bounded n ss true v d is =
        subst (λ (w : Rational). Bounded (n + 7) (ss ++ bounds p) (due_fits clock (Some (greater zero_ℚ w))) (greater zero_ℚ w)) (is refl) (with_bound n ss true d)

    -- ---- what is shown then

    abbrev Shown : Rational → List Rational → Layer → Type 0
    Shown left row layer =
        Shows true row
        (
        record {
          phase = phase.Arrived;
          bound = bound_here store left layer;
          due = due_of clock (bound_here store left layer);
          moving = moving_here store layer;
          offers = offers_here store (bound_here store left layer) layer;
        }
        )

    comes_stands : (time : Expr) (left : Rational) → out-Stmt head ≡ Stmt-F.Wait time → (m1 : Mine) → StandsFor t vars room clock m1 here →
        StandsFor t vars room clock (record m1 { row = slice_set m1.row the_bound (greater zero_ℚ left); bounded = true; arrived = true }) (arrived_at left)
    comes_stands time left l m1 s1 =
        let wide = s1.wide in
        let row = slice_set m1.row the_bound (greater zero_ℚ left) in
        let there : register row the_bound ≡ greater zero_ℚ left = get_or-set_same m1.row the_bound (greater zero_ℚ left) zero_ℚ (omega (arith, wide)) in
        let shown : Shown left row (Stmt-F.Wait time) = record { bound = (refl, there); rates = tt; sent = tt } in
        record {
          at_place = s1.at_place;
          wide = length-set m1.row the_bound (greater zero_ℚ left) ∙ s1.wide;
          spare = s1.spare;
          same_store = take-set-le vars m1.row the_bound (greater zero_ℚ left) (omega (arith, few)) ∙ s1.same_store;
          same_clock = get_or-set_other m1.row the_bound the_clock (greater zero_ℚ left) zero_ℚ (λ e. omega (arith, e)) ∙ s1.same_clock;
          same_choices = s1.same_choices;
          same_mark = refl;
          shows = subst (λ (x : Layer). Shown left row x) (sym l) shown;
        }

    -- ---- the step

    arrives : (n : ℕ) (ss : List CStmt) (x : Bool) (time : Expr) (left : Rational) → out-Stmt head ≡ Stmt-F.Wait time → (k : Bounded n ss x (greater zero_ℚ left)) →
        Round g p 6 b t vars room clock (commit (comes p) ∷ [])
        (record m { row = k.does.row; ok = x; truth = k.does.truth; others = k.does.others }) here (if_fit x (Did None (arrived_at left)))
    arrives n ss false time left l k =
        let m1 = record m { row = k.does.row; ok = false; truth = k.does.truth; others = k.does.others } in
        let s1 = scratch_stands t vars few room clock m (head ∷ rest) store choices s k.does.row false k.does.truth k.does.others k.does.wide k.does.kept k.does.low in
        round_longer g p low b t vars few room clock 2 6 (commit (comes p) ∷ []) m1 here Unfit (omega arith) (unfit_round g p b t vars room clock (comes p) m1 here refl s1)
    arrives n ss true time left l k =
        let m1 = record m { row = k.does.row; ok = true; truth = k.does.truth; others = k.does.others } in
        let s1 = scratch_stands t vars few room clock m (head ∷ rest) store choices s k.does.row true k.does.truth k.does.others k.does.wide k.does.kept k.does.low in
        let same : register k.does.row first_scratch ≡ greater zero_ℚ left = k.is refl in
        let w = record m1 { row = slice_set k.does.row the_bound (greater zero_ℚ left); bounded = true; arrived = true } in
        commit_round g p b t vars room clock 3 (comes p) m1 w here (arrived_at left) None refl small s1
        (block_runs g p 3 (comes p) (view b m1) (view b w) (simp (forms, row_there p low, not_common p low, own_row p, same)))
        refl refl (comes_stands time left l m1 s1) goes

    pub wait_round : (n : ℕ) (ss : List CStmt) (time : Expr) → out-Stmt head ≡ Stmt-F.Wait time → Values g p n b ss m store time →
        Round g p ((n + 7) + 6) b t vars room clock ((ss ++ bounds p) ++ commit (comes p) ∷ []) m here
        (if_fit (is_fitting store time && due_fits clock (Some (greater zero_ℚ (val store time)))) (Did None (arrived_at (val store time))))
    wait_round n ss time l v =
        let k = bounded n ss (is_fitting store time) (val store time) v.does v.value in
        round_behind g p low b t vars few room clock (n + 7) 6 (ss ++ bounds p) (commit (comes p) ∷ []) m
        (is_fitting store time && due_fits clock (Some (greater zero_ℚ (val store time)))) here _ k.does
        (arrives (n + 7) (ss ++ bounds p) (is_fitting store time && due_fits clock (Some (greater zero_ℚ (val store time)))) time (val store time) l k)
