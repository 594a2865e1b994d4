-- Whether a bound has run out is read from `v_bounded` and the sign of register 66.
use Rattle.std.specs.Prelude.{◌≡◌, ◌<◌, ◌≤◌, ◌^◌, ℕ, zero, suc, ◌==◌, Bool, true, false, if◌then◌else◌, List, [], ◌∷◌, ℤ, pos, negsuc, unsigned_abs, Option, Some, None}
use Rattle.std.specs.Ordering.{int_eq}
use Rattle.std.specs.Int.{int_signum}
use Rattle.std.proofs.Common.{refl, sym, ◌∙◌, subst, arith}
use Rattle.std.proofs.lemmas.Int.{ints}
use Rattle.std.proofs.lemmas.Bool.Decides.{nat_tests}
use Rattle.hc_rational.specs.Words.{Rational, is_zero}
use Rattle.hc_term.specs.declared.stmt.Stmt.{Stmt, out-Stmt}
use Rattle.hc_term.specs.declared.model.Mark.TheVariants.{Arrived}
use Rattle.hc_term.specs.declared.model.ProcessState.{ProcessState}
use Rattle.hc_term.specs.Process.{bound_here, is_due}
use Rattle.hc_term.specs.Silent.{Idle, goes_on as went_on}
use Rattle.hc_code.specs.Stands.{Table, At}
use Rattle.hc_cast.specs.declared.stmt.CStmt.TheVariants as a
use Rattle.hc_cast.specs.declared.program.CProgram.{CProgram}
use Rattle.hc_clogic.specs.Runs.{Runs}
use Rattle.hc_clogic.proofs.Runs.{runs_on, runs_longer, if_runs}
use Rattle.hc_cmach.proofs.Worths.{forms}
use Rattle.hc_clogic.proofs.Blocks.{block_runs}
use Rattle.hc_cstep.proofs.OwnRow.{row_there, not_common, own_row}
use Rattle.hc_cstep.specs.Locals.{Mine, Base, view, v_truth, v_end}
use Rattle.hc_cstep.specs.Stands.{register, the_bound, BoundIs, StandsFor}
use Rattle.hc_cstep.specs.Words.{is, set}
use Rattle.hc_cstep.specs.Written.{commit, goes_on, ends_waiting, drops}
use Rattle.hc_cstep.specs.Dropping.{is_over, leaves}
use Rattle.hc_cstep.specs.Law.{Round}
use Rattle.hc_cstep.proofs.Standing.{at_going, going_shows}
use Rattle.hc_cstep.proofs.Commits.{commit_round}
use Rattle.hc_cstep.proofs.Forms.{waits_round}

sign_is : (z : ℤ) → int_eq (int_signum z) (pos 0) ≡ (unsigned_abs z == 0)
sign_is (pos zero) = refl
sign_is (pos (suc n)) = grind (arith, ints, nat_tests)
sign_is (negsuc n) = grind (arith, ints, nat_tests)

module _ (g : CProgram) (p : ℕ) (low : p < 64) (b : Base) (t : Table) (vars : ℕ) (few : vars ≤ 64) (room : ℕ) (clock : Rational) where
  over_runs : (m : Mine) (o : Option Rational) → BoundIs m.bounded m.row o → Runs g p 2 (is_over p) (view b m) (view b (record m { truth = is_due o }))
  over_runs m None h = block_runs g p 2 (is_over p) (view b m) (view b (record m { truth = false })) (simp (forms, h, row_there p low, not_common p low, own_row p))
  over_runs m (Some x) h = by (is_zero x) refl
    where
      by : (y : Bool) → is_zero x ≡ y → Runs g p 2 (is_over p) (view b m) (view b (record m { truth = is_zero x }))
      by y e =
          let bounded = h.0 in
          let at = h.1 in
          let sign : int_eq (int_signum x.num) (pos 0) ≡ y = sign_is x.num ∙ e in
          subst (λ (z : Bool). Runs g p 2 (is_over p) (view b m) (view b (record m { truth = z }))) (sym e) (told y sign bounded at)
        where
          told : (z : Bool) → int_eq (int_signum x.num) (pos 0) ≡ z → m.bounded ≡ true → register m.row the_bound ≡ x →
              Runs g p 2 (is_over p) (view b m) (view b (record m { truth = z }))
          told true sign bounded at =
              block_runs g p 2 (is_over p) (view b m) (view b (record m { truth = true })) (simp (forms, bounded, at, sign, row_there p low, not_common p low, own_row p))
          told false sign bounded at =
              block_runs g p 2 (is_over p) (view b m) (view b (record m { truth = false })) (simp (forms, bounded, at, sign, row_there p low, not_common p low, own_row p))

  module _ (m : Mine) (head : Stmt) (rest : List Stmt) (store : List Rational) (choices : ℕ) (left : Rational) (on : m.ok ≡ true) (goes : m.end ≡ goes_on) (small : m.most < 2 ^ 31)
      (s : StandsFor t vars room clock m (record { todo = head ∷ rest; store = store; choices = choices; mark = Arrived left })) where
    abbrev there : ProcessState
    there = record { todo = head ∷ rest; store = store; choices = choices; mark = Arrived left }

    abbrev bound : Option Rational
    bound = bound_here store left (out-Stmt head)

    abbrev seen : Bool → Mine
    seen over = record m { truth = over }

    seen_stands : (over : Bool) → StandsFor t vars room clock (seen over) there
    seen_stands over = record {
      at_place = s.at_place;
      wide = s.wide;
      same_store = s.same_store;
      same_clock = s.same_clock;
      same_choices = s.same_choices;
      same_mark = s.same_mark;
      shows = s.shows;
      spare = s.spare;
    }

    abbrev left_so : Bool → ℕ → Mine
    left_so over next = record m { truth = over; arrived = false; bounded = false; place = next }

    left_stands : (over : Bool) (next : ℕ) → At t next rest → StandsFor t vars room clock (left_so over next) (at_going rest store choices)
    left_stands over next h = record {
      at_place = h;
      wide = s.wide;
      same_store = s.same_store;
      same_clock = s.same_clock;
      same_choices = s.same_choices;
      same_mark = refl;
      shows = going_shows false m.row clock store None rest refl;
      spare = s.spare;
    }

    chosen : (next : ℕ) (over : Bool) → At t next rest →
        Round g p 7 b t vars room clock (a.If (is v_truth 1) (commit (leaves next) ∷ []) (Some (set v_end ends_waiting ∷ [])) ∷ []) (seen over) there
        (if over then went_on there rest else Idle)
    chosen next true h =
        let r = commit_round g p b t vars room clock 3 (leaves next) (seen true) (left_so true next) there (at_going rest store choices) None on small (seen_stands true)
        (block_runs g p 3 (leaves next) (view b (seen true)) (view b (left_so true next)) (simp forms)) refl refl (left_stands true next h) goes in
        record {
          then = r.then;
          runs = if_runs g p 6 (is v_truth 1) (commit (leaves next) ∷ []) (Some (set v_end ends_waiting ∷ [])) (view b (seen true)) (view b r.then) (pos 1)
              (λ rs target gives. simp forms) r.runs;
          does = r.does;
        }
    chosen next false h =
        let r = waits_round g p low b t vars few room clock (seen false) head rest there refl (seen_stands false) in
        record {
          then = r.then;
          runs =
              runs_longer g p 2 7 _ (view b (seen false)) (view b r.then) (omega arith)
              (
              if_runs g p 1 (is v_truth 1) (commit (leaves next) ∷ []) (Some (set v_end ends_waiting ∷ [])) (view b (seen false)) (view b r.then) (pos 0)
              (λ rs target gives. simp forms) r.runs
              );
          does = r.does;
        }

    pub drops_round : (next : ℕ) → At t next rest → Round g p 9 b t vars room clock (drops p next) m there (if is_due bound then went_on there rest else Idle)
    drops_round next h =
        let r = chosen next (is_due bound) h in
        record {
          then = r.then;
          runs = runs_on g p 2 7 (is_over p) _ (view b m) (view b (seen (is_due bound))) (view b r.then) (over_runs m bound s.shows.bound) r.runs;
          does = r.does;
        }
