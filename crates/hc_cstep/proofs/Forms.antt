-- Each form of a statement that a going process does, and its silent step.
use Rattle.std.specs.Prelude.{◌≡◌, ◌<◌, ◌≤◌, ◌^◌, ℕ, ◌+◌, ◌%◌, ◌==◌, nat_lt, Bool, true, false, if◌then◌else◌, List, [], ◌∷◌, ◌++◌, length, slice_set, pos, Some, None}
use Rattle.std.proofs.Common.{refl, sym, ap, ◌∙◌, subst, arith}
use Rattle.std.proofs.lemmas.Bool.{lt-ltb}
use Rattle.std.proofs.lemmas.List.{get_or-set_same}
use Rattle.hc_rational.specs.Words.{Rational, zero_ℚ}
use Rattle.hc_term.specs.declared.expr.Expr.{Expr}
use Rattle.hc_term.specs.declared.expr.Cond.{Cond}
use Rattle.hc_term.specs.declared.stmt.Stmt.{Stmt}
use Rattle.hc_term.specs.declared.model.ProcessState.{ProcessState}
use Rattle.hc_term.specs.Value.{val, holds, is_fitting, is_fitting_test}
use Rattle.hc_term.specs.Silent.{Outcome, Idle, Unfit, Did, if_fit, picks_left}
use Rattle.hc_code.specs.Stands.{Table, At}
use Rattle.hc_cast.specs.declared.stmt.CStmt.{CStmt}
use Rattle.hc_cast.specs.declared.stmt.CStmt.TheVariants as a
use Rattle.hc_cast.specs.declared.program.CProgram.{CProgram}
use Rattle.hc_cmach.specs.State.{width}
use Rattle.hc_clogic.specs.Runs.{Runs}
use Rattle.hc_clogic.proofs.Runs.{runs_on, runs_longer, if_runs}
use Rattle.hc_cmach.proofs.Worths.{forms}
use Rattle.hc_clogic.proofs.Blocks.{block_runs}
use Rattle.hc_cstep.proofs.OwnRow.{row_there, not_common, own_row}
use Rattle.hc_cstep.specs.Locals.{Mine, Base, view, v_place, v_end, v_truth, v_mark}
use Rattle.hc_cstep.specs.Stands.{register, the_logged, first_scratch, StandsFor}
use Rattle.hc_cstep.specs.Parts.{Evaluates, Values, Tests}
use Rattle.hc_cstep.specs.Words.{is, set, move}
use Rattle.hc_cstep.specs.Written.{commit, goes_on, ends_waiting, ends_ended, ends_logged}
use Rattle.hc_cstep.specs.Law.{Round}
use Rattle.hc_cstep.proofs.Standing.{at_going, scratch_stands, goes_stands, picks_stands, sets_stands, logs_stands}
use Rattle.hc_cstep.specs.Choosing.{picks}
use Rattle.hc_cstep.proofs.Choosing.{same_side, one_more, picks_runs}
use Rattle.hc_cstep.proofs.Commits.{with_end, unfit_round, commit_round}

module _ (g : CProgram) (p : ℕ) (low : p < 64) (b : Base) (t : Table) (vars : ℕ) (few : vars ≤ 64) (room : ℕ) (clock : Rational) where
  -- ---- joining

  pub round_longer : (n k : ℕ) (ss : List CStmt) (m : Mine) (q : ProcessState) (o : Outcome) → n ≤ k → Round g p n b t vars room clock ss m q o →
      Round g p k b t vars room clock ss m q o
  round_longer n k ss m q o less r = record { then = r.then; runs = runs_longer g p n k ss (view b m) (view b r.then) less r.runs; does = r.does }

  -- behind code that changed scratch alone
  pub round_behind : (n k : ℕ) (ss rs : List CStmt) (m : Mine) (fitting : Bool) (q : ProcessState) (o : Outcome) (d : Evaluates g p n b ss m fitting) →
      Round g p k b t vars room clock rs (record m { row = d.row; ok = fitting; truth = d.truth; others = d.others }) q o →
      Round g p (n + k) b t vars room clock (ss ++ rs) m q o
  round_behind n k ss rs m fitting q o d r = record {
    then = r.then;
    runs = runs_on g p n k ss rs (view b m) (view b (record m { row = d.row; ok = fitting; truth = d.truth; others = d.others })) (view b r.then) d.runs r.runs;
    does = r.does;
  }

  module _ (m : Mine) (todo : List Stmt) (store : List Rational) (choices : ℕ) (s : StandsFor t vars room clock m (at_going todo store choices))
      (goes : m.end ≡ goes_on) (small : m.most < 2 ^ 31) where
    abbrev here : ProcessState
    here = at_going todo store choices

    -- behind an evaluation
    abbrev seen : (n : ℕ) (ss : List CStmt) (fitting : Bool) (d : Evaluates g p n b ss m fitting) → Mine
    seen n ss fitting d = record m { row = d.row; ok = fitting; truth = d.truth; others = d.others }

    seen_stands : (n : ℕ) (ss : List CStmt) (fitting : Bool) (d : Evaluates g p n b ss m fitting) → StandsFor t vars room clock (seen n ss fitting d) here
    seen_stands n ss fitting d = scratch_stands t vars few room clock m todo store choices s d.row fitting d.truth d.others d.wide d.kept d.low

    seen_wide : (n : ℕ) (ss : List CStmt) (fitting : Bool) (d : Evaluates g p n b ss m fitting) → length d.row ≡ width
    seen_wide n ss fitting d = d.wide ∙ s.wide

    -- ---- `skip`, and a loop without a test

    pub goes_round : (next : ℕ) (rest : List Stmt) → m.ok ≡ true → At t next rest →
        Round g p 4 b t vars room clock (commit (set v_place next ∷ []) ∷ []) m here (Did None (at_going rest store choices))
    goes_round next rest on h =
        let w = record m { place = next } in
        commit_round g p b t vars room clock 1 (set v_place next ∷ []) m w here (at_going rest store choices) None on small s
        (block_runs g p 1 (set v_place next ∷ []) (view b m) (view b w) (simp forms))
        refl refl (goes_stands t vars few room clock m todo store choices s next rest h) goes

    -- ---- assignments

    assigns : (n x next : ℕ) (rest : List Stmt) (ss : List CStmt) (value : Rational) (fitting : Bool) → x < vars → At t next rest → (d : Evaluates g p n b ss m fitting) →
        (fitting ≡ true → register d.row first_scratch ≡ value) →
        Round g p 5 b t vars room clock (commit (move p x first_scratch ∷ set v_place next ∷ []) ∷ []) (seen n ss fitting d) here
        (if_fit fitting (Did None (at_going rest (slice_set store x value) choices)))
    assigns n x next rest ss value false less h d is =
        round_longer 2 5 _ (seen n ss false d) here Unfit (omega arith)
        (unfit_round g p b t vars room clock (move p x first_scratch ∷ set v_place next ∷ []) (seen n ss false d) here refl (seen_stands n ss false d))
    assigns n x next rest ss value true less h d is =
        let there : nat_lt x 20480 ≡ true = lt-ltb x 20480 (omega (arith, less, few)) in
        let m1 = seen n ss true d in
        let w = record m1 { row = slice_set d.row x value; place = next } in
        let same : register d.row first_scratch ≡ value = is refl in
        commit_round g p b t vars room clock 2 (move p x first_scratch ∷ set v_place next ∷ []) m1 w here (at_going rest (slice_set store x value) choices) None refl small
        (seen_stands n ss true d)
        (
        block_runs g p 2 (move p x first_scratch ∷ set v_place next ∷ []) (view b m1) (view b w)
        (simp (forms, row_there p low, not_common p low, own_row p, there, same))
        )
        refl refl (sets_stands t vars few room clock m1 todo store choices (seen_stands n ss true d) next rest x value less h) goes

    pub assign_round : (n x next : ℕ) (rest : List Stmt) (ss : List CStmt) (e : Expr) → x < vars → At t next rest → Values g p n b ss m store e →
        Round g p (n + 5) b t vars room clock (ss ++ commit (move p x first_scratch ∷ set v_place next ∷ []) ∷ []) m here
        (if_fit (is_fitting store e) (Did None (at_going rest (slice_set store x (val store e)) choices)))
    assign_round n x next rest ss e less h v =
        round_behind n 5 ss _ m (is_fitting store e) here _ v.does (assigns n x next rest ss (val store e) (is_fitting store e) less h v.does v.value)

    -- ---- logs

    logs : (n next : ℕ) (rest : List Stmt) (ss : List CStmt) (value : Rational) (fitting : Bool) → At t next rest → (d : Evaluates g p n b ss m fitting) →
        (fitting ≡ true → register d.row first_scratch ≡ value) →
        Round g p 6 b t vars room clock (commit (move p the_logged first_scratch ∷ set v_end ends_logged ∷ set v_place next ∷ []) ∷ []) (seen n ss fitting d) here
        (if_fit fitting (Did (Some value) (at_going rest store choices)))
    logs n next rest ss value false h d is =
        round_longer 2 6 _ (seen n ss false d) here Unfit (omega arith)
        (
        unfit_round g p b t vars room clock (move p the_logged first_scratch ∷ set v_end ends_logged ∷ set v_place next ∷ []) (seen n ss false d) here refl
        (seen_stands n ss false d)
        )
    logs n next rest ss value true h d is =
        let m1 = seen n ss true d in
        let w = record m1 { row = slice_set d.row the_logged value; end = ends_logged; place = next } in
        let same : register d.row first_scratch ≡ value = is refl in
        let wide = seen_wide n ss true d in
        commit_round g p b t vars room clock 3 (move p the_logged first_scratch ∷ set v_end ends_logged ∷ set v_place next ∷ []) m1 w here (at_going rest store choices)
        (Some value) refl small (seen_stands n ss true d)
        (
        block_runs g p 3 (move p the_logged first_scratch ∷ set v_end ends_logged ∷ set v_place next ∷ []) (view b m1) (view b w)
        (simp (forms, row_there p low, not_common p low, own_row p, same))
        )
        refl refl (logs_stands t vars few room clock m1 todo store choices (seen_stands n ss true d) next ends_logged rest value h)
        (refl, get_or-set_same d.row the_logged value zero_ℚ (omega (arith, wide)))

    pub log_round : (n next : ℕ) (rest : List Stmt) (ss : List CStmt) (e : Expr) → At t next rest → Values g p n b ss m store e →
        Round g p (n + 6) b t vars room clock (ss ++ commit (move p the_logged first_scratch ∷ set v_end ends_logged ∷ set v_place next ∷ []) ∷ []) m here
        (if_fit (is_fitting store e) (Did (Some (val store e)) (at_going rest store choices)))
    log_round n next rest ss e h v =
        round_behind n 6 ss _ m (is_fitting store e) here _ v.does (logs n next rest ss (val store e) (is_fitting store e) h v.does v.value)

    -- ---- tests

    abbrev turns : ℕ → ℕ → CStmt
    turns yes' no' = a.If (is v_truth 1) (set v_place yes' ∷ []) (Some (set v_place no' ∷ []))

    abbrev chosen : {A : Type 0} → Bool → A → A → A
    chosen x first second = if x then first else second

    goes_by : (x : Bool) (yes' no' : ℕ) (first second : List Stmt) → At t yes' first → At t no' second → At t (chosen x yes' no') (chosen x first second)
    goes_by true yes' no' first second h k = h
    goes_by false yes' no' first second h k = k

    turns_runs : (m1 : Mine) (yes' no' : ℕ) (x : Bool) → m1.truth ≡ x → Runs g p 2 (turns yes' no' ∷ []) (view b m1) (view b (record m1 { place = chosen x yes' no' }))
    turns_runs m1 yes' no' true e = block_runs g p 2 (turns yes' no' ∷ []) (view b m1) (view b (record m1 { place = yes' })) (simp (forms, e))
    turns_runs m1 yes' no' false e = block_runs g p 2 (turns yes' no' ∷ []) (view b m1) (view b (record m1 { place = no' })) (simp (forms, e))

    tests : (n yes' no' : ℕ) (first second : List Stmt) (ss : List CStmt) (x fitting : Bool) → At t yes' first → At t no' second → (d : Evaluates g p n b ss m fitting) →
        (fitting ≡ true → d.truth ≡ x) →
        Round g p 5 b t vars room clock (commit (turns yes' no' ∷ []) ∷ []) (seen n ss fitting d) here
        (if_fit fitting (Did None (at_going (chosen x first second) store choices)))
    tests n yes' no' first second ss x false h k d is =
        round_longer 2 5 _ (seen n ss false d) here Unfit (omega arith)
        (unfit_round g p b t vars room clock (turns yes' no' ∷ []) (seen n ss false d) here refl (seen_stands n ss false d))
    tests n yes' no' first second ss x true h k d is =
        let m1 = seen n ss true d in
        commit_round g p b t vars room clock 2 (turns yes' no' ∷ []) m1 (record m1 { place = chosen x yes' no' }) here (at_going (chosen x first second) store choices) None refl small
        (seen_stands n ss true d) (turns_runs m1 yes' no' x (is refl)) refl refl
        (
        goes_stands t vars few room clock m1 todo store choices (seen_stands n ss true d) (chosen x yes' no') (chosen x first second)
        (goes_by x yes' no' first second h k)
        )
        goes

    pub test_round : (n yes' no' : ℕ) (first second : List Stmt) (ss : List CStmt) (e : Cond) → At t yes' first → At t no' second → Tests g p n b ss m store e →
        Round g p (n + 5) b t vars room clock (ss ++ commit (turns yes' no' ∷ []) ∷ []) m here
        (if_fit (is_fitting_test store e) (Did None (at_going (chosen (holds store e) first second) store choices)))
    test_round n yes' no' first second ss e h k v =
        round_behind n 5 ss _ m (is_fitting_test store e) here _ v.does (tests n yes' no' first second ss (holds store e) (is_fitting_test store e) h k v.does v.truth)

    -- ---- internal choice

    pub pick_round : (seed left right : ℕ) (first second : List Stmt) → m.ok ≡ true → At t left first → At t right second →
        Round g p 8 b t vars room clock (commit (picks p seed left right) ∷ []) m here
        (Did None (at_going (if picks_left seed p choices then first else second) store (choices + 1)))
    pick_round seed left right first second on h k =
        let same : m.choices ≡ choices % 64 = s.same_choices in
        let x = picks_left seed p choices in
        let side : picks_left seed p m.choices ≡ x = ap (picks_left seed p) same ∙ same_side seed p choices in
        let counted : ℕ = if (m.choices + 1) == 64 then 0 else m.choices + 1 in
        let next : ℕ = if picks_left seed p m.choices then left else right in
        let there : At t next (if x then first else second) =
        subst (λ (y : Bool). At t (if y then left else right) (if x then first else second)) (sym side) (goes_by x left right first second h k) in
        commit_round g p b t vars room clock 5 (picks p seed left right) m (record m { place = next; choices = counted }) here
        (at_going (if x then first else second) store (choices + 1)) None on small s
        (picks_runs g p seed b m left right (omega (arith, same)))
        refl refl
        (
        picks_stands t vars few room clock m todo store choices s next counted (if x then first else second)
        (one_more m.choices choices ((m.choices + 1) == 64) same refl) there
        )
        goes

  -- ---- the mark

  -- a process that is going
  pub going_round : (n : ℕ) (first second : List CStmt) (m : Mine) (q : ProcessState) (o : Outcome) → m.arrived ≡ false → Round g p n b t vars room clock second m q o →
      Round g p (1 + n) b t vars room clock (a.If (is v_mark 1) first (Some second) ∷ []) m q o
  going_round n first second m q o e r = record {
    then = r.then;
    runs = if_runs g p n (is v_mark 1) first (Some second) (view b m) (view b r.then) (pos 0) (λ rest target gives. simp (forms, e)) r.runs;
    does = r.does;
  }

  -- one that has arrived
  pub arrived_round : (n : ℕ) (first second : List CStmt) (m : Mine) (q : ProcessState) (o : Outcome) → m.arrived ≡ true → Round g p n b t vars room clock first m q o →
      Round g p (1 + n) b t vars room clock (a.If (is v_mark 1) first (Some second) ∷ []) m q o
  arrived_round n first second m q o e r = record {
    then = r.then;
    runs = if_runs g p n (is v_mark 1) first (Some second) (view b m) (view b r.then) (pos 1) (λ rest target gives. simp (forms, e)) r.runs;
    does = r.does;
  }

  -- it stays where it is
  pub waits_round : (m : Mine) (head : Stmt) (rest : List Stmt) (q : ProcessState) → q.todo ≡ head ∷ rest → StandsFor t vars room clock m q →
      Round g p 1 b t vars room clock (set v_end ends_waiting ∷ []) m q Idle
  waits_round m head rest q e s = record {
    then = record m { end = ends_waiting };
    runs = block_runs g p 1 (set v_end ends_waiting ∷ []) (view b m) (view b (record m { end = ends_waiting })) (simp forms);
    does = record { stands = with_end t vars room clock m q ends_waiting s; counted = refl; same_most = refl; ended = simp e };
  }

  -- it has ended
  pub ends_round : (m : Mine) (q : ProcessState) → q.todo ≡ [] → StandsFor t vars room clock m q → Round g p 1 b t vars room clock (set v_end ends_ended ∷ []) m q Idle
  ends_round m q e s = record {
    then = record m { end = ends_ended };
    runs = block_runs g p 1 (set v_end ends_ended ∷ []) (view b m) (view b (record m { end = ends_ended })) (simp forms);
    does = record { stands = with_end t vars room clock m q ends_ended s; counted = refl; same_most = refl; ended = simp e };
  }
