-- Where each round is a silent step, the loop is the stretch: by recursion on the steps that are still allowed.
use Rattle.std.specs.Prelude.{◌≡◌, ◌≤◌, ◌<◌, ◌^◌, ℕ, zero, suc, ◌+◌, nat_lt, Bool, true, false, if◌then◌else◌, List, [], ◌∷◌, pos, Some, None}
use Rattle.std.proofs.Common.{refl, sym, subst, arith}
use Rattle.std.proofs.lemmas.Bool.{lt-ltb, ltb-true}
use Rattle.hc_rational.specs.Words.{Rational}
use Rattle.hc_term.specs.declared.run.StretchEnd.{StretchEnd}
use Rattle.hc_term.specs.declared.run.StretchEnd.TheVariants as ends
use Rattle.hc_term.specs.declared.model.ProcessState.{ProcessState}
use Rattle.hc_term.specs.Process.{is_done}
use Rattle.hc_term.specs.Silent.{Outcome, Idle, Unfit, Did, silent}
use Rattle.hc_term.specs.Event.{Progress, idle_end, progress, progress_by, spent_by}
use Rattle.hc_code.specs.Stands.{Table}
use Rattle.hc_cast.specs.declared.stmt.CStmt.{CStmt}
use Rattle.hc_cast.specs.declared.program.CProgram.{CProgram}
use Rattle.hc_clogic.specs.Runs.{Runs, Is}
use Rattle.hc_clogic.proofs.Runs.{runs_longer}
use Rattle.hc_cmach.proofs.Worths.{forms}
use Rattle.hc_clogic.proofs.Loops.{while_stops, while_goes_on}
use Rattle.hc_cstep.specs.Locals.{Mine, Base, view, v_end}
use Rattle.hc_cstep.specs.Stands.{StandsFor}
use Rattle.hc_cstep.specs.Words.{is}
use Rattle.hc_cstep.specs.Written.{loop, goes_on}
use Rattle.hc_cstep.specs.Law.{end_number, LogIs, Comes, Takes, Does, Rounds, IsStretch, cost}

-- ---- small facts

idle_logs_nothing : (m : Mine) (b : Bool) → LogIs m (if b then ends.Ended else ends.Waits)
idle_logs_nothing m true = tt
idle_logs_nothing m false = tt

cost_least : (n k : ℕ) → n + 2 ≤ cost n k
cost_least n zero = omega arith
cost_least n (suc k) = let h = cost_least n k in omega (arith, h)

module _ (g : CProgram) (p n : ℕ) (b : Base) (body : List CStmt) where
  on : (m : Mine) → m.end ≡ goes_on → Is g p (view b m) (is v_end goes_on) (pos 1)
  on m e rest target gives = simp (forms, e)

  off : (m : Mine) (x : StretchEnd) → m.end ≡ end_number x → Is g p (view b m) (is v_end goes_on) (pos 0)
  off m ends.Waits e rest target gives = simp (forms, e)
  off m ends.Ended e rest target gives = simp (forms, e)
  off m (ends.Logged v) e rest target gives = simp (forms, e)
  off m ends.Unfit e rest target gives = simp (forms, e)
  off m ends.Spent e rest target gives = simp (forms, e)

  -- the last round
  stops : (k : ℕ) (m w : Mine) (x : StretchEnd) → m.end ≡ goes_on → w.end ≡ end_number x → Runs g p n body (view b m) (view b w) →
      Runs g p (cost n k) (loop body ∷ []) (view b m) (view b w)
  stops k m w x e h r =
      let least = cost_least n k in
      runs_longer g p (1 + (n + 1)) (cost n k) (loop body ∷ []) (view b m) (view b w) (omega (arith, least))
      (while_goes_on g p (is v_end goes_on) body n 1 (view b m) (view b w) (view b w) (pos 1) (on m e) refl r
      (while_stops g p (is v_end goes_on) body (view b w) (pos 0) (off w x h) refl))

module _ (g : CProgram) (p n seed : ℕ) (b : Base) (t : Table) (vars room : ℕ) (clock : Rational) (body : List CStmt) (rounds : Rounds g p n seed b t vars room clock body) where
  -- the stretch h from here, where k steps are still allowed
  abbrev Stretches : ℕ → Mine → Progress → Type 0
  Stretches k m h = IsStretch g p (cost n k) b t vars room clock (loop body ∷ []) m m.steps h

  -- it ends with this round, with no step taken
  ends_here : (k : ℕ) (m w : Mine) (q : ProcessState) (x : StretchEnd) → m.end ≡ goes_on → Runs g p n body (view b m) (view b w) →
      Comes t vars room clock m.most w q m.steps (end_number x) → LogIs w x → Stretches k m (record { logs = []; next = q; end = x })
  ends_here k m w q x e r c l = record {
    then = w;
    runs = stops g p n b body k m w x e c.ended r;
    stands = c.stands;
    counted = let h = c.counted in omega (arith, h);
    ended = c.ended;
    logged = l;
  }

  -- no step is allowed any more
  spent : (m w : Mine) (q : ProcessState) (o : Outcome) → m.end ≡ goes_on → nat_lt m.steps m.most ≡ false → Runs g p n body (view b m) (view b w) →
      Does t vars room clock m.steps m.most w q o → Stretches 0 m (spent_by q o)
  spent m w q Idle e less r d = ends_here 0 m w q (idle_end q) e r d (idle_logs_nothing w (is_done q.todo))
  spent m w q Unfit e less r d = ends_here 0 m w q ends.Unfit e r d tt
  spent m w q (Did logged next) e less r d =
      ends_here 0 m w q ends.Spent e r (subst (Takes t vars room clock m.steps m.most w q logged next) less d) tt

  -- what follows a step without a log
  later : (k : ℕ) (m w : Mine) (q next : ProcessState) (h : Progress) → m.end ≡ goes_on → Runs g p n body (view b m) (view b w) →
      Comes t vars room clock m.most w next (m.steps + 1) goes_on → Stretches k w h →
      Stretches (suc k) m (record { logs = None ∷ h.logs; next = h.next; end = h.end })
  later k m w q next h e r c rest = record {
    then = rest.then;
    runs = while_goes_on g p (is v_end goes_on) body n (cost n k) (view b m) (view b w) (view b rest.then) (pos 1) (on g p n b body m e) refl r rest.runs;
    stands = rest.stands;
    counted = let a = c.counted in let z = rest.counted in omega (arith, a, z);
    ended = rest.ended;
    logged = rest.logged;
  }

  by_round : (k : ℕ) (m w : Mine) (q : ProcessState) (o : Outcome) → m.end ≡ goes_on → nat_lt m.steps m.most ≡ true → Runs g p n body (view b m) (view b w) →
      Does t vars room clock m.steps m.most w q o →
      ((next : ProcessState) → Comes t vars room clock m.most w next (m.steps + 1) goes_on → Stretches k w (progress k seed p clock next)) →
      Stretches (suc k) m (progress_by q (progress k seed p clock) o)
  by_round k m w q Idle e less r d rest = ends_here (suc k) m w q (idle_end q) e r d (idle_logs_nothing w (is_done q.todo))
  by_round k m w q Unfit e less r d rest = ends_here (suc k) m w q ends.Unfit e r d tt
  by_round k m w q (Did None next) e less r d rest =
      let c = subst (Takes t vars room clock m.steps m.most w q None next) less d in
      later k m w q next (progress k seed p clock next) e r c (rest next c)
  by_round k m w q (Did (Some v) next) e less r d rest =
      let c = subst (Takes t vars room clock m.steps m.most w q (Some v) next) less d in
      record {
        then = w;
        runs = stops g p n b body (suc k) m w (ends.Logged v) e c.0.ended r;
        stands = c.0.stands;
        counted = c.0.counted;
        ended = c.0.ended;
        logged = c.1;
      }

  pub loop_is_stretch : (k : ℕ) (m : Mine) (q : ProcessState) → StandsFor t vars room clock m q → m.end ≡ goes_on → m.most < 2 ^ 31 → m.steps + k ≡ m.most →
      Stretches k m (progress k seed p clock q)
  loop_is_stretch zero m q s e small all =
      let r = rounds m q s e small in
      let less : nat_lt m.steps m.most ≡ false = by (nat_lt m.steps m.most) refl in
      spent m r.then q (silent seed p clock q) e less r.runs r.does
    where
      by : (x : Bool) → nat_lt m.steps m.most ≡ x → x ≡ false
      by true h = let l = ltb-true m.steps m.most h in absurd (omega (arith, l, all))
      by false h = refl
  loop_is_stretch (suc k) m q s e small all =
      let r = rounds m q s e small in
      let less : nat_lt m.steps m.most ≡ true = lt-ltb m.steps m.most (omega (arith, all)) in
      by_round k m r.then q (silent seed p clock q) e less r.runs r.does
      (
      λ next c.
      let same : r.then.most ≡ m.most = c.same_most in
      let counted : r.then.steps ≡ m.steps + 1 = c.counted in
      loop_is_stretch k r.then next c.stands c.ended (subst (λ (i : ℕ). i < 2 ^ 31) (sym same) small) (omega (arith, same, counted, all))
      )
