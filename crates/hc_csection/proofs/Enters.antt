-- Entering a thread's steps, in the words of the report.
use Rattle.std.specs.Prelude.{◌≡◌, ◌<◌, ◌≤◌, ◌+◌, ◌-◌, ℕ, Bool, true, false, ◌&&◌, nat_lt, if◌then◌else◌, List, [], ◌∷◌, ◌++◌, length, map, slice_get, slice_index_or, ℤ, pos, Some, codes}
use Rattle.std.proofs.Common.{refl, sym, ap, ap₂, ◌∙◌, subst, arith, true≢false}
use Rattle.std.proofs.lemmas.Bool.{ltb-true, ltb-false, lt-ltb}
use Rattle.hc_limits.specs.Limits.{most_steps}
use Rattle.hc_rational.specs.Words.{Rational}
use Rattle.hc_term.specs.declared.task.Task.{Task}
use Rattle.hc_term.specs.declared.run.StretchEnd.{StretchEnd}
use Rattle.hc_term.specs.declared.run.StretchEnd.TheVariants as ends
use Rattle.hc_term.specs.declared.post.Post.{Post}
use Rattle.hc_term.specs.declared.model.ProcessState.{ProcessState}
use Rattle.hc_term.specs.declared.model.Configuration.{Configuration}
use Rattle.hc_term.specs.Event.{Progress, silent_items}
use Rattle.hc_term.proofs.Stretches.{progress-stretches}
use Rattle.hc_cast.specs.declared.stmt.CStmt.{CStmt}
use Rattle.hc_cast.specs.declared.program.CProgram.{CProgram}
use Rattle.hc_cmach.specs.State.{Shared}
use Rattle.hc_cmach.specs.Line.{Line, Ends}
use Rattle.hc_cmach.proofs.Worths.{forms}
use Rattle.hc_clogic.specs.Runs.{Runs, Are}
use Rattle.hc_clogic.proofs.Runs.{runs_on}
use Rattle.hc_cthreads.specs.Bodies.{Pieces}
use Rattle.hc_cthreads.specs.Lines.{run_lines}
use Rattle.hc_cthreads.specs.Scenes.{stretch}
use Rattle.hc_cthreads.specs.Views.{owner_view}
use Rattle.hc_cthreads.specs.Reports.{DoesEnter, Enters}
use Rattle.hc_cthreads.specs.Reports.{cut_short, does_not_fit, taken_whole}
use Rattle.hc_cstep.specs.Locals.{v_steps, v_end}
use Rattle.hc_cstep.specs.Law.{end_number}
use Rattle.hc_cbuild.specs.Written.{number, local, call}
use Rattle.hc_core_c.specs.Twin.{Board64, register, stopped, wake}
use Rattle.hc_core_c.specs.Owner.{core, shared_of}
use Rattle.hc_csection.specs.Words.{Codes, thread_names, processes, channels, IsShared, IsHalted, IsLocked, IsKept, element, the_met, section_words}
use Rattle.hc_csection.specs.Entering.{is_unfit, with_log, overflowed, with_stop, entered_all, entered}
use Rattle.hc_csection.specs.Code.{HasSections, sets, enter_steps}
use Rattle.hc_csection.specs.Pieces.{pieces_of}
use Rattle.hc_csection.proofs.Keeping.{met_again, locked_kept}
use Rattle.hc_csection.proofs.Setting.{set_for, is_set}
use Rattle.hc_csection.proofs.Locals.{local_values, values_are}
use Rattle.hc_csection.proofs.Sets.{sets_run, set_with, is_set_with, shared_with, stands_with}
use Rattle.hc_csection.proofs.Entering.{Enterable, call_enter, enter_cost}
use Rattle.hc_csection.proofs.Waking.{wake_same, wakes_all}
use Rattle.hc_csection.proofs.Logging.{log_line, stretch_tells, log_is, log_same}

module _ (g : CProgram) (k : Codes) (t : Task) (p : ℕ) (sections : HasSections g (processes t) (channels t)) (low : p < processes t) (stretching show take : List CStmt) where
  abbrev P : ℕ
  P = processes t

  abbrev b : Pieces
  b = pieces_of k t p stretching show take

  module _ (c : Configuration) (ps : List Post) (n : ℕ) (q : ProcessState) (m : Shared) (row : List Rational) (values : List ℤ) (less : n < t.limit) (s : IsShared t c ps n m)
      (at : slice_get c.processes p ≡ Some q) (l : IsLocked k t p c.clock (stretch t p c.clock q) row values) where
    abbrev h : Progress
    h = stretch t p c.clock q

    abbrev used : ℕ
    used = length h.logs

    -- the board as the section finds it, and once it is set
    abbrev old : Board64
    old = record s.board { lines = []; wakes = [] }

    abbrev begun : Board64
    begun = set_for t p old

    abbrev new : Board64
    new = entered P row p used h.end begun

    steps_are : begun.steps ≡ n
    steps_are = s.stands.counted

    used_few : used ≤ t.limit
    used_few = (progress-stretches t p t.limit c q at).within

    limit_few : t.limit ≤ most_steps
    limit_few = t.in_range.1

    enterable : Enterable g p P (channels t) sections row low used begun
    enterable = record { within = omega (arith, steps_are, less); small = omega (arith, limit_few); few = omega (arith, steps_are, less, used_few, limit_few) }

    -- ---- it runs

    abbrev locals : List ℤ
    locals = local_values l.mine l.done l.x l.more

    locals_is : values ≡ locals
    locals_is = values_are l.mine l.done l.x l.more values l.locals

    args_are : (x : Board64) → Are g p (core row (thread_names k p) locals x) (number p ∷ local v_steps ∷ local v_end ∷ []) (pos p ∷ pos l.mine.steps ∷ pos l.mine.end ∷ [])
    args_are x rest target gives = simp forms

    args : (x : Board64) → Are g p (core row (thread_names k p) locals x) (number p ∷ local v_steps ∷ local v_end ∷ []) (pos p ∷ pos used ∷ pos (end_number h.end) ∷ [])
    args x = subst (λ (zs : List ℤ). Are g p (core row (thread_names k p) locals x) (number p ∷ local v_steps ∷ local v_end ∷ []) zs)
        (ap₂ (λ (i : ℕ) (j : ℕ). pos p ∷ pos i ∷ pos j ∷ []) l.counted l.ended) (args_are x)

    abbrev size : ℕ
    size = 3 + enter_cost g p P

    enter_runs : Runs g p size (enter_steps t p) (core row (thread_names k p) locals old) (core row (thread_names k p) locals new)
    enter_runs =
        runs_on g p 3 (enter_cost g p P) (sets t p) (call (codes "f_enter") (number p ∷ local v_steps ∷ local v_end ∷ []) ∷ []) _ _ _
        (sets_run g t p P (channels t) sections.has row (thread_names k p) locals old)
        (call_enter g p P (channels t) sections row low (thread_names k p) locals begun (number p ∷ local v_steps ∷ local v_end ∷ []) used h.end enterable (args begun))

    entering : Runs g p size (enter_steps t p) (owner_view (thread_names k p) row values m [] []) (owner_view (thread_names k p) row values (shared_of new) new.lines new.wakes)
    entering =
        subst (λ (x : Shared). Runs g p size (enter_steps t p) (owner_view (thread_names k p) row values x [] []) (owner_view (thread_names k p) row values (shared_of new) new.lines new.wakes)) (sym s.is)
        (
        subst (λ (zs : List ℤ). Runs g p size (enter_steps t p) (core row (thread_names k p) zs old) (core row (thread_names k p) zs new)) (sym locals_is) enter_runs
        )

    -- ---- what it comes to

    logged : (x : Board64) → x.lines ≡ [] → (with_log row p h.end x).lines ≡ log_line c.clock p h.end
    logged x none = log_is l.mine row c.clock p h.end x l.stands.same_clock l.logged none

    prints : log_line c.clock p h.end ≡ run_lines t.system (silent_items c.clock p h.logs)
    prints = sym (stretch_tells t.system t.seed p c.clock t.limit q)

    abbrev Comes : Board64 → Type 0
    Comes x = Enters g t (section_words k t) p b c ps n h (shared_of x) row values x.lines x.wakes

    kept : IsKept row values
    kept = locked_kept k t p c.clock h row values l

    -- no room for all
    came_cut : t.limit - n < used → Comes (set_with t p t.limit [] [] s.board)
    came_cut more =
        cut_short more (shared_with t c ps m n s p t.limit [] [] (omega arith)) (is_set t p (set_with t p t.limit [] [] s.board) (is_set_with t c ps m n s p t.limit [] []))
        kept refl refl

    abbrev lines : List Line
    lines = log_line c.clock p h.end

    -- all of them
    abbrev whole : Board64
    whole = set_with t p (n + used) lines [] s.board

    unfit_is : (end : StretchEnd) → is_unfit end ≡ true → end ≡ ends.Unfit
    unfit_is ends.Unfit e = refl
    unfit_is ends.Waits e = absurd (true≢false (sym e))
    unfit_is ends.Ended e = absurd (true≢false (sym e))
    unfit_is (ends.Logged v) e = absurd (true≢false (sym e))
    unfit_is ends.Spent e = absurd (true≢false (sym e))

    -- with a stop of their own
    came_unfit : used ≤ t.limit - n → (is_unfit h.end && nat_lt (n + used) t.limit) ≡ true → Comes (overflowed P p whole)
    came_unfit few e =
        let room : nat_lt (n + used) t.limit ≡ true = second (is_unfit h.end) (nat_lt (n + used) t.limit) e in
        let unfit : h.end ≡ ends.Unfit = unfit_is h.end (first (is_unfit h.end) (nat_lt (n + used) t.limit) e) in
        let left : used < t.limit - n = let r = ltb-true (n + used) t.limit room in omega (arith, r) in
        let x : Board64 = stopped 4 (Some p) whole in
        let same = wake_same P x in
        let now : register whole 64 ≡ c.clock = (stands_with t c ps m n s p (n + used) lines [] (omega (arith, left))).now in
        let halted : IsHalted (shared_of (wake P x)) = record {
          board = wake P x;
          is = refl;
          stopped = subst (λ (i : ℕ). 0 < i) (sym (ap (λ (z : Board64). z.stop) same)) (omega arith);
        } in
        does_not_fit left unfit halted kept
        (
        ap (λ (z : Board64). z.lines) same
        ∙ ap₂ (λ (ls : List Line) (z : Rational). ls ++ Ends 4 z (Some p) ∷ []) prints now
        )
        (λ r apart there. wakes_all P x (omega arith) r (omega (arith, there, s.stands.processes)) apart)
      where
        first : (x y : Bool) → (x && y) ≡ true → x ≡ true
        first true y z = refl
        first false y z = absurd (true≢false (sym z))

        second : (x y : Bool) → (x && y) ≡ true → y ≡ true
        second true y z = z
        second false y z = absurd (true≢false (sym z))

    -- and without
    came_whole : used ≤ t.limit - n → (is_unfit h.end && nat_lt (n + used) t.limit) ≡ false → Comes whole
    came_whole few e =
        taken_whole few (λ left unfit. true≢false (sym (both left unfit) ∙ e)) (shared_with t c ps m n s p (n + used) lines [] (omega (arith, few, less)))
        (is_set t p whole (is_set_with t c ps m n s p (n + used) lines [])) l prints refl
      where
        both : used < t.limit - n → h.end ≡ ends.Unfit → (is_unfit h.end && nat_lt (n + used) t.limit) ≡ true
        both left unfit =
            ap (λ (end : StretchEnd). is_unfit end && nat_lt (n + used) t.limit) unfit ∙ lt-ltb (n + used) t.limit (omega (arith, left))

    stop_by : used ≤ t.limit - n → (is : Bool) → (is_unfit h.end && nat_lt (n + used) t.limit) ≡ is → Comes (if is then overflowed P p whole else whole)
    stop_by few true e = came_unfit few e
    stop_by few false e = came_whole few e

    logged_is : with_log row p h.end (record begun { steps = begun.steps + used }) ≡ whole
    logged_is =
        log_same row p h.end (record begun { steps = begun.steps + used })
        ∙ ap₂ (λ (i : ℕ) (ls : List Line). set_with t p (i + used) ls [] s.board) steps_are (logged (record begun { steps = begun.steps + used }) refl)

    came_by : (is : Bool) → nat_lt (t.limit - n) used ≡ is → Comes (if is then set_with t p t.limit [] [] s.board else with_stop P p h.end whole)
    came_by true e = came_cut (ltb-true (t.limit - n) used e)
    came_by false e = stop_by (ltb-false (t.limit - n) used e) (is_unfit h.end && nat_lt (n + used) t.limit) refl

    new_is : new ≡ (if nat_lt (t.limit - n) used then set_with t p t.limit [] [] s.board else with_stop P p h.end whole)
    new_is =
        ap (λ (i : ℕ). if nat_lt (t.limit - i) used then set_with t p t.limit [] [] s.board else entered_all P row p used h.end begun) steps_are
        ∙ ap (λ (x : Board64). if nat_lt (t.limit - n) used then set_with t p t.limit [] [] s.board else with_stop P p h.end x) logged_is

    comes : Comes new
    comes = subst Comes (sym new_is) (came_by (nat_lt (t.limit - n) used) refl)

    met_stop : (is : Bool) → (if is then overflowed P p whole else whole).met ≡ s.board.met
    met_stop true = ap (λ (z : Board64). z.met) (wake_same P (stopped 4 (Some p) whole))
    met_stop false = refl

    met_by : (is : Bool) → (if is then set_with t p t.limit [] [] s.board else with_stop P p h.end whole).met ≡ s.board.met
    met_by true = refl
    met_by false = met_stop (is_unfit h.end && nat_lt (n + used) t.limit)

    met_is : new.met ≡ s.board.met
    met_is = ap (λ (z : Board64). z.met) new_is ∙ met_by (nat_lt (t.limit - n) used)

    met_same : (r : ℕ) → element (shared_of new) the_met r ≡ element m the_met r
    met_same r =
        ap (λ (xs : List ℕ). slice_index_or (map pos xs) r (pos 0)) met_is ∙ ap (λ (z : Shared). element z the_met r) (sym s.is)

    pub does_enter : DoesEnter g t (section_words k t) p b (enter_steps t p) c ps n h m row values
    does_enter = record {
      new_row = row;
      new_values = values;
      new_m = shared_of new;
      lines = new.lines;
      wakes = new.wakes;
      size = size;
      runs = entering;
      enters = comes;
      others = λ r row' values' apart x. met_again k t r c c ps ps m (shared_of new) row' values' refl refl refl (met_same r) x;
    }
