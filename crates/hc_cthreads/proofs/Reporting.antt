-- The report of a thread's steps, of three pieces under two tests: entering them, posting what the process shows now, and the pass of the core.
use Rattle.std.proofs.Common.{◌≡◌, ◌≢◌, ◌<◌, ◌≤◌, refl, sym, ap, ap₂, ◌∙◌, subst, ℕ, zero, suc, ◌+◌, ◌-◌, Bool, true, false, nat_lt, List, [], ◌∷◌, ◌++◌, length, length-append, length-set, slice_get, slice_set, ℤ, pos, Option, Some, None, Contains, append-nil, append_assoc, arith}
use Rattle.std.proofs.lemmas.Bool.{ltb-true, ltb-false, lt-ltb}
use Rattle.hc_rational.specs.Words.{Rational}
use Rattle.hc_term.specs.declared.task.Task.{Task}
use Rattle.hc_term.specs.declared.run.Stop.{Stop}
use Rattle.hc_term.specs.declared.run.Stop.TheVariants.{Limit, Overflow}
use Rattle.hc_term.specs.declared.run.Item.{Item}
use Rattle.hc_term.specs.declared.run.StretchEnd.{StretchEnd}
use Rattle.hc_term.specs.declared.run.StretchEnd.TheVariants as stretch_end
use Rattle.hc_term.specs.declared.post.Post.{Post}
use Rattle.hc_term.specs.declared.model.ProcessState.{ProcessState}
use Rattle.hc_term.specs.declared.model.Configuration.{Configuration}
use Rattle.hc_term.specs.Offers.{post}
use Rattle.hc_term.specs.Step.{replaced}
use Rattle.hc_term.specs.Event.{Progress, progress, silent_items}
use Rattle.hc_cast.specs.declared.expr.CExpr.{CExpr}
use Rattle.hc_cast.specs.declared.stmt.CStmt.{CStmt}
use Rattle.hc_cast.specs.declared.stmt.CStmt.TheVariants as a
use Rattle.hc_cast.specs.declared.program.CProgram.{CProgram}
use Rattle.hc_cmach.specs.State.{Shared}
use Rattle.hc_cmach.specs.Line.{Line}
use Rattle.hc_cmach.specs.Expression.{int_of}
use Rattle.hc_clogic.specs.Runs.{View, Runs, Is}
use Rattle.hc_clogic.proofs.Runs.{if_runs, runs_on, runs_none}
use Rattle.hc_cthreads.specs.Lines.{run_lines, end_line}
use Rattle.hc_cthreads.specs.Scenes.{Scene, called_by, calls, IsScene, stretch}
use Rattle.hc_cthreads.specs.Outcomes.{Outcome, still, pass, section_by, section_outcome, entered, behind}
use Rattle.hc_cthreads.specs.Serving.{stop_lines, scene_after}
use Rattle.hc_cthreads.specs.Bodies.{Pieces}
use Rattle.hc_term.proofs.EventRuns.{length-silent_items}
use Rattle.hc_term.proofs.Places.{get-set_other}
use Rattle.hc_cthreads.proofs.Texts.{run_lines-append}
use Rattle.hc_cthreads.proofs.Stretching.{cut_is_silent}
use Rattle.hc_cthreads.specs.Views.{owner_view}
use Rattle.hc_cthreads.specs.Pieces.{Halting, Reported, DoesReport, SkipsReport}
use Rattle.hc_cthreads.specs.Reports.{cut_short, does_not_fit, taken_whole, CoreWords, body_words, report_of, Enters, DoesEnter, DoesPost, Passing_to, DoesPass, ReportDoes}

module _ (g : CProgram) (t : Task) (w : CoreWords) (p : ℕ) (b : Pieces) where
  module _ (no_stop room : CExpr) (enter show call : List CStmt) (does : ReportDoes g t w p b no_stop room enter show call)
      (is_report : b.report ≡ report_of no_stop room enter show call) where
    abbrev report : List CStmt
    report = report_of no_stop room enter show call

    abbrev inner : List CStmt
    inner = a.If room show None ∷ call

    module _ (s : Scene) (m : Shared) (q : ProcessState) (row : List Rational) (values : List ℤ) (scene : IsScene t s) (stands : w.stands s.at s.posts (length s.items) m)
        (at_q : slice_get s.at.processes p ≡ Some q) (e : DoesEnter g t w p b enter s.at s.posts (length s.items) (stretch t p s.at.clock q) m row values) where
      abbrev c : Configuration
      c = s.at

      abbrev h : Progress
      h = stretch t p c.clock q

      abbrev left : ℕ
      left = t.limit - length s.items

      abbrev view : View
      view = owner_view b.names row values m [] []

      abbrev mid : View
      mid = owner_view b.names e.new_row e.new_values e.new_m e.lines e.wakes

      abbrev Does : Outcome → Type 0
      Does o = DoesReport g t (body_words w) p b s m row values o

      entering : Runs g p (1 + e.size) (a.If no_stop enter None ∷ []) view mid
      entering = if_runs g p e.size no_stop enter None view mid (pos 1) (does.goes c s.posts (length s.items) m row values [] [] stands) e.runs

      -- the stop is set already
      skipping : w.halted e.new_m → Runs g p (1 + e.size + 1) report view mid
      skipping halted =
          runs_on g p (1 + e.size) 1 (a.If no_stop enter None ∷ []) (a.If no_stop inner None ∷ []) view mid mid entering
          (if_runs g p 0 no_stop inner None mid mid (pos 0) (does.stops e.new_m e.new_row e.new_values e.lines e.wakes halted) (runs_none g p mid))

      -- ---- what there is no room for, and what doesn't fit

      abbrev used : ℕ
      used = length h.logs

      abbrev own_items : List Item
      own_items = silent_items c.clock p h.logs

      as_report : {n : ℕ} → {v u : View} → Runs g p n report v u → Runs g p n b.report v u
      as_report {n} {v} {u} r = subst (λ (ss : List CStmt). Runs g p n ss v u) (sym is_report) r

      abbrev unfit_outcome : Outcome
      unfit_outcome = behind own_items (still (replaced c p h.next) s.posts (Some (Overflow (Some p))))

      does_unfit : w.halted e.new_m → w.kept p e.new_row e.new_values → e.lines ≡ run_lines t.system own_items ++ end_line c.clock (Overflow (Some p)) ∷ [] →
          ((r : ℕ) → r ≢ p → r < length s.posts → Contains e.wakes r) → Does unfit_outcome
      does_unfit halted kept lines others = record {
        new_row = e.new_row;
        new_values = e.new_values;
        new_m = e.new_m;
        lines = e.lines;
        wakes = e.wakes;
        size = 1 + e.size + 1;
        runs = as_report (skipping halted);
        printed = lines ∙ ap (λ (is : List Item). run_lines t.system is ++ end_line c.clock (Overflow (Some p)) ∷ []) (sym (append-nil own_items));
        comes = record { halted = halted; kept = kept; wakes = others };
      }

      entered_unfit : (n : ℕ) → 0 < n → (end : StretchEnd) → end ≡ stretch_end.Unfit →
          still (replaced c p h.next) s.posts (Some (Overflow (Some p))) ≡ entered n t p c s.posts h end
      entered_unfit zero less end f = absurd (omega (arith, less))
      entered_unfit (suc n) less end f = ap (entered (suc n) t p c s.posts h) (sym f)

      abbrev new_posts : List Post
      new_posts = slice_set s.posts p (post c.clock h.next)

      entered_all : (n : ℕ) (end : StretchEnd) → (0 < n → end ≢ stretch_end.Unfit) → pass n t (replaced c p h.next) new_posts ≡ entered n t p c s.posts h end
      entered_all zero end f = refl
      entered_all (suc n) stretch_end.Unfit f = absurd (f (omega arith) refl)
      entered_all (suc n) end f = refl

      -- ---- the limit is reached: the pass sets the stop

      module _ (n : ℕ) (d : w.stands c s.posts n e.new_m) (set : w.set p e.new_m) (full : n ≡ t.limit) (no_wakes : e.wakes ≡ []) where
        none_left : t.limit - n ≡ 0
        none_left = omega (arith, full)

        limit_pass : DoesPass g t w p b call c s.posts n e.new_m e.new_row e.new_values (pass 0 t c s.posts)
        limit_pass =
            subst (λ (i : ℕ). DoesPass g t w p b call c s.posts n e.new_m e.new_row e.new_values (pass i t c s.posts)) none_left
            (does.passes c s.posts n e.new_m e.new_row e.new_values (omega (arith, full)) d set)

        full_room : nat_lt n t.limit ≡ false
        full_room = by (nat_lt n t.limit) refl
          where
            by : (x : Bool) → nat_lt n t.limit ≡ x → x ≡ false
            by true z = absurd (let less = ltb-true n t.limit z in omega (arith, less, full))
            by false z = refl

        limit_runs : (x : DoesPass g t w p b call c s.posts n e.new_m e.new_row e.new_values (pass 0 t c s.posts)) →
            Runs g p (1 + e.size + (1 + (1 + 0 + x.size))) report view (owner_view b.names e.new_row e.new_values x.new_m (e.lines ++ end_line c.clock Limit ∷ []) x.wakes)
        limit_runs x =
            let end = owner_view b.names e.new_row e.new_values x.new_m (e.lines ++ end_line c.clock Limit ∷ []) x.wakes in
            let woken : Runs g p x.size call mid end =
            subst (λ (ws : List ℕ). Runs g p x.size call (owner_view b.names e.new_row e.new_values e.new_m e.lines ws) end) (sym no_wakes) (x.runs e.lines) in
            let test : Is g p mid room (pos 0) =
            subst (λ (z : Bool). Is g p mid room (int_of z)) full_room (does.rooms c s.posts n e.new_m e.new_row e.new_values e.lines e.wakes d set) in
            let skip = if_runs g p 0 room show None mid mid (pos 0) test (runs_none g p mid) in
            let last = runs_on g p (1 + 0) x.size (a.If room show None ∷ []) call mid mid end skip woken in
            runs_on g p (1 + e.size) (1 + (1 + 0 + x.size)) (a.If no_stop enter None ∷ []) (a.If no_stop inner None ∷ []) view mid end entering
            (if_runs g p (1 + 0 + x.size) no_stop inner None mid end (pos 1) (does.goes c s.posts n e.new_m e.new_row e.new_values e.lines e.wakes d) last)

        does_limit : (o : Outcome) → o.stop ≡ Some Limit → o.at.clock ≡ c.clock → e.lines ≡ run_lines t.system o.items → w.kept p e.new_row e.new_values → Does o
        does_limit o stop clock lines kept =
            let x = limit_pass in
            let whole : Halting g t (body_words w) p b s x.new_m e.new_row e.new_values x.wakes =
            record { halted = x.comes.halted; kept = kept; wakes = x.comes.wakes_all } in
            record {
              new_row = e.new_row;
              new_values = e.new_values;
              new_m = x.new_m;
              lines = e.lines ++ end_line c.clock Limit ∷ [];
              wakes = x.wakes;
              size = 1 + e.size + (1 + (1 + 0 + x.size));
              runs = as_report (limit_runs x);
              printed =
                  ap (λ (ls : List Line). ls ++ end_line c.clock Limit ∷ []) lines
                  ∙ ap₂ (λ (k : Rational) (z : Option Stop). run_lines t.system o.items ++ stop_lines k z) (sym clock) (sym stop);
              comes =
                  subst (Reported g t (body_words w) p b s (scene_after s o) x.new_m m e.new_row e.new_values x.wakes) (sym stop) whole;
            }

      -- ---- there is room: the process posts, and the pass goes on

      module _ (n : ℕ) (d : w.stands c s.posts n e.new_m) (set : w.set p e.new_m) (less : n < t.limit) (locked : w.locked p c.clock h e.new_row e.new_values) (no_wakes : e.wakes ≡ [])
          (is_n : n ≡ length s.items + used) (few : used ≤ left) (lines : e.lines ≡ run_lines t.system own_items) where
        abbrev after_own : Configuration
        after_own = replaced c p h.next

        posted : DoesPost g t w p b show c s.posts n h e.new_m e.new_row e.new_values
        posted = does.posts c s.posts n q e.new_m e.new_row e.new_values less d set at_q locked

        passed : DoesPass g t w p b call after_own new_posts n posted.new_m posted.new_row posted.new_values (pass (t.limit - n) t after_own new_posts)
        passed = does.passes after_own new_posts n posted.new_m posted.new_row posted.new_values (omega (arith, less)) posted.stands posted.set

        abbrev rest : Outcome
        rest = pass (t.limit - n) t after_own new_posts

        free_room : nat_lt n t.limit ≡ true
        free_room = lt-ltb n t.limit less

        room_runs : (y : DoesPost g t w p b show c s.posts n h e.new_m e.new_row e.new_values) (x : DoesPass g t w p b call after_own new_posts n y.new_m y.new_row y.new_values rest) →
            Runs g p (1 + e.size + (1 + (1 + y.size + x.size))) report view
            (owner_view b.names y.new_row y.new_values x.new_m (e.lines ++ (run_lines t.system rest.items ++ stop_lines rest.at.clock rest.stop)) x.wakes)
        room_runs y x =
            let end = owner_view b.names y.new_row y.new_values x.new_m (e.lines ++ (run_lines t.system rest.items ++ stop_lines rest.at.clock rest.stop)) x.wakes in
            let shown = owner_view b.names y.new_row y.new_values y.new_m e.lines [] in
            let shows : Runs g p y.size show mid shown =
            subst (λ (ws : List ℕ). Runs g p y.size show (owner_view b.names e.new_row e.new_values e.new_m e.lines ws) shown) (sym no_wakes) (y.runs e.lines) in
            let test : Is g p mid room (pos 1) =
            subst (λ (z : Bool). Is g p mid room (int_of z)) free_room (does.rooms c s.posts n e.new_m e.new_row e.new_values e.lines e.wakes d set) in
            let post_it = if_runs g p y.size room show None mid shown (pos 1) test shows in
            let last = runs_on g p (1 + y.size) x.size (a.If room show None ∷ []) call mid shown end post_it (x.runs e.lines) in
            runs_on g p (1 + e.size) (1 + (1 + y.size + x.size)) (a.If no_stop enter None ∷ []) (a.If no_stop inner None ∷ []) view mid end entering
            (if_runs g p (1 + y.size + x.size) no_stop inner None mid end (pos 1) (does.goes c s.posts n e.new_m e.new_row e.new_values e.lines e.wakes d) last)

        steps_are : n + length rest.items ≡ length (s.items ++ (own_items ++ rest.items))
        steps_are =
            let long = length-append s.items (own_items ++ rest.items) in
            let both = length-append own_items rest.items in
            let own = length-silent_items c.clock p h.logs in
            omega (arith, long, both, own, is_n)

        same_called : (r : ℕ) → r ≢ p → calls s r ≡ false → called_by (slice_get new_posts r) ≡ false
        same_called r apart before = ap called_by (get-set_other s.posts p r (post c.clock h.next) (λ x. apart (sym x))) ∙ before

        abbrev whole_outcome : Outcome
        whole_outcome = behind own_items rest

        reported : (y : DoesPost g t w p b show c s.posts n h e.new_m e.new_row e.new_values) (x : DoesPass g t w p b call after_own new_posts n y.new_m y.new_row y.new_values rest)
            (stop : Option Stop) → Passing_to g t w p b after_own new_posts n y.new_m rest x.new_m x.wakes stop →
            Reported g t (body_words w) p b s (scene_after s whole_outcome) x.new_m m y.new_row y.new_values x.wakes stop
        reported y x None k = record {
          shows = subst (λ (i : ℕ). w.stands rest.at rest.posts i x.new_m) steps_are k.stands;
          arrived = k.met p y.new_row y.new_values y.met;
          wakes = λ r apart before so. k.wakes_called r apart (same_called r apart before) so;
          others = λ r row' values' apart a. k.met r row' values' (y.others r row' values' apart (e.others r row' values' apart a));
        }
        reported y x (Some stop) k = record {
          halted = k.halted;
          kept = does.met_kept after_own new_posts y.new_m y.new_row y.new_values y.met;
          wakes = λ r apart less'. k.wakes_all r apart (subst (λ (i : ℕ). r < i) (sym (length-set s.posts p (post c.clock h.next))) less');
        }

        does_whole : Does whole_outcome
        does_whole =
            let y = posted in
            let x = passed in
            let ends = stop_lines rest.at.clock rest.stop in
            record {
              new_row = y.new_row;
              new_values = y.new_values;
              new_m = x.new_m;
              lines = e.lines ++ (run_lines t.system rest.items ++ ends);
              wakes = x.wakes;
              size = 1 + e.size + (1 + (1 + y.size + x.size));
              runs = as_report (room_runs y x);
              printed =
                  ap (λ (ls : List Line). ls ++ (run_lines t.system rest.items ++ ends)) lines
                  ∙ sym (append_assoc (run_lines t.system own_items) (run_lines t.system rest.items) ends)
                  ∙ ap (λ (ls : List Line). ls ++ ends) (sym (run_lines-append t.system own_items rest.items));
              comes = reported y x rest.stop x.comes;
            }

      -- ---- by how the steps were entered

      same_left : (n : ℕ) → n ≡ length s.items + used → t.limit - n ≡ left - used
      same_left n is_n = omega (arith, is_n)

      whole_by : (n : ℕ) → w.stands c s.posts n e.new_m → w.set p e.new_m → w.locked p c.clock h e.new_row e.new_values → e.lines ≡ run_lines t.system own_items → e.wakes ≡ [] →
          n ≡ length s.items + used → used ≤ left → (x : Bool) → nat_lt n t.limit ≡ x →
          Does (behind own_items (pass (left - used) t (replaced c p h.next) new_posts))
      whole_by n d set locked lines no_wakes is_n few true z =
          subst (λ (i : ℕ). Does (behind own_items (pass i t (replaced c p h.next) new_posts))) (same_left n is_n)
          (does_whole n d set (ltb-true n t.limit z) locked no_wakes is_n few lines)
      whole_by n d set locked lines no_wakes is_n few false z =
          let more : t.limit ≤ n = ltb-false n t.limit z in
          let full : n ≡ t.limit = omega (arith, more, is_n, few, scene.room) in
          let none : 0 ≡ left - used = omega (arith, full, is_n) in
          subst (λ (i : ℕ). Does (behind own_items (pass i t (replaced c p h.next) new_posts))) none
          (
          does_limit n d set full no_wakes (behind own_items (pass 0 t (replaced c p h.next) new_posts)) refl refl
          (lines ∙ ap (run_lines t.system) (sym (append-nil own_items))) (does.locked_kept c.clock h e.new_row e.new_values locked)
          )

      limit_is : left + length s.items ≡ t.limit
      limit_is = omega (arith, scene.room)

      cut_lines : left < used → run_lines t.system (silent_items c.clock p (progress left t.seed p c.clock q).logs) ≡ []
      cut_lines less =
          cut_is_silent t.seed p c.clock t.system left (length s.items) q
          (subst (λ (i : ℕ). left < length (progress i t.seed p c.clock q).logs) (sym limit_is) less)

      no_steps_more : {A : Type 0} → left < used → used ≤ left → A
      no_steps_more less few = absurd (omega (arith, less, few))

      does_by : (x : Bool) → nat_lt left used ≡ x → Enters g t w p b c s.posts (length s.items) h e.new_m e.new_row e.new_values e.lines e.wakes →
          Does (section_by left t p c s.posts q h x)
      does_by true z (cut_short less d set kept lines wakes) =
          does_limit t.limit d set refl wakes (section_by left t p c s.posts q h true) refl refl (lines ∙ sym (cut_lines less)) kept
      does_by true z (does_not_fit less f halted kept lines wakes) = no_steps_more (ltb-true left used z) (omega (arith, less))
      does_by true z (taken_whole few f d set locked lines wakes) = no_steps_more (ltb-true left used z) few
      does_by false z (cut_short less d set kept lines wakes) = no_steps_more less (ltb-false left used z)
      does_by false z (does_not_fit less f halted kept lines wakes) =
          subst (λ (o : Outcome). Does (behind own_items o)) (entered_unfit (left - used) (omega (arith, less)) h.end f)
          (does_unfit halted kept lines wakes)
      does_by false z (taken_whole few f d set locked lines wakes) =
          let n = length s.items + used in
          subst (λ (o : Outcome). Does (behind own_items o)) (entered_all (left - used) h.end (λ some. f (omega (arith, some))))
          (whole_by n d set locked lines wakes refl few (nat_lt n t.limit) refl)

      reports_it : Does (section_outcome t p s q)
      reports_it = does_by (nat_lt left used) refl e.enters

    -- The report does what is asked of it.
    pub does_report : (s : Scene) (m : Shared) (q : ProcessState) (row : List Rational) (values : List ℤ) → IsScene t s → w.stands s.at s.posts (length s.items) m →
        slice_get s.at.processes p ≡ Some q → w.locked p s.at.clock (stretch t p s.at.clock q) row values →
        DoesReport g t (body_words w) p b s m row values (section_outcome t p s q)
    does_report s m q row values scene d at_q locked =
        reports_it s m q row values scene d at_q (does.enters s.at s.posts (length s.items) q m row values scene.room d at_q locked)

    -- Behind a stop it does nothing.
    pub skips_report : (m : Shared) (row : List Rational) (values : List ℤ) (clock : Rational) (h : Progress) → w.halted m → w.locked p clock h row values →
        SkipsReport g t (body_words w) p b m row values
    skips_report m row values clock h halted locked =
        let v = owner_view b.names row values m [] [] in
        let test = does.stops m row values [] [] halted in
        let twice =
        runs_on g p (1 + 0) (1 + 0) (a.If no_stop enter None ∷ []) (a.If no_stop inner None ∷ []) v v v
        (if_runs g p 0 no_stop enter None v v (pos 0) test (runs_none g p v)) (if_runs g p 0 no_stop inner None v v (pos 0) test (runs_none g p v)) in
        record {
          new_row = row;
          new_values = values;
          new_m = m;
          wakes = [];
          size = 1 + 0 + (1 + 0);
          runs = subst (λ (ss : List CStmt). Runs g p (1 + 0 + (1 + 0)) ss v v) (sym is_report) twice;
          halted = halted;
          kept = does.locked_kept clock h row values locked;
        }
