-- The pass of the core, in the words of the report: from what one pass does to posts.
use Rattle.std.specs.Prelude.{◌≡◌, ◌<◌, ◌≤◌, ◌+◌, ◌-◌, ◌==◌, ℕ, true, if◌then◌else◌, List, [], ◌++◌, length, count_by, slice_get, ℤ, Option, Some, None, is_some}
use Rattle.std.proofs.Common.{refl, sym, ap, ap₂, ◌∙◌, subst, arith, append-nil}
use Rattle.std.proofs.lemmas.Option.{slice_get_within}
use Rattle.hc_rational.specs.Words.{Rational}
use Rattle.hc_term.specs.declared.task.Task.{Task}
use Rattle.hc_term.specs.declared.run.Stop.{Stop}
use Rattle.hc_term.specs.declared.post.Post.{Post}
use Rattle.hc_term.specs.declared.model.Configuration.{Configuration}
use Rattle.hc_runs.specs.Fractions.{task_numbers, shows_fractions}
use Rattle.hc_code.specs.Stands.{AllAgree}
use Rattle.hc_cast.specs.declared.stmt.CStmt.{CStmt}
use Rattle.hc_cast.specs.declared.program.CProgram.{CProgram}
use Rattle.hc_cmach.specs.State.{Word, Shared}
use Rattle.hc_cmach.specs.Line.{Line}
use Rattle.hc_clogic.specs.Runs.{View, Runs}
use Rattle.hc_cthreads.specs.Bodies.{Pieces}
use Rattle.hc_cthreads.specs.Lines.{run_lines}
use Rattle.hc_cthreads.specs.Scenes.{called_by}
use Rattle.hc_cthreads.specs.Serving.{stop_lines}
use Rattle.hc_cthreads.specs.Outcomes.{Outcome, pass}
use Rattle.hc_cthreads.specs.Views.{owner_view}
use Rattle.hc_cthreads.specs.Reports.{CoreWords, Passes, Stopping, Passing_to, DoesPass}
use Rattle.hc_core_c.specs.Twin.{Board64}
use Rattle.hc_core_c.specs.Twin as twin
use Rattle.hc_core_c.specs.Owner.{core, shared_of, Sane}
use Rattle.hc_core_c.proofs.Pass.{call_pass, pass_cost}
use Rattle.hc_core_facts.specs.Standing.{flag, HasPlaces, Shows, StandsFor}
use Rattle.hc_core_facts.specs.OnePass.{Passed, passed, stop_code, end_lines, became_able, is_woken, IsPass, OnePass}
use Rattle.hc_csection.specs.Alike.{IsAlike, stop_number}
use Rattle.hc_csection.specs.Fates.{Fated}
use Rattle.hc_csection.specs.Words.{Codes, thread_names, processes, channels, IsShared, IsSet, section_words}
use Rattle.hc_csection.specs.Code.{HasSections, pass_call}
use Rattle.hc_csection.specs.Pieces.{pieces_of}
use Rattle.hc_csection.proofs.Setting.{board_stands, set_is}
use Rattle.hc_csection.proofs.Before.{runs_behind}
use Rattle.hc_csection.proofs.Sanity.{pass_sane}
use Rattle.hc_csection.proofs.Alike.{passes_alike}
use Rattle.hc_csection.proofs.Fates.{passes_fated}
use Rattle.hc_csection.proofs.Fractional.{shown_fractional}
use Rattle.hc_csection.proofs.Stopping.{pass_nobody, same_end}
use Rattle.hc_csection.proofs.Passing.{shared_behind}
use Rattle.hc_csection.proofs.Finding.{met_behind}
use Rattle.hc_csection.proofs.Woken.{became_called, woken_contains}

none_before : (a b c : ℕ) → b ≡ 0 → a ≡ b + c → a ≡ c
none_before a b c e h = omega (arith, e, h)

-- whatever was printed or woken
module _ (P C : ℕ) (b : Board64) (lines : List Line) (wakes : List ℕ) where
  abbrev with_lines : Board64
  with_lines = record b { lines = lines; wakes = wakes }

  shows_lines : (r : ℕ) (x : Post) → Shows b r x → Shows with_lines r x
  shows_lines r x h = record { phase = h.phase; bounded = h.bounded; bound = h.bound; moves = h.moves; moving = h.moving; offers = h.offers }

  places_lines : HasPlaces P C b → HasPlaces P C with_lines
  places_lines h = record {
    row = h.row;
    phase = h.phase;
    bounded = h.bounded;
    moves = h.moves;
    met = h.met;
    woke = h.woke;
    send = h.send;
    receive = h.receive;
    into = h.into;
  }

  stands_lines : (ps : List Post) (clock horizon : Rational) (steps limit : ℕ) → StandsFor P C b ps clock horizon steps limit → StandsFor P C with_lines ps clock horizon steps limit
  stands_lines ps clock horizon steps limit h = record {
    places = places_lines h.places;
    processes = h.processes;
    most = h.most;
    now = h.now;
    end = h.end;
    counted = h.counted;
    at_most = h.at_most;
    each = λ r x at. shows_lines r x (h.each r x at);
    send = h.send;
    receive = h.receive;
    keeps = h.keeps;
    paired = h.paired;
    into = h.into;
    in_time = h.in_time;
    in_limit = h.in_limit;
    small = h.small;
  }

module _ (g : CProgram) (k : Codes) (t : Task) (agree : (r : ℕ) → r < processes t → AllAgree (k.table r) (k.code r) (k.table r)) (numbers : task_numbers t ≡ true)
    (one : OnePass shows_fractions (processes t) (channels t)) (p : ℕ) (sections : HasSections g (processes t) (channels t)) (low : p < processes t) (stretching show take : List CStmt) where
  abbrev P : ℕ
  P = processes t

  abbrev C : ℕ
  C = channels t

  abbrev w : CoreWords
  w = section_words k t

  abbrev pieces : Pieces
  pieces = pieces_of k t p stretching show take

  module _ (c : Configuration) (ps : List Post) (n : ℕ) (m : Shared) (row : List Rational) (values : List ℤ) (few : n ≤ t.limit) (s : IsShared t c ps n m) (set : IsSet t p m) where
    abbrev old : Board64
    old = record s.board { lines = []; wakes = [] }

    abbrev new : Board64
    new = twin.pass P C old

    abbrev o : Outcome
    o = pass (t.limit - n) t c ps

    abbrev u : Passed
    u = passed (t.limit - n) C c.clock t.horizon ps

    done : IsPass P C p old new ps c.clock t.horizon n t.limit u
    done =
        (
        one p old ps c.clock t.horizon n t.limit
        (stands_lines P C s.board [] [] ps c.clock t.horizon n t.limit (board_stands t p c ps n m s set))
        (shown_fractional t c ps numbers s.reached s.shown) s.goes_on (set_is t p m s.board s.is set).self low
        ).0

    alike : IsAlike t c (t.limit - n) o u
    alike = passes_alike t (t.limit - n) s.reached.items c ps s.reached.leads s.shown

    fated : Fated t c ps o u.meetings
    fated = passes_fated t (t.limit - n) s.reached.items c ps s.reached.leads s.shown

    sane : Sane P old
    sane = record { sends = s.sane.sends; receives = s.sane.receives; into = s.sane.into; limit = s.sane.limit }

    -- ---- it runs

    printed : new.lines ≡ run_lines t.system o.items ++ stop_lines o.at.clock o.stop
    printed =
        done.lines
        ∙ ap₂ (λ (ls : List Line) (xs : List Line). ls ++ xs) (sym alike.lines)
        (
        ap₂ (λ (z : Rational) (x : Option ℕ). end_lines z x) (sym alike.clock) (sym alike.stop) ∙ same_end o.at.clock o.stop (pass_nobody (t.limit - n) t c ps)
        )

    abbrev names : List Word
    names = thread_names k p

    passing : Runs g p (pass_cost g p P C) pass_call (core row names values old) (core row names values new)
    passing = call_pass g p P C sections.has row names values old sane

    runs : (lines : List Line) →
        Runs g p (pass_cost g p P C) pass_call (owner_view names row values m lines [])
        (owner_view names row values (shared_of new) (lines ++ (run_lines t.system o.items ++ stop_lines o.at.clock o.stop)) new.wakes)
    runs lines =
        let end : List Line → View = λ (ls : List Line). owner_view names row values (shared_of new) ls new.wakes in
        let start : Shared → List Line → View = λ (x : Shared) (ls : List Line). owner_view names row values x ls [] in
        subst (λ (ls : List Line). Runs g p (pass_cost g p P C) pass_call (start m lines) (end (lines ++ ls))) printed
        (
        subst (λ (x : Shared). Runs g p (pass_cost g p P C) pass_call (start x lines) (end (lines ++ new.lines))) (sym s.is)
        (
        subst (λ (ls : List Line). Runs g p (pass_cost g p P C) pass_call (start (shared_of old) ls) (end (lines ++ new.lines))) (append-nil lines)
        (runs_behind lines g p (pass_cost g p P C) pass_call (core row names values old) (core row names values new) passing)
        )
        )

    -- ---- what it comes to

    count_is : (r : ℕ) → r < P → count_by (λ j. j == r) new.wakes ≡ flag (is_woken p ps u r)
    count_is r less = none_before (count_by (λ j. j == r) new.wakes) (count_by (λ j. j == r) old.wakes) (flag (is_woken p ps u r)) refl (done.wakes r less)

    many : length o.posts ≡ P
    many = ap (λ (xs : List Post). length xs) alike.posts ∙ done.stands.processes

    goes_on : o.stop ≡ None → Passes g t w p pieces c ps n m o (shared_of new) new.wakes
    goes_on none =
        let stop : u.stop ≡ None = sym alike.stop ∙ ap stop_number none in
        record {
          stands =
              shared_behind t p c ps n m s set few o u fated alike new done (done.stop ∙ ap stop_code stop) (pass_sane P C old sane);
          wakes_called =
              λ r apart before behind.
              (
              let less : r < P = called_within r behind in
              woken_contains p r ps u new.wakes apart (count_is r less)
              (
              ap (λ (x : Option ℕ). if is_some x then true else became_able ps u.posts r) stop
              ∙ ap (λ (xs : List Post). became_able ps xs r) (sym alike.posts)
              ∙ became_called c.clock o.at.clock c.processes o.at.processes ps o.posts r (let size = s.stands.processes in omega (arith, less, size)) (omega (arith, less, many)) s.shown fated.shown before behind
              )
              );
          met = λ r row' values' h. met_behind k t agree p c ps n m s o u fated new done r row' values' h;
        }
      where
        called_within : (r : ℕ) → called_by (slice_get o.posts r) ≡ true → r < P
        called_within r h = by (slice_get o.posts r) refl h
          where
            by : (x : Option Post) → slice_get o.posts r ≡ x → called_by x ≡ true → r < P
            by None e h = absurd cc
            by (Some x) e h = (let within = slice_get_within o.posts r x e in omega (arith, within, many))

    stops : (stop : Stop) → o.stop ≡ Some stop → Stopping g t w p pieces ps (shared_of new) new.wakes
    stops stop some =
        let is : u.stop ≡ stop_number (Some stop) = sym alike.stop ∙ ap stop_number some in
        let code : new.stop ≡ stop_code (stop_number (Some stop)) = done.stop ∙ ap stop_code is in
        record {
          halted = record { board = new; is = refl; stopped = omega (arith, code) };
          wakes_all =
              λ r apart less.
              woken_contains p r ps u new.wakes apart (count_is r (let size = s.stands.processes in omega (arith, less, size)))
              (ap (λ (x : Option ℕ). if is_some x then true else became_able ps u.posts r) is);
        }

    comes : (stop : Option Stop) → o.stop ≡ stop → Passing_to g t w p pieces c ps n m o (shared_of new) new.wakes stop
    comes None e = goes_on e
    comes (Some stop) e = stops stop e

    pub does_pass : DoesPass g t w p pieces pass_call c ps n m row values o
    does_pass = record {
      new_m = shared_of new;
      wakes = new.wakes;
      size = pass_cost g p P C;
      runs = runs;
      comes = comes o.stop refl;
    }
