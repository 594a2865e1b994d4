-- The report of a thread's steps does what is asked of it, from what posting and the pass do.
use Rattle.std.specs.Prelude.{◌≡◌, ◌<◌, ◌≤◌, ◌-◌, ℕ, Bool, true, false, nat_lt, List, length, slice_get, ℤ, Some}
use Rattle.std.proofs.Common.{refl, sym, ap, ap₂, subst, arith}
use Rattle.std.proofs.lemmas.Bool.{ltb-true}
use Rattle.hc_rational.specs.Words.{Rational}
use Rattle.hc_term.specs.declared.task.Task.{Task}
use Rattle.hc_term.specs.declared.post.Post.{Post}
use Rattle.hc_term.specs.declared.model.ProcessState.{ProcessState}
use Rattle.hc_term.specs.declared.model.Configuration.{Configuration}
use Rattle.hc_term.specs.Event.{Progress}
use Rattle.hc_cast.specs.declared.stmt.CStmt.{CStmt}
use Rattle.hc_cast.specs.declared.program.CProgram.{CProgram}
use Rattle.hc_cmach.specs.State.{Word, Shared}
use Rattle.hc_cmach.specs.Line.{Line}
use Rattle.hc_cmach.specs.Expression.{int_of}
use Rattle.hc_cmach.proofs.Worths.{forms}
use Rattle.hc_clogic.specs.Runs.{View, Is}
use Rattle.hc_cthreads.specs.Bodies.{Pieces}
use Rattle.hc_cthreads.specs.Scenes.{Scene, IsScene, stretch}
use Rattle.hc_cthreads.specs.Outcomes.{pass, section_outcome}
use Rattle.hc_cthreads.specs.Views.{owner_view}
use Rattle.hc_cthreads.specs.Pieces.{DoesReport, SkipsReport}
use Rattle.hc_cthreads.specs.Reports.{CoreWords, body_words, DoesPost, DoesPass, ReportDoes}
use Rattle.hc_cthreads.proofs.Reporting.{does_report, skips_report}
use Rattle.hc_core_c.specs.Twin.{Board64}
use Rattle.hc_core_c.specs.Owner.{core, shared_of, Has}
use Rattle.hc_csection.specs.Words.{Codes, thread_names, processes, channels, IsShared, IsSet, IsHalted, IsLocked, section_words}
use Rattle.hc_csection.specs.Code.{HasSections, no_stop, has_room, enter_steps, pass_call}
use Rattle.hc_csection.specs.Pieces.{pieces_of}
use Rattle.hc_csection.proofs.Keeping.{locked_kept, met_kept}
use Rattle.hc_csection.proofs.Setting.{set_is}
use Rattle.hc_csection.proofs.Enters.{does_enter}

module _ (g : CProgram) (p P C : ℕ) (has : Has g P C) where
  stop_test : (names : List Word) (row : List Rational) (values : List ℤ) (b : Board64) (is : Bool) → nat_lt b.stop 1 ≡ is → Is g p (core row names values b) no_stop (int_of is)
  stop_test names row values b is h rest target gives = (let arrays = has.declared in simp (forms, arrays, h))

  room_test : (names : List Word) (row : List Rational) (values : List ℤ) (b : Board64) (is : Bool) → nat_lt b.steps b.limit ≡ is → Is g p (core row names values b) has_room (int_of is)
  room_test names row values b is h rest target gives = (let arrays = has.declared in simp (forms, arrays, h))

  -- over a shared part that is that of a board
  abbrev seen : List Word → List Rational → List ℤ → Shared → List Line → List ℕ → View
  seen names row values m lines wakes = owner_view names row values m lines wakes

  pub stop_at : (names : List Word) (row : List Rational) (values : List ℤ) (m : Shared) (lines : List Line) (wakes : List ℕ) (b : Board64) → m ≡ shared_of b → (is : Bool) → nat_lt b.stop 1 ≡ is →
      Is g p (seen names row values m lines wakes) no_stop (int_of is)
  stop_at names row values m lines wakes b same is h =
      subst (λ (x : Shared). Is g p (seen names row values x lines wakes) no_stop (int_of is)) (sym same)
      (stop_test names row values (record b { lines = lines; wakes = wakes }) is h)

  pub room_at : (names : List Word) (row : List Rational) (values : List ℤ) (m : Shared) (lines : List Line) (wakes : List ℕ) (b : Board64) → m ≡ shared_of b → (is : Bool) → nat_lt b.steps b.limit ≡ is →
      Is g p (seen names row values m lines wakes) has_room (int_of is)
  room_at names row values m lines wakes b same is h =
      subst (λ (x : Shared). Is g p (seen names row values x lines wakes) has_room (int_of is)) (sym same)
      (room_test names row values (record b { lines = lines; wakes = wakes }) is h)

stands_stop : (n : ℕ) → n ≡ 0 → nat_lt n 1 ≡ true
stands_stop n h = ap (λ (i : ℕ). nat_lt i 1) h

halted_stop : (n : ℕ) → 0 < n → nat_lt n 1 ≡ false
halted_stop n h = by (nat_lt n 1) refl
  where
    by : (x : Bool) → nat_lt n 1 ≡ x → x ≡ false
    by true z = absurd (let less = ltb-true n 1 z in omega (arith, less, h))
    by false z = refl

module _ (g : CProgram) (k : Codes) (t : Task) (p : ℕ) (sections : HasSections g (processes t) (channels t)) (low : p < processes t) (stretching show take : List CStmt) where
  abbrev w : CoreWords
  w = section_words k t

  abbrev b : Pieces
  b = pieces_of k t p stretching show take

  -- posting does what is asked of it
  abbrev pub Posts : Type 0
  Posts =
      (c : Configuration) (ps : List Post) (n : ℕ) (q : ProcessState) (m : Shared) (row : List Rational) (values : List ℤ) → n < t.limit → IsShared t c ps n m → IsSet t p m →
      slice_get c.processes p ≡ Some q → IsLocked k t p c.clock (stretch t p c.clock q) row values →
      DoesPost g t w p b show c ps n (stretch t p c.clock q) m row values

  -- and so does the pass
  abbrev pub Passes : Type 0
  Passes =
      (c : Configuration) (ps : List Post) (n : ℕ) (m : Shared) (row : List Rational) (values : List ℤ) → n ≤ t.limit → IsShared t c ps n m → IsSet t p m →
      DoesPass g t w p b pass_call c ps n m row values (pass (t.limit - n) t c ps)

  room_is : (c : Configuration) (ps : List Post) (n : ℕ) (m : Shared) (s : IsShared t c ps n m) → IsSet t p m → nat_lt s.board.steps s.board.limit ≡ nat_lt n t.limit
  room_is c ps n m s set =
      ap₂ (λ (i : ℕ) (j : ℕ). nat_lt i j) s.stands.counted (set_is t p m s.board s.is set).limit

  pub report_does : Posts → Passes → ReportDoes g t w p b no_stop has_room (enter_steps t p) show pass_call
  report_does posts passes = record {
    goes =
        λ c ps n m row values lines wakes s.
        stop_at g p (processes t) (channels t) sections.has (thread_names k p) row values m lines wakes s.board s.is true (stands_stop s.board.stop s.goes_on);
    stops =
        λ m row values lines wakes h.
        stop_at g p (processes t) (channels t) sections.has (thread_names k p) row values m lines wakes h.board h.is false (halted_stop h.board.stop h.stopped);
    rooms =
        λ c ps n m row values lines wakes s set.
        room_at g p (processes t) (channels t) sections.has (thread_names k p) row values m lines wakes s.board s.is (nat_lt n t.limit) (room_is c ps n m s set);
    enters = λ c ps n q m row values less s at l. does_enter g k t p sections low stretching show take c ps n q m row values less s at l;
    posts = posts;
    passes = passes;
    locked_kept = λ clock h row values l. locked_kept k t p clock h row values l;
    met_kept = λ c ps m row values l. met_kept k t p c ps m row values l;
  }

  -- the fields `reports` and `skips` of a thread's pieces
  pub reports : Posts → Passes → (s : Scene) (m : Shared) (q : ProcessState) (row : List Rational) (values : List ℤ) → IsScene t s → IsShared t s.at s.posts (length s.items) m →
      slice_get s.at.processes p ≡ Some q → IsLocked k t p s.at.clock (stretch t p s.at.clock q) row values →
      DoesReport g t (body_words w) p b s m row values (section_outcome t p s q)
  reports posts passes s m q row values scene shared at locked =
      does_report g t w p b no_stop has_room (enter_steps t p) show pass_call (report_does posts passes) refl s m q row values scene shared at locked

  pub skips : Posts → Passes → (m : Shared) (row : List Rational) (values : List ℤ) (clock : Rational) (h : Progress) → IsHalted m → IsLocked k t p clock h row values →
      SkipsReport g t (body_words w) p b m row values
  skips posts passes m row values clock h halted locked =
      skips_report g t w p b no_stop has_room (enter_steps t p) show pass_call (report_does posts passes) refl m row values clock h halted locked
