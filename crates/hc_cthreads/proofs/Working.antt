-- Threads of such bodies work, where their pieces do what is asked of them.
use Rattle.std.proofs.Common.{◌≡◌, ◌<◌, inl, inr, refl, sym, ap, ap₂, ◌∙◌, subst, ℕ, zero, suc, ◌+◌, Bool, true, false, not, ◌&&◌, List, [], ◌∷◌, map, length, replicate, slice_get, ℤ, pos, Option, Some, None, Contains, arith}
use Rattle.hc_rational.specs.Words.{Rational, zero_ℚ}
use Rattle.hc_term.specs.declared.task.Task.{Task}
use Rattle.hc_term.specs.declared.run.Stop.{Stop}
use Rattle.hc_term.specs.declared.model.ProcessState.{ProcessState}
use Rattle.hc_term.specs.Event.{Progress}
use Rattle.hc_cast.specs.declared.program.CProgram.{CProgram}
use Rattle.std.proofs.lemmas.Option.{same_Some}
use Rattle.std.proofs.lemmas.List.{length-map}
use Rattle.hc_cast.specs.declared.program.CBody.{CBody}
use Rattle.hc_schedule.specs.declared.status.Status.TheVariants.{Ready}
use Rattle.hc_schedule.specs.Threads.{Thread, Does, Locks}
use Rattle.hc_cmach.specs.State.{Word, empty_row, opening_own}
use Rattle.hc_cast.specs.declared.stmt.CStmt.{CStmt}
use Rattle.hc_cmach.specs.Machine.{opening}
use Rattle.hc_term.specs.Step as run
use Rattle.hc_schedule.specs.Solo.{Solo, goes_to, solos}
use Rattle.hc_schedule.proofs.Alone.{alone_more}
use Rattle.hc_cmach.specs.State.{Own, Shared}
use Rattle.hc_cmach.specs.Line.{Line}
use Rattle.hc_cmach.specs.Turn.{c_code}
use Rattle.hc_clogic.specs.Runs.{Leads, Runs, inside}
use Rattle.hc_clogic.proofs.Runs.{leads_on}
use Rattle.hc_cthreads.specs.Scenes.{Scene, calls, ends, IsScene, stretch}
use Rattle.hc_cthreads.specs.Parts.{Heads, Returns, Way, Leaves, Sleeps, act_of, Section, Stays, Halts, Opens}
use Rattle.hc_cthreads.specs.Outcomes.{Outcome, section_outcome}
use Rattle.hc_cthreads.specs.Serving.{scene_after, GoesOn, ComesToStop, Ends, DoesSection, DoesWait, Works}
use Rattle.hc_cthreads.proofs.Showing.{process_there}
use Rattle.hc_cthreads.proofs.Coming.{section_comes}
use Rattle.hc_cthreads.specs.Bodies.{Pieces, goes_on_test, idle_test, waits_on, round, last, body_of, at_unlock, at_take, at_wait, at_idle, at_report, at_lock}
use Rattle.hc_cthreads.specs.Views.{standing, gone, own_view, owner_view, solo_at}
use Rattle.hc_cthreads.proofs.Walking.{takes_mutex, gives_mutex, falls_asleep, returns, is_gone, goes_on_true, goes_on_false, idle_true, idle_false, into_loop, past_loop, piece, solo_steps, own_steps, into_round}
use Rattle.hc_cthreads.specs.Pieces.{BodyWords, DoesReport, Tests, TakesOver, IsDone, PiecesDo, Reported, IsLocked, IsArrived, IsKept, words_of, IsBuilt}

module _ (g : CProgram) (t : Task) (w : BodyWords) (bs : ℕ → Pieces) (p : ℕ) (there : p < length t.system.processes) (works : PiecesDo g t w p (bs p)) where
  abbrev b : Pieces
  b = bs p

  -- ---- outside: from the head of the loop to the lock, and to the end

  pub heads : (clock : Rational) (q : ProcessState) (row : List Rational) (values : List ℤ) → w.head p clock q row values →
      Heads (c_code g) (words_of t w bs) p clock (stretch t p clock q) (standing b.names row values (body_of p b))
  heads clock q row values h =
      let s = works.stretches clock q row values h in
      let v = own_view b.names row values in
      let into = into_round g p b v (goes_on_true g p v s.goes_on) in
      let on = piece g p s.size b.stretch (at_lock p b) v (own_view b.names s.new_row s.new_values) s.runs in
      let lock : Own = standing b.names s.new_row s.new_values (at_lock p b) in
      let steps = own_steps g p (1 + s.size) (standing b.names row values (body_of p b)) lock (leads_on g p 1 s.size _ _ _ into on) in
      record {
        lock = lock;
        comes = record { steps = steps.0; comes = steps.1 };
        locks = record { there = there; row = s.new_row; values = s.new_values; locked = s.locked; is = refl };
      }

  returning : (row : List Rational) (values : List ℤ) → IsDone g t w p b row values → Returns (c_code g) p (standing b.names row values (body_of p b))
  returning row values h =
      let v = own_view b.names row values in
      let past = past_loop g p goes_on_test (round p b) last v (goes_on_false g p v h) in
      let steps = own_steps g p 1 (standing b.names row values (body_of p b)) (standing b.names row values last) past in
      record {
        gone = gone row;
        comes =
            record {
              steps = suc steps.0;
              comes =
                  alone_more (c_code g) p steps.0 (standing b.names row values (body_of p b)) (standing b.names row values last) (gone row) steps.1
                  (ap goes_to (returns g p b.names row values None));
            };
        over = is_gone g p row None;
      }

  -- ---- inside: from behind the report

  -- where a thread that owns the mutex comes from here
  record Comes_out (from : Solo Own Shared Line) (y : Solo Own Shared Line) (way : Way Own) : Type 0 where
    size : ℕ
    leads : Leads g p size (inside from) (inside y)
    asks : (c_code g).turn p y.own (Some y.shared) ≡ Does (act_of p way)

  module _ (m : Shared) (row : List Rational) (values : List ℤ) (lines : List Line) (wakes : List ℕ) where
    abbrev here : Solo Own Shared Line
    here = solo_at (standing b.names row values (at_idle p b)) m lines wakes

    -- it waits
    sleeps : {After : List Rational → List ℤ → Type 0} → (x : Tests g t w p b m row values true After) →
        Comes_out here (solo_at (standing b.names x.new_row x.new_values (waits_on p ∷ at_idle p b)) m lines wakes)
        (Sleeps (standing b.names x.new_row x.new_values (at_idle p b)))
    sleeps x =
        let v = owner_view b.names row values m lines wakes in
        let u = owner_view b.names x.new_row x.new_values m lines wakes in
        let test = piece g p x.size b.idle (at_wait p b) v u (x.runs lines wakes) in
        let into = into_loop g p idle_test (waits_on p ∷ b.idle) (at_take p b) u (idle_true g p u x.tells) in
        record {
          size = x.size + 1;
          leads = leads_on g p x.size 1 _ _ _ test into;
          asks = falls_asleep g p b.names x.new_row x.new_values (at_idle p b) (Some m) works.low;
        }

    -- it takes over, and gives the mutex up
    leaves : {After Then : List Rational → List ℤ → Type 0} → (x : Tests g t w p b m row values false After) (z : TakesOver g t w p b m x.new_row x.new_values Then) →
        Comes_out here (solo_at (standing b.names z.new_row z.new_values (at_unlock p b)) m lines wakes)
        (Leaves (standing b.names z.new_row z.new_values (body_of p b)))
    leaves x z =
        let v = owner_view b.names row values m lines wakes in
        let u = owner_view b.names x.new_row x.new_values m lines wakes in
        let o = owner_view b.names z.new_row z.new_values m lines wakes in
        let test = piece g p x.size b.idle (at_wait p b) v u (x.runs lines wakes) in
        let past = past_loop g p idle_test (waits_on p ∷ b.idle) (at_take p b) u (idle_false g p u x.tells) in
        let take = piece g p z.size b.take (at_unlock p b) u o (z.runs lines wakes) in
        record {
          size = x.size + (1 + z.size);
          leads = leads_on g p x.size (1 + z.size) _ _ _ test (leads_on g p 1 z.size _ _ _ past take);
          asks = gives_mutex g p b.names z.new_row z.new_values (body_of p b) (Some m);
        }

  -- ---- no stop stands

  -- what comes of a thread behind its report
  record Out (s : Scene) (m : Shared) (from : Solo Own Shared Line) : Type 0 where
    y : Solo Own Shared Line
    way : Way Own
    comes : Comes_out from y way
    shared : y.shared ≡ m
    lines : y.lines ≡ from.lines
    wakes : y.wakes ≡ from.wakes
    stays : Stays (c_code g) (words_of t w bs) t p s m way

  module _ (s : Scene) (m : Shared) (row : List Rational) (values : List ℤ) (lines : List Line) (wakes : List ℕ) (scene : IsScene t s) (shows : w.shows s m)
      (arrived : w.arrived p s m row values) where
    out_by : (called : Bool) → calls s p ≡ called → (over : Bool) → ends s p ≡ over → Tests g t w p b m row values (not called && not over) (w.arrived p s m) →
        Out s m (here m row values lines wakes)
    out_by true e over f x =
        let q = process_there s.at.clock s.at.processes s.posts p scene.shown e in
        let z = works.takes s m q.0 x.new_row x.new_values scene shows e q.1 x.after in
        record {
          y = solo_at (standing b.names z.new_row z.new_values (at_unlock p b)) m lines wakes;
          way = Leaves (standing b.names z.new_row z.new_values (body_of p b));
          comes = leaves m row values lines wakes x z;
          shared = refl;
          lines = refl;
          wakes = refl;
          stays = inl (e, (q.0, q.1, heads s.at.clock q.0 z.new_row z.new_values z.after));
        }
    out_by false e true f x =
        let z = works.takes_end s m x.new_row x.new_values scene shows f x.after in
        record {
          y = solo_at (standing b.names z.new_row z.new_values (at_unlock p b)) m lines wakes;
          way = Leaves (standing b.names z.new_row z.new_values (body_of p b));
          comes = leaves m row values lines wakes x z;
          shared = refl;
          lines = refl;
          wakes = refl;
          stays = inr (f, returning z.new_row z.new_values z.after);
        }
    out_by false e false f x = record {
      y = solo_at (standing b.names x.new_row x.new_values (waits_on p ∷ at_idle p b)) m lines wakes;
      way = Sleeps (standing b.names x.new_row x.new_values (at_idle p b));
      comes = sleeps m row values lines wakes x;
      shared = refl;
      lines = refl;
      wakes = refl;
      stays = (e, record { there = there; row = x.new_row; values = x.new_values; arrived = x.after; is = refl });
    }

    out : Out s m (here m row values lines wakes)
    out =
        out_by (calls s p) refl (ends s p) refl (works.tests s m row values scene shows arrived)

  -- ---- a stop stands

  record Last_out (m : Shared) (from : Solo Own Shared Line) : Type 0 where
    y : Solo Own Shared Line
    own : Own
    comes : Comes_out from y (Leaves own)
    shared : y.shared ≡ m
    lines : y.lines ≡ from.lines
    wakes : y.wakes ≡ from.wakes
    returns : Returns (c_code g) p own

  last_out : (m : Shared) (row : List Rational) (values : List ℤ) (lines : List Line) (wakes : List ℕ) → w.halted m → w.kept p row values →
      Last_out m (here m row values lines wakes)
  last_out m row values lines wakes halted kept =
      let x = works.tests_halted m row values halted kept in
      let z = works.takes_halted m x.new_row x.new_values halted x.after in
      record {
        y = solo_at (standing b.names z.new_row z.new_values (at_unlock p b)) m lines wakes;
        own = standing b.names z.new_row z.new_values (body_of p b);
        comes = leaves m row values lines wakes x z;
        shared = refl;
        lines = refl;
        wakes = refl;
        returns = returning z.new_row z.new_values z.after;
      }

  -- ---- sections

  section_to : (from y : Solo Own Shared Line) (way : Way Own) → Comes_out from y way → from.lines ≡ [] → from.wakes ≡ [] →
      Section (c_code g) p from.own from.shared y way
  section_to from y way h lines wakes =
      let s = solo_steps g p h.size from y h.leads in
      record {
        steps = s.steps;
        comes =
            ap₂ (λ (ls : List Line) (ws : List ℕ). solos (c_code g) p s.steps (solo_at from.own from.shared ls ws)) (sym lines) (sym wakes) ∙ s.comes;
        asks = h.asks;
      }

  -- the report, and what follows it
  after_report : (n : ℕ) (m : Shared) (row : List Rational) (values : List ℤ) (new_row : List Rational) (new_values : List ℤ) (new_m : Shared) (lines : List Line)
      (wakes : List ℕ) → Runs g p n b.report (owner_view b.names row values m [] []) (owner_view b.names new_row new_values new_m lines wakes) → (y : Solo Own Shared Line) (way : Way Own) →
      Comes_out (here new_m new_row new_values lines wakes) y way → Comes_out (solo_at (standing b.names row values (at_report p b)) m [] []) y way
  after_report n m row values new_row new_values new_m lines wakes runs y way h = record {
    size = n + h.size;
    leads =
        leads_on g p n h.size _ _ _
        (piece g p n b.report (at_idle p b) (owner_view b.names row values m [] []) (owner_view b.names new_row new_values new_m lines wakes) runs) h.leads;
    asks = h.asks;
  }

  module _ (s : Scene) (m : Shared) (q : ProcessState) (scene : IsScene t s) (shows : w.shows s m) (turn : calls s p ≡ true)
      (at_q : slice_get s.at.processes p ≡ Some q) where
    abbrev o : Outcome
    o = section_outcome t p s q

    abbrev Goes_section : List Rational → List ℤ → Type 0
    Goes_section row values = DoesSection (c_code g) (words_of t w bs) t p s m (standing b.names row values (at_lock p b)) o

    section_by : (row : List Rational) (values : List ℤ) (r : DoesReport g t w p b s m row values o) (stop : Option Stop) → o.stop ≡ stop →
        Reported g t w p b s (scene_after s o) r.new_m m r.new_row r.new_values r.wakes stop → Goes_section row values
    section_by row values r None e h =
        let new = scene_after s o in
        let on = (section_comes t p s q scene turn at_q).onward e in
        let x = out new r.new_m r.new_row r.new_values r.lines r.wakes on.scene h.shows h.arrived in
        let goes : GoesOn (c_code g) (words_of t w bs) t p s new m x.y x.way =
        record {
          shows = subst (w.shows new) (sym x.shared) h.shows;
          stays = subst (λ (z : Shared). Stays (c_code g) (words_of t w bs) t p new z x.way) (sym x.shared) x.stays;
          wakes = λ j apart no so. subst (λ (ks : List ℕ). Contains ks j) (sym x.wakes) (h.wakes j apart no so);
          waiting = λ j own apart a.
              subst (λ (z : Shared). IsArrived t w bs j new z own) (sym x.shared)
              (record { there = a.there; row = a.row; values = a.values; arrived = h.others j a.row a.values apart a.arrived; is = a.is });
        } in
        record {
          inside = standing b.names row values (at_report p b);
          asks = takes_mutex g p b.names row values (at_report p b) None;
          y = x.y;
          way = x.way;
          section =
              section_to (solo_at (standing b.names row values (at_report p b)) m [] []) x.y x.way
              (after_report r.size m row values r.new_row r.new_values r.new_m r.lines r.wakes r.runs x.y x.way x.comes) refl refl;
          lines = x.lines ∙ r.printed;
          ends = subst (Ends (c_code g) (words_of t w bs) t p s new m x.y x.way) (sym e) goes;
        }
    section_by row values r (Some stop) e h =
        let x = last_out r.new_m r.new_row r.new_values r.lines r.wakes h.halted h.kept in
        let stops : ComesToStop (c_code g) (words_of t w bs) p s x.y (Leaves x.own) =
        record {
          halted = subst w.halted (sym x.shared) h.halted;
          wakes = λ j apart less. subst (λ (ks : List ℕ). Contains ks j) (sym x.wakes) (h.wakes j apart less);
          own = x.own;
          leaves = refl;
          returns = x.returns;
        } in
        record {
          inside = standing b.names row values (at_report p b);
          asks = takes_mutex g p b.names row values (at_report p b) None;
          y = x.y;
          way = Leaves x.own;
          section =
              section_to (solo_at (standing b.names row values (at_report p b)) m [] []) x.y (Leaves x.own)
              (after_report r.size m row values r.new_row r.new_values r.new_m r.lines r.wakes r.runs x.y (Leaves x.own) x.comes) refl refl;
          lines = x.lines ∙ r.printed;
          ends = subst (Ends (c_code g) (words_of t w bs) t p s (scene_after s o) m x.y (Leaves x.own)) (sym e) stops;
        }

    pub does_section : (own : Own) → IsLocked t w bs p s.at.clock (stretch t p s.at.clock q) own → DoesSection (c_code g) (words_of t w bs) t p s m own o
    does_section own d =
        let r = works.reports s m q d.row d.values scene shows turn at_q d.locked in
        subst (λ (z : Own). DoesSection (c_code g) (words_of t w bs) t p s m z o) (sym d.is) (section_by d.row d.values r o.stop refl r.comes)

  -- from behind its wait
  pub does_wait : (s : Scene) (m : Shared) (own : Own) → IsScene t s → w.shows s m → IsArrived t w bs p s m own → DoesWait (c_code g) (words_of t w bs) t p s m own
  does_wait s m own scene shows d =
      let x = out s m d.row d.values [] [] scene shows d.arrived in
      subst (λ (z : Own). DoesWait (c_code g) (words_of t w bs) t p s m z) (sym d.is)
      (
      record {
        y = x.y;
        way = x.way;
        section = section_to (here m d.row d.values [] []) x.y x.way x.comes refl refl;
        silent = x.lines;
        shows = subst (w.shows s) (sym x.shared) shows;
        stays = subst (λ (z : Shared). Stays (c_code g) (words_of t w bs) t p s z x.way) (sym x.shared) x.stays;
        waiting = λ j own apart a. subst (λ (z : Shared). IsArrived t w bs j s z own) (sym x.shared) a;
      }
      )

  -- ---- behind a stop

  pub halts_wait : (m : Shared) (own : Own) → w.halted m → IsKept t w bs p own → Halts (c_code g) (words_of t w bs) p m own
  halts_wait m own halted d =
      let x = last_out m d.row d.values [] [] halted d.kept in
      subst (λ (z : Own). Halts (c_code g) (words_of t w bs) p m z) (sym d.is)
      (
      record {
        y = x.y;
        own = x.own;
        section = section_to (here m d.row d.values [] []) x.y (Leaves x.own) x.comes refl refl;
        silent = x.lines;
        halted = subst w.halted (sym x.shared) halted;
        returns = x.returns;
      }
      )

  pub halts_lock : (clock : Rational) (h : Progress) (m : Shared) (own : Own) → w.halted m → IsLocked t w bs p clock h own →
      (inside : Own) × ((c_code g).turn p own None ≡ Does (Locks inside)) × Halts (c_code g) (words_of t w bs) p m inside
  halts_lock clock h m own halted d =
      let r = works.skips clock h m d.row d.values halted d.locked in
      let x = last_out r.new_m r.new_row r.new_values [] r.wakes r.halted r.kept in (
        standing b.names d.row d.values (at_report p b),
        ap (λ (z : Own). (c_code g).turn p z None) d.is ∙ takes_mutex g p b.names d.row d.values (at_report p b) None,
        record {
          y = x.y;
          own = x.own;
          section =
              section_to (solo_at (standing b.names d.row d.values (at_report p b)) m [] []) x.y (Leaves x.own)
              (after_report r.size m d.row d.values r.new_row r.new_values r.new_m [] r.wakes r.runs x.y (Leaves x.own) x.comes) refl refl;
          silent = x.lines;
          halted = subst w.halted (sym x.shared) r.halted;
          returns = x.returns;
        },
      )

-- ---- the whole program

module _ (g : CProgram) (t : Task) (w : BodyWords) (bs : ℕ → Pieces) (built : IsBuilt g t w bs) where
  body_there : (bodies : List CBody) (p : ℕ) (th : Thread Own) → slice_get (map (λ body. record { own = opening_own body; status = Ready }) bodies) p ≡ Some th →
      (body : CBody) × (slice_get bodies p ≡ Some body) × (record { own = opening_own body; status = Ready } ≡ th)
  body_there [] p th e = absurd cc
  body_there (body ∷ bodies) zero th e = (body, refl, same_Some (record { own = opening_own body; status = Ready }) th e)
  body_there (body ∷ bodies) (suc p) th e = body_there bodies p th e

  below : {A : Type 0} → (xs : List A) (r : ℕ) (x : A) → slice_get xs r ≡ Some x → r < length xs
  below [] r x e = absurd cc
  below (y ∷ xs) zero x e = omega arith
  below (y ∷ xs) (suc r) x e = let less = below xs r x e in omega (arith, less)

  state_there : {A : Type 0} → (xs : List A) (p : ℕ) → p < length xs → (x : A) × (slice_get xs p ≡ Some x)
  state_there [] p less = absurd (omega (arith, less))
  state_there (x ∷ xs) zero less = (x, refl)
  state_there (x ∷ xs) (suc p) less = state_there xs p (omega (arith, less))

  -- a thread at the opening
  abbrev Begins : ℕ → Thread Own → Type 0
  Begins p th =
      (th.status ≡ Ready)
      × ((q : ProcessState) × (slice_get (run.opening t).processes p ≡ Some q) × Heads (c_code g) (words_of t w bs) p zero_ℚ (stretch t p zero_ℚ q) th.own)

  begins : (p : ℕ) (body : CBody) → slice_get g.threads p ≡ Some body → Begins p (record { own = opening_own body; status = Ready })
  begins p body at_body =
      let less : p < length t.system.processes = subst (λ (n : ℕ). p < n) built.number (below g.threads p body at_body) in
      let many : length (run.opening t).processes ≡ length t.system.processes = length-map t.system.processes run.opening_of in
      let q = state_there (run.opening t).processes p (subst (λ (n : ℕ). p < n) (sym many) less) in
      let own : List Word → List CStmt → Own = λ ns ss. standing ns empty_row (replicate (length ns) (pos 0)) ss in
      let same : own (bs p).names (body_of p (bs p)) ≡ opening_own body = ap₂ own (sym (built.names p body at_body)) (sym (built.statements p body at_body)) in (
        refl,
        (
          q.0,
          q.1,
          subst (Heads (c_code g) (words_of t w bs) p zero_ℚ (stretch t p zero_ℚ q.0)) same
              (heads g t w bs p less (built.pieces p less) zero_ℚ q.0 empty_row (replicate (length (bs p).names) (pos 0)) (built.head p q.0 q.1)),
        ),
      )

  opens : Opens (c_code g) (words_of t w bs) t (opening g)
  opens = record {
    free = refl;
    silent = refl;
    shows = built.shows;
    number = length-map g.threads (λ body. record { own = opening_own body; status = Ready }) ∙ built.number;
    heads = λ p th e. let b = body_there g.threads p th e in subst (Begins p) b.2 (begins p b.0 b.1);
  }

  -- Threads of such bodies work.
  pub body_works : Works (c_code g) (words_of t w bs) t (opening g)
  body_works = record {
    opens = opens;
    section = λ p s m q own scene shows turn at_q d. does_section g t w bs p d.there (built.pieces p d.there) s m q scene shows turn at_q own d;
    waking = λ p s m own scene shows d. does_wait g t w bs p d.there (built.pieces p d.there) s m own scene shows d;
    behind = λ p s m own d.
        record { there = d.there; row = d.row; values = d.values; kept = (built.pieces p d.there).keeps s m d.row d.values d.arrived; is = d.is };
    halted_lock = λ p clock h m own halted d. halts_lock g t w bs p d.there (built.pieces p d.there) clock h m own halted d;
    halted_wait = λ p m own halted d. halts_wait g t w bs p d.there (built.pieces p d.there) m own halted d;
  }
