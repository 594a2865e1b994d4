-- Taking over does what a thread's body asks of it.
use Rattle.std.proofs.Common.{◌≡◌, ◌≢◌, refl, sym, ap, ap₂, ◌∙◌, subst, ℕ, zero, suc, ◌+◌, ◌*◌, ◌%◌, ◌≤◌, ◌<◌, Bool, true, false, not, ◌&&◌, ◌||◌, if◌then◌else◌, nat_lt, List, [], ◌∷◌, length, take, slice_get, slice_set, slice_index_or, is_some, IsTrue, ℤ, pos, Option, Some, None, arith}
use Rattle.std.specs.Prelude.{unsigned_abs}
use Rattle.std.proofs.lemmas.Bool.{true≢false, and_parts, lt-ltb, not-true}
use Rattle.std.proofs.lemmas.Option.{same_Some}
use Rattle.std.proofs.lemmas.List.{get_or-set_other}
use Rattle.hc_rational.specs.Words.{Rational, zero_ℚ}
use Rattle.hc_term.specs.declared.stmt.Stmt.{Stmt}
use Rattle.hc_term.specs.declared.task.Task.{Task}
use Rattle.hc_term.specs.declared.post.Post.{Post}
use Rattle.hc_term.specs.declared.post.Phase.{Phase}
use Rattle.hc_term.specs.declared.post.Phase.TheVariants as phase
use Rattle.hc_term.specs.declared.post.Moving.{Moving}
use Rattle.hc_term.specs.declared.post.Offer.{Offer}
use Rattle.hc_term.specs.declared.model.Mark.{Mark}
use Rattle.hc_term.specs.declared.model.Mark.TheVariants.{Going, Arrived}
use Rattle.hc_term.specs.declared.model.ProcessState.{ProcessState}
use Rattle.hc_term.specs.declared.model.Configuration.{Configuration}
use Rattle.hc_term.specs.Process.{bound_at, bound, is_due}
use Rattle.hc_term.specs.Offers.{going_post, post_at, post}
use Rattle.hc_code.specs.Stands.{At}
use Rattle.hc_cast.specs.declared.program.CProgram.{CProgram}
use Rattle.hc_cast.specs.declared.stmt.CStmt.{CStmt}
use Rattle.hc_cmach.specs.State.{Word, Shared, width, place_of}
use Rattle.hc_cmach.specs.Line.{Line}
use Rattle.hc_clogic.specs.Runs.{View, Runs}
use Rattle.hc_cthreads.specs.Bodies.{Pieces, v_done, v_x}
use Rattle.hc_cthreads.specs.Scenes.{is_going, is_called, called_by, is_ended, is_over, over_by}
use Rattle.hc_cthreads.specs.Views.{owner_view}
use Rattle.hc_cthreads.specs.Pieces.{TakesOver, IsDone}
use Rattle.hc_cthreads.specs.Reports.{body_words}
use Rattle.hc_core_c.specs.Twin.{Board64, nth, register, variable, bound_of}
use Rattle.hc_core_c.proofs.Base.{element_is}
use Rattle.hc_core_c.specs.Owner.{shared_of, Has}
use Rattle.hc_core_facts.specs.Standing.{phase_code, BoundIs, Shows, ShowsOf, KeepsPost, StandsFor}
use Rattle.hc_cstep.specs.Locals.{Mine}
use Rattle.hc_csection.specs.Values.{values_of}
use Rattle.hc_cstep.specs.Stands as private
use Rattle.hc_csection.specs.Words.{Codes, thread_names, room, processes, channels, variables, LocalsAre, IsHead, IsShared, IsHalted, IsKept, IsMet, Finds, IsUnmet, HasMet, element, the_met, set_board, section_words}
use Rattle.hc_csection.proofs.Keeping.{sized}
use Rattle.hc_cpost.specs.Parts.{own_registers}
use Rattle.hc_cpost.specs.Taking.{taken, take_code}
use Rattle.hc_cpost.proofs.Staying.{told}
use Rattle.hc_cpost.proofs.Shared.{few_variables}
use Rattle.hc_cpost.proofs.Fetching as fetching
use Rattle.hc_cpost.proofs.Fetching.{take_cost, ends_run, unmet_run, met_run}
use Rattle.hc_cpost.proofs.Taken.{taken-length, taken_clock, taken_bound, taken_kept, taken_store}

-- ---- posts whose turn it is

module _ (clock : Rational) (x : Post) (keeps : KeepsPost clock x) where
  shows_of : (ph : Phase) → x.phase ≡ ph → ShowsOf ph x
  shows_of ph e = subst (λ (y : Phase). ShowsOf y x) e keeps.shows

  -- they offer nothing
  called_silent : is_called x ≡ true → x.offers ≡ []
  called_silent h = by_phase x.phase refl where
    by_due : (ph : Phase) → x.phase ≡ ph → is_going ph ≡ false → x.offers ≡ []
    by_due ph e f = keeps.silent (sym (ap (λ (z : Bool). z || is_due x.bound) (ap is_going e ∙ f)) ∙ h)

    by_phase : (ph : Phase) → x.phase ≡ ph → x.offers ≡ []
    by_phase phase.Going e = (shows_of phase.Going e).2
    by_phase phase.Arrived e = by_due phase.Arrived e refl
    by_phase phase.Ended e = by_due phase.Ended e refl

  -- and have not ended
  called_goes_on : is_called x ≡ true → nat_lt 1 (phase_code x.phase) ≡ false
  called_goes_on h = by_phase x.phase refl where
    by_phase : (ph : Phase) → x.phase ≡ ph → nat_lt 1 (phase_code ph) ≡ false
    by_phase phase.Going e = refl
    by_phase phase.Arrived e = refl
    by_phase phase.Ended e =
        let none : is_called x ≡ false = ap (λ (y : Phase). is_going y || is_due x.bound) e ∙ ap is_due (shows_of phase.Ended e).0 in
        absurd (true≢false (sym h ∙ none))

-- ---- a going process shows nothing

going_shows : (row : List Rational) (clock : Rational) (q : ProcessState) → q.mark ≡ Going → private.Shows false row (post clock q)
going_shows row clock q e = subst (λ (mark : Mark). private.Shows false row (post_at clock q.store (bound_at q.store mark q.todo) mark q.todo)) (sym e) (by_todo q.todo) where
  by_todo : (todo : List Stmt) → private.Shows false row (post_at clock q.store (bound_at q.store Going todo) Going todo)
  by_todo [] = record { bound = refl; rates = tt; sent = tt }
  by_todo (head ∷ rest) = record { bound = refl; rates = tt; sent = tt }

rates_kept : (row now : List Rational) → ((d : ℕ) → 128 ≤ d → slice_index_or now d zero_ℚ ≡ slice_index_or row d zero_ℚ) → (ms : List Moving) → private.RatesAre row ms → private.RatesAre now ms
rates_kept row now same [] h = tt
rates_kept row now same (m ∷ ms) h = (same (128 + m.variable) (omega arith) ∙ h.0, rates_kept row now same ms h.1)

pos_same : (a b : ℕ) → pos a ≡ pos b → a ≡ b
pos_same a b e = ap unsigned_abs e

module _ (g : CProgram) (k : Codes) (t : Task) (p : ℕ) (b : Pieces) (has : Has g (processes t) (channels t)) (there : p < processes t) (names : b.names ≡ thread_names k p)
    (takes : b.take ≡ take_code p (variables t p) (k.code p)) where
  abbrev n : ℕ
  n = variables t p

  abbrev ss : List CStmt
  ss = take_code p n (k.code p)

  few : n ≤ 64
  few = few_variables t p

  -- the values of the thread's locals
  abbrev locals_of : Mine → ℤ → ℤ → List ℤ → List ℤ
  locals_of mine done x more = values_of (record mine { others = done ∷ x ∷ more })

  -- a run of the code on any board that has this shared part is a run of the piece
  takes_over : (m : Shared) (row new_row : List Rational) (values new_values : List ℤ) (After : List Rational → List ℤ → Type 0) (size : ℕ) →
      ((lines : List Line) (wakes : List ℕ) → Runs g p size ss (owner_view (thread_names k p) row values m lines wakes) (owner_view (thread_names k p) new_row new_values m lines wakes)) →
      After new_row new_values → TakesOver g t (body_words (section_words k t)) p b m row values After
  takes_over m row new_row values new_values After size r after = record {
    new_row = new_row;
    new_values = new_values;
    size = size;
    runs =
        λ lines wakes.
        subst (λ (ns : List Word). Runs g p size b.take (owner_view ns row values m lines wakes) (owner_view ns new_row new_values m lines wakes)) (sym names)
        (
        subst (λ (code : List CStmt). Runs g p size code (owner_view (thread_names k p) row values m lines wakes) (owner_view (thread_names k p) new_row new_values m lines wakes)) (sym takes)
        (r lines wakes)
        );
    after = after;
  }

  is_done : (mine : Mine) (x : ℤ) (more : List ℤ) (row : List Rational) → IsDone g t (body_words (section_words k t)) p b row (locals_of mine (pos 1) x more)
  is_done mine x more row = subst (λ (ns : List Word). slice_index_or (locals_of mine (pos 1) x more) (place_of v_done ns) (pos 0) ≡ pos 1) (sym names) refl

  same_locals : (mine : Mine) (done x : ℤ) (more values : List ℤ) → LocalsAre mine done x more values → values ≡ locals_of mine done x more
  same_locals mine done x more values l = l.is ∙ ap (λ (o : List ℤ). values_of (record mine { others = o })) l.others

  -- ---- the end

  ends : (board : Board64) (m : Shared) (row : List Rational) (values : List ℤ) → m ≡ shared_of board → IsKept row values → (s f : Bool) → nat_lt 0 board.stop ≡ s → nat_lt 1 (nth board.phase p) ≡ f →
      (s || f) ≡ true → TakesOver g t (body_words (section_words k t)) p b m row values (IsDone g t (body_words (section_words k t)) p b)
  ends board m row values is l s f e h done =
      takes_over m row row values (locals_of l.mine (pos 1) l.x l.more) (IsDone g t (body_words (section_words k t)) p b) (1 + 1)
      (
      λ lines wakes.
      subst (λ (z : Shared). Runs g p (1 + 1) ss (owner_view (thread_names k p) row values z lines wakes) (owner_view (thread_names k p) row (locals_of l.mine (pos 1) l.x l.more) z lines wakes)) (sym is)
      (
      subst
      (
      λ (vs : List ℤ).
      Runs g p (1 + 1) ss (owner_view (thread_names k p) row vs (shared_of board) lines wakes) (owner_view (thread_names k p) row (locals_of l.mine (pos 1) l.x l.more) (shared_of board) lines wakes)
      )
      (sym (same_locals l.mine l.done l.x l.more values l.locals))
      (ends_run g (processes t) (channels t) has p there (k.scratch p) (told lines wakes board) n few (k.code p) row l.mine l.done l.x l.more s f e h done)
      )
      )
      (is_done l.mine l.x l.more row)

  -- behind a stop
  pub takes_halted : (m : Shared) (row : List Rational) (values : List ℤ) → IsHalted m → IsKept row values →
      TakesOver g t (body_words (section_words k t)) p b m row values (IsDone g t (body_words (section_words k t)) p b)
  takes_halted m row values h l =
      ends h.board m row values h.is l true (nat_lt 1 (nth h.board.phase p)) (lt-ltb 0 h.board.stop h.stopped) refl refl

  module _ (c : Configuration) (ps : List Post) (steps : ℕ) (m : Shared) (shared : IsShared t c ps steps m) where
    abbrev board : Board64
    board = shared.board

    -- ---- what the board says, whether horizon and limit are set or not

    other_register : (e : ℕ) → e ≢ 67 → register (set_board t board) e ≡ register board e
    other_register e apart = get_or-set_other board.row 67 e t.horizon zero_ℚ apart

    now_is : register board 64 ≡ c.clock
    now_is = sym (other_register 64 (λ e. omega (arith, e))) ∙ shared.stands.now

    goes_on : nat_lt 0 board.stop ≡ false
    goes_on = ap (λ (s : ℕ). nat_lt 0 s) shared.goes_on

    shows : (x : Post) → slice_get ps p ≡ Some x → Shows (set_board t board) p x
    shows x e = shared.stands.each p x e

    -- one that has ended is at its end
    pub takes_end : (row : List Rational) (values : List ℤ) → over_by (slice_get ps p) ≡ true → IsMet k t p c ps m row values →
        TakesOver g t (body_words (section_words k t)) p b m row values (IsDone g t (body_words (section_words k t)) p b)
    takes_end row values over met =
        ends board m row values shared.is (record { mine = met.mine; done = met.done; x = met.x; more = met.more; locals = met.locals }) false true goes_on
        (ap (λ (z : ℕ). nat_lt 1 z) (shows met.shows met.at_post).phase ∙ ended met.shows (ap over_by (sym met.at_post) ∙ over)) refl
      where
        ended : (x : Post) → is_over x ≡ true → nat_lt 1 (phase_code x.phase) ≡ true
        ended x h = by_phase x.phase (and_parts (is_ended x.phase) (not (is_called x)) h).0 where
          by_phase : (ph : Phase) → is_ended ph ≡ true → nat_lt 1 (phase_code ph) ≡ true
          by_phase phase.Going e = absurd (true≢false (sym e))
          by_phase phase.Arrived e = absurd (true≢false (sym e))
          by_phase phase.Ended e = refl

    -- ---- one whose turn it is

    module _ (q : ProcessState) (row : List Rational) (values : List ℤ) (x : Post) (at_post : slice_get ps p ≡ Some x) (at_q : slice_get c.processes p ≡ Some q) (called : is_called x ≡ true)
        (mine : Mine) (done y : ℤ) (more : List ℤ) (locals : LocalsAre mine done y more values) (spare : length more ≡ length (k.scratch p)) (wide : length row ≡ width)
        (choices : mine.choices ≡ q.choices % 64) where
      abbrev now : List Rational
      now = taken p n board.row row

      keeps : KeepsPost c.clock x
      keeps = shared.stands.keeps p x at_post

      phase_on : nat_lt 1 (nth board.phase p) ≡ false
      phase_on = ap (λ (z : ℕ). nat_lt 1 z) (shows x at_post).phase ∙ called_goes_on c.clock x keeps called

      long : length q.store ≡ n
      long = sized t c p q shared.reached at_q

      store_is : take n now ≡ q.store
      store_is = taken_store p board.row n few row wide q.store long (λ i less. shared.variables_are p i q at_q less)

      clock_is : private.register now 64 ≡ c.clock
      clock_is = taken_clock p board.row n few row wide ∙ now_is

      -- row and locals stand for it, where place, mark and what is shown do
      heads : (w : Mine) → w.choices ≡ mine.choices → At (k.table p) w.place q.todo → w.arrived ≡ private.has_arrived q.mark → private.Shows w.bounded now (post c.clock q) →
          IsHead k t p c.clock q now (locals_of w (pos 0) y more)
      heads w same place mark shown = record {
        mine = record w { others = pos 0 ∷ y ∷ more };
        x = y;
        more = more;
        locals = record { is = refl; others = refl };
        stands = record {
          at_place = place;
          wide = taken-length p board.row n few row wide ∙ wide;
          spare = (let h = spare in omega (arith, h));
          same_store = store_is;
          same_clock = clock_is;
          same_choices = same ∙ choices;
          same_mark = mark;
          shows = shown;
        };
      }

      -- and the code leads there
      leads_to : (w : Mine) →
          ((lines : List Line) (wakes : List ℕ) →
          Runs g p (take_cost n) ss (fetching.at g (processes t) (channels t) has p there (k.scratch p) (told lines wakes board) row mine done y more)
          (fetching.at g (processes t) (channels t) has p there (k.scratch p) (told lines wakes board) now w (pos 0) y more)) →
          IsHead k t p c.clock q now (locals_of w (pos 0) y more) → TakesOver g t (body_words (section_words k t)) p b m row values (IsHead k t p c.clock q)
      leads_to w r h =
          takes_over m row now values (locals_of w (pos 0) y more) (IsHead k t p c.clock q) (take_cost n)
          (
          λ lines wakes.
          subst (λ (z : Shared). Runs g p (take_cost n) ss (owner_view (thread_names k p) row values z lines wakes) (owner_view (thread_names k p) now (locals_of w (pos 0) y more) z lines wakes)) (sym shared.is)
          (
          subst
          (
          λ (vs : List ℤ).
          Runs g p (take_cost n) ss (owner_view (thread_names k p) row vs (shared_of board) lines wakes) (owner_view (thread_names k p) now (locals_of w (pos 0) y more) (shared_of board) lines wakes)
          )
          (sym (same_locals mine done y more values locals)) (r lines wakes)
          )
          )
          h

      -- ---- it hasn't met

      bound_now : (o : Option Rational) → mine.bounded ≡ is_some o → BoundIs (register (set_board t board) (bound_of p)) o → private.BoundIs mine.bounded now o
      bound_now None e h = e
      bound_now (Some v) e h = (
        e,
        taken_bound p board.row n few row wide ∙ sym (other_register (bound_of p) (λ s. omega (arith, s))) ∙ h,
      )

      unmet : nth board.met p ≡ 0 → IsUnmet (k.table p) c.clock mine row q x → TakesOver g t (body_words (section_words k t)) p b m row values (IsHead k t p c.clock q)
      unmet none u =
          leads_to mine
          (λ lines wakes. unmet_run g (processes t) (channels t) has p there (k.scratch p) (told lines wakes board) n few (k.code p) row mine done y more goes_on phase_on none)
          (
          heads mine refl u.at_place u.same_mark
          (
          subst (λ (z : Post). private.Shows mine.bounded now z) u.shown
          (
          record {
            bound = bound_now x.bound u.bounded (shows x at_post).bound;
            rates = rates_kept row now (taken_kept p board.row n few row wide) x.moving u.rates;
            sent = subst (λ (os : List Offer). private.SentAre now 0 os) (sym (called_silent c.clock x keeps called)) tt;
          }
          )
          )
          )

      -- ---- it has met

      has_met : (j : ℕ) → nth board.met p ≡ suc j → HasMet (k.table p) (k.code p) mine j q x → TakesOver g t (body_words (section_words k t)) p b m row values (IsHead k t p c.clock q)
      has_met j met h =
          let w : Mine = record mine { place = h.way.next; arrived = false; bounded = false } in
          leads_to w
          (
          λ lines wakes.
          met_run g (processes t) (channels t) has p there (k.scratch p) (told lines wakes board) n few (k.code p) row mine done y more h.what j h.way goes_on phase_on
          (let next : suc j ≡ 1 + j = omega arith in met ∙ next) h.at_place h.at_way
          )
          (heads w refl h.follows (sym (ap private.has_arrived h.goes)) (going_shows now c.clock q h.goes))

      finds_it : (number : ℕ) → nth board.met p ≡ number → Finds (k.table p) (k.code p) c.clock mine row number q x →
          TakesOver g t (body_words (section_words k t)) p b m row values (IsHead k t p c.clock q)
      finds_it zero e f = unmet e f
      finds_it (suc j) e f = has_met j e f

    met_number : (row : List Rational) (values : List ℤ) (met : IsMet k t p c ps m row values) → nth board.met p ≡ met.number
    met_number row values met =
        pos_same (nth board.met p) met.number (sym (element_is board.met p) ∙ ap (λ (z : Shared). element z the_met p) (sym shared.is) ∙ met.met)

    -- Taking over, its row and locals stand for what has become of it.
    pub takes_called : (q : ProcessState) (row : List Rational) (values : List ℤ) → called_by (slice_get ps p) ≡ true → slice_get c.processes p ≡ Some q → IsMet k t p c ps m row values →
        TakesOver g t (body_words (section_words k t)) p b m row values (IsHead k t p c.clock q)
    takes_called q row values called at_q met =
        let same : met.q ≡ q = same_Some met.q q (sym met.at_process ∙ at_q) in
        let turn : is_called met.shows ≡ true = ap called_by (sym met.at_post) ∙ called in
        subst (λ (z : ProcessState). TakesOver g t (body_words (section_words k t)) p b m row values (IsHead k t p c.clock z)) same
        (
        finds_it met.q row values met.shows met.at_post met.at_process turn met.mine met.done met.x met.more met.locals met.spare met.wide met.choices met.number
        (met_number row values met) met.finds
        )
