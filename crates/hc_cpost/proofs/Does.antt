-- Posting does what the report of a thread asks of it.
use Rattle.std.proofs.Common.{◌≡◌, ◌≢◌, refl, sym, ap, ap₂, ◌∙◌, subst, ℕ, zero, suc, ◌+◌, ◌*◌, ◌≤◌, ◌<◌, Bool, true, false, not, ◌&&◌, if◌then◌else◌, nat_le, List, [], ◌∷◌, length, slice_get, slice_set, slice_index_or, is_some, IsTrue, ℤ, pos, Option, Some, None, arith, inl, inr}
use Rattle.std.specs.List.{list_all, list_any}
use Rattle.std.proofs.lemmas.Bool.{true≢false, and_parts, leb-true}
use Rattle.std.proofs.lemmas.Option.{same_Some}
use Rattle.std.proofs.lemmas.List.{length-set, get_or-set_other}
use Rattle.hc_limits.specs.Limits.{most_variables}
use Rattle.hc_rational.specs.Words.{Rational, zero_ℚ, fits}
use Rattle.hc_term.specs.declared.stmt.Io.{Io}
use Rattle.hc_term.specs.declared.stmt.Rate.{Rate}
use Rattle.hc_term.specs.declared.stmt.Stmt.{Stmt}
use Rattle.hc_term.specs.declared.system.Process.{Process}
use Rattle.hc_term.specs.declared.task.Task.{Task}
use Rattle.hc_term.specs.declared.post.Post.{Post}
use Rattle.hc_term.specs.declared.model.ProcessState.{ProcessState}
use Rattle.hc_term.specs.declared.model.Configuration.{Configuration}
use Rattle.hc_term.specs.Motion.{Rates}
use Rattle.hc_term.specs.Offers.{post}
use Rattle.hc_term.specs.Step.{replaced}
use Rattle.hc_term.specs.Event.{Progress}
use Rattle.hc_term.specs.Rules.{is_stmt, is_process, is_on}
use Rattle.hc_term.specs.Together.{ArePaired}
use Rattle.hc_term.proofs.Places.{get-set_same, get-set_other}
use Rattle.hc_runs.specs.Fractions.{task_numbers, has_fractions, is_mark_fraction, shows_fractions}
use Rattle.hc_runs.proofs.Parts.{IsPart, part_ruled, AreParts, reached_keeps}
use Rattle.hc_runs.proofs.RunsFit.{runs_keep_fractions}
use Rattle.hc_code.specs.declared.code.Instr.{Instr}
use Rattle.hc_code.specs.Kept.{is_instr}
use Rattle.hc_code.specs.Stands.{Table, Agrees, AllAgree}
use Rattle.hc_cast.specs.declared.stmt.CStmt.{CStmt}
use Rattle.hc_cast.specs.declared.program.CProgram.{CProgram}
use Rattle.hc_cmach.specs.State.{Word, Shared}
use Rattle.hc_cmach.specs.Line.{Line}
use Rattle.hc_clogic.specs.Runs.{View, Runs}
use Rattle.hc_cthreads.specs.Bodies.{Pieces, v_done, v_x}
use Rattle.hc_cthreads.specs.Scenes.{stretch, AllHaveShown}
use Rattle.hc_cthreads.specs.Views.{owner_view}
use Rattle.hc_cthreads.specs.Reports.{OthersKeep, DoesPost}
use Rattle.hc_core_c.specs.Twin.{Board64, nth, register, go}
use Rattle.hc_core_c.proofs.Base.{element_is}
use Rattle.hc_core_c.specs.Owner.{shared_of, core, Has}
use Rattle.hc_core_facts.specs.Standing.{KeepsPost, StandsFor}
use Rattle.hc_cstep.specs.Locals.{Mine}
use Rattle.hc_csection.specs.Values.{values_of}
use Rattle.hc_cstep.specs.Stands as private
use Rattle.hc_csection.specs.Words.{Codes, thread_names, room, processes, channels, variables, variables_by, LocalsAre, IsLocked, IsReached, IsShared, IsSet, IsMet, IsUnmet, element, the_met, section_words, received_in}
use Rattle.hc_csection.proofs.Keeping.{met_again, reached_own, sized}
use Rattle.hc_csection.proofs.Setting.{IsSetBoard, set_is, is_set, BoardStands, board_stands, stands_set}
use Rattle.hc_cpost.specs.Parts.{rates_at, ios_at, phase_at}
use Rattle.hc_cpost.specs.Posting.{put_up, posted, is_over}
use Rattle.hc_cpost.specs.Written.{post_code}
use Rattle.hc_cpost.proofs.Paired.{part_from_zero, shown_are_paired}
use Rattle.hc_cpost.proofs.Keeps.{keeps_post}
use Rattle.hc_cpost.proofs.Shares.{not_core}
use Rattle.hc_cpost.proofs.Gone.{Gone, gone}
use Rattle.hc_cpost.proofs.Putting.{Puts}
use Rattle.hc_cpost.proofs.Showing.{register_kept}
use Rattle.hc_cpost.proofs.Posted.{posted_stands}
use Rattle.hc_cpost.proofs.Agreeing.{puts_at}
use Rattle.hc_cpost.proofs.Posting.{post_cost, after_case, post_runs}
use Rattle.hc_cpost.proofs.Staying.{told, posted_told}
use Rattle.hc_cpost.proofs.Directed.{variable_in, own_variable}
use Rattle.hc_cpost.proofs.Shared.{all_at, few_variables, shown_again, post_there, sane_up, variables_up, intos_up}
use Rattle.hc_cpost.proofs.Unbounded.{instr_at, meets_unbounded}

-- the code of process p stands for its statements, by its table, and keeps the rules
pub record CodeIs (k : Codes) (t : Task) (p : ℕ) : Type 0 where
  pub agree : AllAgree (k.table p) (k.code p) (k.table p)
  pub ruled : list_all (is_instr (channels t) (variables t p)) (k.code p) ≡ true

-- ---- what is reached keeps what the board asks of a post

part_at : (channels : ℕ) (bodies : List Process) (qs : List ProcessState) (p : ℕ) (q : ProcessState) → AreParts channels bodies qs → slice_get qs p ≡ Some q →
    (b : Process) × IsPart channels b q
part_at channels bodies [] p q h e = absurd (none p e)
  where
    none : (p : ℕ) → slice_get [] p ≡ Some q → ⊥
    none p f = cc
part_at channels [] (y ∷ ys) p q h e = absurd h
part_at channels (b ∷ bodies) (y ∷ ys) zero q h e = (b, subst (λ (z : ProcessState). IsPart channels b z) (same_Some y q e) h.0)
part_at channels (b ∷ bodies) (y ∷ ys) (suc p) q h e = part_at channels bodies ys p q h.1 e

pub reached_keeps_post : (t : Task) (c : Configuration) (p : ℕ) (q : ProcessState) → task_numbers t ≡ true → IsReached t c → slice_get c.processes p ≡ Some q → KeepsPost c.clock (post c.clock q)
reached_keeps_post t c p q numbers reached e =
    let n = length t.system.channels in
    let parts = reached_keeps t reached.items c reached.leads in
    let part = part_at n t.system.processes c.processes p q parts e in
    let vars = length part.0.variables in
    let few = leb-true vars most_variables (and_parts (nat_le vars most_variables) (nat_le 1 (length part.0.body))
    (and_parts (nat_le vars most_variables && nat_le 1 (length part.0.body)) (list_all (is_stmt n vars) part.0.body) part.1.body).0).0 in
    let fractions = runs_keep_fractions t reached.items c numbers reached.leads in
    let mine = all_at (has_fractions c.clock) c.processes p q fractions.1 e in
    let shown = (and_parts (list_all fits q.store && is_mark_fraction q.mark) (shows_fractions (post c.clock q)) mine).1 in
    keeps_post n vars few c.clock fractions.0 q (part_ruled n part.0 q part.1) (part_from_zero n c.clock part.0 q part.1) shown

nth_cleared : (xs : List ℕ) (p : ℕ) → nth (slice_set xs p 0) p ≡ 0
nth_cleared [] p = refl
nth_cleared (y ∷ ys) zero = refl
nth_cleared (y ∷ ys) (suc p) = nth_cleared ys p

module _ (g : CProgram) (k : Codes) (t : Task) (p : ℕ) (b : Pieces) (has : Has g (processes t) (channels t)) (there : p < processes t) (names : b.names ≡ thread_names k p) (code : CodeIs k t p)
    (numbers : task_numbers t ≡ true) (c : Configuration) (ps : List Post) (steps : ℕ) (q : ProcessState) (m : Shared) (row : List Rational) (values : List ℤ)
    (shared : IsShared t c ps steps m) (set : IsSet t p m) (at_q : slice_get c.processes p ≡ Some q) (locked : IsLocked k t p c.clock (stretch t p c.clock q) row values) where
  abbrev h : Progress
  h = stretch t p c.clock q

  abbrev mine : Mine
  mine = locked.mine

  abbrev n : ℕ
  n = variables t p

  abbrev table : Table
  table = k.table p

  abbrev x : Post
  x = post c.clock h.next

  abbrev new_ps : List Post
  new_ps = slice_set ps p x

  abbrev new_c : Configuration
  new_c = replaced c p h.next

  few : n ≤ 64
  few = few_variables t p

  low : p < 64
  low = (let most = shared.stands.most in omega (arith, there, most))

  stands : private.StandsFor table n (room k p) c.clock (record mine { row = row }) h.next
  stands = locked.stands

  at_i : (i : Instr) × (slice_get (k.code p) mine.place ≡ Some i) × Agrees table i h.next.todo
  at_i = instr_at table table (k.code p) mine.place h.next.todo code.agree stands.at_place

  abbrev i : Instr
  i = at_i.0

  ruled : IsTrue (is_instr (channels t) n i)
  ruled = all_at (is_instr (channels t) n) (k.code p) mine.place i code.ruled at_i.1

  abbrev over : Bool
  over = is_over mine.bounded row

  abbrev rates : List Rate
  rates = if mine.arrived then rates_at i else []

  abbrev ios : List Io
  ios = if mine.arrived && not over then ios_at i else []

  puts : (r : Rates) × Puts (channels t) n row mine.bounded (phase_at mine.arrived i) rates ios h.next.store r x
  puts = puts_at (channels t) n few table (room k p) c.clock (record mine { row = row }) h.next stands i at_i.2 ruled

  -- ---- boards

  abbrev board : Board64
  board = shared.board

  board_is : BoardStands t c ps steps board
  board_is = board_stands t p c ps steps m shared set

  abbrev up : Board64
  up = posted (channels t) p n row mine.bounded over mine.arrived i board

  moves_room : p * 64 + 64 ≤ length board.moves
  moves_room = (let moves = board_is.places.moves in omega (arith, moves, there))

  has_gone : Gone (channels t) p board (go (channels t) p board)
  has_gone = gone (channels t) p board moves_room board_is.places.send board_is.places.receive

  -- ---- the configuration

  reached : IsReached t new_c
  reached = reached_own t p c q at_q shared.reached

  at_next : slice_get new_c.processes p ≡ Some h.next
  at_next = get-set_same c.processes p q h.next at_q

  shown : AllHaveShown c.clock new_c.processes new_ps
  shown = shown_again c.clock c.processes ps p h.next shared.shown

  old : (y : Post) × (slice_get ps p ≡ Some y)
  old = post_there c.clock c.processes ps p q shared.shown at_q

  paired : ArePaired (channels t) new_ps
  paired = shown_are_paired t c.clock new_c.processes new_ps (reached_keeps t reached.items new_c reached.leads) shown

  keeps : KeepsPost c.clock x
  keeps = reached_keeps_post t new_c p h.next numbers reached at_next

  -- ---- what the shared part stands for

  new_stands : BoardStands t new_c new_ps steps up
  new_stands =
      posted_stands (processes t) (channels t) p n row mine.bounded (phase_at mine.arrived i) rates ios h.next.store puts.0 x puts.1 board (go (channels t) p board) has_gone
      ps c.clock t.horizon steps t.limit board_is old.0 old.1 there keeps paired

  set_board_is : IsSetBoard t p board
  set_board_is = set_is t p m board shared.is set

  new_set : IsSetBoard t p up
  new_set = record {
    horizon = new_stands.end;
    limit = new_stands.at_most;
    self = ap (λ (y : Board64). y.self) has_gone.is ∙ set_board_is.self;
  }

  short : (j : ℕ) (y : ProcessState) → slice_get c.processes j ≡ Some y → length y.store ≤ 64
  short j y e = (let long = sized t c j y shared.reached e in let most = few_variables t j in omega (arith, long, most))

  own_variables : (j : ℕ) → list_any (is_on false j) ios ≡ true → variable_in j ios ≡ received_in j h.next.todo
  own_variables j e = by_test (mine.arrived && not over) refl
    where
      by_test : (z : Bool) → (mine.arrived && not over) ≡ z → variable_in j ios ≡ received_in j h.next.todo
      by_test true f = ap (λ (y : Bool). variable_in j (if y then ios_at i else [])) f ∙ own_variable j table i h.next.todo at_i.2
      by_test false f = absurd (true≢false (sym e ∙ ap (λ (y : Bool). list_any (is_on false j) (if y then ios_at i else [])) f))

  phases_there : p < length board.phase
  phases_there = (let long = board_is.places.phase in omega (arith, long, there))

  bounds_there : p < length board.bounded
  bounds_there = (let long = board_is.places.bounded in omega (arith, long, there))

  new_shared : IsShared t new_c new_ps steps (shared_of up)
  new_shared = record {
    board = up;
    is = refl;
    goes_on = ap (λ (y : Board64). y.stop) has_gone.is ∙ shared.goes_on;
    stands = stands_set t p new_c new_ps steps up new_set new_stands;
    sane =
        sane_up (processes t) (channels t) p n row mine.bounded (phase_at mine.arrived i) rates ios h.next.store puts.0 x puts.1 board (go (channels t) p board) has_gone there shared.sane;
    variables_are =
        variables_up (processes t) (channels t) p n row mine.bounded (phase_at mine.arrived i) rates ios h.next.store puts.0 x puts.1 board (go (channels t) p board) has_gone
        c.processes h.next q at_q low board_is.places.row phases_there bounds_there moves_room refl short shared.variables_are;
    intos =
        intos_up (processes t) (channels t) p n row mine.bounded (phase_at mine.arrived i) rates ios h.next.store puts.0 x puts.1 board (go (channels t) p board) has_gone
        c.processes h.next q at_q ps old.0 old.1 paired board_is.places.into own_variables shared.intos;
    shown = shown;
    reached = reached;
  }

  -- ---- the thread

  abbrev after : Mine
  after = after_case mine row i

  bounded_is : (o : Option Rational) → private.BoundIs mine.bounded row o → mine.bounded ≡ is_some o
  bounded_is None e = e
  bounded_is (Some v) e = e.0

  own_met : IsMet k t p new_c new_ps (shared_of up) row (values_of after)
  own_met = record {
    mine = after;
    done = locked.done;
    x = locked.x;
    more = locked.more;
    locals = record { is = refl; others = locked.locals.others };
    spare = (let spare = stands.spare in let others = ap (λ (l : List ℤ). length l) locked.locals.others in omega (arith, spare, others));
    wide = stands.wide;
    q = h.next;
    shows = x;
    number = 0;
    at_process = at_next;
    at_post = get-set_same ps p old.0 x old.1;
    met = element_is up.met p ∙ ap pos (nth_cleared (go (channels t) p board).met p);
    choices = stands.same_choices;
    finds = record {
      at_place = stands.at_place;
      same_mark = stands.same_mark;
      bounded = bounded_is x.bound stands.shows.bound;
      rates = stands.shows.rates;
      shown = refl;
    };
  }

  others : OthersKeep g t (section_words k t) p b c ps m new_c new_ps (shared_of up)
  others r their_row their_values apart e =
      met_again k t r c new_c ps new_ps m (shared_of up) their_row their_values refl (get-set_other c.processes p r h.next (λ s. apart (sym s)))
      (get-set_other ps p r x (λ s. apart (sym s)))
      (
      element_is up.met r
      ∙ ap pos (get_or-set_other (go (channels t) p board).met p r 0 0 apart ∙ ap (λ (y : Board64). nth y.met r) has_gone.is)
      ∙ sym (element_is board.met r) ∙ ap (λ (z : Shared). element z the_met r) (sym shared.is)
      )
      e

  runs : (lines : List Line) → Runs g p (post_cost g p (channels t) n i) (post_code p n (k.code p)) (owner_view b.names row values m lines []) (owner_view b.names row (values_of after) (shared_of up) lines [])
  runs lines =
      subst (λ (ns : List Word). Runs g p cost ss (owner_view ns row values m lines []) (owner_view ns row (values_of after) (shared_of up) lines [])) (sym names)
      (
      subst (λ (z : Shared). Runs g p cost ss (owner_view (thread_names k p) row values z lines []) (owner_view (thread_names k p) row (values_of after) (shared_of up) lines [])) (sym shared.is)
      (
      subst (λ (vs : List ℤ). Runs g p cost ss (owner_view (thread_names k p) row vs (shared_of board) lines []) (owner_view (thread_names k p) row (values_of after) (shared_of up) lines []))
      (sym locked.locals.is)
      (
      subst (λ (y : Board64). Runs g p cost ss (core row (thread_names k p) (values_of mine) (told lines [] board)) (core row (thread_names k p) (values_of after) y))
      (posted_told (channels t) p n row mine.bounded over mine.arrived i lines [] board)
      (
      post_runs g (processes t) (channels t) has p there row (v_done ∷ v_x ∷ k.scratch p) n few mine (k.code p) i at_i.1 ruled
      (meets_unbounded table mine row c.clock i h.next at_i.2 stands.shows) (told lines [] board)
      )
      )
      )
      )
    where
      cost : ℕ
      cost = post_cost g p (channels t) n i

      ss : List CStmt
      ss = post_code p n (k.code p)

  pub does_post : DoesPost g t (section_words k t) p b (post_code p n (k.code p)) c ps steps h m row values
  does_post = record {
    new_row = row;
    new_values = values_of after;
    new_m = shared_of up;
    size = post_cost g p (channels t) n i;
    runs = runs;
    stands = new_shared;
    set = is_set t p up new_set;
    met = own_met;
    others = others;
  }
