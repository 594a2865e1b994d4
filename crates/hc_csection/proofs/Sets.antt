-- Horizon, limit and runner are set; whatever is counted, printed or woken then, the words hold of the board.
use Rattle.std.specs.Prelude.{◌≡◌, ◌≢◌, ◌<◌, ◌≤◌, ◌==◌, ℕ, zero, suc, Bool, true, false, ◌&&◌, nat_lt, nat_le, T, List, [], ◌∷◌, length, slice_get, ℤ, pos, unsigned_abs, Some}
use Rattle.std.proofs.Common.{refl, sym, ◌∙◌, subst, arith}
use Rattle.std.specs.List.{list_all}
use Rattle.std.proofs.lemmas.Bool.{and_parts, leb-true}
use Rattle.std.proofs.lemmas.List.{get_or-set_other, length-set}
use Rattle.hc_limits.specs.Limits.{most_variables}
use Rattle.hc_rational.specs.Words.{Rational, zero_ℚ, ratio, gcd}
use Rattle.hc_rational.proofs.FieldLaws.{ratio-own}
use Rattle.hc_term.specs.declared.system.Process.{Process}
use Rattle.hc_term.specs.declared.task.Task.{Task}
use Rattle.hc_term.specs.declared.post.Post.{Post}
use Rattle.hc_term.specs.declared.model.ProcessState.{ProcessState}
use Rattle.hc_term.specs.declared.model.Configuration.{Configuration}
use Rattle.hc_term.specs.Rules.{is_stmt, is_process}
use Rattle.hc_runs.proofs.Parts.{AreParts, reached_keeps}
use Rattle.hc_cast.specs.declared.program.CProgram.{CProgram}
use Rattle.hc_cmach.specs.State.{Word, Shared}
use Rattle.hc_cmach.specs.Line.{Line}
use Rattle.hc_cmach.proofs.Worths.{forms}
use Rattle.hc_clogic.specs.Runs.{Runs}
use Rattle.hc_clogic.proofs.Runs.{runs_straight}
use Rattle.hc_core_c.specs.Twin.{Board64, variable}
use Rattle.hc_core_c.specs.Owner.{core, shared_of, Has}
use Rattle.hc_core_facts.specs.Standing.{HasPlaces, Shows}
use Rattle.hc_csection.specs.Words.{processes, channels, IsReached, IsShared, set_board, the_horizon}
use Rattle.hc_csection.specs.Code.{sets}
use Rattle.hc_csection.proofs.Setting.{IsSetBoard, BoardStands, set_for, set_for_is, stands_set}

so : (b : Bool) → T b → b ≡ true
so true h = refl
so false h = absurd h

-- ---- the statements

pub sets_run : (g : CProgram) (t : Task) (p P C : ℕ) → Has g P C → (row : List Rational) (names : List Word) (values : List ℤ) (b : Board64) →
    Runs g p 3 (sets t p) (core row names values b) (core row names values (set_for t p b))
sets_run g t p P C has row names values b =
    let arrays = has.declared in
    let positive : nat_lt 0 t.horizon.den ≡ true = so (nat_lt 0 t.horizon.den) t.horizon.positive in
    let lowest : (gcd (unsigned_abs t.horizon.num) t.horizon.den == 1) ≡ true = so (gcd (unsigned_abs t.horizon.num) t.horizon.den == 1) t.horizon.lowest in
    let own : ratio t.horizon.num (pos t.horizon.den) ≡ t.horizon = ratio-own t.horizon in
    runs_straight g p 3 (sets t p) _ _ (λ rest target gives below. simp (forms, arrays, positive, lowest, own))

-- ---- few variables

few_by : (channels : ℕ) (bodies : List Process) (qs : List ProcessState) (p : ℕ) (q : ProcessState) → AreParts channels bodies qs → slice_get qs p ≡ Some q →
    (b : Process) × (is_process channels b ≡ true) × (length q.store ≡ length b.variables)
few_by channels bodies [] p q h e = absurd cc
few_by channels [] (r ∷ qs) p q h e = absurd h
few_by channels (b ∷ bodies) (r ∷ qs) zero q h e =
    let same : r ≡ q = cc in
    (b, h.0.body, subst (λ (x : ProcessState). length x.store ≡ length b.variables) same h.0.left.sized)
few_by channels (b ∷ bodies) (r ∷ qs) (suc p) q h e = few_by channels bodies qs p q h.1 e

pub few_variables : (t : Task) (c : Configuration) (p : ℕ) (q : ProcessState) → IsReached t c → slice_get c.processes p ≡ Some q → length q.store ≤ 64
few_variables t c p q k e =
    let f = few_by (length t.system.channels) t.system.processes c.processes p q (reached_keeps t k.items c k.leads) e in
    let n = length f.0.variables in
    let most : n ≤ most_variables =
    leb-true n most_variables
    (and_parts (nat_le n most_variables) (nat_le 1 (length f.0.body))
    (and_parts (nat_le n most_variables && nat_le 1 (length f.0.body)) (list_all (is_stmt (length t.system.channels) n) f.0.body) f.1).0).0 in
    omega (arith, most, f.2)

-- ---- the words hold

-- the board with so many steps, lines and wakes, that is set for thread p
abbrev pub set_with : Task → ℕ → ℕ → List Line → List ℕ → Board64 → Board64
set_with t p n lines wakes b = record (set_for t p b) { steps = n; lines = lines; wakes = wakes }

module _ (t : Task) (c : Configuration) (ps : List Post) (m : Shared) (old : ℕ) (s : IsShared t c ps old m) (p n : ℕ) (lines : List Line) (wakes : List ℕ) where
  abbrev e : Board64
  e = set_with t p n lines wakes s.board

  pub is_set_with : IsSetBoard t p e
  is_set_with =
      let h = set_for_is t p s.board (sym (length-set s.board.row the_horizon t.horizon) ∙ s.stands.places.row) in
      record { horizon = h.horizon; limit = h.limit; self = h.self }

  shows_with : (r : ℕ) (x : Post) → Shows (set_board t s.board) r x → Shows e r x
  shows_with r x h = record {
    phase = h.phase;
    bounded = h.bounded;
    bound = h.bound;
    moves = h.moves;
    moving = h.moving;
    offers = h.offers;
  }

  places_with : HasPlaces (processes t) (channels t) (set_board t s.board) → HasPlaces (processes t) (channels t) e
  places_with h = record {
    row = h.row;
    phase = h.phase;
    bounded = h.bounded;
    moves = h.moves;
    met = h.met;
    woke = h.woke;
    send = h.send;
    receive = h.receive;
    into = h.into;
  }

  pub stands_with : n ≤ t.limit → BoardStands t c ps n e
  stands_with few =
      let h = s.stands in
      record {
        places = places_with h.places;
        processes = h.processes;
        most = h.most;
        now = h.now;
        end = h.end;
        counted = refl;
        at_most = refl;
        each = λ r x at. shows_with r x (h.each r x at);
        send = h.send;
        receive = h.receive;
        keeps = h.keeps;
        paired = h.paired;
        into = h.into;
        in_time = h.in_time;
        in_limit = few;
        small = h.small;
      }

  variable_apart : (r i : ℕ) → i < 64 → variable r i ≢ 67
  variable_apart r i few same = absurd (omega (arith, few, same))

  pub shared_with : n ≤ t.limit → IsShared t c ps n (shared_of e)
  shared_with few = record {
    board = e;
    is = refl;
    goes_on = s.goes_on;
    stands = stands_set t p c ps n e is_set_with (stands_with few);
    sane = record { sends = s.sane.sends; receives = s.sane.receives; into = s.sane.into; limit = s.stands.small };
    variables_are =
        λ r i q at less.
        get_or-set_other s.board.row the_horizon (variable r i) t.horizon zero_ℚ
        (variable_apart r i (let few = few_variables t c r q s.reached at in omega (arith, less, few)))
        ∙ s.variables_are r i q at less;
    intos = s.intos;
    shown = s.shown;
    reached = s.reached;
  }
