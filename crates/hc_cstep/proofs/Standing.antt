-- What a row and locals stand for, when parts of them change.
use Rattle.std.specs.Prelude.{◌≡◌, ◌≤◌, ◌<◌, ◌+◌, ◌%◌, ℕ, zero, suc, Bool, false, List, [], ◌∷◌, length, take, slice_set, ℤ, Option, None}
use Rattle.std.proofs.Common.{refl, sym, ap, ◌∙◌, arith}
use Rattle.std.proofs.lemmas.List.{get_or-take, take-take, get_or-set_other, length-set, take-set-le}
use Rattle.hc_rational.specs.Words.{Rational, zero_ℚ}
use Rattle.hc_term.specs.declared.stmt.Stmt.{Stmt}
use Rattle.hc_term.specs.declared.model.Mark.TheVariants.{Going}
use Rattle.hc_term.specs.declared.model.ProcessState.{ProcessState}
use Rattle.hc_term.specs.Offers.{post, post_at}
use Rattle.hc_code.specs.Stands.{Table, At}
use Rattle.hc_cstep.specs.Locals.{Mine}
use Rattle.hc_cstep.specs.Stands.{register, first_scratch, the_clock, the_logged, Shows, StandsFor}

-- ---- a going process shows nothing

pub going_shows : (bounded : Bool) (row : List Rational) (clock : Rational) (s : List Rational) (b : Option Rational) (todo : List Stmt) → bounded ≡ false →
    Shows bounded row (post_at clock s b Going todo)
going_shows bounded row clock s b [] h = record { bound = h; rates = tt; sent = tt }
going_shows bounded row clock s b (head ∷ rest) h = record { bound = h; rates = tt; sent = tt }

pub going_unbounded : (bounded : Bool) (row : List Rational) (clock : Rational) (s : List Rational) (b : Option Rational) (todo : List Stmt) →
    Shows bounded row (post_at clock s b Going todo) → bounded ≡ false
going_unbounded bounded row clock s b [] h = h.bound
going_unbounded bounded row clock s b (head ∷ rest) h = h.bound

-- ---- registers below the scratch

pub low_register : (xs ys : List Rational) (i : ℕ) → i < first_scratch → take first_scratch xs ≡ take first_scratch ys → register xs i ≡ register ys i
low_register xs ys i less same =
    sym (get_or-take first_scratch xs i zero_ℚ less) ∙ ap (λ (l : List Rational). register l i) same ∙ get_or-take first_scratch ys i zero_ℚ less

take_set : {A : Type 0} (n : ℕ) (l : List A) (i : ℕ) (a : A) → take n (slice_set l i a) ≡ slice_set (take n l) i a
take_set zero l i a = refl
take_set (suc n) [] i a = refl
take_set (suc n) (x ∷ xs) zero a = refl
take_set {A = A} (suc n) (x ∷ xs) (suc i) a = ap (λ (r : List A). x ∷ r) (take_set n xs i a)

-- ---- a going process, by its parts

abbrev pub at_going : List Stmt → List Rational → ℕ → ProcessState
at_going todo store choices = record { todo = todo; store = store; choices = choices; mark = Going }

module _ (t : Table) (vars : ℕ) (few : vars ≤ 64) (room : ℕ) (clock : Rational) (m : Mine) (todo : List Stmt) (store : List Rational) (choices : ℕ) (s : StandsFor t vars room clock m (at_going todo store choices)) where
  abbrev here : ProcessState
  here = at_going todo store choices

  unbounded : m.bounded ≡ false
  unbounded = going_unbounded m.bounded m.row clock store None todo s.shows

  abbrev clear : (row : List Rational) (rest : List Stmt) (store' : List Rational) → Shows m.bounded row (post clock (at_going rest store' choices))
  clear row rest store' = going_shows m.bounded row clock store' None rest unbounded

  -- scratch has changed
  pub scratch_stands : (row : List Rational) (ok truth : Bool) (others : List ℤ) → length row ≡ length m.row → length others ≡ length m.others → take first_scratch row ≡ take first_scratch m.row →
      StandsFor t vars room clock (record m { row = row; ok = ok; truth = truth; others = others }) here
  scratch_stands row ok truth others wide kept low =
      let inside : vars ≤ first_scratch = omega (arith, few) in record {
        at_place = s.at_place;
        wide = wide ∙ s.wide;
        spare = kept ∙ s.spare;
        same_store =
            sym (take-take vars first_scratch row inside) ∙ ap (λ (l : List Rational). take vars l) low ∙ take-take vars first_scratch m.row inside ∙ s.same_store;
        same_clock = low_register row m.row the_clock (omega arith) low ∙ s.same_clock;
        same_choices = s.same_choices;
        same_mark = s.same_mark;
        shows = clear row todo store;
      }

  -- it has gone on
  pub goes_stands : (next : ℕ) (rest : List Stmt) → At t next rest → StandsFor t vars room clock (record m { place = next }) (at_going rest store choices)
  goes_stands next rest h = record {
    at_place = h;
    wide = s.wide;
    spare = s.spare;
    same_store = s.same_store;
    same_clock = s.same_clock;
    same_choices = s.same_choices;
    same_mark = s.same_mark;
    shows = clear m.row rest store;
  }

  -- it has chosen
  pub picks_stands : (next counted : ℕ) (rest : List Stmt) → counted ≡ (choices + 1) % 64 → At t next rest →
      StandsFor t vars room clock (record m { place = next; choices = counted }) (at_going rest store (choices + 1))
  picks_stands next counted rest e h = record {
    at_place = h;
    wide = s.wide;
    spare = s.spare;
    same_store = s.same_store;
    same_clock = s.same_clock;
    same_choices = e;
    same_mark = s.same_mark;
    shows = going_shows m.bounded m.row clock store None rest unbounded;
  }

  -- a variable has been set
  pub sets_stands : (next : ℕ) (rest : List Stmt) (x : ℕ) (v : Rational) → x < vars → At t next rest →
      StandsFor t vars room clock (record m { row = slice_set m.row x v; place = next }) (at_going rest (slice_set store x v) choices)
  sets_stands next rest x v less h = record {
    at_place = h;
    wide = length-set m.row x v ∙ s.wide;
    spare = s.spare;
    same_store = take_set vars m.row x v ∙ ap (λ (l : List Rational). slice_set l x v) s.same_store;
    same_clock = get_or-set_other m.row x the_clock v zero_ℚ (λ e. omega (arith, e, less, few)) ∙ s.same_clock;
    same_choices = s.same_choices;
    same_mark = s.same_mark;
    shows = clear (slice_set m.row x v) rest (slice_set store x v);
  }

  -- a value has been logged
  pub logs_stands : (next end : ℕ) (rest : List Stmt) (v : Rational) → At t next rest →
      StandsFor t vars room clock (record m { row = slice_set m.row the_logged v; end = end; place = next }) (at_going rest store choices)
  logs_stands next end rest v h = record {
    at_place = h;
    wide = length-set m.row the_logged v ∙ s.wide;
    spare = s.spare;
    same_store = take-set-le vars m.row the_logged v (omega (arith, few)) ∙ s.same_store;
    same_clock = get_or-set_other m.row the_logged the_clock v zero_ℚ (λ e. omega (arith, e)) ∙ s.same_clock;
    same_choices = s.same_choices;
    same_mark = s.same_mark;
    shows = clear (slice_set m.row the_logged v) rest store;
  }
