-- The locals of the search for an end moment, and the view of a thread that has them beside those of its private code.
use Rattle.std.specs.Prelude.{ℕ, Bool, List, ◌∷◌, slice_index_or, ℤ, pos, codes}
use Rattle.hc_rational.specs.Words.{Rational, zero_ℚ}
use Rattle.hc_cmach.specs.State.{Word}
use Rattle.hc_cmach.specs.Expression.{int_of}
use Rattle.hc_clogic.specs.Runs.{View}
use Rattle.hc_cstep.specs.Locals as private
use Rattle.hc_cstep.specs.Locals.{Base}

-- of the thread's own loop, which the search leaves as it is
abbrev pub v_done : Word
v_done = codes "v_done"

-- the comparison, whether the point is just after the moment, two scratch numbers (the first is the thread's own too), the candidate, the point's number,
-- and whether the domain fails
abbrev pub v_i : Word
v_i = codes "v_i"

abbrev pub v_after : Word
v_after = codes "v_after"

abbrev pub v_x : Word
v_x = codes "v_x"

abbrev pub v_y : Word
v_y = codes "v_y"

abbrev pub v_j : Word
v_j = codes "v_j"

abbrev pub v_turn : Word
v_turn = codes "v_turn"

abbrev pub v_fails : Word
v_fails = codes "v_fails"

-- the locals that a body declares for the search, with those that others need behind
abbrev pub search_scratch : List Word → List Word
search_scratch more = v_i ∷ v_after ∷ v_y ∷ v_j ∷ v_turn ∷ v_fails ∷ more

-- all locals of a thread behind those of its private code
abbrev pub search_names : List Word → List Word
search_names more = v_done ∷ v_x ∷ search_scratch more

-- the row and the locals that the search writes; `truth` says whether a moment was found
pub record Mine : Type 0 where
  pub row : List Rational
  pub ok : Bool
  pub truth : Bool
  pub i : ℕ
  pub after : Bool
  pub x : ℤ
  pub y : ℤ
  pub j : ℕ
  pub turn : ℕ
  pub fails : Bool

-- what it neither reads nor writes
pub record Around : Type 0 where
  pub base : Base
  pub fixed : private.Mine
  pub more : List Word
  pub done : ℤ
  pub kept : List ℤ

abbrev pub view : Around → Mine → View
view around m =
    private.view (record { shared = around.base.shared; scratch = search_names around.more; lines = around.base.lines; wakes = around.base.wakes })
    (
    record around.fixed {
      row = m.row;
      ok = m.ok;
      truth = m.truth;
      others = around.done ∷ m.x ∷ pos m.i ∷ int_of m.after ∷ m.y ∷ pos m.j ∷ pos m.turn ∷ int_of m.fails ∷ around.kept;
    }
    )

abbrev pub register : List Rational → ℕ → Rational
register row d = slice_index_or row d zero_ℚ
