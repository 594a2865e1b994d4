-- The locals of a thread's private code, and the view of a thread that has them.
use Rattle.std.specs.Prelude.{ℕ, Bool, List, ◌∷◌, ℤ, pos, Option, codes}
use Rattle.hc_rational.specs.Words.{Rational}
use Rattle.hc_cmach.specs.State.{Word, Shared}
use Rattle.hc_cmach.specs.Line.{Line}
use Rattle.hc_cmach.specs.Expression.{int_of}
use Rattle.hc_clogic.specs.Runs.{View}

abbrev pub v_place : Word
v_place = codes "v_place"

abbrev pub v_choices : Word
v_choices = codes "v_choices"

abbrev pub v_mark : Word
v_mark = codes "v_mark"

abbrev pub v_bounded : Word
v_bounded = codes "v_bounded"

abbrev pub v_most : Word
v_most = codes "v_most"

abbrev pub v_steps : Word
v_steps = codes "v_steps"

abbrev pub v_end : Word
v_end = codes "v_end"

-- 1 as long as all working values fit, and else 0
abbrev pub v_ok : Word
v_ok = codes "v_ok"

-- the answer of a condition
abbrev pub v_truth : Word
v_truth = codes "v_truth"

-- whose names they have, in the order in which a body declares them, with those of the scratch behind
abbrev pub names : List Word → List Word
names more = v_place ∷ v_choices ∷ v_mark ∷ v_bounded ∷ v_most ∷ v_steps ∷ v_end ∷ v_ok ∷ v_truth ∷ more

-- the row and the locals
pub record Mine : Type 0 where
  pub row : List Rational
  pub place : ℕ
  pub choices : ℕ
  pub arrived : Bool
  pub bounded : Bool
  pub most : ℕ
  pub steps : ℕ
  pub end : ℕ
  pub ok : Bool
  pub truth : Bool
  pub others : List ℤ

-- what private code neither reads nor writes
pub record Base : Type 0 where
  pub shared : Option Shared
  pub scratch : List Word
  pub lines : List Line
  pub wakes : List ℕ

abbrev pub view : Base → Mine → View
view b m = record {
  row = m.row;
  shared = b.shared;
  names = names b.scratch;
  values =
      pos m.place ∷ pos m.choices ∷ int_of m.arrived ∷ int_of m.bounded ∷ pos m.most ∷ pos m.steps ∷ pos m.end ∷ int_of m.ok ∷ int_of m.truth ∷
      m.others;
  lines = b.lines;
  wakes = b.wakes;
}
