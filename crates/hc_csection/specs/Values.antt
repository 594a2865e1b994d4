-- The values of the locals of private code, in their order.
use Rattle.std.specs.Prelude.{List, ◌∷◌, ℤ, pos}
use Rattle.hc_cmach.specs.Expression.{int_of}
use Rattle.hc_cstep.specs.Locals.{Mine}

-- the values of the locals, in the order of their names
abbrev pub values_of : Mine → List ℤ
values_of m =
    pos m.place ∷ pos m.choices ∷ int_of m.arrived ∷ int_of m.bounded ∷ pos m.most ∷ pos m.steps ∷ pos m.end ∷ int_of m.ok ∷ int_of m.truth ∷ m.others
