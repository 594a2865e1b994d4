-- A thread outside any section.
use Rattle.std.specs.Prelude.{ℕ, Bool, List, Option, None}
use Rattle.hc_cast.specs.declared.stmt.CStmt.{CStmt}
use Rattle.hc_cmach.specs.State.{Word, Frame, Own}
use Rattle.hc_cmach.specs.Line.{Line}
use Rattle.hc_clogic.specs.Runs.{at}
use Rattle.hc_cstep.specs.Locals.{Mine, Base, view}

-- a thread that doesn't own the mutex
abbrev pub outside : List Word → List Line → List ℕ → Base
outside scratch lines wakes = record { shared = None; scratch = scratch; lines = lines; wakes = wakes }

-- its own part, with these statements to do and these callers
abbrev pub own_of : Base → Mine → List CStmt → Option Word → Bool → List Frame → Own
own_of b m ss target gives below = (at (view b m) ss target gives below).own
