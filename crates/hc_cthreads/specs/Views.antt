-- The states of a thread in its body, by what its statements may change.
use Rattle.std.proofs.Common.{ℕ, false, List, [], ◌∷◌, slice_index_or, ℤ, pos, Some, None}
use Rattle.hc_rational.specs.Words.{Rational}
use Rattle.hc_cast.specs.declared.stmt.CStmt.{CStmt}
use Rattle.hc_schedule.specs.Solo.{Solo}
use Rattle.hc_cmach.specs.State.{Word, place_of, Own, Shared}
use Rattle.hc_cmach.specs.Line.{Line}
use Rattle.hc_clogic.specs.Runs.{View}

-- a thread in its body, with these statements to do
abbrev pub standing : List Word → List Rational → List ℤ → List CStmt → Own
standing names row values ss = record { row = row; frames = record { names = names; values = values; todo = ss; target = None; gives = false } ∷ [] }

abbrev pub gone : List Rational → Own
gone row = record { row = row; frames = [] }

abbrev pub own_view : List Word → List Rational → List ℤ → View
own_view names row values = record { row = row; shared = None; names = names; values = values; lines = []; wakes = [] }

abbrev pub owner_view : List Word → List Rational → List ℤ → Shared → List Line → List ℕ → View
owner_view names row values m lines wakes = record { row = row; shared = Some m; names = names; values = values; lines = lines; wakes = wakes }

-- the value of a local
abbrev pub local_value : List Word → List ℤ → Word → ℤ
local_value names values x = slice_index_or values (place_of x names) (pos 0)

abbrev pub solo_at : Own → Shared → List Line → List ℕ → Solo Own Shared Line
solo_at own m lines wakes = record { own = own; shared = m; lines = lines; wakes = wakes }
