-- The ways of an instruction, and the first of them on a channel.
use Rattle.std.specs.Prelude.{ℕ, ◌==◌, if◌then◌else◌, List, [], ◌∷◌, Option, Some, None}
use Rattle.hc_term.specs.declared.stmt.Io.{Io}
use Rattle.hc_term.specs.declared.stmt.Io.TheVariants.{Send, Receive}
use Rattle.hc_term.specs.Posts.{first_of}
use Rattle.hc_code.specs.declared.code.Way.{Way}
use Rattle.hc_code.specs.declared.code.Instr.{Instr}
use Rattle.hc_code.specs.declared.code.Instr.TheVariants as instr
use Rattle.hc_step.specs.declared.meeting.Taken.{Taken}

abbrev pub ways_of : Instr → List Way
ways_of (instr.Meet ways) = ways
ways_of (instr.Evolve rates c ways next) = ways
ways_of _ = []

-- ---- sending

abbrev pub place_sent_by : ℕ → ℕ → Io → Option ℕ
place_sent_by c next (Send channel value) = if channel == c then Some next else None
place_sent_by c next (Receive channel variable) = None

-- the place behind the way that sends on channel c
abbrev pub sent_way : ℕ → List Way → Option ℕ
sent_way c [] = None
sent_way c (w ∷ ws) = first_of (place_sent_by c w.next w.io) (sent_way c ws)

-- ---- receiving

abbrev pub taken_behind : ℕ → ℕ → Io → Option Taken
taken_behind c next (Send channel value) = None
taken_behind c next (Receive channel variable) = if channel == c then Some (record { variable = variable; next = next }) else None

-- the variable and the place behind the way that receives on channel c
abbrev pub received_way : ℕ → List Way → Option Taken
received_way c [] = None
received_way c (w ∷ ws) = first_of (taken_behind c w.next w.io) (received_way c ws)
