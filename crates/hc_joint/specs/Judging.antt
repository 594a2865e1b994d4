-- What a turn answers, by what is known of its advance.
use Rattle.std.specs.Prelude.{ℕ, Bool, true, false, nat_le, Option, Some, None}
use Rattle.hc_joint.specs.declared.turn.Turn.{Turn}
use Rattle.hc_joint.specs.declared.turn.Turn.TheVariants as turn

-- where the advance has so many steps, and this many are left to the limit
abbrev pub by_room : Bool → Turn
by_room true = turn.Taken
by_room false = turn.Cut

abbrev pub by_steps : ℕ → Option ℕ → Turn
by_steps left None = turn.Recomputed
by_steps left (Some steps) = by_room (nat_le steps left)

-- whether it starts from what is kept
abbrev pub judged : Bool → Option ℕ → ℕ → Turn
judged false steps left = turn.Recomputed
judged true steps left = by_steps left steps

-- whether a turn was made
abbrev pub is_made : Turn → Bool
is_made turn.Stopped = false
is_made turn.NotAble = false
is_made turn.Recomputed = true
is_made turn.Cut = true
is_made turn.Taken = true

-- how many turns whose steps were worked out anew
abbrev pub again : Turn → ℕ
again turn.Stopped = 0
again turn.NotAble = 0
again turn.Recomputed = 1
again turn.Cut = 0
again turn.Taken = 0
