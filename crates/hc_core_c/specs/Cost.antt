-- How many machine steps a pass takes at most, of P processes over C channels. This project's own.
use Rattle.std.specs.Prelude.{ℕ, ◌+◌, ◌*◌}

-- Each ready channel has its offers taken off all channels (12 C to a channel, 6 C to a process that became able); an offer's process is
-- found by a count over the processes (8 P to a channel that meets, 4 P to one that moves, which is done twice); each process has 64
-- variables that may move.
abbrev pub pass_steps : ℕ → ℕ → ℕ
pass_steps P C = 12 * C * C + 22 * P * C + 459 * C + 1601 * P + 88
