-- What entering a thread's steps does to the board.
use Rattle.std.specs.Prelude.{ℕ, ◌+◌, ◌-◌, Bool, true, false, not, ◌&&◌, nat_lt, if◌then◌else◌, List, [], ◌∷◌, ◌++◌, Some}
use Rattle.hc_rational.specs.Words.{Rational}
use Rattle.hc_term.specs.declared.run.StretchEnd.{StretchEnd}
use Rattle.hc_term.specs.declared.run.StretchEnd.TheVariants as ends
use Rattle.hc_cmach.specs.Line.{Logs}
use Rattle.hc_core_c.specs.Twin.{Board64, nth, able, stopped, wake}
use Rattle.hc_cstep.specs.Stands.{register, the_clock, the_logged}

abbrev pub is_unfit : StretchEnd → Bool
is_unfit ends.Unfit = true
is_unfit _ = false

-- the log's line, out of the thread's row
abbrev pub with_log : List Rational → ℕ → StretchEnd → Board64 → Board64
with_log own p (ends.Logged v) b = record b { lines = b.lines ++ Logs (register own the_clock) p (register own the_logged) ∷ [] }
with_log own p end b = b

-- an overflow of process p, of which all others are told
abbrev pub overflowed : ℕ → ℕ → Board64 → Board64
overflowed P p b = wake P (stopped 4 (Some p) b)

abbrev pub with_stop : ℕ → ℕ → StretchEnd → Board64 → Board64
with_stop P p end b = if is_unfit end && nat_lt b.steps b.limit then overflowed P p b else b

-- n steps that there is room for
abbrev pub entered_all : ℕ → List Rational → ℕ → ℕ → StretchEnd → Board64 → Board64
entered_all P own p n end b = with_stop P p end (with_log own p end (record b { steps = b.steps + n }))

-- process p enters n steps of its own, which ended so
abbrev pub entered : ℕ → List Rational → ℕ → ℕ → StretchEnd → Board64 → Board64
entered P own p n end b = if nat_lt (b.limit - b.steps) n then record b { steps = b.limit } else entered_all P own p n end b

-- ---- the test whether to wait

-- no stop stands, and process p has neither ended nor something to do
abbrev pub idle : Board64 → ℕ → Bool
idle b p = (nat_lt b.stop 1 && not (able b p)) && nat_lt (nth b.phase p) 2
