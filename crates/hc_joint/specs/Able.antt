-- Which processes want a silent step: in a configuration, and as all processes show it.
use Rattle.std.specs.Prelude.{ℕ, Bool, false, List, slice_get, Option, Some, None}
use Rattle.hc_term.specs.declared.model.ProcessState.{ProcessState}
use Rattle.hc_term.specs.Process.{wants}
pub use Rattle.hc_board.specs.Able.{shows_step, shows_step_if, shows_able, least_from}

abbrev pub wants_if : Option ProcessState → Bool
wants_if None = false
wants_if (Some q) = wants q

-- whether there is a process of this number, and it wants a silent step
abbrev pub is_able : ℕ → List ProcessState → Bool
is_able p qs = wants_if (slice_get qs p)
