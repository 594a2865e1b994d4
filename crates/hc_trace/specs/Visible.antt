-- Which steps have a line in the text of a run.
use Rattle.std.specs.Prelude.{Bool, true, false, Some, None}
use Rattle.hc_term.specs.declared.run.Step.{Step}
use Rattle.hc_term.specs.declared.run.Step.TheVariants.{Silent, Comm, Delay}

-- all but the silent steps that log nothing
abbrev pub is_visible : Step → Bool
is_visible (Silent p None) = false
is_visible (Silent p (Some v)) = true
is_visible (Comm c v) = true
is_visible (Delay d) = true
