-- Which processes show that they want a silent step.
use Rattle.std.specs.Prelude.{ℕ, ◌+◌, Bool, true, false, if◌then◌else◌, List, [], ◌∷◌, slice_get, Option, Some, None}
use Rattle.hc_rational.specs.Words.{Rational}
use Rattle.hc_term.specs.declared.post.Post.{Post}
use Rattle.hc_term.specs.declared.post.Phase.{Phase}
use Rattle.hc_term.specs.declared.post.Phase.TheVariants as phase
use Rattle.hc_term.specs.Process.{is_due}

abbrev pub wants_in : Phase → Option Rational → Bool
wants_in phase.Going b = true
wants_in phase.Arrived b = is_due b
wants_in phase.Ended b = false

-- a process shows that it wants a silent step: it is going, or its bound has run out
abbrev pub shows_step : Post → Bool
shows_step p = wants_in p.phase p.bound

abbrev pub shows_step_if : Option Post → Bool
shows_step_if None = false
shows_step_if (Some p) = shows_step p

-- whether there is a process of this number, and it shows it
abbrev pub shows_able : List Post → ℕ → Bool
shows_able ps p = shows_step_if (slice_get ps p)

-- the least process that shows it, from number n on
abbrev pub least_from : ℕ → List Post → Option ℕ
least_from n [] = None
least_from n (p ∷ ps) = if shows_step p then Some n else least_from (n + 1) ps
