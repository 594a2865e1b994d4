-- What a delay makes of a local.
use Rattle.std.specs.Prelude.{Bool, true, false, if◌then◌else◌, List, [], ◌∷◌, slice_set, Option, Some, None}
use Rattle.hc_rational.specs.Words.{Rational, ◌-ℚ◌, is_positive}
use Rattle.hc_term.specs.declared.post.Moving.{Moving}
use Rattle.hc_term.specs.declared.model.Mark.{Mark}
use Rattle.hc_term.specs.declared.model.Mark.TheVariants.{Arrived}
use Rattle.hc_term.specs.Value.{Store}

-- what is left of a bound that has not run out
abbrev pub left_of : Rational → Option Rational → Option Rational
left_of by None = None
left_of by (Some b) = if is_positive b then Some (b -ℚ by) else None

-- the mark of a process with so much left to wait
abbrev pub with_left : Option Rational → Mark → Mark
with_left None m = m
with_left (Some left) m = Arrived left

-- what is left to wait is less where nothing moves: an evolution waits for its end moment
abbrev pub mark_after : Rational → Bool → Option Rational → Mark → Mark
mark_after by true b m = with_left (left_of by b) m
mark_after by false b m = m

-- the store with the values that evolving variables show
abbrev pub with_values : Store → List Moving → Store
with_values s [] = s
with_values s (m ∷ ms) = with_values (slice_set s m.variable m.at) ms
