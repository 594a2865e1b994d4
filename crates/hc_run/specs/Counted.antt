-- How turns are counted.
use Rattle.std.specs.Prelude.{ℕ, ◌+◌, Bool, true, false, List, slice_set, slice_index}

-- one more for the worker, where a turn was made
abbrev pub counted : List ℕ → ℕ → Bool → List ℕ
counted counts worker true = slice_set counts worker (slice_index counts worker + 1)
counted counts worker false = counts
