-- The limits of units that the source language hasn't.
use Rattle.std.specs.Prelude.{ℕ}
pub use Rattle.hc_limits.specs.Limits.{most_open_items, most_nodes, most_channels}

abbrev pub most_arrays : ℕ
most_arrays = 64

-- elements of an array; the least is 1
abbrev pub most_elements : ℕ
most_elements = 1000000

abbrev pub most_functions : ℕ
most_functions = 200

abbrev pub most_threads : ℕ
most_threads = 64

-- parameters and locals of one body
abbrev pub most_locals : ℕ
most_locals = 64

-- the greatest number, but in the third and in the fourth argument of `fr_set`
abbrev pub most_number : ℕ
most_number = 2147483647
