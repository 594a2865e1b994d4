-- The size of the core: it doesn't grow with the system, but for the lengths of arrays and the numbers in the text.
use Rattle.std.specs.Prelude.{◌≡◌, ℕ, length}
use Rattle.hc_core_c.specs.Code.{core_arrays, core_functions}

abbrev pub CoreIsSmall : Type 0
CoreIsSmall = (P C : ℕ) → (length (core_functions P C) ≡ 21) × (length (core_arrays P C) ≡ 12)
