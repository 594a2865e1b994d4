-- The names by which the program numbers.
use Rattle.std.specs.Prelude.{◌<◌, ◌^◌, length}
use Rattle.hc_check.specs.declared.numbering.Numbering.{Numbering}

-- there are few of both
pub record IsSmall (n : Numbering) : Type 0 where
  pub channels : length n.channels.now.keys < 2 ^ 32
  pub variables : length n.variables.now.keys < 2 ^ 32
