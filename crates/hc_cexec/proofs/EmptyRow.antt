-- A row at the start, written out.
use Rattle.std.specs.Prelude.{◌≡◌, replicate}
use Rattle.std.proofs.Common.{refl}
use Rattle.hc_rational.specs.Words.{zero_ℚ}
use Rattle.hc_cmach.specs.State.{width, empty_row}

pub is_empty_row : replicate width zero_ℚ ≡ empty_row
unfolding empty_row
is_empty_row = refl
