-- Which numbers a token may say.
use Rattle.std.specs.Prelude.{◌≡◌, ℕ, pos, Bool, true, false, ◌&&◌, nat_le}
use Rattle.hc_frac.specs.declared.decimal.Decimal.{Decimal}

-- whether a number may have these digits, read as one number, and so many places
abbrev pub in_range : ℕ → ℕ → Bool
in_range digits places = nat_le digits 9223372036854775807 && nat_le places 18

-- these digits and places are in range, and this is the number that has them; or they are out of range
pub data Ranged (digits places : ℕ) : Type 0 where
  fits : in_range digits places ≡ true → (d : Decimal) → d.digits ≡ pos digits → d.places ≡ places → Ranged digits places
  unfit : in_range digits places ≡ false → Ranged digits places
