-- That a number in range can be had. Of this file only the type of `ranged` need be read: it says which number it is.
use Rattle.std.specs.Prelude.{◌≡◌, ◌≤◌, ◌≤ℤ◌, ℕ, pos, Bool, true, false, nat_le, refl}
use Rattle.std.proofs.Common.{zero-le}
use Rattle.std.proofs.Math.Dec.{le→leb}
use Rattle.std.proofs.lemmas.Bool.{leb-true, and_parts}
use Rattle.hc_frac.specs.declared.decimal.Decimal.{Decimal}
use Rattle.hc_token.specs.Decimals.{in_range, Ranged, fits, unfit}

-- no such number is negative
pub pos_above : (n : ℕ) → pos 0 ≤ℤ pos n
pos_above n = record { le = le→leb 0 n zero-le }

-- a number in range has at most 18 places
pub few_places : (digits places : ℕ) → in_range digits places ≡ true → places ≤ 18
few_places digits places e =
    leb-true places 18 (and_parts (nat_le digits 9223372036854775807) (nat_le places 18) e).1

-- the number with these digits and places
abbrev pub decimal : (digits places : ℕ) → in_range digits places ≡ true → Decimal
decimal digits places e =
    let short = few_places digits places e in
    record { digits = pos digits; places = places; not_negative = pos_above digits; short = short }

by_range : (digits places : ℕ) (b : Bool) → in_range digits places ≡ b → Ranged digits places
by_range digits places true e = fits e (decimal digits places e) refl refl
by_range digits places false e = unfit e

pub ranged : (digits places : ℕ) → Ranged digits places
ranged digits places = by_range digits places (in_range digits places) refl
