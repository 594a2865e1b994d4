use Rattle.std.proofs.Common.{◌≡◌, ◌≤◌, min, drop}
use Rattle.std.specs.Str.Parse.{digits_value_after}
use Rattle.hc_token.proofs.Values.{greatest}
use Rattle.hc_ctoken.proofs.number.value.Given as goal

abbrev pub invariant-loop-digit : goal.invariant-loop-digit
invariant-loop-digit l =
    (min (digits_value_after 10 l.value (drop l.digit-index l.digits)) greatest
    ≡ min (digits_value_after 10 0 l.digits) greatest)
    × (l.value ≤ greatest)
