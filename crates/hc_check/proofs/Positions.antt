-- The number of a name that isn't there.
use Rattle.std.proofs.Common.{◌≡◌, refl, nat_lt, not, Bool, true, false, cond, List, length, Some, None, arith}
use Rattle.std.proofs.lemmas.List.Sums.{prefix_len-le-length}
use Rattle.std.specs.List.{position, position_or_len}

-- the place of what isn't found is behind all
pub position-none : {X : Type 0} (p : X → Bool) (xs : List X) → position p xs ≡ None → position_or_len p xs ≡ length xs
position-none p xs e = by (nat_lt (position_or_len p xs) (length xs)) refl e
  where
    by : (b : Bool) → nat_lt (position_or_len p xs) (length xs) ≡ b → cond b (Some (position_or_len p xs)) None ≡ None
        → position_or_len p xs ≡ length xs
    by true f g = absurd (cc)
    by false f g = let most = prefix_len-le-length (λ x. not (p x)) xs in grind (arith, f, most)
