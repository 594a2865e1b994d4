-- Registers of two rows that begin alike.
use Rattle.std.specs.Prelude.{◌≡◌, ◌≤◌, ◌<◌, ℕ, List, take, slice_set}
use Rattle.std.proofs.Common.{sym, ap, ◌∙◌}
use Rattle.std.proofs.lemmas.List.{get_or-take, take-take, take-set-le}
use Rattle.hc_rational.specs.Words.{Rational, zero_ℚ}
use Rattle.hc_cstep.specs.Stands.{register}

-- the registers below d are the same
pub record SameBelow (d : ℕ) (xs ys : List Rational) : Type 0 where
  pub by : take d xs ≡ take d ys

pub same_register : (d : ℕ) (xs ys : List Rational) (i : ℕ) → i < d → SameBelow d xs ys → register xs i ≡ register ys i
same_register d xs ys i less h = sym (get_or-take d xs i zero_ℚ less) ∙ ap (λ (l : List Rational). register l i) h.by ∙ get_or-take d ys i zero_ℚ less

pub same_fewer : (k d : ℕ) (xs ys : List Rational) → k ≤ d → SameBelow d xs ys → SameBelow k xs ys
same_fewer k d xs ys less h = record { by = sym (take-take k d xs less) ∙ ap (λ (l : List Rational). take k l) h.by ∙ take-take k d ys less }

pub same_on : (d : ℕ) (xs ys zs : List Rational) → SameBelow d xs ys → SameBelow d ys zs → SameBelow d xs zs
same_on d xs ys zs h k = record { by = h.by ∙ k.by }

-- a register from d on is written
pub same_set : (d : ℕ) (xs : List Rational) (i : ℕ) (z : Rational) → d ≤ i → SameBelow d (slice_set xs i z) xs
same_set d xs i z less = record { by = take-set-le d xs i z less }
