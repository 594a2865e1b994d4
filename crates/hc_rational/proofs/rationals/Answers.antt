use Rattle.std.proofs.Common.{◌≡◌, ◌<◌, arith, ℕ, ℤ, pos, ◌*ℤ◌}
use Rattle.std.proofs.lemmas.Int.{ints}
use Rattle.hc_rational.specs.Rational.{quotient}
use Rattle.hc_rational.specs.LowestTerms.{gcd-is}
use Rattle.hc_rational.specs.Code.{quotient-own}
use Rattle.hc_rational.proofs.Quotients.{quotient-is}
use Rattle.hc_rational.proofs.FieldLaws.{ratio-is, +ℚ_assoc, +ℚ_comm, +ℚ-zero, +ℚ-neg, -ℚ-+ℚ, *ℚ_assoc, *ℚ_comm, *ℚ-one, *ℚ-+ℚ, /ℚ-*ℚ}
use Rattle.hc_rational.proofs.OrderLaws.{≤ℚ_refl, ≤ℚ_trans, ≤ℚ_antisymm, ≤ℚ-or-<ℚ, ≤ℚ-not_<ℚ, ≤ℚ-from_<ℚ, +ℚ-≤ℚ, *ℚ-<ℚ, between, whole_above}
use Rattle.hc_rational.proofs.RankLaws.{cross_equal, rank_is, lesser_is, greater_is}
use Rattle.hc_rational.proofs.rationals.Goals as goal

divided_is : (z : ℤ) (d : ℕ) → 0 < d → (quotient z d).num *ℤ pos d ≡ z *ℤ pos (quotient z d).den
divided_is z d p = omega (arith, ints, (quotient-is z d p).same)

pub returns-clause-quotients : goal.returns-clause-quotients
returns-clause-quotients c = record { divided = divided_is; turned = ratio-is; same = cross_equal; own = quotient-own; lowest = gcd-is }

pub returns-clause-field : goal.returns-clause-field
returns-clause-field c = record {
  add_assoc = +ℚ_assoc;
  add_comm = +ℚ_comm;
  add_zero = +ℚ-zero;
  add_neg = +ℚ-neg;
  sub = -ℚ-+ℚ;
  mul_assoc = *ℚ_assoc;
  mul_comm = *ℚ_comm;
  mul_one = *ℚ-one;
  mul_add = *ℚ-+ℚ;
  div_mul = /ℚ-*ℚ;
}

pub returns-clause-order : goal.returns-clause-order
returns-clause-order c = record {
  le_refl = ≤ℚ_refl;
  le_trans = ≤ℚ_trans;
  le_antisymm = ≤ℚ_antisymm;
  le_or_lt = ≤ℚ-or-<ℚ;
  le_not_lt = ≤ℚ-not_<ℚ;
  lt_le = ≤ℚ-from_<ℚ;
  le_add = +ℚ-≤ℚ;
  lt_mul = *ℚ-<ℚ;
  between = between;
  above = whole_above;
}

pub returns-clause-compared : goal.returns-clause-compared
returns-clause-compared c = record { ranks = rank_is; lesser = lesser_is; greater = greater_is }
