-- The words on rational numbers, passed on from one place. Declares nothing.
pub use Rattle.hc_rational.specs.Gcd.{gcd}
pub use Rattle.hc_rational.specs.Rational.{Rational, whole, quotient, ratio, zero_ℚ, one_ℚ, ◌+ℚ◌, ◌-ℚ◌, neg_ℚ, ◌*ℚ◌, ◌/ℚ◌}
pub use Rattle.hc_rational.specs.Order.{◌≤ℚ◌, ◌<ℚ◌, rank, Ranks, lesser, greater, earlier, IsLesser, IsGreater, is_zero, is_negative, is_positive}
pub use Rattle.hc_rational.specs.Fits.{fits, IsFrac}
pub use Rattle.hc_rational.specs.Ends.{Ends}
pub use Rattle.hc_rational.specs.Laws.{AreQuotients, AreField, AreOrdered, AreCompared}
