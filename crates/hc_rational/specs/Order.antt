-- The order of rational numbers.
use Rattle.std.specs.Prelude.{◌≡◌, Bool, Option, Some, None, ◌==◌, ◌↔◌, ◌⊎◌, pos, ◌*ℤ◌, ◌≤ℤ◌, ◌<ℤ◌, int_lt, unsigned_abs}
use Rattle.std.specs.declared.cmp.Ordering.{Ordering}
use Rattle.std.specs.declared.cmp.Ordering.TheVariants.{Less, Equal, Greater}
use Rattle.std.specs.Ordering.{int_cmp}
use Rattle.hc_rational.specs.Rational.{Rational}

infix 4 ◌≤ℚ◌ ◌<ℚ◌
-- q is at most r
pub record ◌≤ℚ◌ (q r : Rational) : Type 0 where
  pub le : (q.num *ℤ pos r.den) ≤ℤ (r.num *ℤ pos q.den)

-- q is less than r
pub record ◌<ℚ◌ (q r : Rational) : Type 0 where
  pub lt : (q.num *ℤ pos r.den) <ℤ (r.num *ℤ pos q.den)

-- how q lies to r
unfoldable pub rank : Rational → Rational → Ordering
rank q r = int_cmp (q.num *ℤ pos r.den) (r.num *ℤ pos q.den)

-- the answer o says how q lies to r
pub record Ranks (q r : Rational) (o : Ordering) : Type 0 where
  pub less : (o ≡ Less) ↔ (q <ℚ r)
  pub equal : (o ≡ Equal) ↔ (q ≡ r)
  pub greater : (o ≡ Greater) ↔ (r <ℚ q)

-- the second where the rank is greater, else the first
abbrev pub by_rank : Ordering → Rational → Rational → Rational
by_rank Less q r = q
by_rank Equal q r = q
by_rank Greater q r = r

-- the lesser of the two
abbrev pub lesser : Rational → Rational → Rational
lesser q r = by_rank (rank q r) q r

-- the greater of the two
abbrev pub greater : Rational → Rational → Rational
greater q r = by_rank (rank q r) r q

-- the lesser of two moments, of which one or both may be missing
abbrev pub earlier : Option Rational → Option Rational → Option Rational
earlier None e = e
earlier (Some d) None = Some d
earlier (Some d) (Some e) = Some (lesser d e)

-- s is one of q and r, and at most each of them
pub record IsLesser (q r s : Rational) : Type 0 where
  pub first : s ≤ℚ q
  pub second : s ≤ℚ r
  pub one : (s ≡ q) ⊎ (s ≡ r)

-- s is one of q and r, and at least each of them
pub record IsGreater (q r s : Rational) : Type 0 where
  pub first : q ≤ℚ s
  pub second : r ≤ℚ s
  pub one : (s ≡ q) ⊎ (s ≡ r)

-- whether q is 0
abbrev pub is_zero : Rational → Bool
is_zero q = unsigned_abs q.num == 0

-- whether q is less than 0
abbrev pub is_negative : Rational → Bool
is_negative q = int_lt q.num (pos 0)

-- whether q is greater than 0
abbrev pub is_positive : Rational → Bool
is_positive q = int_lt (pos 0) q.num
