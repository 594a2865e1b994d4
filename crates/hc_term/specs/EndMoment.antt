-- When the domain of an evolution turns false.
use Rattle.std.specs.Prelude.{◌≡◌, Bool, true, false, not, ◌&&◌, length, IsTrue, Option, Some, None, MatchOption, if◌then◌else◌}
use Rattle.std.specs.declared.cmp.Ordering.{Ordering}
use Rattle.std.specs.declared.cmp.Ordering.TheVariants as side
use Rattle.hc_rational.specs.Words.{Rational, zero_ℚ, ◌+ℚ◌, ◌-ℚ◌, ◌*ℚ◌, ◌/ℚ◌, neg_ℚ, ◌≤ℚ◌, rank, earlier, fits, Ends}
use Rattle.hc_term.specs.declared.expr.Expr.{Expr}
use Rattle.hc_term.specs.declared.expr.Cond.{Cond, fold-Cond}
use Rattle.hc_term.specs.declared.expr.Cond.TheOpen.{Cond-F}
use Rattle.hc_term.specs.Value.{Store, Sides, judge, holds}
use Rattle.hc_term.specs.Motion.{Rates, after, Line, line, form}

-- ---- what it means

-- the domain holds up to the moment d, and not right after it
abbrev pub EndsAt : Cond → Store → Rates → Rational → Type 0
EndsAt c s r d = Ends (λ t. IsTrue (holds (after s r t) c)) d

-- the domain holds for ever
abbrev pub Endless : Cond → Store → Rates → Type 0
Endless c s r = (t : Rational) → zero_ℚ ≤ℚ t → IsTrue (holds (after s r t) c)

-- ---- how it is found

-- where a value u with slope w lies to 0 at the moment t, and just after it
abbrev pub side_at : Rational → Rational → Rational → Ordering
side_at u w t = rank (u +ℚ w *ℚ t) zero_ℚ

abbrev pub or_else : Ordering → Ordering → Ordering
or_else side.Equal o = o
or_else side.Less o = side.Less
or_else side.Greater o = side.Greater

abbrev pub side_after : Rational → Rational → Rational → Ordering
side_after u w t = or_else (side_at u w t) (rank w zero_ℚ)

abbrev pub opposite : Ordering → Ordering → Bool
opposite side.Less side.Greater = true
opposite side.Greater side.Less = true
opposite _ _ = false

-- when a value u with slope w becomes 0 later
abbrev pub crossing : Rational → Rational → Option Rational
crossing u w = if opposite (rank u zero_ℚ) (rank w zero_ℚ) then Some (neg_ℚ u /ℚ w) else None

abbrev pub fits_if : Option Rational → Bool
fits_if None = true
fits_if (Some q) = fits q

-- left minus right
abbrev pub gap : Line → Line → Line
gap a b =
    let at = a.at -ℚ b.at in
    let slope = a.slope -ℚ b.slope in
    record { at = at; slope = slope; fits_all = a.fits_all && b.fits_all && fits at && fits slope && fits_if (crossing at slope) }

abbrev pub gap_of : Store → Rates → Expr → Expr → Line
gap_of s r a b = gap (line s r a) (line s r b)

abbrev pub side_when : Bool → Rational → Rational → Rational → Ordering
side_when false u w t = side_at u w t
side_when true u w t = side_after u w t

-- how the comparisons lie at the moment t, or just after it
abbrev pub sides_when : Bool → Store → Rates → Rational → Sides
sides_when just_after s r t a b = let g = gap_of s r a b in side_when just_after g.at g.slope t

-- whether the condition is false at the moment t or just after it
abbrev pub fails : Store → Rates → Cond → Rational → Bool
fails s r c t = not (judge (sides_when false s r t) c && judge (sides_when true s r t) c)

-- a moment that passes a test
abbrev pub kept : (Rational → Bool) → Option Rational → Option Rational
kept f None = None
kept f (Some t) = if f t then Some t else None

abbrev pub failing_layer : Store → Rates → (Rational → Bool) → Cond-F (Option Rational) → Option Rational
failing_layer s r f Cond-F.True = None
failing_layer s r f Cond-F.False = None
failing_layer s r f (Cond-F.Compare how a b) = let g = gap_of s r a b in kept f (crossing g.at g.slope)
failing_layer s r f (Cond-F.Not c) = c
failing_layer s r f (Cond-F.And b c) = earlier b c
failing_layer s r f (Cond-F.Or b c) = earlier b c

-- the least crossing time of a comparison of the condition that passes the test f
abbrev pub first_failing : Store → Rates → (Rational → Bool) → Cond → Option Rational
first_failing s r f c = fold-Cond (Option Rational) (failing_layer s r f) c

-- when the condition turns false, or none where it never does
abbrev pub end_moment : Store → Rates → Cond → Option Rational
end_moment s r c = if fails s r c zero_ℚ then Some zero_ℚ else first_failing s r (fails s r c) c

-- ---- what must fit, and which conditions are in the profile

abbrev pub fits_layer : Store → Rates → Cond-F Bool → Bool
fits_layer s r Cond-F.True = true
fits_layer s r Cond-F.False = true
fits_layer s r (Cond-F.Compare how a b) = (gap_of s r a b).fits_all
fits_layer s r (Cond-F.Not c) = c
fits_layer s r (Cond-F.And b c) = b && c
fits_layer s r (Cond-F.Or b c) = b && c

-- whether all working values of the condition fit
abbrev pub domain_fits : Store → Rates → Cond → Bool
domain_fits s r c = fold-Cond Bool (fits_layer s r) c

abbrev pub domain_layer : Rates → Cond-F Bool → Bool
domain_layer r Cond-F.True = true
domain_layer r Cond-F.False = true
domain_layer r (Cond-F.Compare how a b) = (form r a).affine && (form r b).affine
domain_layer r (Cond-F.Not c) = c
domain_layer r (Cond-F.And b c) = b && c
domain_layer r (Cond-F.Or b c) = b && c

-- whether every comparison of the condition is between affine expressions
abbrev pub is_domain : Rates → Cond → Bool
is_domain r c = fold-Cond Bool (domain_layer r) c

-- The moment that is found is the one at which the condition turns false, and there is none exactly where it never does.
abbrev pub EndMomentIsRight : Type 0
EndMomentIsRight =
    (c : Cond) (s : Store) (r : Rates) → length r ≡ length s → IsTrue (is_domain r c) →
    MatchOption (end_moment s r c) (Endless c s r) (λ d. EndsAt c s r d)
