-- What a rank tells, and the tests that go by it.
use Rattle.std.specs.Prelude.{◌≡◌, ◌↔◌, pos, ◌*ℤ◌, ◌<ℤ◌, IsTrue, unsigned_abs}
use Rattle.std.specs.declared.cmp.Ordering.{Ordering}
use Rattle.std.specs.declared.cmp.Ordering.TheVariants.{Less, Equal, Greater}
use Rattle.std.specs.Ordering.{MatchOrdering}
use Rattle.std.specs.Cmp.{int_ranks}
use borrow.Author.Differences.{lt-true, true_is_lt}
use borrow.Author.Tests.{eqb-true}
use Rattle.std.proofs.Common.{refl, sym, subst, inl, inr, arith}
use Rattle.std.proofs.lemmas.Int.{ints}
use Rattle.hc_rational.specs.Rational.{Rational, zero_ℚ}
use Rattle.hc_rational.specs.Order.{◌<ℚ◌, rank, Ranks, lesser, greater, by_rank, IsLesser, IsGreater, is_zero, is_negative, is_positive}
use Rattle.hc_rational.proofs.Quotients.{own, same_quotients, zero-is, lt-from, lt-to}
use Rattle.hc_rational.proofs.FieldLaws.{zero-from_num}
use Rattle.hc_rational.proofs.OrderLaws.{≤ℚ_refl, <ℚ_irrefl, ≤ℚ-from_<ℚ, ≤ℚ-from_≡, <ℚ_trans}

pub cross_equal : (q r : Rational) → q.num *ℤ pos r.den ≡ r.num *ℤ pos q.den → q ≡ r
cross_equal q r e = same_quotients (own q) (own r) (omega (arith, ints, e))

matched : (q r : Rational) (o : Ordering) →
    MatchOrdering o ((q.num *ℤ pos r.den) <ℤ (r.num *ℤ pos q.den)) (q.num *ℤ pos r.den ≡ r.num *ℤ pos q.den) ((r.num *ℤ pos q.den) <ℤ (q.num *ℤ pos r.den)) →
    MatchOrdering o (q <ℚ r) (q ≡ r) (r <ℚ q)
matched q r Less h = record { lt = h }
matched q r Equal h = cross_equal q r h
matched q r Greater h = record { lt = h }

-- the fact that the rank stands for
pub rank_matches : (q r : Rational) → MatchOrdering (rank q r) (q <ℚ r) (q ≡ r) (r <ℚ q)
unfolding rank
rank_matches q r = matched q r _ (int_ranks (q.num *ℤ pos r.den) (r.num *ℤ pos q.den))

never : (q r : Rational) → q <ℚ r → ¬ (q ≡ r)
never q r h e = <ℚ_irrefl r (subst (λ s. s <ℚ r) e h)

never_both : (q r : Rational) → q <ℚ r → ¬ (r <ℚ q)
never_both q r h k = <ℚ_irrefl q (<ℚ_trans q r q h k)

ranked : (q r : Rational) (o : Ordering) → MatchOrdering o (q <ℚ r) (q ≡ r) (r <ℚ q) → Ranks q r o
ranked q r Less h = record {
  less = (λ e. h, λ k. refl);
  equal = (λ e. absurd (cc), λ e. absurd (never q r h e));
  greater = (λ e. absurd (cc), λ k. absurd (never_both q r h k));
}
ranked q r Equal h = record {
  less = (λ e. absurd (cc), λ k. absurd (never q r k h));
  equal = (λ e. h, λ e. refl);
  greater = (λ e. absurd (cc), λ k. absurd (never r q k (sym h)));
}
ranked q r Greater h = record {
  less = (λ e. absurd (cc), λ k. absurd (never_both r q h k));
  equal = (λ e. absurd (cc), λ e. absurd (never r q h (sym e)));
  greater = (λ e. h, λ k. refl);
}

pub rank_is : (q r : Rational) → Ranks q r (rank q r)
rank_is q r = ranked q r (rank q r) (rank_matches q r)

pub rank-same : (q : Rational) → rank q q ≡ Equal
rank-same q = (rank_is q q).equal.1 refl

-- ---- the tests

pub is_zero_is : (q : Rational) → IsTrue (is_zero q) ↔ (q ≡ zero_ℚ)
unfolding zero_ℚ
is_zero_is q = (
  λ h. zero-from_num q (omega (arith, ints, eqb-true (unsigned_abs q.num) 0 h)),
  λ e. subst (λ s. IsTrue (is_zero s)) (sym e) refl,
)

pub is_negative_is : (q : Rational) → IsTrue (is_negative q) ↔ (q <ℚ zero_ℚ)
is_negative_is q = (
  λ h. lt-from (own q) zero-is (omega (arith, lt-true q.num (pos 0) h)),
  λ h. sym (true_is_lt q.num (pos 0) (omega (arith, lt-to (own q) zero-is h))),
)

pub is_positive_is : (q : Rational) → IsTrue (is_positive q) ↔ (zero_ℚ <ℚ q)
is_positive_is q = (
  λ h. lt-from zero-is (own q) (omega (arith, lt-true (pos 0) q.num h)),
  λ h. sym (true_is_lt (pos 0) q.num (omega (arith, lt-to zero-is (own q) h))),
)

-- ---- the lesser and the greater

lesser_at : (q r : Rational) (o : Ordering) → MatchOrdering o (q <ℚ r) (q ≡ r) (r <ℚ q) →
    IsLesser q r (by_rank o q r)
lesser_at q r Less h = record { first = ≤ℚ_refl q; second = ≤ℚ-from_<ℚ q r h; one = inl refl }
lesser_at q r Equal h = record { first = ≤ℚ_refl q; second = ≤ℚ-from_≡ q r h; one = inl refl }
lesser_at q r Greater h = record { first = ≤ℚ-from_<ℚ r q h; second = ≤ℚ_refl r; one = inr refl }

pub lesser_is : (q r : Rational) → IsLesser q r (lesser q r)
lesser_is q r = lesser_at q r (rank q r) (rank_matches q r)

greater_at : (q r : Rational) (o : Ordering) → MatchOrdering o (q <ℚ r) (q ≡ r) (r <ℚ q) →
    IsGreater q r (by_rank o r q)
greater_at q r Less h = record { first = ≤ℚ-from_<ℚ q r h; second = ≤ℚ_refl r; one = inr refl }
greater_at q r Equal h = record { first = ≤ℚ-from_≡ q r h; second = ≤ℚ_refl r; one = inr refl }
greater_at q r Greater h = record { first = ≤ℚ_refl q; second = ≤ℚ-from_<ℚ r q h; one = inl refl }

pub greater_is : (q r : Rational) → IsGreater q r (greater q r)
greater_is q r = greater_at q r (rank q r) (rank_matches q r)
