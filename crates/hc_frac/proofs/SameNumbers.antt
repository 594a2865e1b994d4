-- Fractions that are ranked equal are equal.
use Rattle.std.proofs.Common.{◌≡◌, Bool, IsTrue, ◌↔◌, refl}
use Rattle.std.proofs.Common.{is_eq}
use Rattle.std.specs.declared.cmp.Ordering.{Ordering}
use Rattle.std.specs.declared.cmp.Ordering.TheVariants.{Less, Equal, Greater}
use Rattle.hc_rational.specs.Words.{Rational, rank}
use Rattle.hc_rational.proofs.RankLaws.{rank_is}

by_side : (q r : Rational) (o : Ordering) (b : Bool) → (o ≡ Equal) ↔ (q ≡ r) → b ≡ is_eq o → IsTrue b ↔ (q ≡ r)
by_side q r Less b h e = ((λ k. absurd (cc)), (λ k. let l = h.1 k in absurd (cc)))
by_side q r Equal b h e = ((λ k. h.0 refl), (λ k. e))
by_side q r Greater b h e = ((λ k. absurd (cc)), (λ k. let l = h.1 k in absurd (cc)))

pub same_by_rank : (q r : Rational) (b : Bool) → b ≡ is_eq (rank q r) → IsTrue b ↔ (q ≡ r)
same_by_rank q r b e = by_side q r (rank q r) b (rank_is q r).equal e
