-- The length of a delay, told by the moments at which it would end.
use Rattle.std.proofs.Common.{◌≡◌, sym, ap, subst, ◌∙◌, ◌⊎◌, inl, inr, true, false, Bool, ◌&&◌, refl, IsTrue}
use Rattle.std.specs.Ordering.{MatchOrdering}
use Rattle.std.specs.declared.cmp.Ordering.{Ordering}
use Rattle.std.specs.declared.cmp.Ordering.TheVariants.{Less, Equal, Greater}
use Rattle.hc_rational.specs.Order.{by_rank}
use Rattle.hc_rational.specs.Words.{Rational, ◌+ℚ◌, ◌-ℚ◌, ◌<ℚ◌, rank, lesser, fits, IsFrac}
use Rattle.hc_rational.proofs.FieldLaws.{+ℚ_comm, -ℚ-+ℚ}
use Rattle.hc_rational.proofs.OrderLaws.{+ℚ-<ℚ}
use Rattle.hc_rational.proofs.RankLaws.{rank_matches, rank_is}

module _ (clock b horizon : Rational) where
  there : (horizon -ℚ clock) +ℚ clock ≡ horizon
  there = -ℚ-+ℚ horizon clock

  moved : b +ℚ clock ≡ clock +ℚ b
  moved = +ℚ_comm b clock

  by_cases : (o : Ordering) → MatchOrdering o (b <ℚ (horizon -ℚ clock)) (b ≡ horizon -ℚ clock) ((horizon -ℚ clock) <ℚ b) →
      rank (clock +ℚ b) horizon ≡ o
  by_cases Less h =
      (rank_is (clock +ℚ b) horizon).less.1
      (subst (λ (q : Rational). q <ℚ horizon) moved (subst (λ (q : Rational). (b +ℚ clock) <ℚ q) there (+ℚ-<ℚ b (horizon -ℚ clock) clock h)))
  by_cases Equal h = (rank_is (clock +ℚ b) horizon).equal.1 (sym moved ∙ (ap (λ q. q +ℚ clock) h ∙ there))
  by_cases Greater h =
      (rank_is (clock +ℚ b) horizon).greater.1
      (subst (λ (q : Rational). horizon <ℚ q) moved (subst (λ (q : Rational). q <ℚ (b +ℚ clock)) there (+ℚ-<ℚ (horizon -ℚ clock) b clock h)))

  -- the moment clock + b lies to the horizon as b lies to what is left to it
  pub rank-moved : rank (clock +ℚ b) horizon ≡ rank b (horizon -ℚ clock)
  rank-moved = by_cases (rank b (horizon -ℚ clock)) (rank_matches b (horizon -ℚ clock))

and_both : (a b : Bool) → a ≡ true → b ≡ true → (a && b) ≡ true
and_both a b h k = cc

and_left : (a b : Bool) → (a && b) ≡ true → a ≡ true
and_left true b h = refl
and_left false b h = cc

-- where the bound ends no later than the horizon the delay lasts to the bound
pub to_bound : (clock b horizon end : Rational) → IsFrac b → IsFrac (clock +ℚ b) → end ≡ clock +ℚ b →
    (rank end horizon ≡ Less) ⊎ (rank end horizon ≡ Equal) →
    let by = lesser b (horizon -ℚ clock) in
    IsTrue (fits by && fits (clock +ℚ by)) × (b ≡ by)
to_bound clock b horizon end f g e o =
    let same : lesser b (horizon -ℚ clock) ≡ b = chosen o in (
      subst (λ (q : Rational). IsTrue (fits q && fits (clock +ℚ q))) (sym same) (and_both (fits b) (fits (clock +ℚ b)) f g),
      sym same,
    )
  where
    ranked : rank b (horizon -ℚ clock) ≡ rank end horizon
    ranked = sym (ap (λ q. rank q horizon) e ∙ rank-moved clock b horizon)

    chosen : (rank end horizon ≡ Less) ⊎ (rank end horizon ≡ Equal) → lesser b (horizon -ℚ clock) ≡ b
    chosen (inl h) = ap (λ o. by_rank o b (horizon -ℚ clock)) (ranked ∙ h)
    chosen (inr h) = ap (λ o. by_rank o b (horizon -ℚ clock)) (ranked ∙ h)

-- where it ends later, and what is left to the horizon doesn't fit, the delay doesn't fit
pub past_bound : (clock b horizon end : Rational) → end ≡ clock +ℚ b → rank end horizon ≡ Greater → ¬ IsFrac (horizon -ℚ clock) →
    let by = lesser b (horizon -ℚ clock) in
    ¬ IsTrue (fits by && fits (clock +ℚ by))
past_bound clock b horizon end e h n k =
    let ranked : rank b (horizon -ℚ clock) ≡ rank end horizon = sym (ap (λ q. rank q horizon) e ∙ rank-moved clock b horizon) in
    let same : lesser b (horizon -ℚ clock) ≡ horizon -ℚ clock = ap (λ o. by_rank o b (horizon -ℚ clock)) (ranked ∙ h) in
    n (subst (λ (q : Rational). fits q ≡ true) same (and_left (fits (lesser b (horizon -ℚ clock))) (fits (clock +ℚ lesser b (horizon -ℚ clock))) k))
