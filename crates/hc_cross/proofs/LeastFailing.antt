-- The end moment is the first one at which the condition fails; that of `a && b` is the earlier of both.
use Rattle.std.proofs.Common.{◌≡◌, inl, inr, refl, sym, ap, ap₂, subst, ◌∙◌, Bool, true, false, not, ◌&&◌, ◌||◌, Option, Some, None, if◌then◌else◌}
use Rattle.hc_rational.specs.Words.{Rational, zero_ℚ, ◌≤ℚ◌, ◌<ℚ◌}
use Rattle.hc_rational.proofs.OrderLaws.{≤ℚ_refl, ≤ℚ_trans, ≤ℚ-or-<ℚ, ≤ℚ_antisymm}
use Rattle.hc_term.specs.declared.expr.Cond.{Cond}
use Rattle.hc_term.specs.declared.expr.Cond.TheViews as seen
use Rattle.hc_term.specs.Value.{Store, judge}
use Rattle.hc_term.specs.Motion.{Rates}
use Rattle.hc_term.specs.EndMoment.{sides_when, fails, earlier, first_failing, end_moment}
use Rattle.hc_cross.proofs.Earlier.{IsBy}
use Rattle.hc_cross.proofs.FirstMoments.{First, Some_moment, No_moment, one_first, first_of_two}
use Rattle.hc_cross.proofs.CondForms.{judge-And}
use Rattle.hc_cross.proofs.Crossings.{passes, LastCrossing, last_crossing}

pub or_false : (b : Bool) → (b ≡ true → true ≡ false) → b ≡ false
or_false true h = h refl
or_false false h = refl

both_fail : (p q x y : Bool) → p ≡ x → q ≡ x → not (p && q) ≡ true → not (y && x) ≡ true
both_fail p q true y e k h = absurd (cc (sym h ∙ ap₂ (λ a b. not (a && b)) e k))
both_fail p q false true e k h = refl
both_fail p q false false e k h = refl

parted_now : (x y : Bool) → not (x && y) ≡ (not x || not y)
parted_now true y = refl
parted_now false y = refl

parted : (p q x y : Bool) → not ((p && q) && (x && y)) ≡ (not (p && x) || not (q && y))
parted true true x y = parted_now x y
parted true false true y = refl
parted true false false y = refl
parted false q x y = refl

module _ (s : Store) (r : Rates) where
  abbrev here : Rational → Cond → Bool
  here t c = judge (sides_when false s r t) c

  abbrev next : Rational → Cond → Bool
  next t c = judge (sides_when true s r t) c

  -- ---- what fails at a moment fails now or at a crossing up to then

  fails_back : (c : Cond) (t : Rational) (l : LastCrossing s r t c) → l.at <ℚ t → fails s r c t ≡ true →
      fails s r c l.at ≡ true
  fails_back c t l k h =
      both_fail (here t c) (next t c) (next l.at c) (here l.at c) (l.same false l.at (≤ℚ_refl l.at) k)
      (l.same true l.at (≤ℚ_refl l.at) k) h

  fails_there : (c : Cond) (t : Rational) (l : LastCrossing s r t c) → fails s r c t ≡ true →
      fails s r c l.at ≡ true
  fails_there c t l h = elim (≤ℚ-or-<ℚ t l.at) [
    | inl k ↦ ap (fails s r c) (≤ℚ_antisymm l.at t l.until k) ∙ h
    | inr k ↦ fails_back c t l k h
  ]

  found_by : (c : Cond) (t : Rational) → zero_ℚ ≤ℚ t → fails s r c zero_ℚ ≡ false → fails s r c t ≡ true →
      IsBy (first_failing s r (fails s r c) c) t
  found_by c t k n h =
      let l = last_crossing s r t k c in
      let there = fails_there c t l h in
      elim l.turns [
        | inl z ↦ absurd (cc (sym (ap (fails s r c) z ∙ n) ∙ there))
        | inr z ↦
            let found = z (fails s r c) there in
            record {
              at =
                  found.at;
              is = found.is;
              no_later = ≤ℚ_trans found.at l.at t found.no_later l.until;
            }
      ]

  -- ---- the end moment

  first_later : (c : Cond) → fails s r c zero_ℚ ≡ false → (x : Option Rational) →
      first_failing s r (fails s r c) c ≡ x →
      First (fails s r c) x
  first_later c n None h = No_moment refl (λ t k. or_false (fails s r c t) (λ f.
      let found = found_by c t k n f in
      absurd (cc (sym h ∙ found.is))))
  first_later c n (Some d) h =
      let passed = (passes s r c).here (fails s r c) d h in
      Some_moment d refl (record {
        passes = passed.0;
        not_past = passed.1;
        least = λ t k f.
            let found = found_by c t k n f in
            let same : Some d ≡ Some found.at = sym h ∙ found.is in
            subst (λ z. z ≤ℚ t) (cc same) found.no_later;
      })

  first_if : (c : Cond) → (b : Bool) → fails s r c zero_ℚ ≡ b →
      First (fails s r c) (if b then Some zero_ℚ else first_failing s r (fails s r c) c)
  first_if c true h =
      Some_moment zero_ℚ refl (record { passes = h; not_past = ≤ℚ_refl zero_ℚ; least = λ t k f. k })
  first_if c false h = first_later c h (first_failing s r (fails s r c) c) refl

  pub end_is_first : (c : Cond) → First (fails s r c) (end_moment s r c)
  end_is_first c = first_if c (fails s r c zero_ℚ) refl

  -- ---- the end of a conjunction

  fails-And : (c a b : Cond) → c ≡ seen.And a b → (t : Rational) →
      fails s r c t ≡ (fails s r a t || fails s r b t)
  fails-And c a b e t =
      ap₂ (λ x y. not (x && y)) (judge-And (sides_when false s r t) c a b e)
      (judge-And (sides_when true s r t) c a b e)
      ∙ parted (here t a) (here t b) (next t a) (next t b)

  pub end-And : (c a b : Cond) → c ≡ seen.And a b →
      end_moment s r c ≡ earlier (end_moment s r a) (end_moment s r b)
  end-And c a b e =
      let both = earlier (end_moment s r a) (end_moment s r b) in
      one_first (fails s r c) (end_moment s r c) both (end_is_first c)
      (first_of_two (fails s r a) (fails s r b) (fails s r c) (end_moment s r a) (end_moment s r b)
      (fails-And c a b e) (end_is_first a) (end_is_first b))
