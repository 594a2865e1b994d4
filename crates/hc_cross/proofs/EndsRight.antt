-- The end moment of a condition is the one at which it turns false, and there is one at most.
use Rattle.std.proofs.Common.{◌≡◌, inl, inr, refl, sym, ap, ap₂, subst, ◌∙◌, Bool, true, false, not, ◌&&◌, IsTrue, length, Option}
use Rattle.std.proofs.lemmas.Bool.{and_parts, and_cases}
use Rattle.std.specs.Prelude.{MatchOption}
use Rattle.std.specs.declared.cmp.Ordering.{Ordering}
use Rattle.std.specs.declared.cmp.Ordering.TheVariants as side
use Rattle.hc_rational.specs.Words.{Rational, zero_ℚ, one_ℚ, ◌+ℚ◌, ◌-ℚ◌, ◌*ℚ◌, neg_ℚ, ◌≤ℚ◌, ◌<ℚ◌, rank}
use Rattle.hc_rational.specs.Rational.{difference-is}
use Rattle.hc_rational.proofs.FieldLaws.{+ℚ-neg, -ℚ-self, zero-+ℚ, +ℚ_comm}
use Rattle.hc_rational.proofs.OrderLaws.{+ℚ-<ℚ, ≤ℚ-not_<ℚ, ≤ℚ_refl, ≤ℚ-or-<ℚ, ≤ℚ_antisymm, ≤ℚ_trans, ≤ℚ-from_<ℚ, <ℚ-≤ℚ_trans, between, zero-<ℚ-one}
use Rattle.hc_rational.proofs.RankLaws.{rank_is}
use Rattle.hc_term.specs.declared.expr.Expr.{Expr}
use Rattle.hc_term.specs.declared.expr.Cond.{Cond}
use Rattle.hc_term.specs.Value.{Store, judge, holds, sides_in, answer}
use Rattle.hc_term.specs.Motion.{Rates, after, line, form}
use Rattle.hc_term.specs.EndMoment.{EndsAt, Endless, EndMomentIsRight, sides_when, fails, end_moment, is_domain}
use Rattle.hc_cross.specs.Laws.{OneEndMoment}
use Rattle.hc_cross.proofs.Signs.{is_under, is_over, is_on}
use Rattle.hc_cross.proofs.AffineLines.{moves, sub_lines}
use Rattle.hc_cross.proofs.CondForms.{by_form}
use Rattle.hc_cross.proofs.FirstMoments.{IsFirst, First, Some_moment, No_moment}
use Rattle.hc_cross.proofs.Crossings.{next_crossing}
use Rattle.hc_cross.proofs.LeastFailing.{or_false, end_is_first}

-- ---- a difference lies to 0 as its parts lie to each other

rank-difference : (q r : Rational) → rank (q -ℚ r) zero_ℚ ≡ rank q r
rank-difference q r = ranked (rank q r) refl
  where
    ranked : (o : Ordering) → rank q r ≡ o → rank (q -ℚ r) zero_ℚ ≡ o
    ranked side.Less h =
        let less : q +ℚ neg_ℚ r <ℚ r +ℚ neg_ℚ r = +ℚ-<ℚ q r (neg_ℚ r) ((rank_is q r).less.0 h) in
        is_under (q -ℚ r)
        (subst (λ z. z <ℚ zero_ℚ) (sym (difference-is q r)) (subst (λ z. q +ℚ neg_ℚ r <ℚ z) (+ℚ-neg r) less))
    ranked side.Equal h = is_on (q -ℚ r) (ap (λ z. z -ℚ r) ((rank_is q r).equal.0 h) ∙ -ℚ-self r)
    ranked side.Greater h =
        let more : r +ℚ neg_ℚ r <ℚ q +ℚ neg_ℚ r = +ℚ-<ℚ r q (neg_ℚ r) ((rank_is q r).greater.0 h) in
        is_over (q -ℚ r)
        (subst (λ z. zero_ℚ <ℚ z) (sym (difference-is q r)) (subst (λ z. z <ℚ q +ℚ neg_ℚ r) (+ℚ-neg r) more))

-- x is the moment at which the condition turns false, or none where it never does
abbrev pub IsRight : Cond → Store → Rates → Option Rational → Type 0
IsRight c s r x = MatchOption x (Endless c s r) (λ d. EndsAt c s r d)

-- ---- tests

holds_by : (p q : Bool) → not (p && q) ≡ false → p ≡ true
holds_by true q h = refl
holds_by false q h = cc

one_fails : (p q : Bool) → not (p && q) ≡ true → (p && q) ≡ false
one_fails true true h = cc
one_fails true false h = refl
one_fails false q h = refl

module _ (s : Store) (r : Rates) (p : length r ≡ length s) where
  abbrev here : Rational → Cond → Bool
  here t c = judge (sides_when false s r t) c

  abbrev next : Rational → Cond → Bool
  next t c = judge (sides_when true s r t) c

  -- ---- at each moment the condition is as its gaps tell

  abbrev Tells : Rational → Cond → Type 0
  Tells t c = is_domain r c ≡ true → holds (after s r t) c ≡ here t c

  gap_tells : (t : Rational) (a b : Expr) → (form r a).affine ≡ true → (form r b).affine ≡ true →
      sides_in (after s r t) a b ≡ sides_when false s r t a b
  gap_tells t a b i j =
      let l = line s r a in
      let m = line s r b in
      ap₂ rank ((moves s r t p a).along i) ((moves s r t p b).along j)
      ∙ sym (rank-difference (l.at +ℚ l.slope *ℚ t) (m.at +ℚ m.slope *ℚ t))
      ∙ ap (λ z. rank z zero_ℚ) (sub_lines l.at l.slope m.at m.slope t)

  tells : (t : Rational) (c : Cond) → Tells t c
  tells t = by_form (Tells t) (record {
    constant = λ c i h. i.judged (sides_in (after s r t)) ∙ sym (i.judged (sides_when false s r t));
    comparison = λ c how a b i h.
        let parts = and_parts (form r a).affine (form r b).affine (sym (i.domain r) ∙ h) in
        i.judged (sides_in (after s r t)) ∙ ap (answer how) (gap_tells t a b parts.0 parts.1)
        ∙ sym (i.judged (sides_when false s r t));
    negated = λ c a i m h.
        i.judged (sides_in (after s r t)) ∙ ap not (m (sym (i.domain r) ∙ h))
        ∙ sym (i.judged (sides_when false s r t));
    joined = λ c a b i m n h.
        let parts = and_parts (is_domain r a) (is_domain r b) (sym (i.domain r) ∙ h) in
        i.judged (sides_in (after s r t)) ∙ ap₂ i.op (m parts.0) (n parts.1)
        ∙ sym (i.judged (sides_when false s r t));
  })

  -- ---- the law

  holds_where : (c : Cond) (t : Rational) → is_domain r c ≡ true → fails s r c t ≡ false →
      holds (after s r t) c ≡ true
  holds_where c t h f = tells t c h ∙ holds_by (here t c) (next t c) f

  false_where : (c : Cond) (t : Rational) → is_domain r c ≡ true → here t c ≡ false →
      ¬ (IsTrue (holds (after s r t) c))
  false_where c t h f m = absurd (cc (sym m ∙ tells t c h ∙ f))

  ends_at : (c : Cond) (d : Rational) → is_domain r c ≡ true → IsFirst (fails s r c) d → EndsAt c s r d
  ends_at c d h i = record {
    not_past = i.not_past;
    before = λ t j l.
        holds_where c t h (or_false (fails s r c t) (λ f. absurd (≤ℚ-not_<ℚ d t (i.least t j f) l)));
    after = λ e l. elim (and_cases (here d c) (next d c) (one_fails (here d c) (next d c) i.passes)) [
      | inl m ↦ (d, ≤ℚ_refl d, l, false_where c d h m)
      | inr m ↦
          let up_to = next_crossing s r d e i.not_past l c in
          let soon = between d up_to.at up_to.later in (
            soon.0,
            ≤ℚ-from_<ℚ d soon.0 soon.1,
            <ℚ-≤ℚ_trans soon.0 up_to.at e soon.2 up_to.until,
            false_where c soon.0 h (up_to.same soon.0 soon.1 soon.2 ∙ m),
          )
    ];
  }

  matched : (c : Cond) (x : Option Rational) → is_domain r c ≡ true → First (fails s r c) x → IsRight c s r x
  matched c x h (Some_moment d e i) = subst (IsRight c s r) (sym e) (ends_at c d h i)
  matched c x h (No_moment e n) = subst (IsRight c s r) (sym e) (λ t j. holds_where c t h (n t j))

pub right : EndMomentIsRight
right c s r p h = matched s r p c (end_moment s r c) h (end_is_first s r c)

-- ---- there is one

not_before : (c : Cond) (s : Store) (r : Rates) (d e : Rational) → EndsAt c s r d → EndsAt c s r e → e ≤ℚ d
not_before c s r d e i j = elim (≤ℚ-or-<ℚ e d) [
  | inl k ↦ k
  | inr l ↦
      let bad = i.after e l in
      absurd (bad.3 (j.before bad.0 (≤ℚ_trans zero_ℚ d bad.0 i.not_past bad.1) bad.2))
]

later : (d : Rational) → d <ℚ d +ℚ one_ℚ
later d =
    subst (λ z. z <ℚ d +ℚ one_ℚ) (zero-+ℚ d)
    (subst (λ z. zero_ℚ +ℚ d <ℚ z) (+ℚ_comm one_ℚ d) (+ℚ-<ℚ zero_ℚ one_ℚ d zero-<ℚ-one))

pub one : OneEndMoment
one c s r d i = (
  λ e j. ≤ℚ_antisymm d e (not_before c s r e d j i) (not_before c s r d e i j),
  λ h.
      let bad = i.after (d +ℚ one_ℚ) (later d) in
      bad.3 (h bad.0 (≤ℚ_trans zero_ℚ d bad.0 i.not_past bad.1)),
)
