-- After a delay that is at most the end moment, the end moment is the old one less the delay.
use Rattle.std.proofs.Common.{◌≡◌, refl, sym, ap, ap₂, subst, ◌∙◌, IsTrue, [], ◌∷◌, length, Option, Some, None, arith}
use Rattle.hc_rational.specs.Words.{Rational, zero_ℚ, ◌+ℚ◌, ◌-ℚ◌, ◌*ℚ◌, neg_ℚ, ◌≤ℚ◌, ◌<ℚ◌}
use Rattle.hc_rational.specs.Rational.{difference-is}
use Rattle.hc_rational.proofs.Quotients.{own, add-is, mul-is, same_quotients}
use Rattle.hc_rational.proofs.FieldLaws.{+ℚ--ℚ, -ℚ-+ℚ, +ℚ_comm, zero-+ℚ}
use Rattle.hc_rational.proofs.OrderLaws.{+ℚ-<ℚ, +ℚ-≤ℚ, ≤ℚ--ℚ, ≤ℚ_trans}
use Rattle.hc_term.specs.declared.expr.Cond.{Cond}
use Rattle.hc_term.specs.Value.{Store, holds}
use Rattle.hc_term.specs.Motion.{Rates, value_after, after}
use Rattle.hc_term.specs.EndMoment.{EndsAt, Endless, end_moment}
use Rattle.hc_term.specs.Moved.{IsWithin, less_by}
use Rattle.hc_cross.specs.Laws.{EndAfterDelay}
use Rattle.hc_cross.proofs.EndsRight.{IsRight, right, one}

-- ---- two delays

summed : (v k d t : Rational) → (v +ℚ k *ℚ d) +ℚ k *ℚ t ≡ v +ℚ k *ℚ (d +ℚ t)
summed v k d t =
    same_quotients (add-is (add-is (own v) (mul-is (own k) (own d))) (mul-is (own k) (own t)))
    (add-is (own v) (mul-is (own k) (add-is (own d) (own t)))) (omega arith)

value_twice : (v : Rational) (k : Option Rational) (d t : Rational) →
    value_after (value_after v k d) k t ≡ value_after v k (d +ℚ t)
value_twice v None d t = refl
value_twice v (Some k) d t = summed v k d t

after_twice : (s : Store) (r : Rates) (d t : Rational) → after (after s r d) r t ≡ after s r (d +ℚ t)
after_twice [] r d t = refl
after_twice (v ∷ s) [] d t = refl
after_twice (v ∷ s) (k ∷ r) d t = ap₂ (λ x xs. x ∷ xs) (value_twice v k d t) (after_twice s r d t)

length-after : (s : Store) (r : Rates) (d : Rational) → length (after s r d) ≡ length s
length-after [] r d = refl
length-after (v ∷ s) [] d = refl
length-after (v ∷ s) (k ∷ r) d = omega (arith, length-after s r d)

-- ---- counted from the delay on

holds_from : (c : Cond) (s : Store) (r : Rates) (d t : Rational) → IsTrue (holds (after s r (d +ℚ t)) c) →
    IsTrue (holds (after (after s r d) r t) c)
holds_from c s r d t h = subst (λ z. IsTrue (holds z c)) (sym (after_twice s r d t)) h

holds_to : (c : Cond) (s : Store) (r : Rates) (d t : Rational) → IsTrue (holds (after (after s r d) r t) c) →
    IsTrue (holds (after s r (d +ℚ t)) c)
holds_to c s r d t h = subst (λ z. IsTrue (holds z c)) (after_twice s r d t) h

not_past_sum : (d t : Rational) → zero_ℚ ≤ℚ d → zero_ℚ ≤ℚ t → zero_ℚ ≤ℚ d +ℚ t
not_past_sum d t h k =
    ≤ℚ_trans zero_ℚ t (d +ℚ t) k (subst (λ z. z ≤ℚ d +ℚ t) (zero-+ℚ t) (+ℚ-≤ℚ zero_ℚ d t h))

back : (b d : Rational) → d +ℚ (b -ℚ d) ≡ b
back b d = +ℚ_comm d (b -ℚ d) ∙ -ℚ-+ℚ b d

less_sum : (b d t : Rational) → t <ℚ b -ℚ d → d +ℚ t <ℚ b
less_sum b d t h =
    subst (λ z. z <ℚ b) (+ℚ_comm t d) (subst (λ z. t +ℚ d <ℚ z) (-ℚ-+ℚ b d) (+ℚ-<ℚ t (b -ℚ d) d h))

more_sum : (b d e : Rational) → b -ℚ d <ℚ e → b <ℚ d +ℚ e
more_sum b d e h =
    subst (λ z. b <ℚ z) (+ℚ_comm e d) (subst (λ z. z <ℚ e +ℚ d) (-ℚ-+ℚ b d) (+ℚ-<ℚ (b -ℚ d) e d h))

le_less : (b d t : Rational) → b ≤ℚ t → b -ℚ d ≤ℚ t -ℚ d
le_less b d t h =
    subst (λ z. z ≤ℚ t -ℚ d) (sym (difference-is b d))
    (subst (λ z. b +ℚ neg_ℚ d ≤ℚ z) (sym (difference-is t d)) (+ℚ-≤ℚ b t (neg_ℚ d) h))

less_less : (t d e : Rational) → t <ℚ d +ℚ e → t -ℚ d <ℚ e
less_less t d e h =
    subst (λ z. z <ℚ e) (sym (difference-is t d))
    (subst (λ z. t +ℚ neg_ℚ d <ℚ z)
    (sym (difference-is (d +ℚ e) d) ∙ ap (λ z. z -ℚ d) (+ℚ_comm d e) ∙ +ℚ--ℚ e d) (+ℚ-<ℚ t (d +ℚ e) (neg_ℚ d) h))

ends_from : (c : Cond) (s : Store) (r : Rates) (d b : Rational) → zero_ℚ ≤ℚ d → d ≤ℚ b → EndsAt c s r b →
    EndsAt c (after s r d) r (b -ℚ d)
ends_from c s r d b k w i = record {
  not_past = (≤ℚ--ℚ d b).1 w;
  before = λ t j l. holds_from c s r d t (i.before (d +ℚ t) (not_past_sum d t k j) (less_sum b d t l));
  after = λ e l.
      let bad = i.after (d +ℚ e) (more_sum b d e l) in (
        bad.0 -ℚ d,
        le_less b d bad.0 bad.1,
        less_less bad.0 d e bad.2,
        λ h.
            bad.3 (subst (λ z. IsTrue (holds (after s r z) c)) (back bad.0 d) (holds_to c s r d (bad.0 -ℚ d) h)),
      );
}

endless_from : (c : Cond) (s : Store) (r : Rates) (d : Rational) → zero_ℚ ≤ℚ d → Endless c s r →
    Endless c (after s r d) r
endless_from c s r d k h = λ t j. holds_from c s r d t (h (d +ℚ t) (not_past_sum d t k j))

-- ---- the end moment

ended : (c : Cond) (s : Store) (r : Rates) (x : Option Rational) (d : Rational) → IsRight c s r x → EndsAt c s r d →
    x ≡ Some d
ended c s r None d m i = absurd ((one c s r d i).1 m)
ended c s r (Some e) d m i = ap Some ((one c s r e m).0 d i)

unended : (c : Cond) (s : Store) (r : Rates) (x : Option Rational) → IsRight c s r x → Endless c s r → x ≡ None
unended c s r None m i = refl
unended c s r (Some e) m i = absurd ((one c s r e m).1 i)

less_from : (c : Cond) (s : Store) (r : Rates) (d : Rational) (x y : Option Rational) → zero_ℚ ≤ℚ d →
    IsWithin d x → IsRight c s r x → IsRight c (after s r d) r y → y ≡ less_by d x
less_from c s r d None y k w m n = unended c (after s r d) r y n (endless_from c s r d k m)
less_from c s r d (Some b) y k w m n = ended c (after s r d) r y (b -ℚ d) n (ends_from c s r d b k w m)

pub end_after : EndAfterDelay
end_after c s r d p h j w =
    less_from c s r d (end_moment s r c) (end_moment (after s r d) r c) j w (right c s r p h)
    (right c (after s r d) r (p ∙ sym (length-after s r d)) h)
