-- The crossings of a condition: between two of them nothing changes.
use Rattle.std.proofs.Common.{◌≡◌, ◌⊎◌, inl, inr, refl, sym, ap, ap₂, subst, ◌∙◌, Bool, true, false, not, Option, Some}
use Rattle.hc_rational.specs.Words.{Rational, zero_ℚ, ◌≤ℚ◌, ◌<ℚ◌}
use Rattle.hc_rational.proofs.OrderLaws.{≤ℚ_refl, ≤ℚ_trans, ≤ℚ-or-<ℚ, ≤ℚ-from_<ℚ, <ℚ-≤ℚ_trans, <ℚ_trans}
use Rattle.hc_term.specs.declared.expr.Expr.{Expr}
use Rattle.hc_term.specs.declared.expr.Comparison.{Comparison}
use Rattle.hc_term.specs.declared.expr.Cond.{Cond}
use Rattle.hc_term.specs.Value.{Store, judge, answer}
use Rattle.hc_term.specs.Motion.{Rates}
use Rattle.hc_term.specs.EndMoment.{crossing, gap_of, side_when, sides_when, kept, first_failing}
use Rattle.hc_cross.proofs.Sides.{meets, root, root-not_past, crossing_at, crossing-not_past}
use Rattle.hc_cross.proofs.Between.{Clear, Never, Past, Ahead, steady}
use Rattle.hc_cross.proofs.Earlier.{IsBy, first_by, second_by, earlier_one, kept_is, kept_by}
use Rattle.hc_cross.proofs.CondForms.{IsConstant, IsComparison, IsNegated, IsJoined, by_form}

module _ (s : Store) (r : Rates) where
  -- whether the condition is true at the moment t, or just after it
  abbrev truth : Bool → Rational → Cond → Bool
  truth b t c = judge (sides_when b s r t) c

  abbrev first : (Rational → Bool) → Cond → Option Rational
  first f c = first_failing s r f c

  -- a comparison, of which left minus right is now u with slope w
  record IsOnLine (c : Cond) (u w : Rational) : Type 0 where
    pub how : Comparison
    pub judged : (b : Bool) (t : Rational) → truth b t c ≡ answer how (side_when b u w t)
    pub found : (f : Rational → Bool) → first f c ≡ kept f (crossing u w)

  on_line : (c : Cond) (how : Comparison) (a b : Expr) → IsComparison c how a b →
      IsOnLine c (gap_of s r a b).at (gap_of s r a b).slope
  on_line c how a b i =
      record { how = how; judged = λ x t. i.judged (sides_when x s r t); found = λ f. i.found s r f }

  -- ---- what is found passes the test, and isn't past

  pub record Passes (c : Cond) : Type 0 where
    pub here : (f : Rational → Bool) (d : Rational) → first f c ≡ Some d → (f d ≡ true) × (zero_ℚ ≤ℚ d)

  passes_on : (c : Cond) (u w : Rational) → IsOnLine c u w → Passes c
  passes_on c u w i = record {
    here = λ f d h.
        let k = kept_is f (crossing u w) d (sym (i.found f) ∙ h) in
        (k.1, crossing-not_past u w d k.0);
  }

  passes_joined : (c a b : Cond) → IsJoined c a b → Passes a → Passes b → Passes c
  passes_joined c a b i p q = record {
    here = λ f d h. elim (earlier_one (first f a) (first f b) d (sym (i.found s r f) ∙ h)) [
      | inl k ↦ p.here f d k
      | inr k ↦ q.here f d k
    ];
  }

  pub passes : (c : Cond) → Passes c
  passes = by_form Passes (record {
    constant = λ c i. record { here = λ f d h. absurd (cc (sym (i.found s r f) ∙ h)) };
    comparison = λ c how a b i. passes_on c (gap_of s r a b).at (gap_of s r a b).slope (on_line c how a b i);
    negated = λ c a i p. record { here = λ f d h. p.here f d (sym (i.found s r f) ∙ h) };
    joined = passes_joined;
  })

  -- ---- the last crossing up to a moment

  -- what passes there has a first that is no later
  abbrev pub IsCrossing : Cond → Rational → Type 0
  IsCrossing c p = (f : Rational → Bool) → f p ≡ true → IsBy (first f c) p

  -- a moment from now on up to t, now or a crossing, from which on the condition is the same up to t
  pub record LastCrossing (t : Rational) (c : Cond) : Type 0 where
    pub at : Rational
    pub not_past : zero_ℚ ≤ℚ at
    pub until : at ≤ℚ t
    pub turns : (at ≡ zero_ℚ) ⊎ IsCrossing c at
    pub same : (b : Bool) (q : Rational) → at ≤ℚ q → q <ℚ t → truth b t c ≡ truth true q c

  last_constant : (t : Rational) → zero_ℚ ≤ℚ t → (c : Cond) → IsConstant c → LastCrossing t c
  last_constant t n c i = record {
    at = zero_ℚ;
    not_past = ≤ℚ_refl zero_ℚ;
    until = n;
    turns = inl refl;
    same = λ b q k l. i.judged (sides_when b s r t) ∙ sym (i.judged (sides_when true s r q));
  }

  same_on : (c : Cond) (u w p t : Rational) → IsOnLine c u w → zero_ℚ ≤ℚ p → p <ℚ t → Clear u w p t →
      (b : Bool) →
      truth b t c ≡ truth true p c
  same_on c u w p t i n l h b =
      i.judged b t ∙ ap (answer i.how) (steady u w p t n l h b) ∙ sym (i.judged true p)

  -- now is the last one, or the root
  last_now : (t : Rational) → zero_ℚ ≤ℚ t → (c : Cond) (u w : Rational) → IsOnLine c u w →
      ((q : Rational) → Clear u w q t) → LastCrossing t c
  last_now t n c u w i h = record {
    at = zero_ℚ;
    not_past = ≤ℚ_refl zero_ℚ;
    until = n;
    turns = inl refl;
    same = λ b q k l. same_on c u w q t i k l (h q) b;
  }

  last_root : (t : Rational) (c : Cond) (u w : Rational) → IsOnLine c u w → meets u w ≡ true → root u w ≤ℚ t →
      LastCrossing t c
  last_root t c u w i o k = record {
    at = root u w;
    not_past = root-not_past u w o;
    until = k;
    turns = inr (λ f y. record {
      at = root u w;
      is = i.found f ∙ kept_by f (crossing u w) (root u w) (crossing_at u w o) y;
      no_later = ≤ℚ_refl (root u w);
    });
    same = λ b q m l. same_on c u w q t i (≤ℚ_trans zero_ℚ (root u w) q (root-not_past u w o) m) l (Past o m) b;
  }

  last_on : (t : Rational) → zero_ℚ ≤ℚ t → (c : Cond) (u w : Rational) → IsOnLine c u w → (o : Bool) →
      meets u w ≡ o → LastCrossing t c
  last_on t n c u w i false o = last_now t n c u w i (λ q. Never o)
  last_on t n c u w i true o = elim (≤ℚ-or-<ℚ (root u w) t) [
    | inl k ↦ last_root t c u w i o k
    | inr k ↦ last_now t n c u w i (λ q. Ahead o k)
  ]

  last_negated : (t : Rational) (c a : Cond) → IsNegated c a → LastCrossing t a → LastCrossing t c
  last_negated t c a i p = record {
    at = p.at;
    not_past = p.not_past;
    until = p.until;
    turns = elim p.turns [
      | inl z ↦ inl z
      | inr z ↦ inr (λ f y. subst (λ x. IsBy x p.at) (sym (i.found s r f)) (z f y))
    ];
    same = λ b q m l.
        i.judged (sides_when b s r t) ∙ ap not (p.same b q m l) ∙ sym (i.judged (sides_when true s r q));
  }

  same_joined : (t : Rational) (c a b : Cond) → IsJoined c a b → (x : Bool) (q : Rational) →
      truth x t a ≡ truth true q a → truth x t b ≡ truth true q b → truth x t c ≡ truth true q c
  same_joined t c a b i x q h k =
      i.judged (sides_when x s r t) ∙ ap₂ i.op h k ∙ sym (i.judged (sides_when true s r q))

  -- of two parts, the later of their last crossings
  last_joined : (t : Rational) (c a b : Cond) → IsJoined c a b → LastCrossing t a → LastCrossing t b →
      LastCrossing t c
  last_joined t c a b i p q = elim (≤ℚ-or-<ℚ p.at q.at) [
    | inl k ↦ record {
      at = q.at;
      not_past = q.not_past;
      until = q.until;
      turns = elim q.turns [
        | inl z ↦ inl z
        | inr z ↦ inr (λ f y.
            subst (λ x. IsBy x q.at) (sym (i.found s r f)) (second_by (first f a) (first f b) q.at (z f y)))
      ];
      same = λ x m j l. same_joined t c a b i x m (p.same x m (≤ℚ_trans p.at q.at m k j) l) (q.same x m j l);
    }
    | inr k ↦ record {
      at = p.at;
      not_past = p.not_past;
      until = p.until;
      turns = elim p.turns [
        | inl z ↦ inl z
        | inr z ↦ inr (λ f y.
            subst (λ x. IsBy x p.at) (sym (i.found s r f)) (first_by (first f a) (first f b) p.at (z f y)))
      ];
      same = λ x m j l.
          same_joined t c a b i x m (p.same x m j l)
          (q.same x m (≤ℚ_trans q.at p.at m (≤ℚ-from_<ℚ q.at p.at k) j) l);
    }
  ]

  pub last_crossing : (t : Rational) → zero_ℚ ≤ℚ t → (c : Cond) → LastCrossing t c
  last_crossing t n = by_form (LastCrossing t) (record {
    constant = last_constant t n;
    comparison = λ c how a b i.
        let g = gap_of s r a b in
        last_on t n c g.at g.slope (on_line c how a b i) (meets g.at g.slope) refl;
    negated = last_negated t;
    joined = last_joined t;
  })

  -- ---- up to the next crossing

  -- a moment after d and up to e, before which the condition is as just after d
  pub record NextCrossing (d e : Rational) (c : Cond) : Type 0 where
    pub at : Rational
    pub later : d <ℚ at
    pub until : at ≤ℚ e
    pub same : (t : Rational) → d <ℚ t → t <ℚ at → truth false t c ≡ truth true d c

  next_constant : (d e : Rational) → d <ℚ e → (c : Cond) → IsConstant c → NextCrossing d e c
  next_constant d e l c i = record {
    at = e;
    later = l;
    until = ≤ℚ_refl e;
    same = λ t j k. i.judged (sides_when false s r t) ∙ sym (i.judged (sides_when true s r d));
  }

  next_at : (d e : Rational) → zero_ℚ ≤ℚ d → (c : Cond) (u w p : Rational) → IsOnLine c u w → d <ℚ p →
      p ≤ℚ e →
      ((t : Rational) → t <ℚ p → Clear u w d t) → NextCrossing d e c
  next_at d e n c u w p i k j h = record {
    at = p;
    later = k;
    until = j;
    same = λ t m l. same_on c u w d t i n m (h t l) false;
  }

  next_ahead : (d e : Rational) → zero_ℚ ≤ℚ d → d <ℚ e → (c : Cond) (u w : Rational) → IsOnLine c u w →
      meets u w ≡ true →
      d <ℚ root u w → NextCrossing d e c
  next_ahead d e n l c u w i o m = elim (≤ℚ-or-<ℚ (root u w) e) [
    | inl k ↦ next_at d e n c u w (root u w) i m k (λ t j. Ahead o j)
    | inr k ↦ next_at d e n c u w e i l (≤ℚ_refl e) (λ t j. Ahead o (<ℚ_trans t e (root u w) j k))
  ]

  next_on : (d e : Rational) → zero_ℚ ≤ℚ d → d <ℚ e → (c : Cond) (u w : Rational) → IsOnLine c u w →
      (o : Bool) → meets u w ≡ o →
      NextCrossing d e c
  next_on d e n l c u w i false o = next_at d e n c u w e i l (≤ℚ_refl e) (λ t j. Never o)
  next_on d e n l c u w i true o = elim (≤ℚ-or-<ℚ (root u w) d) [
    | inl k ↦ next_at d e n c u w e i l (≤ℚ_refl e) (λ t j. Past o k)
    | inr k ↦ next_ahead d e n l c u w i o k
  ]

  next_negated : (d e : Rational) (c a : Cond) → IsNegated c a → NextCrossing d e a → NextCrossing d e c
  next_negated d e c a i p = record {
    at = p.at;
    later = p.later;
    until = p.until;
    same = λ t j k.
        i.judged (sides_when false s r t) ∙ ap not (p.same t j k) ∙ sym (i.judged (sides_when true s r d));
  }

  -- of two parts, the earlier of their next crossings
  next_joined : (d e : Rational) (c a b : Cond) → IsJoined c a b → NextCrossing d e a → NextCrossing d e b →
      NextCrossing d e c
  next_joined d e c a b i p q = elim (≤ℚ-or-<ℚ p.at q.at) [
    | inl k ↦ record {
      at = p.at;
      later = p.later;
      until = p.until;
      same = λ t j l. same_joined t c a b i false d (p.same t j l) (q.same t j (<ℚ-≤ℚ_trans t p.at q.at l k));
    }
    | inr k ↦ record {
      at = q.at;
      later = q.later;
      until = q.until;
      same = λ t j l. same_joined t c a b i false d (p.same t j (<ℚ_trans t q.at p.at l k)) (q.same t j l);
    }
  ]

  pub next_crossing : (d e : Rational) → zero_ℚ ≤ℚ d → d <ℚ e → (c : Cond) → NextCrossing d e c
  next_crossing d e n l = by_form (NextCrossing d e) (record {
    constant = next_constant d e l;
    comparison = λ c how a b i.
        let g = gap_of s r a b in
        next_on d e n l c g.at g.slope (on_line c how a b i) (meets g.at g.slope) refl;
    negated = next_negated d e;
    joined = next_joined d e;
  })
