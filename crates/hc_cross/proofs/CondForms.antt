-- Conditions form by form: how each is judged and which crossings it has, and induction over them.
use Rattle.std.proofs.Common.{rules, ◌≡◌, refl, subst, Bool, true, false, not, ◌&&◌, ◌||◌, None}
use denote.Hole.Carrier
use Rattle.hc_rational.specs.Words.{Rational}
use Rattle.hc_term.specs.declared.expr.Expr.{Expr}
use Rattle.hc_term.specs.declared.expr.Comparison.{Comparison}
use Rattle.hc_term.specs.declared.expr.Cond.{Cond, roll-Cond, the_lemmas}
use Rattle.hc_term.specs.declared.expr.Cond.TheOpen.{Cond-F}
use Rattle.hc_term.specs.declared.expr.Cond.TheFolds.{ind-Cond, map-Cond}
use Rattle.hc_term.specs.declared.expr.Cond.TheVariants as plain
use Rattle.hc_term.specs.declared.expr.Cond.TheViews as seen
use Rattle.hc_term.specs.Value.{Store, Sides, judge, answer}
use Rattle.hc_term.specs.Motion.{Rates, form}
use Rattle.hc_term.specs.EndMoment.{crossing, gap_of, earlier, kept, first_failing, domain_fits, is_domain}

-- ---- what is asked of each form

pub record IsConstant (c : Cond) : Type 0 where
  pub value : Bool
  pub judged : (f : Sides) → judge f c ≡ value
  pub found : (s : Store) (r : Rates) (f : Rational → Bool) → first_failing s r f c ≡ None

pub record IsComparison (c : Cond) (how : Comparison) (a b : Expr) : Type 0 where
  pub judged : (f : Sides) → judge f c ≡ answer how (f a b)
  pub found : (s : Store) (r : Rates) (f : Rational → Bool) →
      first_failing s r f c ≡ kept f (crossing (gap_of s r a b).at (gap_of s r a b).slope)
  pub domain : (r : Rates) → is_domain r c ≡ ((form r a).affine && (form r b).affine)

pub record IsNegated (c a : Cond) : Type 0 where
  pub judged : (f : Sides) → judge f c ≡ not (judge f a)
  pub found : (s : Store) (r : Rates) (f : Rational → Bool) → first_failing s r f c ≡ first_failing s r f a
  pub domain : (r : Rates) → is_domain r c ≡ is_domain r a

-- both `&&` and `||`
pub record IsJoined (c a b : Cond) : Type 0 where
  pub op : Bool → Bool → Bool
  pub judged : (f : Sides) → judge f c ≡ op (judge f a) (judge f b)
  pub found : (s : Store) (r : Rates) (f : Rational → Bool) →
      first_failing s r f c ≡ earlier (first_failing s r f a) (first_failing s r f b)
  pub domain : (r : Rates) → is_domain r c ≡ (is_domain r a && is_domain r b)

-- ---- each form has it

judge-True : (f : Sides) (c : Cond) → c ≡ plain.True → judge f c ≡ true
judge-True f c e = search (rules, the_lemmas)

judge-False : (f : Sides) (c : Cond) → c ≡ plain.False → judge f c ≡ false
judge-False f c e = search (rules, the_lemmas)

judge-Compare : (f : Sides) (c : Cond) (how : Comparison) (a b : Expr) → c ≡ plain.Compare how a b →
    judge f c ≡ answer how (f a b)
judge-Compare f c how a b e = search (rules, the_lemmas)

judge-Not : (f : Sides) (c a : Cond) → c ≡ seen.Not a → judge f c ≡ not (judge f a)
judge-Not f c a e = search (rules, the_lemmas)

pub judge-And : (f : Sides) (c a b : Cond) → c ≡ seen.And a b → judge f c ≡ (judge f a && judge f b)
judge-And f c a b e = search (rules, the_lemmas)

judge-Or : (f : Sides) (c a b : Cond) → c ≡ seen.Or a b → judge f c ≡ (judge f a || judge f b)
judge-Or f c a b e = search (rules, the_lemmas)

first-True : (s : Store) (r : Rates) (f : Rational → Bool) (c : Cond) → c ≡ plain.True →
    first_failing s r f c ≡ None
first-True s r f c e = search (rules, the_lemmas)

first-False : (s : Store) (r : Rates) (f : Rational → Bool) (c : Cond) → c ≡ plain.False →
    first_failing s r f c ≡ None
first-False s r f c e = search (rules, the_lemmas)

first-Compare : (s : Store) (r : Rates) (f : Rational → Bool) (c : Cond) (how : Comparison) (a b : Expr) →
    c ≡ plain.Compare how a b →
    first_failing s r f c ≡ kept f (crossing (gap_of s r a b).at (gap_of s r a b).slope)
first-Compare s r f c how a b e = search (rules, the_lemmas)

first-Not : (s : Store) (r : Rates) (f : Rational → Bool) (c a : Cond) → c ≡ seen.Not a →
    first_failing s r f c ≡ first_failing s r f a
first-Not s r f c a e = search (rules, the_lemmas)

first-And : (s : Store) (r : Rates) (f : Rational → Bool) (c a b : Cond) → c ≡ seen.And a b →
    first_failing s r f c ≡ earlier (first_failing s r f a) (first_failing s r f b)
first-And s r f c a b e = search (rules, the_lemmas)

first-Or : (s : Store) (r : Rates) (f : Rational → Bool) (c a b : Cond) → c ≡ seen.Or a b →
    first_failing s r f c ≡ earlier (first_failing s r f a) (first_failing s r f b)
first-Or s r f c a b e = search (rules, the_lemmas)

domain-Compare : (r : Rates) (c : Cond) (how : Comparison) (a b : Expr) → c ≡ plain.Compare how a b →
    is_domain r c ≡ ((form r a).affine && (form r b).affine)
domain-Compare r c how a b e = search (rules, the_lemmas)

domain-Not : (r : Rates) (c a : Cond) → c ≡ seen.Not a → is_domain r c ≡ is_domain r a
domain-Not r c a e = search (rules, the_lemmas)

domain-And : (r : Rates) (c a b : Cond) → c ≡ seen.And a b → is_domain r c ≡ (is_domain r a && is_domain r b)
domain-And r c a b e = search (rules, the_lemmas)

domain-Or : (r : Rates) (c a b : Cond) → c ≡ seen.Or a b → is_domain r c ≡ (is_domain r a && is_domain r b)
domain-Or r c a b e = search (rules, the_lemmas)

pub fits-And : (s : Store) (r : Rates) (c a b : Cond) → c ≡ seen.And a b →
    domain_fits s r c ≡ (domain_fits s r a && domain_fits s r b)
fits-And s r c a b e = search (rules, the_lemmas)

is_true : (c : Cond) → c ≡ plain.True → IsConstant c
is_true c e = record { value = true; judged = λ f. judge-True f c e; found = λ s r f. first-True s r f c e }

is_false : (c : Cond) → c ≡ plain.False → IsConstant c
is_false c e =
    record { value = false; judged = λ f. judge-False f c e; found = λ s r f. first-False s r f c e }

is_comparison : (c : Cond) (how : Comparison) (a b : Expr) → c ≡ plain.Compare how a b →
    IsComparison c how a b
is_comparison c how a b e = record {
  judged = λ f. judge-Compare f c how a b e;
  found = λ s r f. first-Compare s r f c how a b e;
  domain = λ r. domain-Compare r c how a b e;
}

is_negated : (c a : Cond) → c ≡ seen.Not a → IsNegated c a
is_negated c a e = record {
  judged = λ f. judge-Not f c a e;
  found = λ s r f. first-Not s r f c a e;
  domain = λ r. domain-Not r c a e;
}

pub is_conjoined : (c a b : Cond) → c ≡ seen.And a b → IsJoined c a b
is_conjoined c a b e = record {
  op = λ x y. x && y;
  judged = λ f. judge-And f c a b e;
  found = λ s r f. first-And s r f c a b e;
  domain = λ r. domain-And r c a b e;
}

is_disjoined : (c a b : Cond) → c ≡ seen.Or a b → IsJoined c a b
is_disjoined c a b e = record {
  op = λ x y. x || y;
  judged = λ f. judge-Or f c a b e;
  found = λ s r f. first-Or s r f c a b e;
  domain = λ r. domain-Or r c a b e;
}

-- ---- the induction

-- what is to be shown of each form
pub record Steps (P : Cond → Type 0) : Type 0 where
  pub constant : (c : Cond) → IsConstant c → P c
  pub comparison : (c : Cond) (how : Comparison) (a b : Expr) → IsComparison c how a b → P c
  pub negated : (c a : Cond) → IsNegated c a → P a → P c
  pub joined : (c a b : Cond) → IsJoined c a b → P a → P b → P c

module _ (P : Cond → Type 0) (steps : Steps P) where
  abbrev CondWith : Type 0
  CondWith = (c : Cond) × P c

  step : (y : Cond-F CondWith) → P (roll-Cond (map-Cond CondWith Cond (λ e. e.0) y))
  unfolding roll-Cond denote.Hole.Carrier.roll
  step Cond-F.True = steps.constant _ (is_true _ refl)
  step Cond-F.False = steps.constant _ (is_false _ refl)
  step (Cond-F.Compare how a b) = steps.comparison _ how a b (is_comparison _ how a b refl)
  step (Cond-F.Not a) = steps.negated _ a.0 (is_negated _ a.0 refl) a.1
  step (Cond-F.And a b) = steps.joined _ a.0 b.0 (is_conjoined _ a.0 b.0 refl) a.1 b.1
  step (Cond-F.Or a b) = steps.joined _ a.0 b.0 (is_disjoined _ a.0 b.0 refl) a.1 b.1

  pub by_form : (c : Cond) → P c
  by_form = ind-Cond P (λ x y is. subst (λ z. P (roll-Cond z)) is (step y))
