-- Evaluation: parts of a defined expression are defined, an affine expression is; what a condition with `||` answers.
use Rattle.std.proofs.Common.{rules, ℕ, ◌≡◌, refl, ap, ap₂, sym, subst, ◌∙◌, Bool, true, false, not, ◌&&◌, ◌||◌, IsTrue, Ok}
use denote.Hole.Carrier
use Rattle.hc_rational.specs.Words.{Rational, is_zero}
use Rattle.hc_term.specs.declared.expr.Op.{Op}
use Rattle.hc_term.specs.declared.expr.Op.TheVariants.{Add, Sub, Mul, Div}
use Rattle.hc_term.specs.declared.form.Form.{Form}
use Rattle.hc_term.specs.declared.expr.Expr.{Expr, roll-Expr}
use Rattle.hc_term.specs.declared.expr.Expr as expr
use Rattle.hc_term.specs.declared.expr.Expr.TheOpen.{Expr-F}
use Rattle.hc_term.specs.declared.expr.Expr.TheFolds.{ind-Expr, map-Expr}
use Rattle.hc_term.specs.declared.expr.Expr.TheVariants as plain
use Rattle.hc_term.specs.declared.expr.Expr.TheViews as seen
use Rattle.hc_term.specs.declared.expr.Comparison.{Comparison}
use Rattle.hc_term.specs.declared.expr.Cond.{Cond, roll-Cond, the_lemmas}
use Rattle.hc_term.specs.declared.expr.Cond.TheOpen.{Cond-F}
use Rattle.hc_term.specs.declared.expr.Cond.TheFolds.{ind-Cond, map-Cond}
use Rattle.hc_term.specs.declared.expr.Cond.TheVariants as plain_test
use Rattle.hc_term.specs.declared.expr.Cond.TheViews as test
use Rattle.hc_term.specs.Motion.{Rates, form, form_layer, allowed}
use Rattle.hc_term.specs.EndMoment.{is_domain}
use Rattle.hc_term.specs.Value.{Store, holds, is_fitting_test, Division, division, division_layer, divides_by_zero, is_defined, is_defined_test}
use Rattle.hc_term.specs.Evaluated.{if_fitting, truth_in}

-- ---- conjunctions

first_of : (a b : Bool) → (a && b) ≡ true → a ≡ true
first_of true b h = refl
first_of false b h = h

second_of : (a b : Bool) → (a && b) ≡ true → b ≡ true
second_of true b h = h
second_of false b h = cc

both : (a b : Bool) → a ≡ true → b ≡ true → (a && b) ≡ true
both true b h k = k
both false b h k = h

-- ---- affine expressions

-- an affine expression divides by no 0 in any store, and where it may be a divisor, it isn't 0
pub record IsSound (e : Expr) : Type 0 where
  pub defined : (s : Store) (r : Rates) → (form r e).affine ≡ true → is_defined s e ≡ true
  pub divisor : (s : Store) (r : Rates) → (form r e).divides ≡ true → is_zero (division s e).value ≡ false

number_divides : (b : Bool) → not b ≡ true → b ≡ false
number_divides true h = cc
number_divides false h = refl

divides_not : (op : Op) (fa fb : Form) (v : Rational) → (fb.divides ≡ true → is_zero v ≡ false) → allowed op fa fb ≡ true
    → not (divides_by_zero op v) ≡ true
divides_not Add fa fb v h k = refl
divides_not Sub fa fb v h k = refl
divides_not Mul fa fb v h k = refl
divides_not Div fa fb v h k = ap not (h k)

binary_defined : (op : Op) (fa fb : Form) (da db : Division) → (fa.affine ≡ true → da.is_defined ≡ true) → (fb.affine ≡ true → db.is_defined ≡ true)
    → (fb.divides ≡ true → is_zero db.value ≡ false) → (fa.affine && fb.affine && allowed op fa fb) ≡ true
    → (da.is_defined && db.is_defined && not (divides_by_zero op db.value)) ≡ true
binary_defined op fa fb da db ha hb hz t =
    let parts = first_of (fa.affine && fb.affine) (allowed op fa fb) t in
    both (da.is_defined && db.is_defined) (not (divides_by_zero op db.value))
    (both da.is_defined db.is_defined (ha (first_of fa.affine fb.affine parts)) (hb (second_of fa.affine fb.affine parts)))
    (divides_not op fa fb db.value hz (second_of (fa.affine && fb.affine) (allowed op fa fb) t))

form-Binary : (r : Rates) (e : Expr) (op : Op) (a b : Expr) → e ≡ seen.Binary op a b →
    form r e ≡ form_layer r (Expr-F.Binary op (form r a) (form r b))
form-Binary r e op a b h = search (rules, expr.the_lemmas)

division-Binary : (s : Store) (e : Expr) (op : Op) (a b : Expr) → e ≡ seen.Binary op a b →
    division s e ≡ division_layer s (Expr-F.Binary op (division s a) (division s b))
division-Binary s e op a b h = search (rules, expr.the_lemmas)

form-Neg : (r : Rates) (e a : Expr) → e ≡ seen.Neg a → form r e ≡ form_layer r (Expr-F.Neg (form r a))
form-Neg r e a h = search (rules, expr.the_lemmas)

division-Neg : (s : Store) (e a : Expr) → e ≡ seen.Neg a → division s e ≡ division_layer s (Expr-F.Neg (division s a))
division-Neg s e a h = search (rules, expr.the_lemmas)

abbrev ExprWith : Type 0
ExprWith = (e : Expr) × IsSound e

abbrev alone : Expr-F ExprWith → Expr-F Expr
alone y = map-Expr ExprWith Expr (λ e. e.0) y

sound-Number : (e : Expr) (q : Rational) → e ≡ plain.Number q → IsSound e
sound-Number e q h = record {
  defined = λ s r t. search (rules, expr.the_lemmas);
  divisor = λ s r t. search (rules, number_divides, expr.the_lemmas);
}

sound-Variable : (e : Expr) (x : ℕ) → e ≡ plain.Variable x → IsSound e
sound-Variable e x h = record {
  defined = λ s r t. search (rules, expr.the_lemmas);
  divisor = λ s r t. search (rules, expr.the_lemmas);
}

sound-Neg : (e a : Expr) → e ≡ seen.Neg a → IsSound a → IsSound e
sound-Neg e a h i = record {
  defined = λ s r t. ap (λ d. d.is_defined) (division-Neg s e a h) ∙ i.defined s r (sym (ap (λ f. f.affine) (form-Neg r e a h)) ∙ t);
  divisor = λ s r t. cc (t, ap (λ f. f.divides) (form-Neg r e a h));
}

sound-Binary : (e : Expr) (op : Op) (a b : Expr) → e ≡ seen.Binary op a b → IsSound a → IsSound b → IsSound e
sound-Binary e op a b h i j = record {
  defined = λ s r t. ap (λ d. d.is_defined) (division-Binary s e op a b h)
      ∙ binary_defined op (form r a) (form r b) (division s a) (division s b) (i.defined s r) (j.defined s r) (j.divisor s r)
      (sym (ap (λ f. f.affine) (form-Binary r e op a b h)) ∙ t);
  divisor = λ s r t. cc (t, ap (λ f. f.divides) (form-Binary r e op a b h));
}

sound_step : (y : Expr-F ExprWith) → IsSound (roll-Expr (alone y))
unfolding roll-Expr denote.Hole.Carrier.roll
sound_step (Expr-F.Number q) = sound-Number _ q refl
sound_step (Expr-F.Variable x) = sound-Variable _ x refl
sound_step (Expr-F.Neg a) = sound-Neg _ a.0 refl a.1
sound_step (Expr-F.Binary op a b) = sound-Binary _ op a.0 b.0 refl a.1 b.1

pub sound : (e : Expr) → IsSound e
sound = ind-Expr IsSound (λ x y is. subst (λ z. IsSound (roll-Expr z)) is (sound_step y))

pub affine_is_defined : (s : Store) (r : Rates) (e : Expr) → IsTrue (form r e).affine → IsTrue (is_defined s e)
affine_is_defined s r e t = (sound e).defined s r t

-- ---- conditions

fitting-Or : (s : Store) (c a b : Cond) → c ≡ test.Or a b → is_fitting_test s c ≡ (is_fitting_test s a && is_fitting_test s b)
fitting-Or s c a b e = search (rules, the_lemmas)

holds-Or : (s : Store) (c a b : Cond) → c ≡ test.Or a b → holds s c ≡ (holds s a || holds s b)
holds-Or s c a b e = search (rules, the_lemmas)

either : (f g p q x y : Bool) → if_fitting f p ≡ Ok x → if_fitting g q ≡ Ok y → if_fitting (f && g) (p || q) ≡ Ok (x || y)
either true true p q x y h k = cc
either true false p q x y h k = cc
either false g p q x y h k = cc

pub truth-Or : (s : Store) (c a b : Cond) (x y : Bool) → c ≡ test.Or a b → truth_in s a ≡ Ok x → truth_in s b ≡ Ok y → truth_in s c ≡ Ok (x || y)
truth-Or s c a b x y e h k =
    ap₂ (λ (f p : Bool). if_fitting f p) (fitting-Or s c a b e) (holds-Or s c a b e) ∙
    either (is_fitting_test s a) (is_fitting_test s b) (holds s a) (holds s b) x y h k

abbrev is_domain_defined : Cond → Type 0
is_domain_defined c = (s : Store) (r : Rates) → is_domain r c ≡ true → is_defined_test s c ≡ true

abbrev CondWith : Type 0
CondWith = (c : Cond) × is_domain_defined c

abbrev alone_test : Cond-F CondWith → Cond-F Cond
alone_test y = map-Cond CondWith Cond (λ e. e.0) y

domain-Compare : (r : Rates) (c : Cond) (how : Comparison) (a b : Expr) → c ≡ plain_test.Compare how a b → is_domain r c ≡ ((form r a).affine && (form r b).affine)
domain-Compare r c how a b h = search (rules, the_lemmas)

defined-Compare : (s : Store) (c : Cond) (how : Comparison) (a b : Expr) → c ≡ plain_test.Compare how a b → is_defined_test s c ≡ (is_defined s a && is_defined s b)
defined-Compare s c how a b h = search (rules, the_lemmas)

defined-True : (s : Store) (c : Cond) → c ≡ plain_test.True → is_defined_test s c ≡ true
defined-True s c h = search (rules, the_lemmas)

defined-False : (s : Store) (c : Cond) → c ≡ plain_test.False → is_defined_test s c ≡ true
defined-False s c h = search (rules, the_lemmas)

domain-And : (r : Rates) (c a b : Cond) → c ≡ test.And a b → is_domain r c ≡ (is_domain r a && is_domain r b)
domain-And r c a b h = search (rules, the_lemmas)

defined-And : (s : Store) (c a b : Cond) → c ≡ test.And a b → is_defined_test s c ≡ (is_defined_test s a && is_defined_test s b)
defined-And s c a b h = search (rules, the_lemmas)

domain-Or : (r : Rates) (c a b : Cond) → c ≡ test.Or a b → is_domain r c ≡ (is_domain r a && is_domain r b)
domain-Or r c a b h = search (rules, the_lemmas)

defined-Or : (s : Store) (c a b : Cond) → c ≡ test.Or a b → is_defined_test s c ≡ (is_defined_test s a && is_defined_test s b)
defined-Or s c a b h = search (rules, the_lemmas)

domain-Not : (r : Rates) (c a : Cond) → c ≡ test.Not a → is_domain r c ≡ is_domain r a
domain-Not r c a h = search (rules, the_lemmas)

defined-Not : (s : Store) (c a : Cond) → c ≡ test.Not a → is_defined_test s c ≡ is_defined_test s a
defined-Not s c a h = search (rules, the_lemmas)

defined_both : (a b x y : Bool) → (a ≡ true → x ≡ true) → (b ≡ true → y ≡ true) → (a && b) ≡ true → (x && y) ≡ true
defined_both a b x y h k t = both x y (h (first_of a b t)) (k (second_of a b t))

domain_step : (y : Cond-F CondWith) → is_domain_defined (roll-Cond (alone_test y))
unfolding roll-Cond denote.Hole.Carrier.roll
domain_step Cond-F.True s r t = defined-True s _ refl
domain_step Cond-F.False s r t = defined-False s _ refl
domain_step (Cond-F.Compare how a b) s r t =
    defined-Compare s _ how a b refl
    ∙ defined_both _ _ _ _ ((sound a).defined s r) ((sound b).defined s r) (sym (domain-Compare r _ how a b refl) ∙ t)
domain_step (Cond-F.Not a) s r t = defined-Not s _ a.0 refl ∙ a.1 s r (sym (domain-Not r _ a.0 refl) ∙ t)
domain_step (Cond-F.And a b) s r t =
    defined-And s _ a.0 b.0 refl ∙ defined_both _ _ _ _ (a.1 s r) (b.1 s r) (sym (domain-And r _ a.0 b.0 refl) ∙ t)
domain_step (Cond-F.Or a b) s r t =
    defined-Or s _ a.0 b.0 refl ∙ defined_both _ _ _ _ (a.1 s r) (b.1 s r) (sym (domain-Or r _ a.0 b.0 refl) ∙ t)

pub domain_is_defined : (s : Store) (r : Rates) (c : Cond) → IsTrue (is_domain r c) → IsTrue (is_defined_test s c)
domain_is_defined s r c t = ind-Cond is_domain_defined (λ x y is. subst (λ z. is_domain_defined (roll-Cond z)) is (domain_step y)) c s r t
