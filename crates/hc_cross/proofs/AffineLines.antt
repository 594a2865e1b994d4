-- An affine expression moves along its line.
use Rattle.std.proofs.Common.{rules, ◌≡◌, ◌≢◌, refl, sym, ap, ap₂, subst, ◌∙◌, ℕ, zero, suc, Bool, true, false, not, ◌&&◌, ◌||◌, [], ◌∷◌, length, slice_index_or, Option, Some, None, arith}
use Rattle.std.proofs.lemmas.Bool.{and_parts, or_parts}
use Rattle.std.specs.declared.cmp.Ordering.{Ordering}
use Rattle.std.specs.declared.cmp.Ordering.TheVariants as side
use denote.Hole.Carrier
use Rattle.hc_rational.specs.Words.{Rational, zero_ℚ, ◌+ℚ◌, ◌-ℚ◌, ◌*ℚ◌, ◌/ℚ◌, neg_ℚ, rank, is_zero}
use Rattle.hc_rational.proofs.Quotients.{own, zero-is, add-is, mul-is, neg-is, sub-is, same_quotients}
use Rattle.hc_rational.proofs.FieldLaws.{+ℚ-zero, zero-*ℚ, *ℚ-zero, neg-zero, -ℚ-self, zero-/ℚ, /ℚ-*ℚ, *ℚ_cancel}
use Rattle.hc_rational.proofs.RankLaws.{is_zero_is}
use Rattle.hc_term.specs.declared.expr.Op.{Op}
use Rattle.hc_term.specs.declared.expr.Op.TheVariants.{Add, Sub, Mul, Div}
use Rattle.hc_term.specs.declared.form.Form.{Form}
use Rattle.hc_term.specs.declared.expr.Expr.{Expr, roll-Expr}
use Rattle.hc_term.specs.declared.expr.Expr as expr
use Rattle.hc_term.specs.declared.expr.Expr.TheOpen.{Expr-F}
use Rattle.hc_term.specs.declared.expr.Expr.TheFolds.{ind-Expr, map-Expr}
use Rattle.hc_term.specs.declared.expr.Expr.TheVariants as plain
use Rattle.hc_term.specs.declared.expr.Expr.TheViews as seen
use Rattle.hc_term.specs.Value.{Store, val, applied}
use Rattle.hc_term.specs.Motion.{Rates, value_after, after, Line, line, line_layer, rate_of, product_slope, slope_by, evolves, allowed, form, form_layer}
use Rattle.hc_cross.proofs.Signs.{on, is_on}

-- ---- variables

value_line : (v : Rational) (k : Option Rational) (t : Rational) → value_after v k t ≡ v +ℚ rate_of k *ℚ t
value_line v None t = sym (ap (λ z. v +ℚ z) (zero-*ℚ t) ∙ +ℚ-zero v)
value_line v (Some k) t = refl

empty_line : (t : Rational) → zero_ℚ ≡ zero_ℚ +ℚ zero_ℚ *ℚ t
empty_line t = sym (ap (λ z. zero_ℚ +ℚ z) (zero-*ℚ t) ∙ +ℚ-zero zero_ℚ)

at_variable : (s : Store) (r : Rates) (t : Rational) (x : ℕ) → length r ≡ length s →
    slice_index_or (after s r t) x zero_ℚ ≡ slice_index_or s x zero_ℚ +ℚ rate_of (slice_index_or r x None) *ℚ t
at_variable [] [] t x h = empty_line t
at_variable [] (k ∷ r) t x h = absurd (omega (arith, h))
at_variable (v ∷ s) [] t x h = absurd (omega (arith, h))
at_variable (v ∷ s) (k ∷ r) t zero h = value_line v k t
at_variable (v ∷ s) (k ∷ r) t (suc x) h = at_variable s r t x (omega (arith, h))

-- ---- lines joined

add_lines : (a m b n t : Rational) → (a +ℚ m *ℚ t) +ℚ (b +ℚ n *ℚ t) ≡ (a +ℚ b) +ℚ (m +ℚ n) *ℚ t
add_lines a m b n t =
    same_quotients
    (add-is (add-is (own a) (mul-is (own m) (own t))) (add-is (own b) (mul-is (own n) (own t))))
    (add-is (add-is (own a) (own b)) (mul-is (add-is (own m) (own n)) (own t))) (omega arith)

pub sub_lines : (a m b n t : Rational) → (a +ℚ m *ℚ t) -ℚ (b +ℚ n *ℚ t) ≡ (a -ℚ b) +ℚ (m -ℚ n) *ℚ t
sub_lines a m b n t =
    same_quotients
    (sub-is (add-is (own a) (mul-is (own m) (own t))) (add-is (own b) (mul-is (own n) (own t))))
    (add-is (sub-is (own a) (own b)) (mul-is (sub-is (own m) (own n)) (own t))) (omega arith)

neg_line : (a m t : Rational) → neg_ℚ (a +ℚ m *ℚ t) ≡ neg_ℚ a +ℚ neg_ℚ m *ℚ t
neg_line a m t =
    same_quotients (neg-is (add-is (own a) (mul-is (own m) (own t))))
    (add-is (neg-is (own a)) (mul-is (neg-is (own m)) (own t))) (omega arith)

still_first : (a b n t : Rational) → (a +ℚ zero_ℚ *ℚ t) *ℚ (b +ℚ n *ℚ t) ≡ a *ℚ b +ℚ (a *ℚ n) *ℚ t
still_first a b n t =
    same_quotients
    (mul-is (add-is (own a) (mul-is zero-is (own t))) (add-is (own b) (mul-is (own n) (own t))))
    (add-is (mul-is (own a) (own b)) (mul-is (mul-is (own a) (own n)) (own t))) (omega arith)

still_second : (a m b t : Rational) → (a +ℚ m *ℚ t) *ℚ (b +ℚ zero_ℚ *ℚ t) ≡ a *ℚ b +ℚ (m *ℚ b) *ℚ t
still_second a m b t =
    same_quotients
    (mul-is (add-is (own a) (mul-is (own m) (own t))) (add-is (own b) (mul-is zero-is (own t))))
    (add-is (mul-is (own a) (own b)) (mul-is (mul-is (own m) (own b)) (own t))) (omega arith)

spread : (p q b t : Rational) → (p +ℚ q *ℚ t) *ℚ b ≡ p *ℚ b +ℚ (q *ℚ b) *ℚ t
spread p q b t = same_quotients (mul-is (add-is (own p) (mul-is (own q) (own t))) (own b))
    (add-is (mul-is (own p) (own b)) (mul-is (mul-is (own q) (own b)) (own t))) (omega arith)

divided_line : (a m b t : Rational) → b ≢ zero_ℚ → (a +ℚ m *ℚ t) /ℚ b ≡ a /ℚ b +ℚ (m /ℚ b) *ℚ t
divided_line a m b t n =
    *ℚ_cancel ((a +ℚ m *ℚ t) /ℚ b) (a /ℚ b +ℚ (m /ℚ b) *ℚ t) b n
    (/ℚ-*ℚ (a +ℚ m *ℚ t) b n
    ∙ sym (spread (a /ℚ b) (m /ℚ b) b t ∙ ap₂ (λ x y. x +ℚ y *ℚ t) (/ℚ-*ℚ a b n) (/ℚ-*ℚ m b n)))

-- ---- each form

form-Binary : (r : Rates) (e : Expr) (op : Op) (a b : Expr) → e ≡ seen.Binary op a b →
    form r e ≡ form_layer r (Expr-F.Binary op (form r a) (form r b))
form-Binary r e op a b h = search (rules, expr.the_lemmas)

line-Binary : (s : Store) (r : Rates) (e : Expr) (op : Op) (a b : Expr) → e ≡ seen.Binary op a b →
    line s r e ≡ line_layer s r (Expr-F.Binary op (line s r a) (line s r b))
line-Binary s r e op a b h = search (rules, expr.the_lemmas)

val-Binary : (s : Store) (e : Expr) (op : Op) (a b : Expr) → e ≡ seen.Binary op a b →
    val s e ≡ applied op (val s a) (val s b)
val-Binary s e op a b h = search (rules, expr.the_lemmas)

form-Neg : (r : Rates) (e a : Expr) → e ≡ seen.Neg a → form r e ≡ form_layer r (Expr-F.Neg (form r a))
form-Neg r e a h = search (rules, expr.the_lemmas)

line-Neg : (s : Store) (r : Rates) (e a : Expr) → e ≡ seen.Neg a →
    line s r e ≡ line_layer s r (Expr-F.Neg (line s r a))
line-Neg s r e a h = search (rules, expr.the_lemmas)

val-Neg : (s : Store) (e a : Expr) → e ≡ seen.Neg a → val s e ≡ neg_ℚ (val s a)
val-Neg s e a h = search (rules, expr.the_lemmas)

form-Variable : (r : Rates) (e : Expr) (x : ℕ) → e ≡ plain.Variable x →
    form r e ≡ form_layer r (Expr-F.Variable x)
form-Variable r e x h = search (rules, expr.the_lemmas)

line-Variable : (s : Store) (r : Rates) (e : Expr) (x : ℕ) → e ≡ plain.Variable x →
    line s r e ≡ line_layer s r (Expr-F.Variable x)
line-Variable s r e x h = search (rules, expr.the_lemmas)

val-Variable : (s : Store) (e : Expr) (x : ℕ) → e ≡ plain.Variable x → val s e ≡ slice_index_or s x zero_ℚ
val-Variable s e x h = search (rules, expr.the_lemmas)

form-Number : (r : Rates) (e : Expr) (q : Rational) → e ≡ plain.Number q →
    form r e ≡ form_layer r (Expr-F.Number q)
form-Number r e q h = search (rules, expr.the_lemmas)

line-Number : (s : Store) (r : Rates) (e : Expr) (q : Rational) → e ≡ plain.Number q →
    line s r e ≡ line_layer s r (Expr-F.Number q)
line-Number s r e q h = search (rules, expr.the_lemmas)

val-Number : (s : Store) (e : Expr) (q : Rational) → e ≡ plain.Number q → val s e ≡ q
val-Number s e q h = search (rules, expr.the_lemmas)

-- ---- the induction

-- with what moves no part, and what may divide
pub record Moves (t v : Rational) (l : Line) (f : Form) : Type 0 where
  pub along : f.affine ≡ true → v ≡ l.at +ℚ l.slope *ℚ t
  pub still : f.affine ≡ true → f.moves ≡ false → l.slope ≡ zero_ℚ
  pub divides : f.divides ≡ true → (l.at ≢ zero_ℚ) × (l.slope ≡ zero_ℚ)

not_zero : (q : Rational) → not (is_zero q) ≡ true → q ≢ zero_ℚ
not_zero q h e =
    let is : is_zero q ≡ true = (is_zero_is q).1 e in
    let none : not (is_zero q) ≡ false = ap not is in
    absurd (cc (sym h ∙ none))

not_both : (p q : Bool) → p ≡ true → not (p && q) ≡ true → q ≡ false
not_both true true h k = cc
not_both true false h k = refl
not_both false q h k = cc

mul_by : (a m b n t : Rational) (fa fb : Bool) (o : Ordering) → rank m zero_ℚ ≡ o →
    (fa ≡ false → m ≡ zero_ℚ) → (fb ≡ false → n ≡ zero_ℚ) → not (fa && fb) ≡ true →
    (a +ℚ m *ℚ t) *ℚ (b +ℚ n *ℚ t) ≡ a *ℚ b +ℚ product_slope o a m b n *ℚ t
mul_by a m b n t fa fb side.Equal h i j k =
    ap (λ z. (a +ℚ z *ℚ t) *ℚ (b +ℚ n *ℚ t)) (on m h) ∙ still_first a b n t
mul_by a m b n t true fb side.Less h i j k =
    ap (λ z. (a +ℚ m *ℚ t) *ℚ (b +ℚ z *ℚ t)) (j (not_both true fb refl k)) ∙ still_second a m b t
mul_by a m b n t true fb side.Greater h i j k =
    ap (λ z. (a +ℚ m *ℚ t) *ℚ (b +ℚ z *ℚ t)) (j (not_both true fb refl k)) ∙ still_second a m b t
mul_by a m b n t false fb side.Less h i j k = absurd (cc (sym h ∙ is_on m (i refl)))
mul_by a m b n t false fb side.Greater h i j k = absurd (cc (sym h ∙ is_on m (i refl)))

joined : (op : Op) (t v w : Rational) (a b : Line) (fa fb : Form) → Moves t v a fa → Moves t w b fb →
    (fa.affine && fb.affine && allowed op fa fb) ≡ true →
    applied op v w ≡ applied op a.at b.at +ℚ slope_by op a.at a.slope b.at b.slope *ℚ t
joined op t v w a b fa fb i j h =
    let parts = and_parts (fa.affine && fb.affine) (allowed op fa fb) h in
    let sides = and_parts fa.affine fb.affine parts.0 in
    ap₂ (applied op) (i.along sides.0) (j.along sides.1)
    ∙ lines op (i.still sides.0) (j.still sides.1) j.divides parts.1
  where
    lines : (op : Op) → (fa.moves ≡ false → a.slope ≡ zero_ℚ) → (fb.moves ≡ false → b.slope ≡ zero_ℚ) →
        (fb.divides ≡ true → (b.at ≢ zero_ℚ) × (b.slope ≡ zero_ℚ)) →
        allowed op fa fb ≡ true →
        applied op (a.at +ℚ a.slope *ℚ t) (b.at +ℚ b.slope *ℚ t) ≡
        applied op a.at b.at +ℚ slope_by op a.at a.slope b.at b.slope *ℚ t
    lines Add si sj d k = add_lines a.at a.slope b.at b.slope t
    lines Sub si sj d k = sub_lines a.at a.slope b.at b.slope t
    lines Mul si sj d k =
        mul_by a.at a.slope b.at b.slope t fa.moves fb.moves (rank a.slope zero_ℚ) refl si sj k
    lines Div si sj d k =
        let still : b.at +ℚ b.slope *ℚ t ≡ b.at =
        ap (λ z. b.at +ℚ z *ℚ t) (d k).1 ∙ ap (λ z. b.at +ℚ z) (zero-*ℚ t) ∙ +ℚ-zero b.at in
        ap (λ z. (a.at +ℚ a.slope *ℚ t) /ℚ z) still ∙ divided_line a.at a.slope b.at t (d k).0

still_product : (a m b n : Rational) (o : Ordering) → m ≡ zero_ℚ → n ≡ zero_ℚ →
    product_slope o a m b n ≡ zero_ℚ
still_product a m b n side.Equal h k = ap (λ z. a *ℚ z) k ∙ *ℚ-zero a
still_product a m b n side.Less h k = ap (λ z. z *ℚ b) h ∙ zero-*ℚ b
still_product a m b n side.Greater h k = ap (λ z. z *ℚ b) h ∙ zero-*ℚ b

stilled : (op : Op) (t v w : Rational) (a b : Line) (fa fb : Form) → Moves t v a fa → Moves t w b fb →
    (fa.affine && fb.affine && allowed op fa fb) ≡ true →
    (fa.moves || fb.moves) ≡ false → slope_by op a.at a.slope b.at b.slope ≡ zero_ℚ
stilled op t v w a b fa fb i j h none =
    let parts = and_parts (fa.affine && fb.affine) (allowed op fa fb) h in
    let sides = and_parts fa.affine fb.affine parts.0 in
    let stays = or_parts fa.moves fb.moves none in
    slopes op (i.still sides.0 stays.0) (j.still sides.1 stays.1) j.divides parts.1
  where
    slopes : (op : Op) → a.slope ≡ zero_ℚ → b.slope ≡ zero_ℚ →
        (fb.divides ≡ true → (b.at ≢ zero_ℚ) × (b.slope ≡ zero_ℚ)) → allowed op fa fb ≡ true →
        slope_by op a.at a.slope b.at b.slope ≡ zero_ℚ
    slopes Add p q d k = ap₂ (λ x y. x +ℚ y) p q ∙ +ℚ-zero zero_ℚ
    slopes Sub p q d k = ap₂ (λ x y. x -ℚ y) p q ∙ -ℚ-self zero_ℚ
    slopes Mul p q d k = still_product a.at a.slope b.at b.slope (rank a.slope zero_ℚ) p q
    slopes Div p q d k = ap (λ z. z /ℚ b.at) p ∙ zero-/ℚ b.at (d k).0

module _ (s : Store) (r : Rates) (t : Rational) where
  abbrev there : Expr → Rational
  there e = val (after s r t) e

  abbrev MovesAll : Expr → Type 0
  MovesAll e = Moves t (there e) (line s r e) (form r e)

  -- by what each form makes of its parts
  rebuilt : (e : Expr) (v : Rational) (l : Line) (f : Form) → there e ≡ v → line s r e ≡ l → form r e ≡ f →
      Moves t v l f → MovesAll e
  rebuilt e v l f h i j m =
      subst (λ z. Moves t z (line s r e) (form r e)) (sym h)
      (subst (λ z. Moves t v z (form r e)) (sym i) (subst (λ z. Moves t v l z) (sym j) m))

  moves-Number : (e : Expr) (q : Rational) → e ≡ plain.Number q → MovesAll e
  moves-Number e q h =
      rebuilt e q (line_layer s r (Expr-F.Number q)) (form_layer r (Expr-F.Number q))
      (val-Number (after s r t) e q h) (line-Number s r e q h) (form-Number r e q h)
      (record {
        along = λ k. sym (ap (λ z. q +ℚ z) (zero-*ℚ t) ∙ +ℚ-zero q);
        still = λ k n. refl;
        divides = λ k. (not_zero q k, refl);
      })

  still_variable : (k : Option Rational) → evolves k ≡ false → rate_of k ≡ zero_ℚ
  still_variable None h = refl
  still_variable (Some k) h = cc

  moves-Variable : (e : Expr) (x : ℕ) → length r ≡ length s → e ≡ plain.Variable x → MovesAll e
  moves-Variable e x p h =
      rebuilt e (slice_index_or (after s r t) x zero_ℚ) (line_layer s r (Expr-F.Variable x))
      (form_layer r (Expr-F.Variable x)) (val-Variable (after s r t) e x h) (line-Variable s r e x h)
      (form-Variable r e x h)
      (record {
        along = λ k. at_variable s r t x p;
        still = λ k n. still_variable (slice_index_or r x None) n;
        divides = λ k. absurd (cc k);
      })

  moves-Neg : (e a : Expr) → e ≡ seen.Neg a → MovesAll a → MovesAll e
  moves-Neg e a h i =
      rebuilt e (neg_ℚ (there a)) (line_layer s r (Expr-F.Neg (line s r a))) (form_layer r (Expr-F.Neg (form r a)))
      (val-Neg (after s r t) e a h) (line-Neg s r e a h) (form-Neg r e a h)
      (record {
        along = λ k. ap neg_ℚ (i.along k) ∙ neg_line (line s r a).at (line s r a).slope t;
        still = λ k n. ap neg_ℚ (i.still k n) ∙ neg-zero;
        divides = λ k. absurd (cc k);
      })

  moves-Binary : (e : Expr) (op : Op) (a b : Expr) → e ≡ seen.Binary op a b → MovesAll a → MovesAll b → MovesAll e
  moves-Binary e op a b h i j =
      rebuilt e (applied op (there a) (there b)) (line_layer s r (Expr-F.Binary op (line s r a) (line s r b)))
      (form_layer r (Expr-F.Binary op (form r a) (form r b))) (val-Binary (after s r t) e op a b h)
      (line-Binary s r e op a b h) (form-Binary r e op a b h)
      (record {
        along = λ k. joined op t (there a) (there b) (line s r a) (line s r b) (form r a) (form r b) i j k;
        still = λ k n. stilled op t (there a) (there b) (line s r a) (line s r b) (form r a) (form r b) i j k n;
        divides = λ k. absurd (cc k);
      })

  abbrev ExprWith : Type 0
  ExprWith = (e : Expr) × MovesAll e

  step : length r ≡ length s → (y : Expr-F ExprWith) → MovesAll (roll-Expr (map-Expr ExprWith Expr (λ e. e.0) y))
  unfolding roll-Expr denote.Hole.Carrier.roll
  step p (Expr-F.Number q) = moves-Number _ q refl
  step p (Expr-F.Variable x) = moves-Variable _ x p refl
  step p (Expr-F.Neg a) = moves-Neg _ a.0 refl a.1
  step p (Expr-F.Binary op a b) = moves-Binary _ op a.0 b.0 refl a.1 b.1

  pub moves : length r ≡ length s → (e : Expr) → MovesAll e
  moves p = ind-Expr MovesAll (λ x y is. subst (λ z. MovesAll (roll-Expr z)) is (step p y))
