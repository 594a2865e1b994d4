-- Where the numbers of an expression and the values of the variables fit, and its working values, so do its value, its line and an end moment.
use Rattle.std.proofs.Common.{rules, ◌≡◌, refl, sym, ap, ap₂, subst, ◌∙◌, ℕ, zero, suc, Bool, true, false, ◌&&◌, if◌then◌else◌, [], ◌∷◌, slice_index_or, Option, Some, None, ⊎_elim}
use Rattle.std.specs.List.{list_all}
use Rattle.std.proofs.lemmas.Bool.{and_parts}
use denote.Hole.Carrier
use Rattle.hc_rational.specs.Words.{Rational, zero_ℚ, neg_ℚ, earlier, fits}
use Rattle.hc_rational.proofs.FitsLaws.{zero_fits, neg_fits}
use Rattle.hc_rational.proofs.RankLaws.{lesser_is}
use Rattle.hc_term.specs.declared.expr.Op.{Op}
use Rattle.hc_term.specs.declared.expr.Comparison.{Comparison}
use Rattle.hc_term.specs.declared.expr.Expr.{Expr, roll-Expr}
use Rattle.hc_term.specs.declared.expr.Expr as expr
use Rattle.hc_term.specs.declared.expr.Expr.TheOpen.{Expr-F}
use Rattle.hc_term.specs.declared.expr.Expr.TheFolds.{ind-Expr, map-Expr}
use Rattle.hc_term.specs.declared.expr.Expr.TheVariants as plain
use Rattle.hc_term.specs.declared.expr.Expr.TheViews as seen
use Rattle.hc_term.specs.declared.expr.Cond.{Cond, roll-Cond}
use Rattle.hc_term.specs.declared.expr.Cond as cond
use Rattle.hc_term.specs.declared.expr.Cond.TheOpen.{Cond-F}
use Rattle.hc_term.specs.declared.expr.Cond.TheFolds.{ind-Cond, map-Cond}
use Rattle.hc_term.specs.declared.expr.Cond.TheVariants as test
use Rattle.hc_term.specs.declared.expr.Cond.TheViews as tested
use Rattle.hc_term.specs.Value.{Store, val, applied, Work, work, work_layer, is_fitting}
use Rattle.hc_term.specs.Motion.{Rates, rate_of, slope_by, Line, line, line_layer}
use Rattle.hc_term.specs.EndMoment.{crossing, fits_if, gap_of, kept, fails, first_failing, end_moment, domain_fits}
use Rattle.hc_runs.specs.Fractions.{numbers}

-- ---- one equation for each form

numbers-Number : (e : Expr) (q : Rational) → e ≡ plain.Number q → numbers e ≡ fits q
numbers-Number e q h = search (rules, expr.the_lemmas)

numbers-Neg : (e a : Expr) → e ≡ seen.Neg a → numbers e ≡ numbers a
numbers-Neg e a h = search (rules, expr.the_lemmas)

numbers-Binary : (e : Expr) (op : Op) (a b : Expr) → e ≡ seen.Binary op a b → numbers e ≡ (numbers a && numbers b)
numbers-Binary e op a b h = search (rules, expr.the_lemmas)

module _ (s : Store) where
  work-Number : (e : Expr) (q : Rational) → e ≡ plain.Number q → work s e ≡ work_layer s (Expr-F.Number q)
  work-Number e q h = search (rules, expr.the_lemmas)

  work-Variable : (e : Expr) (x : ℕ) → e ≡ plain.Variable x → work s e ≡ work_layer s (Expr-F.Variable x)
  work-Variable e x h = search (rules, expr.the_lemmas)

  work-Neg : (e a : Expr) → e ≡ seen.Neg a → work s e ≡ work_layer s (Expr-F.Neg (work s a))
  work-Neg e a h = search (rules, expr.the_lemmas)

  work-Binary : (e : Expr) (op : Op) (a b : Expr) → e ≡ seen.Binary op a b → work s e ≡ work_layer s (Expr-F.Binary op (work s a) (work s b))
  work-Binary e op a b h = search (rules, expr.the_lemmas)

  val-Number : (e : Expr) (q : Rational) → e ≡ plain.Number q → val s e ≡ q
  val-Number e q h = search (rules, expr.the_lemmas)

  val-Variable : (e : Expr) (x : ℕ) → e ≡ plain.Variable x → val s e ≡ slice_index_or s x zero_ℚ
  val-Variable e x h = search (rules, expr.the_lemmas)

  val-Neg : (e a : Expr) → e ≡ seen.Neg a → val s e ≡ neg_ℚ (val s a)
  val-Neg e a h = search (rules, expr.the_lemmas)

  val-Binary : (e : Expr) (op : Op) (a b : Expr) → e ≡ seen.Binary op a b → val s e ≡ applied op (val s a) (val s b)
  val-Binary e op a b h = search (rules, expr.the_lemmas)

  line-Number : (r : Rates) (e : Expr) (q : Rational) → e ≡ plain.Number q → line s r e ≡ line_layer s r (Expr-F.Number q)
  line-Number r e q h = search (rules, expr.the_lemmas)

  line-Variable : (r : Rates) (e : Expr) (x : ℕ) → e ≡ plain.Variable x → line s r e ≡ line_layer s r (Expr-F.Variable x)
  line-Variable r e x h = search (rules, expr.the_lemmas)

  line-Neg : (r : Rates) (e a : Expr) → e ≡ seen.Neg a → line s r e ≡ line_layer s r (Expr-F.Neg (line s r a))
  line-Neg r e a h = search (rules, expr.the_lemmas)

  line-Binary : (r : Rates) (e : Expr) (op : Op) (a b : Expr) → e ≡ seen.Binary op a b → line s r e ≡ line_layer s r (Expr-F.Binary op (line s r a) (line s r b))
  line-Binary r e op a b h = search (rules, expr.the_lemmas)

-- ---- values

pub index_fits : (s : Store) (x : ℕ) → list_all fits s ≡ true → fits (slice_index_or s x zero_ℚ) ≡ true
index_fits [] x h = zero_fits
index_fits (v ∷ s) zero h = (and_parts (fits v) (list_all fits s) h).0
index_fits (v ∷ s) (suc x) h = index_fits s x (and_parts (fits v) (list_all fits s) h).1

module _ (s : Store) (stored : list_all fits s ≡ true) where
  record Works (v : Rational) (w : Work) (n : Bool) : Type 0 where
    same : w.value ≡ v
    fitting : n ≡ true → w.fits_all ≡ true → fits w.value ≡ true

  rebuilt : (v v' : Rational) (w w' : Work) (n n' : Bool) → v ≡ v' → w ≡ w' → n ≡ n' → Works v' w' n' → Works v w n
  rebuilt v v' w w' n n' h i j m = subst (λ z. Works z w n) (sym h) (subst (λ z. Works v' z n) (sym i) (subst (λ z. Works v' w' z) (sym j) m))

  abbrev WorksAll : Expr → Type 0
  WorksAll e = Works (val s e) (work s e) (numbers e)

  abbrev Worked : Type 0
  Worked = (e : Expr) × WorksAll e

  works-Variable : (e : Expr) (x : ℕ) → e ≡ plain.Variable x → WorksAll e
  works-Variable e x h =
      rebuilt _ _ _ _ _ (numbers e) (val-Variable s e x h) (work-Variable s e x h) refl
      (record { same = refl; fitting = λ n k. index_fits s x stored })

  works_step : (y : Expr-F Worked) → WorksAll (roll-Expr (map-Expr Worked Expr (λ e. e.0) y))
  unfolding roll-Expr denote.Hole.Carrier.roll
  works_step (Expr-F.Number q) =
      rebuilt _ _ _ _ _ _ (val-Number s _ q refl) (work-Number s _ q refl) (numbers-Number _ q refl) (record { same = refl; fitting = λ n k. n })
  works_step (Expr-F.Variable x) = works-Variable _ x refl
  works_step (Expr-F.Neg a) =
      rebuilt _ _ _ _ _ _ (val-Neg s _ a.0 refl) (work-Neg s _ a.0 refl) (numbers-Neg _ a.0 refl)
      (record { same = ap neg_ℚ a.1.same; fitting = λ n k. neg_fits (work s a.0).value (a.1.fitting n k) })
  works_step (Expr-F.Binary op a b) =
      let v = applied op (work s a.0).value (work s b.0).value in
      rebuilt _ _ _ _ _ _ (val-Binary s _ op a.0 b.0 refl) (work-Binary s _ op a.0 b.0 refl) (numbers-Binary _ op a.0 b.0 refl)
      (record { same = ap₂ (applied op) a.1.same b.1.same; fitting = λ n k. (and_parts ((work s a.0).fits_all && (work s b.0).fits_all) (fits v) k).1 })

  works : (e : Expr) → WorksAll e
  works e = ind-Expr WorksAll (λ x y is. subst (λ z. WorksAll (roll-Expr z)) is (works_step y)) e

  -- a value fits where its working values do
  pub value_fits : (e : Expr) → numbers e ≡ true → is_fitting s e ≡ true → fits (val s e) ≡ true
  value_fits e n h = ap fits (sym (works e).same) ∙ (works e).fitting n h

  -- ---- lines

  module _ (r : Rates) (rated : list_all fits_if r ≡ true) where
    record Moves (l : Line) (n : Bool) : Type 0 where
      at : n ≡ true → l.fits_all ≡ true → fits l.at ≡ true
      slope : n ≡ true → l.fits_all ≡ true → fits l.slope ≡ true

    moves_rebuilt : (l l' : Line) (n n' : Bool) → l ≡ l' → n ≡ n' → Moves l' n' → Moves l n
    moves_rebuilt l l' n n' i j m = subst (λ z. Moves z n) (sym i) (subst (λ z. Moves l' z) (sym j) m)

    abbrev MovesAll : Expr → Type 0
    MovesAll e = Moves (line s r e) (numbers e)

    abbrev Moved : Type 0
    Moved = (e : Expr) × MovesAll e

    some_rate : (k : Option Rational) → fits_if k ≡ true → fits (rate_of k) ≡ true
    some_rate None h = zero_fits
    some_rate (Some k) h = h

    rate_fits : (r : Rates) (x : ℕ) → list_all fits_if r ≡ true → fits (rate_of (slice_index_or r x None)) ≡ true
    rate_fits [] x h = zero_fits
    rate_fits (k ∷ r) zero h = some_rate k (and_parts (fits_if k) (list_all fits_if r) h).0
    rate_fits (k ∷ r) (suc x) h = rate_fits r x (and_parts (fits_if k) (list_all fits_if r) h).1

    moves-Variable : (e : Expr) (x : ℕ) → e ≡ plain.Variable x → MovesAll e
    moves-Variable e x h =
        moves_rebuilt _ _ _ (numbers e) (line-Variable s r e x h) refl (record { at = λ n k. index_fits s x stored; slope = λ n k. rate_fits r x rated })

    moves_step : (y : Expr-F Moved) → MovesAll (roll-Expr (map-Expr Moved Expr (λ e. e.0) y))
    unfolding roll-Expr denote.Hole.Carrier.roll
    moves_step (Expr-F.Number q) = moves_rebuilt _ _ _ _ (line-Number s r _ q refl) (numbers-Number _ q refl) (record { at = λ n k. n; slope = λ n k. zero_fits })
    moves_step (Expr-F.Variable x) = moves-Variable _ x refl
    moves_step (Expr-F.Neg a) =
        moves_rebuilt _ _ _ _ (line-Neg s r _ a.0 refl) (numbers-Neg _ a.0 refl)
        (record { at = λ n k. neg_fits (line s r a.0).at (a.1.at n k); slope = λ n k. neg_fits (line s r a.0).slope (a.1.slope n k) })
    moves_step (Expr-F.Binary op a b) =
        let l = line s r a.0 in
        let m = line s r b.0 in
        let v = applied op l.at m.at in
        let w = slope_by op l.at l.slope m.at m.slope in
        moves_rebuilt _ _ _ _ (line-Binary s r _ op a.0 b.0 refl) (numbers-Binary _ op a.0 b.0 refl)
        (record {
          at = λ n k. (and_parts (l.fits_all && m.fits_all) (fits v) (and_parts (l.fits_all && m.fits_all && fits v) (fits w) k).0).1;
          slope = λ n k. (and_parts (l.fits_all && m.fits_all && fits v) (fits w) k).1;
        })

    moves : (e : Expr) → MovesAll e
    moves e = ind-Expr MovesAll (λ x y is. subst (λ z. MovesAll (roll-Expr z)) is (moves_step y)) e

    pub at_fits : (e : Expr) → numbers e ≡ true → (line s r e).fits_all ≡ true → fits (line s r e).at ≡ true
    at_fits e n h = (moves e).at n h

    pub slope_fits : (e : Expr) → numbers e ≡ true → (line s r e).fits_all ≡ true → fits (line s r e).slope ≡ true
    slope_fits e n h = (moves e).slope n h

-- ---- the value of a line is that of the expression

module _ (s : Store) (r : Rates) where
  abbrev AtIs : Expr → Type 0
  AtIs e = (line s r e).at ≡ val s e

  abbrev Lined : Type 0
  Lined = (e : Expr) × AtIs e

  at_step : (y : Expr-F Lined) → AtIs (roll-Expr (map-Expr Lined Expr (λ e. e.0) y))
  unfolding roll-Expr denote.Hole.Carrier.roll
  at_step (Expr-F.Number q) = ap (λ (l : Line). l.at) (line-Number s r _ q refl) ∙ sym (val-Number s _ q refl)
  at_step (Expr-F.Variable x) = ap (λ (l : Line). l.at) (line-Variable s r _ x refl) ∙ sym (val-Variable s _ x refl)
  at_step (Expr-F.Neg a) = ap (λ (l : Line). l.at) (line-Neg s r _ a.0 refl) ∙ ap neg_ℚ a.1 ∙ sym (val-Neg s _ a.0 refl)
  at_step (Expr-F.Binary op a b) = ap (λ (l : Line). l.at) (line-Binary s r _ op a.0 b.0 refl) ∙ ap₂ (applied op) a.1 b.1 ∙ sym (val-Binary s _ op a.0 b.0 refl)

  pub at_is : (e : Expr) → (line s r e).at ≡ val s e
  at_is e = ind-Expr AtIs (λ x y is. subst (λ z. AtIs (roll-Expr z)) is (at_step y)) e

-- ---- end moments

module _ (s : Store) (r : Rates) where
  first-True : (f : Rational → Bool) (c : Cond) → c ≡ test.True → first_failing s r f c ≡ None
  first-True f c e = search (rules, cond.the_lemmas)

  first-False : (f : Rational → Bool) (c : Cond) → c ≡ test.False → first_failing s r f c ≡ None
  first-False f c e = search (rules, cond.the_lemmas)

  first-Compare : (f : Rational → Bool) (c : Cond) (how : Comparison) (a b : Expr) → c ≡ test.Compare how a b →
      first_failing s r f c ≡ kept f (crossing (gap_of s r a b).at (gap_of s r a b).slope)
  first-Compare f c how a b e = search (rules, cond.the_lemmas)

  first-Not : (f : Rational → Bool) (c a : Cond) → c ≡ tested.Not a → first_failing s r f c ≡ first_failing s r f a
  first-Not f c a e = search (rules, cond.the_lemmas)

  first-And : (f : Rational → Bool) (c a b : Cond) → c ≡ tested.And a b → first_failing s r f c ≡ earlier (first_failing s r f a) (first_failing s r f b)
  first-And f c a b e = search (rules, cond.the_lemmas)

  first-Or : (f : Rational → Bool) (c a b : Cond) → c ≡ tested.Or a b → first_failing s r f c ≡ earlier (first_failing s r f a) (first_failing s r f b)
  first-Or f c a b e = search (rules, cond.the_lemmas)

  fits-Compare : (c : Cond) (how : Comparison) (a b : Expr) → c ≡ test.Compare how a b → domain_fits s r c ≡ (gap_of s r a b).fits_all
  fits-Compare c how a b e = search (rules, cond.the_lemmas)

  fits-Not : (c a : Cond) → c ≡ tested.Not a → domain_fits s r c ≡ domain_fits s r a
  fits-Not c a e = search (rules, cond.the_lemmas)

  fits-And : (c a b : Cond) → c ≡ tested.And a b → domain_fits s r c ≡ (domain_fits s r a && domain_fits s r b)
  fits-And c a b e = search (rules, cond.the_lemmas)

  fits-Or : (c a b : Cond) → c ≡ tested.Or a b → domain_fits s r c ≡ (domain_fits s r a && domain_fits s r b)
  fits-Or c a b e = search (rules, cond.the_lemmas)

  earlier-fits : (x y : Option Rational) → fits_if x ≡ true → fits_if y ≡ true → fits_if (earlier x y) ≡ true
  earlier-fits None y h k = k
  earlier-fits (Some d) None h k = h
  earlier-fits (Some d) (Some e) h k = ⊎_elim (λ is. ap fits is ∙ h) (λ is. ap fits is ∙ k) (lesser_is d e).one

  kept_by : (t : Rational) (b : Bool) → fits t ≡ true → fits_if (if b then Some t else None) ≡ true
  kept_by t true h = h
  kept_by t false h = refl

  kept-fits : (f : Rational → Bool) (x : Option Rational) → fits_if x ≡ true → fits_if (kept f x) ≡ true
  kept-fits f None h = refl
  kept-fits f (Some t) h = kept_by t (f t) h

  crossing-fits : (a b : Expr) → (gap_of s r a b).fits_all ≡ true → fits_if (crossing (gap_of s r a b).at (gap_of s r a b).slope) ≡ true
  crossing-fits a b h =
      let l = line s r a in
      let m = line s r b in
      let g = gap_of s r a b in
      (and_parts (l.fits_all && m.fits_all && fits g.at && fits g.slope) (fits_if (crossing g.at g.slope)) h).1

  module _ (f : Rational → Bool) where
    abbrev EndsFit : Cond → Type 0
    EndsFit c = domain_fits s r c ≡ true → fits_if (first_failing s r f c) ≡ true

    abbrev Ended : Type 0
    Ended = (c : Cond) × EndsFit c

    ends_step : (y : Cond-F Ended) → EndsFit (roll-Cond (map-Cond Ended Cond (λ c. c.0) y))
    unfolding roll-Cond denote.Hole.Carrier.roll
    ends_step Cond-F.True h = ap fits_if (first-True f _ refl)
    ends_step Cond-F.False h = ap fits_if (first-False f _ refl)
    ends_step (Cond-F.Compare how a b) h =
        ap fits_if (first-Compare f _ how a b refl) ∙ kept-fits f (crossing (gap_of s r a b).at (gap_of s r a b).slope) (crossing-fits a b (sym (fits-Compare _ how a b refl) ∙ h))
    ends_step (Cond-F.Not a) h = ap fits_if (first-Not f _ a.0 refl) ∙ a.1 (sym (fits-Not _ a.0 refl) ∙ h)
    ends_step (Cond-F.And a b) h =
        let parts = and_parts (domain_fits s r a.0) (domain_fits s r b.0) (sym (fits-And _ a.0 b.0 refl) ∙ h) in
        ap fits_if (first-And f _ a.0 b.0 refl) ∙ earlier-fits (first_failing s r f a.0) (first_failing s r f b.0) (a.1 parts.0) (b.1 parts.1)
    ends_step (Cond-F.Or a b) h =
        let parts = and_parts (domain_fits s r a.0) (domain_fits s r b.0) (sym (fits-Or _ a.0 b.0 refl) ∙ h) in
        ap fits_if (first-Or f _ a.0 b.0 refl) ∙ earlier-fits (first_failing s r f a.0) (first_failing s r f b.0) (a.1 parts.0) (b.1 parts.1)

    ends : (c : Cond) → EndsFit c
    ends c = ind-Cond EndsFit (λ x y is. subst (λ z. EndsFit (roll-Cond z)) is (ends_step y)) c

  end_by : (b : Bool) (x : Option Rational) → fits_if x ≡ true → fits_if (if b then Some zero_ℚ else x) ≡ true
  end_by true x h = zero_fits
  end_by false x h = h

  -- the end moment of a domain fits where its working values do
  pub end_fits : (c : Cond) → domain_fits s r c ≡ true → fits_if (end_moment s r c) ≡ true
  end_fits c h = end_by (fails s r c zero_ℚ) (first_failing s r (fails s r c) c) (ends (fails s r c) c h)
