-- The least candidate at which a condition fails is its end moment.
use Rattle.std.proofs.Common.{◌≡◌, ◌⊎◌, inl, inr, refl, sym, ap, ap₂, subst, ◌∙◌, ℕ, zero, suc, ◌+◌, Bool, true, false, not, ◌&&◌, List, [], ◌∷◌, ◌++◌, length, map, Option, Some, None, if◌then◌else◌, arith}
use Rattle.std.proofs.lemmas.List.Folds.{list_all-append}
use Rattle.std.proofs.lemmas.List.{length-append}
use Rattle.std.proofs.lemmas.Option.{same_Some}
use Rattle.std.specs.declared.cmp.Ordering.{Ordering}
use Rattle.hc_rational.specs.Words.{Rational, zero_ℚ, ◌≤ℚ◌}
use Rattle.hc_rational.proofs.OrderLaws.{≤ℚ_refl, ≤ℚ_antisymm}
use Rattle.hc_term.specs.declared.expr.Expr.{Expr}
use Rattle.hc_term.specs.declared.expr.Comparison.{Comparison}
use Rattle.hc_term.specs.declared.expr.Cond.{Cond}
use Rattle.hc_term.specs.Value.{Store, judge, answer}
use Rattle.hc_term.specs.Motion.{Rates, Line}
use Rattle.hc_term.specs.EndMoment.{crossing, gap_of, side_when, sides_when, fails, first_failing, end_moment, domain_fits}
use Rattle.hc_cross.proofs.Sides.{crossing-not_past}
use Rattle.hc_cross.proofs.Earlier.{IsBy, earlier_one, kept_is}
use Rattle.hc_cross.proofs.FirstMoments.{IsFirst, First, Some_moment, No_moment}
use Rattle.hc_cross.proofs.LeastFailing.{end_is_first}
use Rattle.hc_cend.specs.Candidates.{gaps, numbered, from_on, side_in, side_of, is_false_at, least, candidates, crossing_of, found, all_fit}
use Rattle.hc_cend.specs.Laws.{FindsEndMoment, FitsAsItMust}
use Rattle.hc_cend.proofs.Trials.{IsIn, least_takes, least_origin}
use Rattle.hc_cend.proofs.StandIns.{lies}
use Rattle.hc_cend.proofs.NumberedForms.{IsConstant, IsComparison, IsNegated, IsJoined, by_form}

-- ---- which crossings a list of lines has

abbrev Crosses : Rational → List Line → Type 0
Crosses d [] = ⊥
Crosses d (l ∷ ls) = (crossing_of l ≡ Some d) ⊎ Crosses d ls

crosses_left : (d : Rational) (ls ms : List Line) → Crosses d ls → Crosses d (ls ++ ms)
crosses_left d [] ms h = absurd h
crosses_left d (l ∷ ls) ms (inl h) = inl h
crosses_left d (l ∷ ls) ms (inr h) = inr (crosses_left d ls ms h)

crosses_right : (d : Rational) (ls ms : List Line) → Crosses d ms → Crosses d (ls ++ ms)
crosses_right d [] ms h = h
crosses_right d (l ∷ ls) ms h = inr (crosses_right d ls ms h)

crosses_in : (d : Rational) (ls : List Line) → Crosses d ls → IsIn d (map crossing_of ls)
crosses_in d [] h = absurd h
crosses_in d (l ∷ ls) (inl h) = inl h
crosses_in d (l ∷ ls) (inr h) = inr (crosses_in d ls h)

-- no candidate is past
later_not_past : (d : Rational) (ls : List Line) → IsIn d (map crossing_of ls) → zero_ℚ ≤ℚ d
later_not_past d [] h = absurd h
later_not_past d (l ∷ ls) (inl h) = crossing-not_past l.at l.slope d h
later_not_past d (l ∷ ls) (inr h) = later_not_past d ls h

not_past : (d : Rational) (ls : List Line) → IsIn d (candidates ls) → zero_ℚ ≤ℚ d
not_past d ls (inl h) = subst (λ z. zero_ℚ ≤ℚ z) (same_Some zero_ℚ d h) (≤ℚ_refl zero_ℚ)
not_past d ls (inr h) = later_not_past d ls h

-- ---- the comparisons lie as their numbers say

-- the number 0 lies as the first line, and so on
abbrev Tells : Bool → Rational → (ℕ → Ordering) → List Line → Type 0
Tells b t f [] = Unit {0}
Tells b t f (l ∷ ls) = (f 0 ≡ side_when b l.at l.slope t) × Tells b t (λ k. f (suc k)) ls

tells_left : (b : Bool) (t : Rational) (f : ℕ → Ordering) (ls ms : List Line) → Tells b t f (ls ++ ms) → Tells b t f ls
tells_left b t f [] ms h = tt
tells_left b t f (l ∷ ls) ms h = (h.0, tells_left b t (λ k. f (suc k)) ls ms h.1)

tells_as : (b : Bool) (t : Rational) (f g : ℕ → Ordering) → ((k : ℕ) → f k ≡ g k) → (ls : List Line) → Tells b t f ls → Tells b t g ls
tells_as b t f g e [] h = tt
tells_as b t f g e (l ∷ ls) h = (sym (e 0) ∙ h.0, tells_as b t (λ k. f (suc k)) (λ k. g (suc k)) (λ k. e (suc k)) ls h.1)

none_before : (k : ℕ) → k ≡ 0 + k
none_before k = omega arith

one_before : (n k : ℕ) → suc (n + k) ≡ suc n + k
one_before n k = omega arith

tells_right : (b : Bool) (t : Rational) (f : ℕ → Ordering) (ls ms : List Line) → Tells b t f (ls ++ ms) →
    Tells b t (from_on (length ls) f) ms
tells_right b t f [] ms h = tells_as b t f (from_on 0 f) (λ k. ap f (none_before k)) ms h
tells_right b t f (l ∷ ls) ms h =
    tells_as b t (from_on (length ls) (λ k. f (suc k))) (from_on (suc (length ls)) f) (λ k. ap f (one_before (length ls) k)) ms
    (tells_right b t (λ k. f (suc k)) ls ms h.1)

tells_all : (b : Bool) (t : Rational) (ls : List Line) → zero_ℚ ≤ℚ t → Tells b t (side_of b t ls) ls
tells_all b t [] k = tt
tells_all b t (l ∷ ls) k = (lies b t l k, tells_all b t ls k)

module _ (s : Store) (r : Rates) where
  -- ---- by induction over the condition

  pub record Agrees (c : Cond) : Type 0 where
    pub long : (numbered c).size ≡ length (gaps s r c)
    pub truth : (b : Bool) (t : Rational) (f : ℕ → Ordering) → Tells b t f (gaps s r c) →
        (numbered c).judged f ≡ judge (sides_when b s r t) c
    pub crosses : (f : Rational → Bool) (d : Rational) → first_failing s r f c ≡ Some d → Crosses d (gaps s r c)
    pub fits : all_fit (gaps s r c) ≡ domain_fits s r c

  agrees_constant : (c : Cond) → IsConstant s r c → Agrees c
  agrees_constant c i = record {
    long = i.size ∙ sym (ap length i.lines);
    truth = λ b t f h. i.by_number f ∙ sym (i.judged (sides_when b s r t));
    crosses = λ f d h. absurd (cc (sym (i.first f) ∙ h));
    fits = ap all_fit i.lines ∙ sym i.fits;
  }

  agrees_compare : (c : Cond) (how : Comparison) (a b : Expr) → IsComparison s r c how a b → Agrees c
  agrees_compare c how a b i =
      let g = gap_of s r a b in
      record {
        long = i.size ∙ sym (ap length i.lines);
        truth = λ x t f h.
            let told : Tells x t f (g ∷ []) = subst (Tells x t f) i.lines h in
            i.by_number f ∙ ap (answer how) told.0 ∙ sym (i.judged (sides_when x s r t));
        crosses = λ f d h.
            subst (Crosses d) (sym i.lines) (inl (kept_is f (crossing g.at g.slope) d (sym (i.first f) ∙ h)).0);
        fits = ap all_fit i.lines ∙ and_one g.fits_all ∙ sym i.fits;
      }
    where
      and_one : (x : Bool) → (x && true) ≡ x
      and_one true = refl
      and_one false = refl

  agrees_negated : (c a : Cond) → IsNegated s r c a → Agrees a → Agrees c
  agrees_negated c a i p = record {
    long = i.size ∙ p.long ∙ sym (ap length i.lines);
    truth = λ b t f h.
        i.by_number f ∙ ap not (p.truth b t f (subst (Tells b t f) i.lines h)) ∙ sym (i.judged (sides_when b s r t));
    crosses = λ f d h. subst (Crosses d) (sym i.lines) (p.crosses f d (sym (i.first f) ∙ h));
    fits = ap all_fit i.lines ∙ p.fits ∙ sym i.fits;
  }

  agrees_joined : (c a b : Cond) → IsJoined s r c a b → Agrees a → Agrees b → Agrees c
  agrees_joined c a b i p q = record {
    long = i.size ∙ ap₂ (λ x y. x + y) p.long q.long ∙ sym (length-append (gaps s r a) (gaps s r b)) ∙ sym (ap length i.lines);
    truth = λ x t f h.
        let both : Tells x t f (gaps s r a ++ gaps s r b) = subst (Tells x t f) i.lines h in
        let first = p.truth x t f (tells_left x t f (gaps s r a) (gaps s r b) both) in
        let second =
        q.truth x t (from_on (numbered a).size f)
        (subst (λ n. Tells x t (from_on n f) (gaps s r b)) (sym p.long) (tells_right x t f (gaps s r a) (gaps s r b) both)) in
        i.by_number f ∙ ap₂ i.op first second ∙ sym (i.judged (sides_when x s r t));
    crosses = λ f d h.
        subst (Crosses d) (sym i.lines)
        (elim (earlier_one (first_failing s r f a) (first_failing s r f b) d (sym (i.first f) ∙ h)) [
          | inl k ↦ crosses_left d (gaps s r a) (gaps s r b) (p.crosses f d k)
          | inr k ↦ crosses_right d (gaps s r a) (gaps s r b) (q.crosses f d k)
        ]);
    fits = ap all_fit i.lines ∙ list_all-append (λ (l : Line). l.fits_all) (gaps s r a) (gaps s r b) ∙ ap₂ (λ x y. x && y) p.fits q.fits ∙ sym i.fits;
  }

  pub agrees : (c : Cond) → Agrees c
  agrees = by_form s r Agrees (record {
    constant = agrees_constant;
    comparison = agrees_compare;
    negated = agrees_negated;
    joined = agrees_joined;
  })

  module _ (c : Cond) where
    abbrev over_lines : Rational → Bool
    over_lines t = is_false_at (numbered c) (gaps s r c) t

    -- from now on the test over the lines is whether the condition fails
    pub same_test : (t : Rational) → zero_ℚ ≤ℚ t → over_lines t ≡ fails s r c t
    same_test t k =
        ap₂ (λ x y. not (x && y)) ((agrees c).truth false t _ (tells_all false t (gaps s r c) k))
        ((agrees c).truth true t _ (tells_all true t (gaps s r c) k))

    -- the end moment is a candidate
    end_if : (b : Bool) → fails s r c zero_ℚ ≡ b → (d : Rational) →
        (if b then Some zero_ℚ else first_failing s r (fails s r c) c) ≡ Some d → IsIn d (candidates (gaps s r c))
    end_if true h d e = inl e
    end_if false h d e = inr (crosses_in d (gaps s r c) ((agrees c).crosses (fails s r c) d e))

    end_in : (d : Rational) → end_moment s r c ≡ Some d → IsIn d (candidates (gaps s r c))
    end_in d e = end_if (fails s r c zero_ℚ) refl d e

    abbrev answer_is : Option Rational
    answer_is = found (numbered c) (gaps s r c)

    -- what is found is a candidate at which the condition fails
    found_fails : (d : Rational) → answer_is ≡ Some d → (zero_ℚ ≤ℚ d) × (fails s r c d ≡ true)
    found_fails d e = elim (least_origin over_lines None (candidates (gaps s r c)) d e) [
      | inl h ↦ absurd (let no : None ≡ Some d = h in cc)
      | inr h ↦
          let k = not_past d (gaps s r c) h.0 in
          (k, sym (same_test d k) ∙ h.1)
    ]

    found_first : (d : Rational) → end_moment s r c ≡ Some d → IsFirst (fails s r c) d → answer_is ≡ Some d
    found_first d e i =
        let by = least_takes over_lines None (candidates (gaps s r c)) d (end_in d e) (same_test d i.not_past ∙ i.passes) in
        let is = found_fails by.at by.is in
        by.is ∙ ap Some (≤ℚ_antisymm by.at d by.no_later (i.least by.at is.0 is.1))

    found_none : ((t : Rational) → zero_ℚ ≤ℚ t → fails s r c t ≡ false) → (x : Option Rational) → answer_is ≡ x → x ≡ None
    found_none n None e = refl
    found_none n (Some d) e =
        let is = found_fails d e in
        absurd (cc (sym is.1 ∙ n d is.0))

    found_by : First (fails s r c) (end_moment s r c) → answer_is ≡ end_moment s r c
    found_by (Some_moment d e i) = found_first d e i ∙ sym e
    found_by (No_moment e n) = found_none n answer_is refl ∙ sym e

pub finds : FindsEndMoment
finds c s r = found_by s r c (end_is_first s r c)

pub fits_as_it_must : FitsAsItMust
fits_as_it_must c s r = (agrees s r c).fits
