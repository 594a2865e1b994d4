-- The rates of an evolution against which nothing is found: which variables evolve, and that the rates keep the rules.
use Rattle.std.proofs.Common.{◌≡◌, refl, ap, ap₂, sym, subst, ◌∙◌, ℕ, ◌<◌, nat_le, Bool, true, false, not, ◌||◌, ◌==◌, IsTrue, List, [], ◌∷◌, ◌++◌, length, map, replicate, slice_set, Option, Some, None, arith}
use Rattle.std.specs.Prelude.{slice_index_or}
use Rattle.std.specs.List.{list_any, list_all}
use Rattle.std.proofs.lemmas.List.{get_or-set_same, get_or-set_other, get_or-replicate, length-set, length-replicate, length-map}
use Rattle.std.proofs.lemmas.Bool.Decides.{Decides-eqb}
use Rattle.hc_rational.specs.Words.{Rational, zero_ℚ}
use Rattle.hc_ast.specs.Bare.{Word}
use Rattle.hc_ast.specs.declared.expr.ExprTree.{ExprTree}
use Rattle.hc_ast.specs.declared.stmt.RateTree.{RateTree}
use Rattle.hc_modules.specs.Bindings.{same_word}
use Rattle.hc_modules.specs.Finds.{only_if}
use Rattle.hc_modules.proofs.Induction.{Each}
use Rattle.hc_term.specs.declared.stmt.Rate.{Rate}
use Rattle.hc_term.specs.Motion.{Rates, evolves, form}
use Rattle.hc_term.specs.Profile.{all_apart, pattern_from, pattern_of, same_variable, is_rate, are_rates}
use Rattle.hc_term.proofs.Used.{list_any-map}
use Rattle.hc_finds.specs.declared.rules.Rule.TheVariants as rule
use Rattle.hc_finds.specs.Exprs.{NameAt, names_in, is_among, moves_of}
use Rattle.hc_finds.specs.Looks.{evolving}
use Rattle.hc_finds.specs.Names.{number_in}
use Rattle.hc_finds.specs.Parts.{rate, rates_from}
use Rattle.hc_finds.proofs.ExprForms as inside
use Rattle.hc_check.specs.Numbered.{expr_over, rate_over}
use Rattle.hc_check.proofs.Apart.{Differ, apart}
use Rattle.hc_check.proofs.Clean.{is_named, IsClean}
use Rattle.hc_check.proofs.EachLists.{both, neither, each_both, each_weaker, none_found}
use Rattle.hc_check.proofs.ExprInduction.{ExprSteps, by_expr}
use Rattle.hc_check.proofs.Numbers.{below, number_same}
use Rattle.hc_check.proofs.NumberedLines.{nothing_there, moves_same}
use Rattle.hc_check.proofs.PartFacts.{rate_ruled}
use Rattle.hc_check.proofs.RuledExprs.{Agree}
use Rattle.hc_check.proofs.SourceForms as of

-- ---- the pattern of the rates

or_none : (b : Bool) → b ≡ (b || false)
or_none true = refl
or_none false = refl

one_set : (before : Rates) (v i : ℕ) (q : Rational) → i < length before
    → evolves (slice_index_or (slice_set before v (Some q)) i None) ≡ (evolves (slice_index_or before i None) || (v == i))
one_set before v i q h = by (v == i) refl
  where
    or_yes : (b : Bool) → true ≡ (b || true)
    or_yes true = refl
    or_yes false = refl

    by : (b : Bool) → (v == i) ≡ b → evolves (slice_index_or (slice_set before v (Some q)) i None) ≡ (evolves (slice_index_or before i None) || (v == i))
    by true e =
        let here : v ≡ i = (Decides-eqb v i).0 e in
        ap (λ j. evolves (slice_index_or (slice_set before j (Some q)) i None)) here
        ∙ ap evolves (get_or-set_same before i (Some q) None h)
        ∙ or_yes (evolves (slice_index_or before i None)) ∙ ap (λ b. evolves (slice_index_or before i None) || b) (sym e)
    by false e =
        ap evolves (get_or-set_other before v i (Some q) None (λ k. absurd (cc (e, (Decides-eqb v i).1 (sym k)))))
        ∙ or_none (evolves (slice_index_or before i None)) ∙ ap (λ b. evolves (slice_index_or before i None) || b) (sym e)

or_assoc : (a b c : Bool) → ((a || b) || c) ≡ (a || (b || c))
or_assoc true b c = refl
or_assoc false b c = refl

pattern_at : (before : Rates) (rs : List Rate) (i : ℕ) → i < length before
    → evolves (slice_index_or (pattern_from before rs) i None) ≡ (evolves (slice_index_or before i None) || list_any (λ r. r.variable == i) rs)
pattern_at before [] i h = or_none (evolves (slice_index_or before i None))
pattern_at before (r ∷ rs) i h =
    let more : i < length (slice_set before r.variable (Some zero_ℚ)) = omega (arith, length-set before r.variable (Some zero_ℚ)) in
    pattern_at (slice_set before r.variable (Some zero_ℚ)) rs i more
    ∙ ap (λ b. b || list_any (λ r. r.variable == i) rs) (one_set before r.variable i zero_ℚ h)
    ∙ or_assoc (evolves (slice_index_or before i None)) (r.variable == i) (list_any (λ r. r.variable == i) rs)

any_same : {X : Type 0} (f g : X → Bool) → ((x : X) → f x ≡ g x) → (xs : List X) → list_any f xs ≡ list_any g xs
any_same f g e [] = refl
any_same f g e (x ∷ xs) = ap₂ (λ (a b : Bool). a || b) (e x) (any_same f g e xs)

abbrev still : ℕ → Rates
still n = replicate n None

-- a variable evolves exactly where it has a rate
pub pattern_agrees : (xs : List Word) (rs : List RateTree) → Agree xs (evolving rs) (pattern_of (length xs) (map (rate_over xs) rs))
pattern_agrees xs rs v h =
    let k = number_in xs v in
    let few : k < length (still (length xs)) = omega (arith, below xs v h, length-replicate {A = Option Rational} (length xs) None) in
    pattern_at (still (length xs)) (map (rate_over xs) rs) k few
    ∙ ap (λ o. evolves o || list_any (λ r. r.variable == k) (map (rate_over xs) rs)) (get_or-replicate (length xs) k None None (below xs v h))
    ∙ list_any-map (λ r. r.variable == k) (rate_over xs) rs
    ∙ any_same (λ r. number_in xs r.variable == k) (λ r. same_word r.variable v) (λ r. number_same xs r.variable v h) rs
    ∙ sym (list_any-map (λ y. same_word y v) (λ r. r.variable) rs)

-- ---- the values of rates

module _ (ys : List Word) where
  abbrev IsApart : ExprTree → Type 0
  IsApart e = Each (λ n. is_among ys n.word ≡ false) (names_in e) → (moves_of ys e).moves ≡ false

  apart_steps : ExprSteps IsApart
  apart_steps = record {
    number = λ e d is h. of.moves-number e d is ys;
    name = λ e x is h. of.moves-name e x is ys ∙ (subst (λ (ns : List NameAt). Each (λ n. is_among ys n.word ≡ false) ns) (of.names-name e x is) h).0;
    neg = λ e a is f h. ap (λ m. m.moves) (inside.moves-neg e a is ys)
        ∙ f (subst (λ (ns : List NameAt). Each (λ n. is_among ys n.word ≡ false) ns) (inside.names-neg e a is) h);
    binary = λ e op a b is f g h.
        let parts = each_both (λ n. is_among ys n.word ≡ false) (names_in a) (names_in b)
        (subst (λ (ns : List NameAt). Each (λ n. is_among ys n.word ≡ false) ns) (inside.names-binary e op a b is) h) in
        inside.moves-binary e op a b is ys ∙ neither (f parts.0) (g parts.1);
  }

  -- an expression without such names doesn't move
  pub moves_not : (e : ExprTree) → Each (λ n. is_among ys n.word ≡ false) (names_in e) → (moves_of ys e).moves ≡ false
  moves_not = by_expr IsApart apart_steps

-- ---- all rates

module _ (cs xs : List Word) where
  abbrev pub pattern : List RateTree → Rates
  pattern rs = pattern_of (length xs) (map (rate_over xs) rs)

  rate_moves_not : (all earlier : List RateTree) (r : RateTree) → IsClean cs xs (rate all earlier r)
      → (form (pattern all) (expr_over xs r.value)).moves ≡ false
  rate_moves_not all earlier r h =
      let none = each_weaker (λ n. only_if (is_among (evolving all) n.word) n.place ≡ []) (λ n. is_among (evolving all) n.word ≡ false)
      (λ n k. nothing_there (is_among (evolving all) n.word) n.place k) (names_in r.value)
      (none_found (λ (n : NameAt). only_if (is_among (evolving all) n.word) n.place) (names_in r.value) (h.lawful rule.RateEvolves)) in
      moves_same xs (evolving all) (pattern all) (pattern_agrees xs all) r.value h.variables.1 ∙ moves_not (evolving all) r.value none

  each_rate : (all earlier rs : List RateTree) → Each (IsClean cs xs) (rates_from all earlier rs)
      → IsTrue (list_all (is_rate (length xs) (pattern all)) (map (rate_over xs) rs))
  each_rate all earlier [] h = refl
  each_rate all earlier (r ∷ rs) h =
      let ruled = rate_ruled cs xs all earlier r h.0 in
      both (both (both ruled.0 ruled.1) (ap not (rate_moves_not all earlier r h.0))) (each_rate all (earlier ++ r ∷ []) rs h.1)

  -- ---- no variable has two

  abbrev one_variable : RateTree → RateTree → Bool
  one_variable q r = same_word q.variable r.variable

  abbrev HasName : RateTree → Type 0
  HasName r = IsTrue (is_named xs r.variable)

  have_names : (all earlier rs : List RateTree) → Each (IsClean cs xs) (rates_from all earlier rs) → Each HasName rs
  have_names all earlier [] h = tt
  have_names all earlier (r ∷ rs) h = (h.0.variables.0, have_names all (earlier ++ r ∷ []) rs h.1)

  rates_differ : (all earlier rs : List RateTree) → Each (IsClean cs xs) (rates_from all earlier rs) → Differ one_variable earlier rs
  rates_differ all earlier [] h = tt
  rates_differ all earlier (r ∷ rs) h = (
    sym (list_any-map (λ y. same_word y r.variable) (λ q. q.variable) earlier)
        ∙ nothing_there (is_among (evolving earlier) r.variable) r.place (h.0.lawful rule.RepeatedRate),
    rates_differ all (earlier ++ r ∷ []) rs h.1,
  )

  variables_apart : (all rs : List RateTree) → Each (IsClean cs xs) (rates_from all [] rs)
      → IsTrue (all_apart same_variable (map (rate_over xs) rs))
  variables_apart all rs h =
      apart one_variable same_variable (rate_over xs) HasName (λ q r a b. number_same xs q.variable r.variable b) [] rs
      (have_names all [] rs h) (rates_differ all [] rs h)

  pub rates_ruled : (rs : List RateTree) → IsTrue (nat_le 1 (length rs)) → Each (IsClean cs xs) (rates_from rs [] rs)
      → IsTrue (are_rates (length xs) (pattern rs) (map (rate_over xs) rs))
  rates_ruled rs some h =
      both (both (ap (nat_le 1) (length-map rs (rate_over xs)) ∙ some) (variables_apart rs rs h)) (each_rate rs [] rs h)
