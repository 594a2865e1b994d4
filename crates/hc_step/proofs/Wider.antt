-- What keeps the rules with so many variables keeps them with more: which variables evolve stays the same.
use Rattle.std.proofs.Common.{rules, ◌≡◌, refl, sym, ap, ap₂, subst, ◌∙◌, arith, ℕ, zero, suc, ◌+◌, ◌<◌, ◌≤◌, Bool, true, false, not, ◌&&◌, List, [], ◌∷◌, length, nat_le, nat_lt, Option, Some, None}
use Rattle.std.specs.Prelude.{replicate, slice_set, slice_index_or}
use Rattle.std.specs.List.{list_all}
use Rattle.std.proofs.lemmas.Bool.{and_parts, and_from, leb-true, le-leb, ltb-true, lt-ltb}
use Rattle.std.proofs.lemmas.List.{length-replicate}
use denote.Hole.Carrier
use Rattle.hc_limits.specs.Limits.{most_nodes, most_guards}
use Rattle.hc_rational.specs.Words.{Rational, zero_ℚ}
use Rattle.hc_term.specs.declared.form.Form.{Form}
use Rattle.hc_term.specs.declared.expr.Op.{Op}
use Rattle.hc_term.specs.declared.expr.Comparison.{Comparison}
use Rattle.hc_term.specs.declared.expr.Expr.{Expr, roll-Expr}
use Rattle.hc_term.specs.declared.expr.Expr as expr
use Rattle.hc_term.specs.declared.expr.Expr.TheOpen.{Expr-F}
use Rattle.hc_term.specs.declared.expr.Expr.TheFolds.{ind-Expr, map-Expr}
use Rattle.hc_term.specs.declared.expr.Expr.TheVariants as plain
use Rattle.hc_term.specs.declared.expr.Expr.TheViews as seen
use Rattle.hc_term.specs.declared.expr.Cond.{Cond, roll-Cond}
use Rattle.hc_term.specs.declared.expr.Cond as cond
use Rattle.hc_term.specs.declared.expr.Cond.TheOpen.{Cond-F}
use Rattle.hc_term.specs.declared.expr.Cond.TheFolds.{ind-Cond, map-Cond}
use Rattle.hc_term.specs.declared.expr.Cond.TheVariants as test
use Rattle.hc_term.specs.declared.expr.Cond.TheViews as tested
use Rattle.hc_term.specs.declared.stmt.Io.{Io}
use Rattle.hc_term.specs.declared.stmt.Io.TheVariants.{Send, Receive}
use Rattle.hc_term.specs.declared.stmt.Rate.{Rate}
use Rattle.hc_term.specs.Motion.{Rates, evolves, form, form_layer}
use Rattle.hc_term.specs.EndMoment.{is_domain}
use Rattle.hc_term.specs.Profile.{nodes, nodes_in, reach, reach_in, is_expr, is_cond, is_io, is_same_io, all_apart, are_guards, pattern_from, pattern_of, same_variable, is_rate, are_rates, sends_affine, is_moving_domain, is_evolution}
use Rattle.hc_code.specs.declared.code.Instr.{Instr}
use Rattle.hc_code.specs.declared.code.Instr.TheVariants as instr
use Rattle.hc_code.specs.Kept.{ios_of, is_instr}
use Rattle.hc_runs.proofs.Basics.{length-set}
use Rattle.hc_step.proofs.Evolves.{all_weaker, none_at}

-- ---- one equation for each form

form-Number : (r : Rates) (e : Expr) (q : Rational) → e ≡ plain.Number q → form r e ≡ form_layer r (Expr-F.Number q)
form-Number r e q h = search (rules, expr.the_lemmas)

form-Variable : (r : Rates) (e : Expr) (x : ℕ) → e ≡ plain.Variable x → form r e ≡ form_layer r (Expr-F.Variable x)
form-Variable r e x h = search (rules, expr.the_lemmas)

form-Neg : (r : Rates) (e a : Expr) → e ≡ seen.Neg a → form r e ≡ form_layer r (Expr-F.Neg (form r a))
form-Neg r e a h = search (rules, expr.the_lemmas)

form-Binary : (r : Rates) (e : Expr) (op : Op) (a b : Expr) → e ≡ seen.Binary op a b → form r e ≡ form_layer r (Expr-F.Binary op (form r a) (form r b))
form-Binary r e op a b h = search (rules, expr.the_lemmas)

domain-True : (r : Rates) (c : Cond) → c ≡ test.True → is_domain r c ≡ true
domain-True r c h = search (rules, cond.the_lemmas)

domain-False : (r : Rates) (c : Cond) → c ≡ test.False → is_domain r c ≡ true
domain-False r c h = search (rules, cond.the_lemmas)

domain-Compare : (r : Rates) (c : Cond) (how : Comparison) (a b : Expr) → c ≡ test.Compare how a b → is_domain r c ≡ ((form r a).affine && (form r b).affine)
domain-Compare r c how a b h = search (rules, cond.the_lemmas)

domain-Not : (r : Rates) (c a : Cond) → c ≡ tested.Not a → is_domain r c ≡ is_domain r a
domain-Not r c a h = search (rules, cond.the_lemmas)

domain-And : (r : Rates) (c a b : Cond) → c ≡ tested.And a b → is_domain r c ≡ (is_domain r a && is_domain r b)
domain-And r c a b h = search (rules, cond.the_lemmas)

domain-Or : (r : Rates) (c a b : Cond) → c ≡ tested.Or a b → is_domain r c ≡ (is_domain r a && is_domain r b)
domain-Or r c a b h = search (rules, cond.the_lemmas)

-- ---- the same variables evolve

module _ (r q : Rates) (alike : (x : ℕ) → slice_index_or r x None ≡ slice_index_or q x None) where
  abbrev SameForm : Expr → Type 0
  SameForm e = form r e ≡ form q e

  abbrev Formed : Type 0
  Formed = (e : Expr) × SameForm e

  same_step : (y : Expr-F Formed) → SameForm (roll-Expr (map-Expr Formed Expr (λ e. e.0) y))
  unfolding roll-Expr denote.Hole.Carrier.roll
  same_step (Expr-F.Number v) = form-Number r _ v refl ∙ sym (form-Number q _ v refl)
  same_step (Expr-F.Variable x) =
      form-Variable r _ x refl ∙ ap (λ (k : Option Rational). record { affine = true; moves = evolves k; divides = false }) (alike x) ∙ sym (form-Variable q _ x refl)
  same_step (Expr-F.Neg a) = form-Neg r _ a.0 refl ∙ ap (λ (f : Form). form_layer r (Expr-F.Neg f)) a.1 ∙ sym (form-Neg q _ a.0 refl)
  same_step (Expr-F.Binary op a b) =
      form-Binary r _ op a.0 b.0 refl ∙ ap₂ (λ (f g : Form). form_layer r (Expr-F.Binary op f g)) a.1 b.1 ∙ sym (form-Binary q _ op a.0 b.0 refl)

  same_form : (e : Expr) → form r e ≡ form q e
  same_form e = ind-Expr SameForm (λ x y is. subst (λ z. SameForm (roll-Expr z)) is (same_step y)) e

  abbrev SameDomain : Cond → Type 0
  SameDomain c = is_domain r c ≡ is_domain q c

  abbrev Tested : Type 0
  Tested = (c : Cond) × SameDomain c

  same_test : (y : Cond-F Tested) → SameDomain (roll-Cond (map-Cond Tested Cond (λ c. c.0) y))
  unfolding roll-Cond denote.Hole.Carrier.roll
  same_test Cond-F.True = domain-True r _ refl ∙ sym (domain-True q _ refl)
  same_test Cond-F.False = domain-False r _ refl ∙ sym (domain-False q _ refl)
  same_test (Cond-F.Compare how a b) =
      domain-Compare r _ how a b refl ∙ ap₂ (λ (f g : Form). f.affine && g.affine) (same_form a) (same_form b) ∙ sym (domain-Compare q _ how a b refl)
  same_test (Cond-F.Not a) = domain-Not r _ a.0 refl ∙ a.1 ∙ sym (domain-Not q _ a.0 refl)
  same_test (Cond-F.And a b) = domain-And r _ a.0 b.0 refl ∙ ap₂ (λ (x y : Bool). x && y) a.1 b.1 ∙ sym (domain-And q _ a.0 b.0 refl)
  same_test (Cond-F.Or a b) = domain-Or r _ a.0 b.0 refl ∙ ap₂ (λ (x y : Bool). x && y) a.1 b.1 ∙ sym (domain-Or q _ a.0 b.0 refl)

  same_domain : (c : Cond) → is_domain r c ≡ is_domain q c
  same_domain c = ind-Cond SameDomain (λ x y is. subst (λ z. SameDomain (roll-Cond z)) is (same_test y)) c

-- ---- which variables evolve

set_alike : (r q : Rates) (y : ℕ) (v : Option Rational) → y < length r → y < length q → ((x : ℕ) → slice_index_or r x None ≡ slice_index_or q x None) → (x : ℕ) →
    slice_index_or (slice_set r y v) x None ≡ slice_index_or (slice_set q y v) x None
set_alike [] q y v h k f x = absurd (omega (arith, h))
set_alike (j ∷ r) [] y v h k f x = absurd (omega (arith, k))
set_alike (j ∷ r) (i ∷ q) zero v h k f zero = refl
set_alike (j ∷ r) (i ∷ q) zero v h k f (suc x) = f (suc x)
set_alike (j ∷ r) (i ∷ q) (suc y) v h k f zero = f zero
set_alike (j ∷ r) (i ∷ q) (suc y) v h k f (suc x) = set_alike r q y v (omega (arith, h)) (omega (arith, k)) (λ x. f (suc x)) x

abbrev below : ℕ → List Rate → Bool
below n rs = list_all (λ r. nat_lt r.variable n) rs

patterns_alike : (rs : List Rate) (r q : Rates) → below (length r) rs ≡ true → below (length q) rs ≡ true →
    ((x : ℕ) → slice_index_or r x None ≡ slice_index_or q x None) → (x : ℕ) → slice_index_or (pattern_from r rs) x None ≡ slice_index_or (pattern_from q rs) x None
patterns_alike [] r q h k f x = f x
patterns_alike (p ∷ ps) r q h k f x =
    let one = and_parts (nat_lt p.variable (length r)) (below (length r) ps) h in
    let other = and_parts (nat_lt p.variable (length q)) (below (length q) ps) k in
    let v : Option Rational = Some zero_ℚ in
    patterns_alike ps (slice_set r p.variable v) (slice_set q p.variable v)
    (ap (λ (n : ℕ). below n ps) (length-set r p.variable v) ∙ one.1) (ap (λ (n : ℕ). below n ps) (length-set q p.variable v) ∙ other.1)
    (set_alike r q p.variable v (ltb-true p.variable (length r) one.0) (ltb-true p.variable (length q) other.0) f) x

-- ---- rules

module _ (n m : ℕ) (more : n ≤ m) where
  lt_more : (x : ℕ) → nat_lt x n ≡ true → nat_lt x m ≡ true
  lt_more x h = let k : x < n = ltb-true x n h in lt-ltb x m (omega (arith, k, more))

  le_more : (x : ℕ) → nat_le x n ≡ true → nat_le x m ≡ true
  le_more x h = let k : x ≤ n = leb-true x n h in le-leb x m (omega (arith, k, more))

  middle_more : (a b c d : Bool) → (b ≡ true → c ≡ true) → (a && b && d) ≡ true → (a && c && d) ≡ true
  middle_more a b c d f h =
      let parts = and_parts (a && b) d h in
      let front = and_parts a b parts.0 in
      and_from (a && c) d (and_from a c front.0 (f front.1)) parts.1

  expr_more : (e : Expr) → is_expr n e ≡ true → is_expr m e ≡ true
  expr_more e h = middle_more (nat_le (nodes e) most_nodes) (nat_le (reach e) n) (nat_le (reach e) m) (form [] e).affine (le_more (reach e)) h

  cond_more : (c : Cond) → is_cond n c ≡ true → is_cond m c ≡ true
  cond_more c h = middle_more (nat_le (nodes_in c) most_nodes) (nat_le (reach_in c) n) (nat_le (reach_in c) m) (is_domain [] c) (le_more (reach_in c)) h

  module _ (channels : ℕ) where
    io_more : (io : Io) → is_io channels n io ≡ true → is_io channels m io ≡ true
    io_more (Send c e) h =
        let parts = and_parts (nat_lt c channels) (is_expr n e) h in
        and_from (nat_lt c channels) (is_expr m e) parts.0 (expr_more e parts.1)
    io_more (Receive c x) h =
        let parts = and_parts (nat_lt c channels) (nat_lt x n) h in
        and_from (nat_lt c channels) (nat_lt x m) parts.0 (lt_more x parts.1)

    guards_more : (ios : List Io) → are_guards channels n ios ≡ true → are_guards channels m ios ≡ true
    guards_more ios h =
        middle_more (nat_le (length ios) most_guards) (list_all (is_io channels n) ios) (list_all (is_io channels m) ios) (all_apart is_same_io ios)
        (all_weaker (is_io channels n) (is_io channels m) io_more ios) h

  below_more : (rs : List Rate) → below n rs ≡ true → below m rs ≡ true
  below_more rs h = all_weaker (λ r. nat_lt r.variable n) (λ r. nat_lt r.variable m) (λ r k. lt_more r.variable k) rs h

  module _ (rs : List Rate) (in_range : below n rs ≡ true) where
    abbrev fewer : Rates
    fewer = pattern_of n rs

    abbrev wider : Rates
    wider = pattern_of m rs

    alike : (x : ℕ) → slice_index_or fewer x None ≡ slice_index_or wider x None
    alike x =
        let few = length-replicate {A = Option Rational} n None in
        let many = length-replicate {A = Option Rational} m None in
        patterns_alike rs (replicate n None) (replicate m None) (ap (λ (k : ℕ). below k rs) few ∙ in_range) (ap (λ (k : ℕ). below k rs) many ∙ below_more rs in_range)
        (λ x. none_at n x ∙ sym (none_at m x)) x

    same : (e : Expr) → form fewer e ≡ form wider e
    same e = same_form fewer wider alike e

    rate_more : (r : Rate) → is_rate n fewer r ≡ true → is_rate m wider r ≡ true
    rate_more r h =
        let e = r.value in
        let parts = and_parts (nat_lt r.variable n && is_expr n e) (not (form fewer e).moves) h in
        let front = and_parts (nat_lt r.variable n) (is_expr n e) parts.0 in
        and_from (nat_lt r.variable m && is_expr m e) (not (form wider e).moves)
        (and_from (nat_lt r.variable m) (is_expr m e) (lt_more r.variable front.0) (expr_more e front.1))
        (sym (ap (λ (f : Form). not f.moves) (same e)) ∙ parts.1)

    sends_more : (io : Io) → sends_affine fewer io ≡ true → sends_affine wider io ≡ true
    sends_more (Send c e) h = sym (ap (λ (f : Form). f.affine) (same e)) ∙ h
    sends_more (Receive c x) h = h

    evolution_parts : (c : Cond) (ios : List Io) → is_evolution n rs c ios ≡ true → is_evolution m rs c ios ≡ true
    evolution_parts c ios h =
        let parts = and_parts (are_rates n fewer rs && is_moving_domain n fewer c) (list_all (sends_affine fewer) ios) h in
        let ruled = and_parts (are_rates n fewer rs) (is_moving_domain n fewer c) parts.0 in
        let rated = and_parts (nat_le 1 (length rs) && all_apart same_variable rs) (list_all (is_rate n fewer) rs) ruled.0 in
        let moving = and_parts (is_cond n c) (is_domain fewer c) ruled.1 in
        and_from (are_rates m wider rs && is_moving_domain m wider c) (list_all (sends_affine wider) ios)
        (and_from (are_rates m wider rs) (is_moving_domain m wider c)
        (and_from (nat_le 1 (length rs) && all_apart same_variable rs) (list_all (is_rate m wider) rs) rated.0
        (all_weaker (is_rate n fewer) (is_rate m wider) rate_more rs rated.1))
        (and_from (is_cond m c) (is_domain wider c) (cond_more c moving.0) (sym (same_domain fewer wider alike c) ∙ moving.1)))
        (all_weaker (sends_affine fewer) (sends_affine wider) sends_more ios parts.1)

  evolution_more : (rs : List Rate) (c : Cond) (ios : List Io) → is_evolution n rs c ios ≡ true → is_evolution m rs c ios ≡ true
  evolution_more rs c ios h =
      let p = pattern_of n rs in
      let parts = and_parts (are_rates n p rs && is_moving_domain n p c) (list_all (sends_affine p) ios) h in
      let ruled = and_parts (are_rates n p rs) (is_moving_domain n p c) parts.0 in
      let rated = and_parts (nat_le 1 (length rs) && all_apart same_variable rs) (list_all (is_rate n p) rs) ruled.0 in
      evolution_parts rs
      (all_weaker (is_rate n p) (λ r. nat_lt r.variable n)
      (λ r k. (and_parts (nat_lt r.variable n) (is_expr n r.value) (and_parts (nat_lt r.variable n && is_expr n r.value) (not (form p r.value).moves) k).0).0) rs rated.1)
      c ios h

  pub instr_more : (channels : ℕ) (i : Instr) → is_instr channels n i ≡ true → is_instr channels m i ≡ true
  instr_more channels (instr.Assign x e next) h =
      let parts = and_parts (nat_le (x + 1) n) (is_expr n e) h in
      and_from (nat_le (x + 1) m) (is_expr m e) (le_more (x + 1) parts.0) (expr_more e parts.1)
  instr_more channels (instr.Log e next) h = expr_more e h
  instr_more channels (instr.Wait e next) h = expr_more e h
  instr_more channels (instr.Test c first second) h = cond_more c h
  instr_more channels (instr.Meet ways) h = guards_more channels (ios_of ways) h
  instr_more channels (instr.Evolve rates c ways next) h =
      let parts = and_parts (is_evolution n rates c (ios_of ways)) (are_guards channels n (ios_of ways)) h in
      and_from (is_evolution m rates c (ios_of ways)) (are_guards channels m (ios_of ways)) (evolution_more rates c (ios_of ways) parts.0)
      (guards_more channels (ios_of ways) parts.1)
  instr_more channels (instr.Skip next) h = h
  instr_more channels (instr.Pick left right) h = h
  instr_more channels (instr.Again next) h = h
  instr_more channels instr.End h = h
