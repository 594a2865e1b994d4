-- What is known of the expressions of a part against which nothing is found.
use Rattle.std.proofs.Common.{◌≡◌, ℕ, ◌+◌, ◌≤◌, nat_lt, nat_le, true, false, ◌&&◌, IsTrue, List, [], ◌∷◌, length, flat_map, arith}
use Rattle.std.proofs.lemmas.Bool.{lt-ltb, le-leb}
use Rattle.std.proofs.lemmas.Bool.Decides.{nat_tests}
use Rattle.hc_frac.specs.declared.place.Place.{Place}
use Rattle.hc_ast.specs.Bare.{Word}
use Rattle.hc_ast.specs.declared.expr.ExprTree.{ExprTree}
use Rattle.hc_ast.specs.declared.expr.CondTree.{CondTree}
use Rattle.hc_ast.specs.declared.stmt.IoTree.{IoTree}
use Rattle.hc_ast.specs.declared.stmt.IoTree.TheVariants as io_of
use Rattle.hc_ast.specs.declared.stmt.RateTree.{RateTree}
use Rattle.hc_modules.specs.Finds.{only_if}
use Rattle.hc_modules.specs.Outermost.{Outermost, of_io}
use Rattle.hc_modules.proofs.Induction.{Each}
use Rattle.hc_term.specs.Profile.{is_expr, is_cond, is_io}
use Rattle.hc_finds.specs.declared.rules.Rule.TheVariants as rule
use Rattle.hc_finds.specs.Exprs.{words_in, sides, divisors_not_literal, zero_divisors}
use Rattle.hc_finds.specs.Names.{number_in}
use Rattle.hc_finds.specs.Limits.{channel_of, io_variables, outermost_in}
use Rattle.hc_finds.specs.Looks.{exprs_in, sent_in}
use Rattle.hc_finds.specs.Parts.{Part, assign, compute, test, communicate, rate, domain, guard}
use Rattle.hc_check.specs.Numbered.{expr_over, cond_over, io_over}
use Rattle.hc_check.proofs.Clean.{is_named, IsClean}
use Rattle.hc_check.proofs.Numbers.{below}
use Rattle.hc_check.proofs.EachLists.{both, none_found, each_weaker, each_flat}
use Rattle.hc_check.proofs.NumberedLines.{nothing_there}
use Rattle.hc_check.proofs.NumberedSizes.{AreNamed}
use Rattle.hc_check.proofs.RuledExprs.{IsPlain, expr_ruled, cond_ruled}

at_most : (n : ℕ) → nat_lt 200 n ≡ false → n ≤ 200
at_most n h = grind (arith, nat_tests)

module _ (cs xs : List Word) where
  plain_each : (es : List ExprTree) → Each (AreNamed xs) es → Each (λ e. divisors_not_literal false e ≡ []) es → Each (λ e. zero_divisors false e ≡ []) es
      → Each (IsPlain xs) es
  plain_each [] named literal nonzero = tt
  plain_each (e ∷ es) named literal nonzero = (record { named = named.0; literal = literal.0; nonzero = nonzero.0 }, plain_each es named.1 literal.1 nonzero.1)

  -- divisors are numbers other than 0
  pub exprs_plain : (x : Part) → IsClean cs xs x → Each (AreNamed xs) (exprs_in x) → Each (IsPlain xs) (exprs_in x)
  exprs_plain x h named =
      plain_each (exprs_in x) named (none_found (divisors_not_literal false) (exprs_in x) (h.lawful rule.DivisorNotLiteral))
      (none_found (zero_divisors false) (exprs_in x) (h.lawful rule.ZeroDivisor))

  -- none has more than 200 nodes
  pub exprs_small : (x : Part) → IsClean cs xs x → Each (λ o. o.size ≤ 200) (outermost_in x)
  exprs_small x h =
      each_weaker (λ o. only_if (nat_lt 200 o.size) o.place ≡ []) (λ o. o.size ≤ 200) (λ o k. at_most o.size (nothing_there (nat_lt 200 o.size) o.place k)) (outermost_in x)
      (none_found (λ (o : Outermost). only_if (nat_lt 200 o.size) o.place) (outermost_in x) h.nodes)

  number_passes : (names : List Word) (x : Word) → IsTrue (is_named names x) → nat_lt (number_in names x) (length names) ≡ true
  number_passes names x h = lt-ltb (number_in names x) (length names) (below names x h)

  pub assign_ruled : (p : Place) (x : Word) (e : ExprTree) → IsClean cs xs (assign p x e)
      → IsTrue (nat_le (number_in xs x + 1) (length xs) && is_expr (length xs) (expr_over xs e))
  assign_ruled p x e h =
      let plain = exprs_plain (assign p x e) h (h.variables.1, tt) in
      both (le-leb _ _ (omega (arith, below xs x h.variables.0))) (expr_ruled xs e plain.0 (exprs_small (assign p x e) h).0)

  pub compute_ruled : (p : Place) (e : ExprTree) → IsClean cs xs (compute p e) → IsTrue (is_expr (length xs) (expr_over xs e))
  compute_ruled p e h =
      let plain = exprs_plain (compute p e) h (h.variables, tt) in
      expr_ruled xs e plain.0 (exprs_small (compute p e) h).0

  sides_named : (c : CondTree) → Each (λ v. IsTrue (is_named xs v)) (flat_map words_in (sides c)) → Each (AreNamed xs) (sides c)
  sides_named c h = each_flat (λ v. IsTrue (is_named xs v)) words_in (sides c) h

  pub test_ruled : (p : Place) (c : CondTree) → IsClean cs xs (test p c) → IsTrue (is_cond (length xs) (cond_over xs c))
  test_ruled p c h = cond_ruled xs c (exprs_plain (test p c) h (sides_named c h.variables)) (exprs_small (test p c) h).0

  io_named : (i : IoTree) → Each (λ v. IsTrue (is_named xs v)) (io_variables i) → Each (AreNamed xs) (sent_in i)
  io_named (io_of.Send c e) h = (h, tt)
  io_named (io_of.Receive c x) h = tt

  -- a communication of a statement or a branch
  io_ruled : (i : IoTree) → Each (λ c. IsTrue (is_named cs c)) (channel_of i ∷ []) → Each (λ v. IsTrue (is_named xs v)) (io_variables i)
      → Each (IsPlain xs) (sent_in i) → Each (λ o. o.size ≤ 200) (of_io i) → IsTrue (is_io (length cs) (length xs) (io_over cs xs i))
  io_ruled (io_of.Send c e) channels variables plain small = both (number_passes cs c channels.0) (expr_ruled xs e plain.0 small.0)
  io_ruled (io_of.Receive c x) channels variables plain small = both (number_passes cs c channels.0) (number_passes xs x variables.0)

  pub communicate_ruled : (p : Place) (i : IoTree) → IsClean cs xs (communicate p i) → IsTrue (is_io (length cs) (length xs) (io_over cs xs i))
  communicate_ruled p i h =
      io_ruled i h.channels h.variables (exprs_plain (communicate p i) h (io_named i h.variables)) (exprs_small (communicate p i) h)

  pub guard_plain : (rs : List RateTree) (earlier : List IoTree) (p : Place) (i : IoTree) → IsClean cs xs (guard rs earlier p i) → Each (IsPlain xs) (sent_in i)
  guard_plain rs earlier p i h = exprs_plain (guard rs earlier p i) h (io_named i h.variables)

  pub guard_ruled : (rs : List RateTree) (earlier : List IoTree) (p : Place) (i : IoTree) → IsClean cs xs (guard rs earlier p i)
      → IsTrue (is_io (length cs) (length xs) (io_over cs xs i))
  guard_ruled rs earlier p i h = io_ruled i h.channels h.variables (guard_plain rs earlier p i h) (exprs_small (guard rs earlier p i) h)

  pub domain_plain : (rs : List RateTree) (p : Place) (c : CondTree) → IsClean cs xs (domain rs p c) → Each (IsPlain xs) (sides c)
  domain_plain rs p c h = exprs_plain (domain rs p c) h (sides_named c h.variables)

  pub domain_ruled : (rs : List RateTree) (p : Place) (c : CondTree) → IsClean cs xs (domain rs p c) → IsTrue (is_cond (length xs) (cond_over xs c))
  domain_ruled rs p c h = cond_ruled xs c (domain_plain rs p c h) (exprs_small (domain rs p c) h).0

  pub rate_ruled : (all earlier : List RateTree) (r : RateTree) → IsClean cs xs (rate all earlier r)
      → (IsTrue (nat_lt (number_in xs r.variable) (length xs))) × IsTrue (is_expr (length xs) (expr_over xs r.value))
  rate_ruled all earlier r h =
      let plain = exprs_plain (rate all earlier r) h (h.variables.1, tt) in
      (number_passes xs r.variable h.variables.0, expr_ruled xs r.value plain.0 (exprs_small (rate all earlier r) h).0)
