-- Nodes, names, divisors and products of an expression and a condition that is no more than a number, a name or a test.
use Rattle.std.proofs.Common.{rules, ◌≡◌, ◌+◌, Bool, false, ◌&&◌, List, [], ◌∷◌}
use Rattle.hc_frac.specs.declared.decimal.Decimal.{Decimal}
use Rattle.hc_ast.specs.Bare.{Word}
use Rattle.hc_ast.specs.declared.expr.Op.{Op}
use Rattle.hc_ast.specs.declared.expr.Comparison.{Comparison}
use Rattle.hc_ast.specs.declared.expr.ExprKind as kinds
use Rattle.hc_ast.specs.declared.expr.ExprKind.TheVariants as plain
use Rattle.hc_ast.specs.declared.expr.ExprKind.TheViews as seen
use Rattle.hc_ast.specs.declared.expr.ExprTree.{ExprTree}
use Rattle.hc_ast.specs.declared.expr.CondKind as cond_kinds
use Rattle.hc_ast.specs.declared.expr.CondKind.TheVariants as bare
use Rattle.hc_ast.specs.declared.expr.CondKind.TheViews as test
use Rattle.hc_ast.specs.declared.expr.CondTree.{CondTree}
use Rattle.hc_modules.specs.Finds.{only_if}
use Rattle.hc_modules.specs.Sizes.{nodes, cond_nodes}
use Rattle.hc_finds.specs.Exprs.{NameAt, names_in, words_in, divisors_not_literal, zero_divisors, is_zero, is_among, moves_of}

module _ (e : ExprTree) where
  module _ (d : Decimal) (is : e.kind ≡ plain.Number d) where
    pub nodes-number : nodes e ≡ 1
    nodes-number = search (rules, kinds.the_lemmas)

    pub zero-number : (b : Bool) → zero_divisors b e ≡ only_if (b && is_zero d) e.place
    zero-number b = search (rules, kinds.the_lemmas)

    pub moves-number : (ys : List Word) → (moves_of ys e).moves ≡ false
    moves-number ys = search (rules, kinds.the_lemmas)

    pub products-number : (ys : List Word) → (moves_of ys e).products ≡ []
    products-number ys = search (rules, kinds.the_lemmas)

  module _ (x : Word) (is : e.kind ≡ plain.Name x) where
    pub nodes-name : nodes e ≡ 1
    nodes-name = search (rules, kinds.the_lemmas)

    pub names-name : names_in e ≡ (let n : NameAt = record { place = e.place; word = x } in n) ∷ []
    names-name = search (rules, kinds.the_lemmas)

    pub words-name : words_in e ≡ x ∷ []
    words-name = search (rules, kinds.the_lemmas)

    pub not_literal-name : (b : Bool) → divisors_not_literal b e ≡ only_if b e.place
    not_literal-name b = search (rules, kinds.the_lemmas)

    pub moves-name : (ys : List Word) → (moves_of ys e).moves ≡ is_among ys x
    moves-name ys = search (rules, kinds.the_lemmas)

    pub products-name : (ys : List Word) → (moves_of ys e).products ≡ []
    products-name ys = search (rules, kinds.the_lemmas)

  pub nodes-neg : (a : ExprTree) → e.kind ≡ seen.Neg a → nodes e ≡ 1 + nodes a
  nodes-neg a is = search (rules, kinds.the_lemmas)

  pub nodes-binary : (op : Op) (a b : ExprTree) → e.kind ≡ seen.Binary op a b → nodes e ≡ 1 + nodes a + nodes b
  nodes-binary op a b is = search (rules, kinds.the_lemmas)

module _ (c : CondTree) where
  pub nodes-true : c.kind ≡ bare.True → cond_nodes c ≡ 1
  nodes-true is = search (rules, cond_kinds.the_lemmas)

  pub nodes-false : c.kind ≡ bare.False → cond_nodes c ≡ 1
  nodes-false is = search (rules, cond_kinds.the_lemmas)

  pub nodes-compare : (how : Comparison) (a b : ExprTree) → c.kind ≡ bare.Compare how a b → cond_nodes c ≡ 1 + nodes a + nodes b
  nodes-compare how a b is = search (rules, cond_kinds.the_lemmas)

  pub nodes-not : (x : CondTree) → c.kind ≡ test.Not x → cond_nodes c ≡ 1 + cond_nodes x
  nodes-not x is = search (rules, cond_kinds.the_lemmas)

  pub nodes-and : (x y : CondTree) → c.kind ≡ test.And x y → cond_nodes c ≡ 1 + cond_nodes x + cond_nodes y
  nodes-and x y is = search (rules, cond_kinds.the_lemmas)

  pub nodes-or : (x y : CondTree) → c.kind ≡ test.Or x y → cond_nodes c ≡ 1 + cond_nodes x + cond_nodes y
  nodes-or x y is = search (rules, cond_kinds.the_lemmas)
