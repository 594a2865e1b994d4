-- What is looked for in each form of an expression and a condition.
use Rattle.std.proofs.Common.{rules, ◌≡◌, ◌⊎◌, inl, inr, ap, ◌∙◌, flat_map, Bool, false, ◌&&◌, ◌||◌, List, [], ◌∷◌, ◌++◌}
use Rattle.std.proofs.lemmas.List.{append-nil}
use Rattle.hc_frac.specs.declared.place.Place.{Place}
use Rattle.hc_modules.specs.Found.{first_of}
use Rattle.hc_modules.proofs.Firsts.{first_then, first_of-append}
use Rattle.hc_finds.proofs.First.{first-of}
use Rattle.hc_ast.specs.declared.expr.Op.{Op}
use Rattle.hc_ast.specs.declared.expr.Comparison.{Comparison}
use Rattle.hc_ast.specs.declared.expr.ExprKind as kinds
use Rattle.hc_ast.specs.declared.expr.ExprKind.TheViews as seen
use Rattle.hc_ast.specs.declared.expr.ExprTree.{ExprTree}
use Rattle.hc_ast.specs.declared.expr.CondKind as cond_kinds
use Rattle.hc_ast.specs.declared.expr.CondKind.TheViews as test
use Rattle.hc_ast.specs.declared.expr.CondKind.TheVariants as plain
use Rattle.hc_ast.specs.declared.expr.CondTree.{CondTree}
use Rattle.hc_ast.specs.Bare.{Word}
use Rattle.hc_modules.specs.Finds.{only_if}
use Rattle.hc_finds.specs.Exprs.{names_in, sides, is_division, is_product, divisors_not_literal, zero_divisors, moves_of}

module _ (e : ExprTree) where
  module _ (a : ExprTree) (is : e.kind ≡ seen.Neg a) where
    pub names-neg : names_in e ≡ names_in a
    names-neg = search (rules, kinds.the_lemmas)

    pub not_literal-neg : (d : Bool) → divisors_not_literal d e ≡ only_if d e.place ++ divisors_not_literal false a
    not_literal-neg d = search (rules, kinds.the_lemmas)

    pub zero-neg : (d : Bool) → zero_divisors d e ≡ zero_divisors false a
    zero-neg d = search (rules, kinds.the_lemmas)

    pub moves-neg : (xs : List Word) → moves_of xs e ≡ moves_of xs a
    moves-neg xs = search (rules, kinds.the_lemmas)

  module _ (op : Op) (a b : ExprTree) (is : e.kind ≡ seen.Binary op a b) where
    pub names-binary : names_in e ≡ names_in a ++ names_in b
    names-binary = search (rules, kinds.the_lemmas)

    pub not_literal-binary : (d : Bool) → divisors_not_literal d e ≡ divisors_not_literal false a ++ only_if d e.place ++ divisors_not_literal (is_division op) b
    not_literal-binary d = search (rules, kinds.the_lemmas)

    pub zero-binary : (d : Bool) → zero_divisors d e ≡ zero_divisors false a ++ zero_divisors (is_division op) b
    zero-binary d = search (rules, kinds.the_lemmas)

    pub moves-binary : (xs : List Word) → (moves_of xs e).moves ≡ ((moves_of xs a).moves || (moves_of xs b).moves)
    moves-binary xs = search (rules, kinds.the_lemmas)

    pub products-binary : (xs : List Word) → (moves_of xs e).products
        ≡ (moves_of xs a).products ++ only_if (is_product op && ((moves_of xs a).moves && (moves_of xs b).moves)) e.place ++ (moves_of xs b).products
    products-binary xs = search (rules, kinds.the_lemmas)

module _ (x : CondTree) where
  pub sides-compare : (how : Comparison) (a b : ExprTree) → x.kind ≡ plain.Compare how a b → sides x ≡ a ∷ b ∷ []
  sides-compare how a b is = search (rules, cond_kinds.the_lemmas)

  module _ (y : CondTree) (is : x.kind ≡ test.Not y) where
    pub sides-not : sides x ≡ sides y
    sides-not = search (rules, cond_kinds.the_lemmas)

  module _ (y z : CondTree) (is : x.kind ≡ test.And y z) where
    pub sides-and : sides x ≡ sides y ++ sides z
    sides-and = search (rules, cond_kinds.the_lemmas)

  module _ (y z : CondTree) (is : x.kind ≡ test.Or y z) where
    pub sides-or : sides x ≡ sides y ++ sides z
    sides-or = search (rules, cond_kinds.the_lemmas)

-- what joins two conditions
abbrev pub Joins : CondTree → CondTree → CondTree → Type 0
Joins x y z = (x.kind ≡ test.And y z) ⊎ (x.kind ≡ test.Or y z)

-- what is found first in the sides of a condition
module _ (look : ExprTree → List Place) (x : CondTree) where
  pub joined-first : (y z : CondTree) → Joins x y z
      → first_of (flat_map look (sides x)) ≡ first_then (first_of (flat_map look (sides y))) (first_of (flat_map look (sides z)))
  joined-first y z (inl is) = first-of look (sides x) (sides y) (sides z) (sides-and x y z is)
  joined-first y z (inr is) = first-of look (sides x) (sides y) (sides z) (sides-or x y z is)

  pub compared-first : (how : Comparison) (a b : ExprTree) → x.kind ≡ plain.Compare how a b
      → first_of (flat_map look (sides x)) ≡ first_then (first_of (look a)) (first_of (look b))
  compared-first how a b is =
      ap (λ es. first_of (flat_map look es)) (sides-compare x how a b is) ∙ first_of-append (look a) (look b ++ [])
      ∙ ap (λ ps. first_then (first_of (look a)) (first_of ps)) (append-nil (look b))

pub ruleset forms = (names-neg, names-binary, not_literal-neg, not_literal-binary, zero-neg, zero-binary, moves-neg, moves-binary, products-binary, sides-compare, sides-not, sides-and, sides-or)
