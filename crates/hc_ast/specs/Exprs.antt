-- Expressions as the grammar has them, how they are spelled, and the trees that they are.
use Rattle.std.specs.Prelude.{◌∷◌}
use Rattle.hc_frac.specs.declared.place.Place.{Place}
use Rattle.hc_grammar.specs.Texts.{Read, Did}
use Rattle.hc_token.specs.declared.fixed.Fixed.TheVariants as fix
use Rattle.hc_ast.specs.declared.role.Role.TheVariants as r
use Rattle.hc_ast.specs.declared.role.Mark.TheVariants as m
use Rattle.hc_ast.specs.declared.expr.ExprTree.{ExprTree}
use Rattle.hc_ast.specs.declared.expr.ExprKind.{ExprKind}
use Rattle.hc_ast.specs.declared.expr.ExprKind.TheVariants as e
use Rattle.hc_ast.specs.Leaves.{Spelled, OfFixed, OfName, OfNumber, OfSign, sum_op, product_op}

mutual
  -- expr = term { ( "+" | "-" ) term }
  pub data Expr : Type 0 where
    sum : (x : Term) (xs : Sums) → Expr

  -- { ( "+" | "-" ) term }
  pub data Sums : Type 0 where
    no_more : Sums
    added : (sign : OfSign sum_op) (x : Term) (xs : Sums) → Sums

  -- term = factor { ( "*" | "/" ) factor }
  pub data Term : Type 0 where
    product : (x : Factor) (xs : Products) → Term

  -- { ( "*" | "/" ) factor }
  pub data Products : Type 0 where
    no_other : Products
    multiplied : (sign : OfSign product_op) (x : Factor) (xs : Products) → Products

  -- factor = "-" factor | NUMBER | NAME | "(" expr ")"
  pub data Factor : Type 0 where
    minus : (sign : OfFixed fix.Minus) (x : Factor) → Factor
    number : (numeral : OfNumber) → Factor
    variable : (name : OfName) → Factor
    brackets : (left : OfFixed fix.OpenRound) (x : Expr) (right : OfFixed fix.CloseRound) → Factor

-- How each is spelled, in front of w: its tokens in their roles, with marks between them. Of the marks only `Negate` changes
-- a count (Counts).
abbrev mutual
  -- expr = term { ( "+" | "-" ) term }
  pub expr : Expr → Spelled → Spelled
  expr (sum x xs) w = term x (sums xs w)

  -- { ( "+" | "-" ) term }
  pub sums : Sums → Spelled → Spelled
  sums no_more w = w
  sums (added sign x xs) w = Read sign.0 r.Operator ∷ term x (Did m.Binary ∷ sums xs w)

  -- term = factor { ( "*" | "/" ) factor }
  pub term : Term → Spelled → Spelled
  term (product x xs) w = factor x (products xs w)

  -- { ( "*" | "/" ) factor }
  pub products : Products → Spelled → Spelled
  products no_other w = w
  products (multiplied sign x xs) w = Read sign.0 r.Operator ∷ factor x (Did m.Binary ∷ products xs w)

  -- factor = "-" factor | NUMBER | NAME | "(" expr ")"
  pub factor : Factor → Spelled → Spelled
  factor (minus sign x) w = Read sign.0 r.Prefix ∷ factor x (Did m.Negate ∷ w)
  factor (number numeral) w = Read numeral.0 r.Leaf ∷ w
  factor (variable name) w = Read name.0 r.Leaf ∷ w
  factor (brackets left x right) w = Read left.0 r.Open ∷ expr x (Read right.0 r.Close ∷ w)

-- an expression at a place
abbrev pub expr_at : Place → ExprKind → ExprTree
expr_at p x = record { place = p; kind = x }

-- The tree of each. Signs group to the left, so what stands `before` further terms or factors is the left part of the first
-- of their signs.
abbrev mutual
  -- expr = term { ( "+" | "-" ) term }
  pub expr_tree : Expr → ExprTree
  expr_tree (sum x xs) = sums_tree xs (term_tree x)

  -- { ( "+" | "-" ) term }
  pub sums_tree : Sums → ExprTree → ExprTree
  sums_tree no_more before = before
  sums_tree (added sign x xs) before = sums_tree xs (expr_at sign.0.place (e.Binary sign.1 before (term_tree x)))

  -- term = factor { ( "*" | "/" ) factor }
  pub term_tree : Term → ExprTree
  term_tree (product x xs) = products_tree xs (factor_tree x)

  -- { ( "*" | "/" ) factor }
  pub products_tree : Products → ExprTree → ExprTree
  products_tree no_other before = before
  products_tree (multiplied sign x xs) before = products_tree xs (expr_at sign.0.place (e.Binary sign.1 before (factor_tree x)))

  -- factor = "-" factor | NUMBER | NAME | "(" expr ")"
  pub factor_tree : Factor → ExprTree
  factor_tree (minus sign x) = expr_at sign.0.place (e.Neg (factor_tree x))
  factor_tree (number numeral) = expr_at numeral.0.place (e.Number numeral.1)
  factor_tree (variable name) = expr_at name.0.place (e.Name name.1)
  factor_tree (brackets left x right) = expr_tree x
