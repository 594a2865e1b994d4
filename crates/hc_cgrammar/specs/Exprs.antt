-- Expressions as the grammar has them, how they are spelled, and the trees that they are.
use Rattle.std.specs.Prelude.{◌∷◌}
use Rattle.hc_grammar.specs.Texts.{Read, Did}
use Rattle.hc_cast.specs.declared.expr.COp.TheVariants as op
use Rattle.hc_cast.specs.declared.expr.CExpr.{CExpr}
use Rattle.hc_cast.specs.declared.expr.CExpr.TheVariants as e
use Rattle.hc_ctoken.specs.declared.fixed.Fixed.TheVariants as fix
use Rattle.hc_cgrammar.specs.declared.role.Role.TheVariants as r
use Rattle.hc_cgrammar.specs.declared.role.Mark.TheVariants as m
use Rattle.hc_cgrammar.specs.Leaves.{Spelled, OfFixed, OfNumber, OfLocal, OfArray, OfSign, sum_op, comparison}

mutual
  -- or = and { "||" and }
  pub data Or : Type 0 where
    either : (x : And) (xs : Ors) → Or

  -- { "||" and }
  pub data Ors : Type 0 where
    no_or : Ors
    or_else : (sign : OfFixed fix.BarBar) (x : And) (xs : Ors) → Ors

  -- and = cmp { "&&" cmp }
  pub data And : Type 0 where
    both : (x : Compared) (xs : Ands) → And

  -- { "&&" cmp }
  pub data Ands : Type 0 where
    no_and : Ands
    and_also : (sign : OfFixed fix.AndAnd) (x : Compared) (xs : Ands) → Ands

  -- cmp = sum [ ( "<" | "<=" | "==" | "!=" | ">=" | ">" ) sum ]
  pub data Compared : Type 0 where
    alone : (x : Sum) → Compared
    compared : (x : Sum) (sign : OfSign comparison) (y : Sum) → Compared

  -- sum = prod { ( "+" | "-" ) prod }
  pub data Sum : Type 0 where
    sum : (x : Product) (xs : Sums) → Sum

  -- { ( "+" | "-" ) prod }
  pub data Sums : Type 0 where
    no_more : Sums
    added : (sign : OfSign sum_op) (x : Product) (xs : Sums) → Sums

  -- prod = unary { "*" unary }
  pub data Product : Type 0 where
    product : (x : Unary) (xs : Products) → Product

  -- { "*" unary }
  pub data Products : Type 0 where
    no_other : Products
    multiplied : (sign : OfFixed fix.Star) (x : Unary) (xs : Products) → Products

  -- unary = "-" unary | "!" unary | NUM | VNAME | ANAME "[" or "]" | "(" or ")"
  pub data Unary : Type 0 where
    minus : (sign : OfFixed fix.Minus) (x : Unary) → Unary
    negation : (sign : OfFixed fix.Exclamation) (x : Unary) → Unary
    number : (numeral : OfNumber) → Unary
    local : (name : OfLocal) → Unary
    element : (name : OfArray) (left : OfFixed fix.OpenSquare) (index : Or) (right : OfFixed fix.CloseSquare) → Unary
    brackets : (left : OfFixed fix.OpenRound) (x : Or) (right : OfFixed fix.CloseRound) → Unary

-- How each is spelled, in front of w: its tokens in their roles, with marks between them. Of the marks `Negate` and `Not` end
-- the open item of their sign (Walk); the others serve whoever builds the tree.
abbrev mutual
  -- or = and { "||" and }
  pub or : Or → Spelled → Spelled
  or (either x xs) w = and x (ors xs w)

  -- { "||" and }
  pub ors : Ors → Spelled → Spelled
  ors no_or w = w
  ors (or_else sign x xs) w = Read sign.0 r.Operator ∷ and x (Did m.Binary ∷ ors xs w)

  -- and = cmp { "&&" cmp }
  pub and : And → Spelled → Spelled
  and (both x xs) w = cmp x (ands xs w)

  -- { "&&" cmp }
  pub ands : Ands → Spelled → Spelled
  ands no_and w = w
  ands (and_also sign x xs) w = Read sign.0 r.Operator ∷ cmp x (Did m.Binary ∷ ands xs w)

  -- cmp = sum [ ( "<" | "<=" | "==" | "!=" | ">=" | ">" ) sum ]
  pub cmp : Compared → Spelled → Spelled
  cmp (alone x) w = sum_of x w
  cmp (compared x sign y) w = sum_of x (Read sign.0 r.Operator ∷ sum_of y (Did m.Binary ∷ w))

  -- sum = prod { ( "+" | "-" ) prod }
  pub sum_of : Sum → Spelled → Spelled
  sum_of (sum x xs) w = prod x (sums xs w)

  -- { ( "+" | "-" ) prod }
  pub sums : Sums → Spelled → Spelled
  sums no_more w = w
  sums (added sign x xs) w = Read sign.0 r.Operator ∷ prod x (Did m.Binary ∷ sums xs w)

  -- prod = unary { "*" unary }
  pub prod : Product → Spelled → Spelled
  prod (product x xs) w = unary x (products xs w)

  -- { "*" unary }
  pub products : Products → Spelled → Spelled
  products no_other w = w
  products (multiplied sign x xs) w = Read sign.0 r.Operator ∷ unary x (Did m.Binary ∷ products xs w)

  -- unary = "-" unary | "!" unary | NUM | VNAME | ANAME "[" or "]" | "(" or ")"
  pub unary : Unary → Spelled → Spelled
  unary (minus sign x) w = Read sign.0 r.Minus ∷ unary x (Did m.Negate ∷ w)
  unary (negation sign x) w = Read sign.0 r.Not ∷ unary x (Did m.Not ∷ w)
  unary (number numeral) w = Read numeral.0 r.Number ∷ w
  unary (local name) w = Read name.0 r.Local ∷ w
  unary (element name left index right) w =
      Read name.0 r.Element ∷ Read left.0 r.Open ∷ or index (Read right.0 r.Close ∷ Did m.Element ∷ w)
  unary (brackets left x right) w = Read left.0 r.Open ∷ or x (Read right.0 r.Close ∷ w)

-- The tree of each. Signs group to the left, so what stands `before` further parts is the left part of the first of their signs.
abbrev mutual
  -- or = and { "||" and }
  pub or_tree : Or → CExpr
  or_tree (either x xs) = ors_tree xs (and_tree x)

  -- { "||" and }
  pub ors_tree : Ors → CExpr → CExpr
  ors_tree no_or before = before
  ors_tree (or_else sign x xs) before = ors_tree xs (e.Binary op.Or before (and_tree x))

  -- and = cmp { "&&" cmp }
  pub and_tree : And → CExpr
  and_tree (both x xs) = ands_tree xs (cmp_tree x)

  -- { "&&" cmp }
  pub ands_tree : Ands → CExpr → CExpr
  ands_tree no_and before = before
  ands_tree (and_also sign x xs) before = ands_tree xs (e.Binary op.And before (cmp_tree x))

  -- cmp = sum [ ( "<" | "<=" | "==" | "!=" | ">=" | ">" ) sum ]
  pub cmp_tree : Compared → CExpr
  cmp_tree (alone x) = sum_tree x
  cmp_tree (compared x sign y) = e.Binary sign.1 (sum_tree x) (sum_tree y)

  -- sum = prod { ( "+" | "-" ) prod }
  pub sum_tree : Sum → CExpr
  sum_tree (sum x xs) = sums_tree xs (product_tree x)

  -- { ( "+" | "-" ) prod }
  pub sums_tree : Sums → CExpr → CExpr
  sums_tree no_more before = before
  sums_tree (added sign x xs) before = sums_tree xs (e.Binary sign.1 before (product_tree x))

  -- prod = unary { "*" unary }
  pub product_tree : Product → CExpr
  product_tree (product x xs) = products_tree xs (unary_tree x)

  -- { "*" unary }
  pub products_tree : Products → CExpr → CExpr
  products_tree no_other before = before
  products_tree (multiplied sign x xs) before = products_tree xs (e.Binary op.Mul before (unary_tree x))

  -- unary = "-" unary | "!" unary | NUM | VNAME | ANAME "[" or "]" | "(" or ")"
  pub unary_tree : Unary → CExpr
  unary_tree (minus sign x) = e.Neg (unary_tree x)
  unary_tree (negation sign x) = e.Not (unary_tree x)
  unary_tree (number numeral) = e.Number numeral.1
  unary_tree (local name) = e.Local name.1
  unary_tree (element name left index right) = e.Element name.1 (or_tree index)
  unary_tree (brackets left x right) = or_tree x
