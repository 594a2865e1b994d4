-- Conditions as the grammar has them, how they are spelled, and the trees that they are.
use Rattle.std.specs.Prelude.{◌∷◌}
use Rattle.hc_frac.specs.declared.place.Place.{Place}
use Rattle.hc_grammar.specs.Texts.{Read, Did}
use Rattle.hc_token.specs.declared.fixed.Fixed.TheVariants as fix
use Rattle.hc_ast.specs.declared.role.Role.TheVariants as r
use Rattle.hc_ast.specs.declared.role.Mark.TheVariants as m
use Rattle.hc_ast.specs.declared.expr.CondTree.{CondTree}
use Rattle.hc_ast.specs.declared.expr.CondKind.{CondKind}
use Rattle.hc_ast.specs.declared.expr.CondKind.TheVariants as c
use Rattle.hc_ast.specs.Leaves.{Spelled, OfFixed, OfSign, comparison}
use Rattle.hc_ast.specs.Exprs.{Expr, expr, expr_tree}

mutual
  -- cond = both { "||" both }
  pub data Cond : Type 0 where
    either : (x : Both) (xs : Ors) → Cond

  -- { "||" both }
  pub data Ors : Type 0 where
    no_more : Ors
    or_both : (sign : OfFixed fix.BarBar) (x : Both) (xs : Ors) → Ors

  -- both = one { "&&" one }
  pub data Both : Type 0 where
    both : (x : One) (xs : Ands) → Both

  -- { "&&" one }
  pub data Ands : Type 0 where
    no_other : Ands
    and_one : (sign : OfFixed fix.AndAnd) (x : One) (xs : Ands) → Ands

  -- one = "!" one | "true" | "false" | "[" cond "]" | expr ( "<" | "<=" | "==" | "!=" | ">=" | ">" ) expr
  pub data One : Type 0 where
    negation : (sign : OfFixed fix.Exclamation) (x : One) → One
    always : (word : OfFixed fix.True) → One
    never : (word : OfFixed fix.False) → One
    brackets : (left : OfFixed fix.OpenSquare) (x : Cond) (right : OfFixed fix.CloseSquare) → One
    compare : (x : Expr) (sign : OfSign comparison) (y : Expr) → One

-- How each is spelled, in front of w: its tokens in their roles, with marks between them. Of the marks only `Not` changes
-- a count (Counts).
abbrev mutual
  -- cond = both { "||" both }
  pub cond : Cond → Spelled → Spelled
  cond (either x xs) w = both_of x (ors xs w)

  -- { "||" both }
  pub ors : Ors → Spelled → Spelled
  ors no_more w = w
  ors (or_both sign x xs) w = Read sign.0 r.Operator ∷ both_of x (Did m.Or ∷ ors xs w)

  -- both = one { "&&" one }
  pub both_of : Both → Spelled → Spelled
  both_of (both x xs) w = one x (ands xs w)

  -- { "&&" one }
  pub ands : Ands → Spelled → Spelled
  ands no_other w = w
  ands (and_one sign x xs) w = Read sign.0 r.Operator ∷ one x (Did m.And ∷ ands xs w)

  -- one = "!" one | "true" | "false" | "[" cond "]" | expr ( "<" | "<=" | "==" | "!=" | ">=" | ">" ) expr
  pub one : One → Spelled → Spelled
  one (negation sign x) w = Read sign.0 r.Prefix ∷ one x (Did m.Not ∷ w)
  one (always word) w = Read word.0 r.Leaf ∷ w
  one (never word) w = Read word.0 r.Leaf ∷ w
  one (brackets left x right) w = Read left.0 r.Open ∷ cond x (Read right.0 r.Close ∷ w)
  one (compare x sign y) w = expr x (Read sign.0 r.Operator ∷ expr y (Did m.Compare ∷ w))

-- a condition at a place
abbrev pub cond_at : Place → CondKind → CondTree
cond_at p x = record { place = p; kind = x }

-- The tree of each. Signs group to the left, so what stands `before` further conditions is the left part of the first of
-- their signs.
abbrev mutual
  -- cond = both { "||" both }
  pub cond_tree : Cond → CondTree
  cond_tree (either x xs) = ors_tree xs (both_tree x)

  -- { "||" both }
  pub ors_tree : Ors → CondTree → CondTree
  ors_tree no_more before = before
  ors_tree (or_both sign x xs) before = ors_tree xs (cond_at sign.0.place (c.Or before (both_tree x)))

  -- both = one { "&&" one }
  pub both_tree : Both → CondTree
  both_tree (both x xs) = ands_tree xs (one_tree x)

  -- { "&&" one }
  pub ands_tree : Ands → CondTree → CondTree
  ands_tree no_other before = before
  ands_tree (and_one sign x xs) before = ands_tree xs (cond_at sign.0.place (c.And before (one_tree x)))

  -- one = "!" one | "true" | "false" | "[" cond "]" | expr ( "<" | "<=" | "==" | "!=" | ">=" | ">" ) expr
  pub one_tree : One → CondTree
  one_tree (negation sign x) = cond_at sign.0.place (c.Not (one_tree x))
  one_tree (always word) = cond_at word.0.place c.True
  one_tree (never word) = cond_at word.0.place c.False
  one_tree (brackets left x right) = cond_tree x
  one_tree (compare x sign y) = cond_at sign.0.place (c.Compare sign.1 (expr_tree x) (expr_tree y))
