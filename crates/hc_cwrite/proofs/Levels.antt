-- The parts of an expression by their levels.
use Rattle.std.proofs.Common.{◌≡◌, ℕ, false, List}
use Rattle.std.proofs.lemmas.Bool.{true≢false}
use Rattle.hc_grammar.specs.Texts as texts
use Rattle.hc_cast.specs.declared.expr.CExpr.{CExpr}
use Rattle.hc_ctoken.specs.declared.token.Token.{Token}
use Rattle.hc_cgrammar.specs.Leaves.{Spelled}
use Rattle.hc_cgrammar.specs.Exprs as g
use Rattle.hc_cspell.specs.declared.level.Level.{Level}
use Rattle.hc_cspell.specs.declared.level.Level.TheVariants as at
use Rattle.hc_cspell.specs.Tokens.{Lexemes}
use Rattle.hc_cspell.specs.Exprs.{needs_round}
use Rattle.hc_cwrite.proofs.Saying.{Says}
use Rattle.hc_cwrite.proofs.Follows.{Frame, calm, Follows}

-- what the grammar has at a level
abbrev pub Part : Level → Type 0
Part at.Or = g.Or
Part at.And = g.And
Part at.Comparison = g.Compared
Part at.Sum = g.Sum
Part at.Product = g.Product
Part at.Unary = g.Unary

abbrev pub spell : (l : Level) → Part l → Spelled → Spelled
spell at.Or x v = g.or x v
spell at.And x v = g.and x v
spell at.Comparison x v = g.cmp x v
spell at.Sum x v = g.sum_of x v
spell at.Product x v = g.prod x v
spell at.Unary x v = g.unary x v

abbrev pub tree_at : (l : Level) → Part l → CExpr
tree_at at.Or x = g.or_tree x
tree_at at.And x = g.and_tree x
tree_at at.Comparison x = g.cmp_tree x
tree_at at.Sum x = g.sum_tree x
tree_at at.Product x = g.product_tree x
tree_at at.Unary x = g.unary_tree x

-- tokens are those of an expression of this level, which is t, and then others that say w; it is within the limits where the part f
-- of the text was
pub record At (l : Level) (t : CExpr) (f : Spelled → Spelled) (w : Lexemes) (ts : List Token) : Type 0 where
  pub part : Part l
  pub others : List Token
  pub rest : Says w others
  pub tokens : (v : Spelled) → texts.tokens_of v ≡ others → texts.tokens_of (spell l part v) ≡ ts
  pub tree : tree_at l part ≡ t
  pub goes : (k m : ℕ) (a : Frame) (v v' : Spelled) → Follows k m (calm a) v v' → Follows k m (calm a) (f v) (spell l part v')

module _ (t : CExpr) (f : Spelled → Spelled) (w : Lexemes) (ts : List Token) where
  -- one level less
  as_or : At at.And t f w ts → At at.Or t f w ts
  as_or x = record { part = g.either x.part g.no_or; others = x.others; rest = x.rest; tokens = x.tokens; tree = x.tree; goes = x.goes }

  as_and : At at.Comparison t f w ts → At at.And t f w ts
  as_and x = record { part = g.both x.part g.no_and; others = x.others; rest = x.rest; tokens = x.tokens; tree = x.tree; goes = x.goes }

  as_comparison : At at.Sum t f w ts → At at.Comparison t f w ts
  as_comparison x = record { part = g.alone x.part; others = x.others; rest = x.rest; tokens = x.tokens; tree = x.tree; goes = x.goes }

  as_sum : At at.Product t f w ts → At at.Sum t f w ts
  as_sum x = record { part = g.sum x.part g.no_more; others = x.others; rest = x.rest; tokens = x.tokens; tree = x.tree; goes = x.goes }

  as_product : At at.Unary t f w ts → At at.Product t f w ts
  as_product x = record { part = g.product x.part g.no_other; others = x.others; rest = x.rest; tokens = x.tokens; tree = x.tree; goes = x.goes }

  -- where an expression of the first level needs no brackets, it is one of the second too
  pub lower : (own l : Level) → needs_round own l ≡ false → At own t f w ts → At l t f w ts
  lower at.Or at.Or h x = x
  lower at.And at.And h x = x
  lower at.And at.Or h x = as_or x
  lower at.Comparison at.Comparison h x = x
  lower at.Comparison at.And h x = as_and x
  lower at.Comparison at.Or h x = as_or (as_and x)
  lower at.Sum at.Sum h x = x
  lower at.Sum at.Comparison h x = as_comparison x
  lower at.Sum at.And h x = as_and (as_comparison x)
  lower at.Sum at.Or h x = as_or (as_and (as_comparison x))
  lower at.Product at.Product h x = x
  lower at.Product at.Sum h x = as_sum x
  lower at.Product at.Comparison h x = as_comparison (as_sum x)
  lower at.Product at.And h x = as_and (as_comparison (as_sum x))
  lower at.Product at.Or h x = as_or (as_and (as_comparison (as_sum x)))
  lower at.Unary at.Unary h x = x
  lower at.Unary at.Product h x = as_product x
  lower at.Unary at.Sum h x = as_sum (as_product x)
  lower at.Unary at.Comparison h x = as_comparison (as_sum (as_product x))
  lower at.Unary at.And h x = as_and (as_comparison (as_sum (as_product x)))
  lower at.Unary at.Or h x = as_or (as_and (as_comparison (as_sum (as_product x))))
  lower _ _ h x = absurd (true≢false h)
