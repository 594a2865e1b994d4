-- What is built along a unit is its program: expressions.
use Rattle.std.proofs.Common.{◌≡◌, refl, ap, ◌∙◌, ◌∷◌, Some}
use Rattle.hc_grammar.specs.Texts.{Read, Did}
use Rattle.hc_grammar.specs.Reader.{walked}
use Rattle.hc_cast.specs.declared.expr.COp.{COp}
use Rattle.hc_cast.specs.declared.expr.COp.TheVariants as op
use Rattle.hc_cast.specs.declared.expr.CExpr.{CExpr}
use Rattle.hc_cast.specs.declared.expr.CExpr.TheVariants as e
use Rattle.hc_ctoken.specs.declared.fixed.Fixed.{Fixed}
use Rattle.hc_ctoken.specs.declared.fixed.Fixed.TheVariants as fix
use Rattle.hc_ctoken.specs.declared.token.Lexeme.{Lexeme}
use Rattle.hc_ctoken.specs.declared.token.Lexeme.TheVariants as lex
use Rattle.hc_cgrammar.specs.declared.role.Role.TheVariants as r
use Rattle.hc_cgrammar.specs.declared.role.Mark.TheVariants as m
use Rattle.hc_cgrammar.specs.Leaves.{Spelled, OfFixed, OfArray, OfLocal, OfNumber, sum_op, comparison}
use Rattle.hc_cgrammar.specs.Exprs as ex
use Rattle.hc_cread.specs.declared.values.Values.{Values}
use Rattle.hc_cread.specs.Builder.{builder, push_expr, push_sign, push_name, push_number, op_of, leaf, signed, named, numbered}

-- the values behind a text
abbrev pub W : Spelled → Values → Values
W w v = walked builder w v

-- what is kept of a token is what it says
pub named_array : (t : OfArray) (w : Spelled) (v : Values) → W w (named t.0.lexeme v) ≡ W w (push_name t.1 v)
named_array t w v = ap (λ l. W w (named l v)) t.2

pub named_local : (t : OfLocal) (w : Spelled) (v : Values) → W w (named t.0.lexeme v) ≡ W w (push_name t.1 v)
named_local t w v = ap (λ l. W w (named l v)) t.2

pub numbered_so : (t : OfNumber) (w : Spelled) (v : Values) → W w (numbered t.0.lexeme v) ≡ W w (push_number t.1 v)
numbered_so t w v = ap (λ l. W w (numbered l v)) t.2

signed_fixed : (one : Fixed) (t : OfFixed one) (w : Spelled) (v : Values) → W w (signed t.0.lexeme v) ≡ W w (push_sign (op_of one) v)
signed_fixed one t w v = ap (λ l. W w (signed l v)) t.1

-- the signs are what the grammar takes them for
sum_fixed : (one : Fixed) (x : COp) → sum_op (lex.Fixed one) ≡ Some x → op_of one ≡ x
sum_fixed fix.Plus x i = cc
sum_fixed fix.Minus x i = cc
sum_fixed _ x i = absurd (cc)

sum_signed : (l : Lexeme) (x : COp) → sum_op l ≡ Some x → (v : Values) → signed l v ≡ push_sign x v
sum_signed (lex.Fixed one) x i v = ap (λ y. push_sign y v) (sum_fixed one x i)
sum_signed _ x i v = absurd (cc)

comparison_fixed : (one : Fixed) (x : COp) → comparison (lex.Fixed one) ≡ Some x → op_of one ≡ x
comparison_fixed fix.Less x i = cc
comparison_fixed fix.LessEqual x i = cc
comparison_fixed fix.EqualEqual x i = cc
comparison_fixed fix.NotEqual x i = cc
comparison_fixed fix.GreaterEqual x i = cc
comparison_fixed fix.Greater x i = cc
comparison_fixed _ x i = absurd (cc)

comparison_signed : (l : Lexeme) (x : COp) → comparison l ≡ Some x → (v : Values) → signed l v ≡ push_sign x v
comparison_signed (lex.Fixed one) x i v = ap (λ y. push_sign y v) (comparison_fixed one x i)
comparison_signed _ x i v = absurd (cc)

mutual
  pub built_or : (x : ex.Or) (w : Spelled) (v : Values) → W (ex.or x w) v ≡ W w (push_expr (ex.or_tree x) v)
  built_or (ex.either x xs) w v = built_and x (ex.ors xs w) v ∙ built_ors xs (ex.and_tree x) w v

  built_ors : (xs : ex.Ors) (before : CExpr) (w : Spelled) (v : Values)
      → W (ex.ors xs w) (push_expr before v) ≡ W w (push_expr (ex.ors_tree xs before) v)
  built_ors ex.no_or before w v = refl
  built_ors (ex.or_else sign x xs) before w v =
      let rest = Did m.Binary ∷ ex.ors xs w in
      signed_fixed fix.BarBar sign (ex.and x rest) (push_expr before v)
      ∙ built_and x rest (push_sign op.Or (push_expr before v))
      ∙ built_ors xs (e.Binary op.Or before (ex.and_tree x)) w v

  built_and : (x : ex.And) (w : Spelled) (v : Values) → W (ex.and x w) v ≡ W w (push_expr (ex.and_tree x) v)
  built_and (ex.both x xs) w v = built_cmp x (ex.ands xs w) v ∙ built_ands xs (ex.cmp_tree x) w v

  built_ands : (xs : ex.Ands) (before : CExpr) (w : Spelled) (v : Values)
      → W (ex.ands xs w) (push_expr before v) ≡ W w (push_expr (ex.ands_tree xs before) v)
  built_ands ex.no_and before w v = refl
  built_ands (ex.and_also sign x xs) before w v =
      let rest = Did m.Binary ∷ ex.ands xs w in
      signed_fixed fix.AndAnd sign (ex.cmp x rest) (push_expr before v)
      ∙ built_cmp x rest (push_sign op.And (push_expr before v))
      ∙ built_ands xs (e.Binary op.And before (ex.cmp_tree x)) w v

  built_cmp : (x : ex.Compared) (w : Spelled) (v : Values) → W (ex.cmp x w) v ≡ W w (push_expr (ex.cmp_tree x) v)
  built_cmp (ex.alone x) w v = built_sum x w v
  built_cmp (ex.compared x sign y) w v =
      let rest = Did m.Binary ∷ w in
      built_sum x (Read sign.0 r.Operator ∷ ex.sum_of y rest) v
      ∙ ap (W (ex.sum_of y rest)) (comparison_signed sign.0.lexeme sign.1 sign.2 (push_expr (ex.sum_tree x) v))
      ∙ built_sum y rest (push_sign sign.1 (push_expr (ex.sum_tree x) v))

  built_sum : (x : ex.Sum) (w : Spelled) (v : Values) → W (ex.sum_of x w) v ≡ W w (push_expr (ex.sum_tree x) v)
  built_sum (ex.sum x xs) w v = built_product x (ex.sums xs w) v ∙ built_sums xs (ex.product_tree x) w v

  built_sums : (xs : ex.Sums) (before : CExpr) (w : Spelled) (v : Values)
      → W (ex.sums xs w) (push_expr before v) ≡ W w (push_expr (ex.sums_tree xs before) v)
  built_sums ex.no_more before w v = refl
  built_sums (ex.added sign x xs) before w v =
      let rest = Did m.Binary ∷ ex.sums xs w in
      ap (W (ex.prod x rest)) (sum_signed sign.0.lexeme sign.1 sign.2 (push_expr before v))
      ∙ built_product x rest (push_sign sign.1 (push_expr before v))
      ∙ built_sums xs (e.Binary sign.1 before (ex.product_tree x)) w v

  built_product : (x : ex.Product) (w : Spelled) (v : Values) → W (ex.prod x w) v ≡ W w (push_expr (ex.product_tree x) v)
  built_product (ex.product x xs) w v = built_unary x (ex.products xs w) v ∙ built_products xs (ex.unary_tree x) w v

  built_products : (xs : ex.Products) (before : CExpr) (w : Spelled) (v : Values)
      → W (ex.products xs w) (push_expr before v) ≡ W w (push_expr (ex.products_tree xs before) v)
  built_products ex.no_other before w v = refl
  built_products (ex.multiplied sign x xs) before w v =
      let rest = Did m.Binary ∷ ex.products xs w in
      signed_fixed fix.Star sign (ex.unary x rest) (push_expr before v)
      ∙ built_unary x rest (push_sign op.Mul (push_expr before v))
      ∙ built_products xs (e.Binary op.Mul before (ex.unary_tree x)) w v

  built_unary : (x : ex.Unary) (w : Spelled) (v : Values) → W (ex.unary x w) v ≡ W w (push_expr (ex.unary_tree x) v)
  built_unary (ex.minus sign x) w v = built_unary x (Did m.Negate ∷ w) v
  built_unary (ex.negation sign x) w v = built_unary x (Did m.Not ∷ w) v
  built_unary (ex.number t) w v = ap (λ l. W w (leaf l v)) t.2
  built_unary (ex.local t) w v = ap (λ l. W w (leaf l v)) t.2
  built_unary (ex.element name left index right) w v =
      let rest = Read right.0 r.Close ∷ Did m.Element ∷ w in
      named_array name (Read left.0 r.Open ∷ ex.or index rest) v ∙ built_or index rest (push_name name.1 v)
  built_unary (ex.brackets left x right) w v = built_or x (Read right.0 r.Close ∷ w) v
