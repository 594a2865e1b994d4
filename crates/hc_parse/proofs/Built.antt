-- What is built along a text is its tree: expressions and conditions.
use Rattle.std.proofs.Common.{◌≡◌, refl, ap, ◌∙◌, ◌∷◌, Some}
use Rattle.hc_grammar.specs.Texts.{Read, Did}
use Rattle.hc_grammar.specs.Reader.{walked}
use Rattle.hc_frac.specs.declared.place.Place.{Place}
use Rattle.hc_token.specs.declared.fixed.Fixed.{Fixed}
use Rattle.hc_token.specs.declared.fixed.Fixed.TheVariants as fix
use Rattle.hc_token.specs.declared.kind.Kind.TheVariants as k
use Rattle.hc_token.specs.declared.token.Lexeme.{Lexeme}
use Rattle.hc_token.specs.declared.token.Lexeme.TheVariants as lex
use Rattle.hc_token.specs.Lexemes.{kind_of}
use Rattle.hc_ast.specs.declared.role.Role.TheVariants as r
use Rattle.hc_ast.specs.declared.role.Mark.TheVariants as m
use Rattle.hc_ast.specs.declared.expr.Op.{Op}
use Rattle.hc_ast.specs.declared.expr.Comparison.{Comparison}
use Rattle.hc_ast.specs.declared.expr.ExprTree.{ExprTree}
use Rattle.hc_ast.specs.declared.expr.ExprKind.TheVariants as e
use Rattle.hc_ast.specs.declared.expr.CondTree.{CondTree}
use Rattle.hc_ast.specs.declared.expr.CondKind.TheVariants as c
use Rattle.hc_ast.specs.Leaves.{Spelled, OfFixed, OfName, OfRate, sum_op, product_op, comparison}
use Rattle.hc_ast.specs.Exprs as ex
use Rattle.hc_ast.specs.Conds as co
use Rattle.hc_parse.specs.declared.values.Values.{Values}
use Rattle.hc_table.proofs.Leaves.{fixed_said}
use Rattle.hc_parse.specs.Builder.{builder, push_expr, push_cond, push_fixed, push_name, keep, leaf, op_of, comparison_of}

-- the values behind a text
abbrev pub W : Spelled → Values → Values
W w v = walked builder w v

-- what is kept of a token is what it says
kept : (l m : Lexeme) (p : Place) → l ≡ m → (w : Spelled) (v : Values) → W w (keep l p v) ≡ W w (keep m p v)
kept l m p e w v = ap (λ x. W w (keep x p v)) e

pub kept_fixed : (one : Fixed) (t : OfFixed one) (w : Spelled) (v : Values)
    → W w (keep t.0.lexeme t.0.place v) ≡ W w (push_fixed t.0.place one v)
kept_fixed one t w v = kept t.0.lexeme (lex.Fixed one) t.0.place (fixed_said one t.0.lexeme t.1) w v

pub kept_name : (t : OfName) (w : Spelled) (v : Values) → W w (keep t.0.lexeme t.0.place v) ≡ W w (push_name t.0.place t.1 v)
kept_name t w v = kept t.0.lexeme (lex.Name t.1) t.0.place t.2 w v

pub kept_rate : (t : OfRate) (w : Spelled) (v : Values) → W w (keep t.0.lexeme t.0.place v) ≡ W w (push_name t.0.place t.1 v)
kept_rate t w v = kept t.0.lexeme (lex.Rate t.1) t.0.place t.2 w v

-- a keyword or a sign that says x, and what the builder takes it for
abbrev pub Sign : {X : Type 0} → (Fixed → X) → Lexeme → X → Type 0
Sign taken l x = (one : Fixed) × (l ≡ lex.Fixed one) × (taken one ≡ x)

-- where such a one is kept
pub kept_sign : {X : Type 0} (taken : Fixed → X) (l : Lexeme) (x : X) (s : Sign taken l x) (p : Place) (w : Spelled) (v : Values)
    → W w (keep l p v) ≡ W w (push_fixed p s.0 v)
kept_sign taken l x s p w v = kept l (lex.Fixed s.0) p s.1 w v

-- the signs are what the grammar takes them for
sum_fixed : (one : Fixed) (op : Op) → sum_op (k.Fixed one) ≡ Some op → op_of one ≡ op
sum_fixed fix.Plus op i = cc
sum_fixed fix.Minus op i = cc
sum_fixed _ op i = absurd (cc)

sum_sign : (l : Lexeme) (op : Op) → sum_op (kind_of l) ≡ Some op → Sign op_of l op
sum_sign (lex.Fixed one) op i = (one, refl, sum_fixed one op i)
sum_sign _ op i = absurd (cc)

product_fixed : (one : Fixed) (op : Op) → product_op (k.Fixed one) ≡ Some op → op_of one ≡ op
product_fixed fix.Star op i = cc
product_fixed fix.Slash op i = cc
product_fixed _ op i = absurd (cc)

product_sign : (l : Lexeme) (op : Op) → product_op (kind_of l) ≡ Some op → Sign op_of l op
product_sign (lex.Fixed one) op i = (one, refl, product_fixed one op i)
product_sign _ op i = absurd (cc)

comparison_fixed : (one : Fixed) (how : Comparison) → comparison (k.Fixed one) ≡ Some how → comparison_of one ≡ how
comparison_fixed fix.Less how i = cc
comparison_fixed fix.LessEqual how i = cc
comparison_fixed fix.EqualEqual how i = cc
comparison_fixed fix.NotEqual how i = cc
comparison_fixed fix.GreaterEqual how i = cc
comparison_fixed fix.Greater how i = cc
comparison_fixed _ how i = absurd (cc)

comparison_sign : (l : Lexeme) (how : Comparison) → comparison (kind_of l) ≡ Some how → Sign comparison_of l how
comparison_sign (lex.Fixed one) how i = (one, refl, comparison_fixed one how i)
comparison_sign _ how i = absurd (cc)

mutual
  pub built_expr : (x : ex.Expr) (w : Spelled) (v : Values) → W (ex.expr x w) v ≡ W w (push_expr (ex.expr_tree x) v)
  built_expr (ex.sum t ss) w v = built_term t (ex.sums ss w) v ∙ built_sums ss (ex.term_tree t) w v

  built_sums : (ss : ex.Sums) (x : ExprTree) (w : Spelled) (v : Values)
      → W (ex.sums ss w) (push_expr x v) ≡ W w (push_expr (ex.sums_tree ss x) v)
  built_sums ex.no_more x w v = refl
  built_sums (ex.added s t ss) x w v =
      let is = sum_sign s.0.lexeme s.1 s.2 in
      kept_sign op_of s.0.lexeme s.1 is s.0.place (ex.term t (Did m.Binary ∷ ex.sums ss w)) (push_expr x v)
      ∙ built_term t (Did m.Binary ∷ ex.sums ss w) (push_fixed s.0.place is.0 (push_expr x v))
      ∙ ap (λ op. W (ex.sums ss w) (push_expr (ex.expr_at s.0.place (e.Binary op x (ex.term_tree t))) v)) is.2
      ∙ built_sums ss (ex.expr_at s.0.place (e.Binary s.1 x (ex.term_tree t))) w v

  built_term : (t : ex.Term) (w : Spelled) (v : Values) → W (ex.term t w) v ≡ W w (push_expr (ex.term_tree t) v)
  built_term (ex.product f ps) w v = built_factor f (ex.products ps w) v ∙ built_products ps (ex.factor_tree f) w v

  built_products : (ps : ex.Products) (x : ExprTree) (w : Spelled) (v : Values)
      → W (ex.products ps w) (push_expr x v) ≡ W w (push_expr (ex.products_tree ps x) v)
  built_products ex.no_other x w v = refl
  built_products (ex.multiplied s f ps) x w v =
      let is = product_sign s.0.lexeme s.1 s.2 in
      kept_sign op_of s.0.lexeme s.1 is s.0.place (ex.factor f (Did m.Binary ∷ ex.products ps w)) (push_expr x v)
      ∙ built_factor f (Did m.Binary ∷ ex.products ps w) (push_fixed s.0.place is.0 (push_expr x v))
      ∙ ap (λ op. W (ex.products ps w) (push_expr (ex.expr_at s.0.place (e.Binary op x (ex.factor_tree f))) v)) is.2
      ∙ built_products ps (ex.expr_at s.0.place (e.Binary s.1 x (ex.factor_tree f))) w v

  built_factor : (f : ex.Factor) (w : Spelled) (v : Values) → W (ex.factor f w) v ≡ W w (push_expr (ex.factor_tree f) v)
  built_factor (ex.minus t f) w v =
      kept_fixed fix.Minus t (ex.factor f (Did m.Negate ∷ w)) v
      ∙ built_factor f (Did m.Negate ∷ w) (push_fixed t.0.place fix.Minus v)
  built_factor (ex.number t) w v = ap (λ l. W w (leaf l t.0.place v)) t.2
  built_factor (ex.variable t) w v = ap (λ l. W w (leaf l t.0.place v)) t.2
  built_factor (ex.brackets a x b) w v = built_expr x (Read b.0 r.Close ∷ w) v

mutual
  pub built_cond : (x : co.Cond) (w : Spelled) (v : Values) → W (co.cond x w) v ≡ W w (push_cond (co.cond_tree x) v)
  built_cond (co.either b os) w v = built_both b (co.ors os w) v ∙ built_ors os (co.both_tree b) w v

  built_ors : (os : co.Ors) (x : CondTree) (w : Spelled) (v : Values)
      → W (co.ors os w) (push_cond x v) ≡ W w (push_cond (co.ors_tree os x) v)
  built_ors co.no_more x w v = refl
  built_ors (co.or_both t b os) x w v =
      kept_fixed fix.BarBar t (co.both_of b (Did m.Or ∷ co.ors os w)) (push_cond x v)
      ∙ built_both b (Did m.Or ∷ co.ors os w) (push_fixed t.0.place fix.BarBar (push_cond x v))
      ∙ built_ors os (co.cond_at t.0.place (c.Or x (co.both_tree b))) w v

  built_both : (b : co.Both) (w : Spelled) (v : Values) → W (co.both_of b w) v ≡ W w (push_cond (co.both_tree b) v)
  built_both (co.both o os) w v = built_one o (co.ands os w) v ∙ built_ands os (co.one_tree o) w v

  built_ands : (os : co.Ands) (x : CondTree) (w : Spelled) (v : Values)
      → W (co.ands os w) (push_cond x v) ≡ W w (push_cond (co.ands_tree os x) v)
  built_ands co.no_other x w v = refl
  built_ands (co.and_one t o os) x w v =
      kept_fixed fix.AndAnd t (co.one o (Did m.And ∷ co.ands os w)) (push_cond x v)
      ∙ built_one o (Did m.And ∷ co.ands os w) (push_fixed t.0.place fix.AndAnd (push_cond x v))
      ∙ built_ands os (co.cond_at t.0.place (c.And x (co.one_tree o))) w v

  built_one : (o : co.One) (w : Spelled) (v : Values) → W (co.one o w) v ≡ W w (push_cond (co.one_tree o) v)
  built_one (co.negation t o) w v =
      kept_fixed fix.Exclamation t (co.one o (Did m.Not ∷ w)) v
      ∙ built_one o (Did m.Not ∷ w) (push_fixed t.0.place fix.Exclamation v)
  built_one (co.always t) w v = ap (λ l. W w (leaf l t.0.place v)) (fixed_said fix.True t.0.lexeme t.1)
  built_one (co.never t) w v = ap (λ l. W w (leaf l t.0.place v)) (fixed_said fix.False t.0.lexeme t.1)
  built_one (co.brackets a x b) w v = built_cond x (Read b.0 r.Close ∷ w) v
  built_one (co.compare x s y) w v =
      let is = comparison_sign s.0.lexeme s.1 s.2 in
      built_expr x (Read s.0 r.Operator ∷ ex.expr y (Did m.Compare ∷ w)) v
      ∙ kept_sign comparison_of s.0.lexeme s.1 is s.0.place (ex.expr y (Did m.Compare ∷ w)) (push_expr (ex.expr_tree x) v)
      ∙ built_expr y (Did m.Compare ∷ w) (push_fixed s.0.place is.0 (push_expr (ex.expr_tree x) v))
      ∙ ap (λ how. W w (push_cond (co.cond_at s.0.place (c.Compare how (ex.expr_tree x) (ex.expr_tree y))) v)) is.2
