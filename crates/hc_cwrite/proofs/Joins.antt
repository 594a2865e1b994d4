-- Two expressions with a sign between them.
use Rattle.std.proofs.Common.{◌≡◌, ℕ, List, ◌∷◌, Option, refl, ap, ap₂, sym, ◌∙◌, subst}
use Rattle.std.specs.Prelude.{IfSome}
use Rattle.std.proofs.lemmas.Bool.{false≢true}
use Rattle.hc_grammar.specs.Texts as texts
use Rattle.hc_grammar.specs.Texts.{Read, Did}
use Rattle.hc_cast.specs.declared.expr.COp.{COp}
use Rattle.hc_cast.specs.declared.expr.COp.TheVariants as op
use Rattle.hc_cast.specs.declared.expr.CExpr.{CExpr}
use Rattle.hc_cast.specs.declared.expr.CExpr.TheVariants as e
use Rattle.hc_cast.specs.declared.expr.CExpr.TheOpen.{CExpr-F}
use Rattle.hc_ctoken.specs.declared.fixed.Fixed.TheVariants as fix
use Rattle.hc_ctoken.specs.declared.token.Lexeme.{Lexeme}
use Rattle.hc_ctoken.specs.declared.token.Lexeme.TheVariants as lex
use Rattle.hc_ctoken.specs.declared.token.Token.{Token}
use Rattle.hc_cgrammar.specs.declared.role.Role.TheVariants as r
use Rattle.hc_cgrammar.specs.declared.role.Mark.TheVariants as m
use Rattle.hc_cgrammar.specs.Leaves.{Spelled, OfFixed, OfSign, sum_op, comparison}
use Rattle.hc_cgrammar.specs.Exprs as g
use Rattle.hc_cspell.specs.declared.level.Level.{Level}
use Rattle.hc_cspell.specs.declared.level.Level.TheVariants as at
use Rattle.hc_cspell.specs.Tokens.{Lexemes, fixed}
use Rattle.hc_cspell.specs.Exprs.{sign_of, own_of, left_of, right_of, expr_layer, spelling, expr}
use Rattle.hc_cspell.proofs.ExprForms.{spelled-Binary}
use Rattle.hc_cwrite.proofs.Saying.{Says, front}
use Rattle.hc_cwrite.proofs.Follows.{Frame, calm, Follows, a_token, a_mark, lead_token, lead_mark, then_leads}
use Rattle.hc_cwrite.proofs.Levels.{Part, spell, tree_at, At}
use Rattle.hc_cwrite.proofs.Known.{Knows, irreflexive, at_own, fine_at, sound_behind, lead_behind}

-- one part more behind what stands, with this sign in front of it
pub record Joins (x : COp) : Type 0 where
  pub more : Part (left_of x) → (t : Token) → t.lexeme ≡ fixed (sign_of x) → Part (right_of x) → Part (own_of x)
  pub spelled : (p : Part (left_of x)) (t : Token) (i : t.lexeme ≡ fixed (sign_of x)) (q : Part (right_of x)) (v : Spelled)
      → spell (own_of x) (more p t i q) v ≡ spell (left_of x) p (Read t r.Operator ∷ spell (right_of x) q (Did m.Binary ∷ v))
  pub tree : (p : Part (left_of x)) (t : Token) (i : t.lexeme ≡ fixed (sign_of x)) (q : Part (right_of x))
      → tree_at (own_of x) (more p t i q) ≡ e.Binary x (tree_at (left_of x) p) (tree_at (right_of x) q)

-- `||`
ors_end : g.Ors → OfFixed fix.BarBar → g.And → g.Ors
ors_end g.no_or s y = g.or_else s y g.no_or
ors_end (g.or_else s0 x xs) s y = g.or_else s0 x (ors_end xs s y)

or_more : g.Or → OfFixed fix.BarBar → g.And → g.Or
or_more (g.either x xs) s y = g.either x (ors_end xs s y)

ors_spelled : (xs : g.Ors) (s : OfFixed fix.BarBar) (y : g.And) (v : Spelled)
    → g.ors (ors_end xs s y) v ≡ g.ors xs (Read s.0 r.Operator ∷ g.and y (Did m.Binary ∷ v))
unfolding ors_end
ors_spelled g.no_or s y v = refl
ors_spelled (g.or_else s0 x xs) s y v = ap (λ u. Read s0.0 r.Operator ∷ g.and x (Did m.Binary ∷ u)) (ors_spelled xs s y v)

or_spelled : (p : g.Or) (s : OfFixed fix.BarBar) (y : g.And) (v : Spelled)
    → g.or (or_more p s y) v ≡ g.or p (Read s.0 r.Operator ∷ g.and y (Did m.Binary ∷ v))
unfolding or_more
or_spelled (g.either x xs) s y v = ap (g.and x) (ors_spelled xs s y v)

ors_end_tree : (xs : g.Ors) (s : OfFixed fix.BarBar) (y : g.And) (b : CExpr)
    → g.ors_tree (ors_end xs s y) b ≡ e.Binary op.Or (g.ors_tree xs b) (g.and_tree y)
unfolding ors_end
ors_end_tree g.no_or s y b = refl
ors_end_tree (g.or_else s0 x xs) s y b = ors_end_tree xs s y (e.Binary op.Or b (g.and_tree x))

or_more_tree : (p : g.Or) (s : OfFixed fix.BarBar) (y : g.And)
    → g.or_tree (or_more p s y) ≡ e.Binary op.Or (g.or_tree p) (g.and_tree y)
unfolding or_more
or_more_tree (g.either x xs) s y = ors_end_tree xs s y (g.and_tree x)

pub joins_or : Joins op.Or
joins_or = record {
  more = λ p t i q. or_more p (t, i) q;
  spelled = λ p t i q v. or_spelled p (t, i) q v;
  tree = λ p t i q. or_more_tree p (t, i) q;
}

-- `&&`
ands_end : g.Ands → OfFixed fix.AndAnd → g.Compared → g.Ands
ands_end g.no_and s y = g.and_also s y g.no_and
ands_end (g.and_also s0 x xs) s y = g.and_also s0 x (ands_end xs s y)

and_more : g.And → OfFixed fix.AndAnd → g.Compared → g.And
and_more (g.both x xs) s y = g.both x (ands_end xs s y)

ands_spelled : (xs : g.Ands) (s : OfFixed fix.AndAnd) (y : g.Compared) (v : Spelled)
    → g.ands (ands_end xs s y) v ≡ g.ands xs (Read s.0 r.Operator ∷ g.cmp y (Did m.Binary ∷ v))
unfolding ands_end
ands_spelled g.no_and s y v = refl
ands_spelled (g.and_also s0 x xs) s y v = ap (λ u. Read s0.0 r.Operator ∷ g.cmp x (Did m.Binary ∷ u)) (ands_spelled xs s y v)

and_spelled : (p : g.And) (s : OfFixed fix.AndAnd) (y : g.Compared) (v : Spelled)
    → g.and (and_more p s y) v ≡ g.and p (Read s.0 r.Operator ∷ g.cmp y (Did m.Binary ∷ v))
unfolding and_more
and_spelled (g.both x xs) s y v = ap (g.cmp x) (ands_spelled xs s y v)

ands_end_tree : (xs : g.Ands) (s : OfFixed fix.AndAnd) (y : g.Compared) (b : CExpr)
    → g.ands_tree (ands_end xs s y) b ≡ e.Binary op.And (g.ands_tree xs b) (g.cmp_tree y)
unfolding ands_end
ands_end_tree g.no_and s y b = refl
ands_end_tree (g.and_also s0 x xs) s y b = ands_end_tree xs s y (e.Binary op.And b (g.cmp_tree x))

and_more_tree : (p : g.And) (s : OfFixed fix.AndAnd) (y : g.Compared)
    → g.and_tree (and_more p s y) ≡ e.Binary op.And (g.and_tree p) (g.cmp_tree y)
unfolding and_more
and_more_tree (g.both x xs) s y = ands_end_tree xs s y (g.cmp_tree x)

pub joins_and : Joins op.And
joins_and = record {
  more = λ p t i q. and_more p (t, i) q;
  spelled = λ p t i q v. and_spelled p (t, i) q v;
  tree = λ p t i q. and_more_tree p (t, i) q;
}

-- `+` and `-`
sums_end : g.Sums → OfSign sum_op → g.Product → g.Sums
sums_end g.no_more s y = g.added s y g.no_more
sums_end (g.added s0 x xs) s y = g.added s0 x (sums_end xs s y)

sum_more : g.Sum → OfSign sum_op → g.Product → g.Sum
sum_more (g.sum x xs) s y = g.sum x (sums_end xs s y)

sums_spelled : (xs : g.Sums) (s : OfSign sum_op) (y : g.Product) (v : Spelled)
    → g.sums (sums_end xs s y) v ≡ g.sums xs (Read s.0 r.Operator ∷ g.prod y (Did m.Binary ∷ v))
unfolding sums_end
sums_spelled g.no_more s y v = refl
sums_spelled (g.added s0 x xs) s y v = ap (λ u. Read s0.0 r.Operator ∷ g.prod x (Did m.Binary ∷ u)) (sums_spelled xs s y v)

sum_spelled : (p : g.Sum) (s : OfSign sum_op) (y : g.Product) (v : Spelled)
    → g.sum_of (sum_more p s y) v ≡ g.sum_of p (Read s.0 r.Operator ∷ g.prod y (Did m.Binary ∷ v))
unfolding sum_more
sum_spelled (g.sum x xs) s y v = ap (g.prod x) (sums_spelled xs s y v)

sums_end_tree : (xs : g.Sums) (s : OfSign sum_op) (y : g.Product) (b : CExpr)
    → g.sums_tree (sums_end xs s y) b ≡ e.Binary s.1 (g.sums_tree xs b) (g.product_tree y)
unfolding sums_end
sums_end_tree g.no_more s y b = refl
sums_end_tree (g.added s0 x xs) s y b = sums_end_tree xs s y (e.Binary s0.1 b (g.product_tree x))

sum_more_tree : (p : g.Sum) (s : OfSign sum_op) (y : g.Product)
    → g.sum_tree (sum_more p s y) ≡ e.Binary s.1 (g.sum_tree p) (g.product_tree y)
unfolding sum_more
sum_more_tree (g.sum x xs) s y = sums_end_tree xs s y (g.product_tree x)

joins_add : Joins op.Add
joins_add = record {
  more = λ p t i q. sum_more p (t, op.Add, ap sum_op i) q;
  spelled = λ p t i q v. sum_spelled p (t, op.Add, ap sum_op i) q v;
  tree = λ p t i q. sum_more_tree p (t, op.Add, ap sum_op i) q;
}

joins_sub : Joins op.Sub
joins_sub = record {
  more = λ p t i q. sum_more p (t, op.Sub, ap sum_op i) q;
  spelled = λ p t i q v. sum_spelled p (t, op.Sub, ap sum_op i) q v;
  tree = λ p t i q. sum_more_tree p (t, op.Sub, ap sum_op i) q;
}

-- `*`
products_end : g.Products → OfFixed fix.Star → g.Unary → g.Products
products_end g.no_other s y = g.multiplied s y g.no_other
products_end (g.multiplied s0 x xs) s y = g.multiplied s0 x (products_end xs s y)

product_more : g.Product → OfFixed fix.Star → g.Unary → g.Product
product_more (g.product x xs) s y = g.product x (products_end xs s y)

products_spelled : (xs : g.Products) (s : OfFixed fix.Star) (y : g.Unary) (v : Spelled)
    → g.products (products_end xs s y) v ≡ g.products xs (Read s.0 r.Operator ∷ g.unary y (Did m.Binary ∷ v))
unfolding products_end
products_spelled g.no_other s y v = refl
products_spelled (g.multiplied s0 x xs) s y v =
    ap (λ u. Read s0.0 r.Operator ∷ g.unary x (Did m.Binary ∷ u)) (products_spelled xs s y v)

product_spelled : (p : g.Product) (s : OfFixed fix.Star) (y : g.Unary) (v : Spelled)
    → g.prod (product_more p s y) v ≡ g.prod p (Read s.0 r.Operator ∷ g.unary y (Did m.Binary ∷ v))
unfolding product_more
product_spelled (g.product x xs) s y v = ap (g.unary x) (products_spelled xs s y v)

products_end_tree : (xs : g.Products) (s : OfFixed fix.Star) (y : g.Unary) (b : CExpr)
    → g.products_tree (products_end xs s y) b ≡ e.Binary op.Mul (g.products_tree xs b) (g.unary_tree y)
unfolding products_end
products_end_tree g.no_other s y b = refl
products_end_tree (g.multiplied s0 x xs) s y b = products_end_tree xs s y (e.Binary op.Mul b (g.unary_tree x))

product_more_tree : (p : g.Product) (s : OfFixed fix.Star) (y : g.Unary)
    → g.product_tree (product_more p s y) ≡ e.Binary op.Mul (g.product_tree p) (g.unary_tree y)
unfolding product_more
product_more_tree (g.product x xs) s y = products_end_tree xs s y (g.unary_tree x)

pub joins_mul : Joins op.Mul
joins_mul = record {
  more = λ p t i q. product_more p (t, i) q;
  spelled = λ p t i q v. product_spelled p (t, i) q v;
  tree = λ p t i q. product_more_tree p (t, i) q;
}

-- comparisons
joins_less : Joins op.Less
joins_less = record {
  more = λ p t i q. g.compared p (t, op.Less, ap comparison i) q;
  spelled = λ p t i q v. refl;
  tree = λ p t i q. refl;
}

joins_at_most : Joins op.AtMost
joins_at_most = record {
  more = λ p t i q. g.compared p (t, op.AtMost, ap comparison i) q;
  spelled = λ p t i q v. refl;
  tree = λ p t i q. refl;
}

joins_equal : Joins op.Equal
joins_equal = record {
  more = λ p t i q. g.compared p (t, op.Equal, ap comparison i) q;
  spelled = λ p t i q v. refl;
  tree = λ p t i q. refl;
}

joins_not_equal : Joins op.NotEqual
joins_not_equal = record {
  more = λ p t i q. g.compared p (t, op.NotEqual, ap comparison i) q;
  spelled = λ p t i q v. refl;
  tree = λ p t i q. refl;
}

joins_at_least : Joins op.AtLeast
joins_at_least = record {
  more = λ p t i q. g.compared p (t, op.AtLeast, ap comparison i) q;
  spelled = λ p t i q v. refl;
  tree = λ p t i q. refl;
}

joins_greater : Joins op.Greater
joins_greater = record {
  more = λ p t i q. g.compared p (t, op.Greater, ap comparison i) q;
  spelled = λ p t i q v. refl;
  tree = λ p t i q. refl;
}

-- what a sign's token says, with its levels
pub record IsSign (l : Lexeme) (x : COp) (own left right : Level) : Type 0 where
  pub says : l ≡ fixed (sign_of x)
  pub own_is : own_of x ≡ own
  pub left_is : left_of x ≡ left
  pub right_is : right_of x ≡ right
  pub joins : Joins x

sum_signs : (l : Lexeme) → IfSome (sum_op l) (λ x. IsSign l x at.Sum at.Sum at.Product)
sum_signs (lex.Fixed fix.Plus) = record { says = refl; own_is = refl; left_is = refl; right_is = refl; joins = joins_add }
sum_signs (lex.Fixed fix.Minus) = record { says = refl; own_is = refl; left_is = refl; right_is = refl; joins = joins_sub }
sum_signs _ = tt

comparisons : (l : Lexeme) → IfSome (comparison l) (λ x. IsSign l x at.Comparison at.Sum at.Sum)
comparisons (lex.Fixed fix.Less) = record { says = refl; own_is = refl; left_is = refl; right_is = refl; joins = joins_less }
comparisons (lex.Fixed fix.LessEqual) = record { says = refl; own_is = refl; left_is = refl; right_is = refl; joins = joins_at_most }
comparisons (lex.Fixed fix.EqualEqual) = record { says = refl; own_is = refl; left_is = refl; right_is = refl; joins = joins_equal }
comparisons (lex.Fixed fix.NotEqual) = record { says = refl; own_is = refl; left_is = refl; right_is = refl; joins = joins_not_equal }
comparisons (lex.Fixed fix.GreaterEqual) = record { says = refl; own_is = refl; left_is = refl; right_is = refl; joins = joins_at_least }
comparisons (lex.Fixed fix.Greater) = record { says = refl; own_is = refl; left_is = refl; right_is = refl; joins = joins_greater }
comparisons _ = tt

pub sum_sign : (s : OfSign sum_op) → IsSign s.0.lexeme s.1 at.Sum at.Sum at.Product
sum_sign s =
    let P : Option COp → Type 0 = λ o. IfSome o (λ x. IsSign s.0.lexeme x at.Sum at.Sum at.Product) in
    subst P s.2 (sum_signs s.0.lexeme)

pub comparison_sign : (s : OfSign comparison) → IsSign s.0.lexeme s.1 at.Comparison at.Sum at.Sum
comparison_sign s =
    let P : Option COp → Type 0 = λ o. IfSome o (λ x. IsSign s.0.lexeme x at.Comparison at.Sum at.Sum) in
    subst P s.2 (comparisons s.0.lexeme)

-- the part of a text with a sign between two expressions
abbrev pub joined : (Spelled → Spelled) → Token → (Spelled → Spelled) → Spelled → Spelled
joined f t h v = f (Read t r.Operator ∷ h (Did m.Binary ∷ v))

module _ (x : COp) (j : Joins x) (s : Token) (says : s.lexeme ≡ fixed (sign_of x)) (a b : CExpr) (f h : Spelled → Spelled)
    (p : Knows (left_of x) a f) (q : Knows (right_of x) b h) where
  is_calm : (k mm : ℕ) (fr : Frame) (v v' : Spelled) (t : Token) → t.lexeme ≡ fixed (sign_of x)
      → Follows k mm (calm fr) v v' → Follows k mm (calm fr) (Read s r.Operator ∷ v) (Read t r.Operator ∷ v')
  is_calm k mm fr v v' t i f' =
      a_token r.Operator s t (fixed (sign_of x)) k mm k mm (calm fr) v v' says i (λ d e i j. (i, j)) f'

  joined_inside : (w : Lexemes) (ts : List Token)
      → Says (expr a (left_of x) (fixed (sign_of x) ∷ expr b (right_of x) w)) ts
      → At (own_of x) (e.Binary x a b) (joined f s h) w ts
  joined_inside w ts d =
      let y = at_own (left_of x) a f p (fixed (sign_of x) ∷ expr b (right_of x) w) ts d in
      let z = at_own (right_of x) b h q w y.rest.others y.rest.rest in
      record {
        part = j.more y.part y.rest.first y.rest.is z.part;
        others = z.others;
        rest = z.rest;
        tokens = λ v i. ap texts.tokens_of (j.spelled y.part y.rest.first y.rest.is z.part v)
            ∙ y.tokens (Read y.rest.first r.Operator ∷ spell (right_of x) z.part (Did m.Binary ∷ v))
            (front y.rest (z.tokens (Did m.Binary ∷ v) i));
        tree = j.tree y.part y.rest.first y.rest.is z.part ∙ ap₂ (e.Binary x) y.tree z.tree;
        goes = λ k mm fr v v' i.
            let P : Spelled → Type 0 = λ u. Follows k mm (calm fr) (joined f s h v) u in
            subst P (sym (j.spelled y.part y.rest.first y.rest.is z.part v'))
            (y.goes k mm fr _ _ (is_calm k mm fr _ _ y.rest.first y.rest.is
            (z.goes k mm fr _ _ (a_mark m.Binary k mm k mm (calm fr) v v' (λ d e i j. (i, j)) i))));
      }

  pub join : Knows (own_of x) (e.Binary x a b) (joined f s h)
  join = (
    expr_layer (CExpr-F.Binary x (spelling a) (spelling b)),
    record {
      is = spelled-Binary x a b;
      sound = λ v sound. sound_behind (right_of x) b h q (Did m.Binary ∷ v)
          (sound_behind (left_of x) a f p (Read s r.Operator ∷ h (Did m.Binary ∷ v)) sound).1;
      fine = λ v sound w fine.
          let behind = sound_behind (left_of x) a f p (Read s r.Operator ∷ h (Did m.Binary ∷ v)) sound in
          fine_at (left_of x) a f p (left_of x) (Read s r.Operator ∷ h (Did m.Binary ∷ v)) sound _ (
            tt,
            fine_at (right_of x) b h q (right_of x) (Did m.Binary ∷ v) behind.1 w fine,
          );
      leads = λ fr v.
          let rest = h (Did m.Binary ∷ v) in
          then_leads (calm fr) (calm fr) (calm fr) _ _ _ (lead_behind (left_of x) a f p fr (Read s r.Operator ∷ rest))
          (then_leads (calm fr) (calm fr) (calm fr) _ _ _ (lead_token r.Operator s (calm fr) rest)
          (then_leads (calm fr) (calm fr) (calm fr) _ _ _ (lead_behind (right_of x) b h q fr (Did m.Binary ∷ v)) (lead_mark m.Binary (calm fr) v)));
      inside = joined_inside;
      in_round = λ i. absurd (false≢true (sym (irreflexive (own_of x)) ∙ i));
    },
  )

-- the same where the levels are known
pub join_at : (x : COp) (l : Lexeme) (own left right : Level) → IsSign l x own left right → (s : Token) → s.lexeme ≡ l
    → (a b : CExpr) (f h : Spelled → Spelled) → Knows left a f → Knows right b h → Knows own (e.Binary x a b) (joined f s h)
join_at x l own left right sign s i a b f h p q =
    let L : Level → Type 0 = λ c. Knows c a f in
    let R : Level → Type 0 = λ c. Knows c b h in
    let O : Level → Type 0 = λ c. Knows c (e.Binary x a b) (joined f s h) in
    subst O sign.own_is (join x sign.joins s (i ∙ sign.says) a b f h (subst L (sym sign.left_is) p) (subst R (sym sign.right_is) q))
