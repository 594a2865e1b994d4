-- The canonical spelling of each expression is read as that expression.
use Rattle.std.proofs.Common.{◌≡◌, ℕ, ℤ, ◌+◌, ◌-◌, max, List, ◌∷◌, Some, refl, ap, ap₂, sym, ◌∙◌, arith}
use Rattle.hc_grammar.specs.Texts as texts
use Rattle.hc_grammar.specs.Texts.{Read, Did}
use Rattle.hc_token.specs.declared.fixed.Fixed.{Fixed}
use Rattle.hc_token.specs.declared.fixed.Fixed.TheVariants as fix
use Rattle.hc_token.specs.declared.kind.Kind.TheVariants as k
use Rattle.hc_token.specs.declared.token.Token.{Token}
use Rattle.hc_ast.specs.declared.role.Role.TheVariants as r
use Rattle.hc_ast.specs.declared.role.Mark.TheVariants as m
use Rattle.hc_ast.specs.declared.expr.Op.{Op}
use Rattle.hc_ast.specs.declared.expr.Op.TheVariants as sign
use Rattle.hc_ast.specs.Bare.{BareExpr, number, name, neg, binary, Word}
use Rattle.hc_ast.specs.Leaves.{Spelled, OfSign, sum_op, product_op}
use Rattle.hc_ast.specs.Exprs as g
use Rattle.hc_ast.specs.Exprs.{Expr, Sums, Term, Products, Factor}
use Rattle.hc_ast.specs.Counts.{unfit}
use Rattle.hc_print.specs.declared.level.Level.{Level}
use Rattle.hc_print.specs.declared.level.Level.TheVariants as at
use Rattle.hc_print.specs.Lexemes.{Lexemes, fixed}
use Rattle.hc_print.specs.CanonExprs as canon
use Rattle.hc_print.proofs.BareExprs.{expr_bare, sums_bare, term_bare, products_bare, factor_bare}
use Rattle.hc_print.proofs.Peaks.{peak, size}
use Rattle.hc_print.proofs.Saying.{Says}
use Rattle.hc_print.proofs.Walking.{walks_at}
use Rattle.hc_print.proofs.Phrases.{flaw_of, IsFit, Phrase, Counted}

-- a phrase for b where it stands at this level
abbrev pub Reads : {X : Type 0} → (X → Spelled → Spelled) → (X → BareExpr) → Level → BareExpr → Type 0
Reads spell bare_of l b =
    (w : Lexemes) (ts : List Token) → Says (canon.expr b l w) ts → Phrase spell bare_of (Counted (peak b l) (size b)) b w ts

pub record AtLevels (b : BareExpr) : Type 0 where
  pub alone : Reads g.expr expr_bare at.Alone b
  pub inner : Reads g.term term_bare at.Inner b
  pub tight : Reads g.factor factor_bare at.Tight b

-- a factor is a term, and a term is an expression
pub as_term : (b : BareExpr) (deep many : ℕ) (w : Lexemes) (ts : List Token)
    → Phrase g.factor factor_bare (Counted deep many) b w ts → Phrase g.term term_bare (Counted deep many) b w ts
as_term b deep many w ts p = record {
  phrase = g.product p.phrase g.no_other;
  others = p.others;
  rest = p.rest;
  tokens = p.tokens;
  bare = p.bare;
  goes = p.goes;
}

pub as_expr : (b : BareExpr) (deep many : ℕ) (w : Lexemes) (ts : List Token)
    → Phrase g.term term_bare (Counted deep many) b w ts → Phrase g.expr expr_bare (Counted deep many) b w ts
as_expr b deep many w ts p = record {
  phrase = g.sum p.phrase g.no_more;
  others = p.others;
  rest = p.rest;
  tokens = p.tokens;
  bare = p.bare;
  goes = p.goes;
}

number_text : (digits : ℤ) (places : ℕ) → Reads g.factor factor_bare at.Tight (number digits places)
number_text digits places w ts h = record {
  phrase = g.number (h.first, h.is.0, h.is.1);
  others = h.others;
  rest = h.rest;
  tokens = λ v e. ap (λ us. h.first ∷ us) e ∙ sym h.all;
  bare = ap₂ number h.is.2 h.is.3;
  goes = λ v d n i j q. (ap flaw_of h.is.1, omega arith, q);
}

name_text : (x : Word) → Reads g.factor factor_bare at.Tight (name x)
name_text x w ts h = record {
  phrase = g.variable (h.first, x, h.is);
  others = h.others;
  rest = h.rest;
  tokens = λ v e. ap (λ us. h.first ∷ us) e ∙ sym h.all;
  bare = refl;
  goes = λ v d n i j q. (ap flaw_of h.is, omega arith, q);
}

minus_text : (x : BareExpr) → Reads g.factor factor_bare at.Tight x → Reads g.factor factor_bare at.Tight (neg x)
minus_text x reads w ts h = let p = reads w h.others h.rest in record {
  phrase = g.minus (h.first, h.is) p.phrase;
  others = p.others;
  rest = p.rest;
  tokens = λ v e. ap (λ us. h.first ∷ us) (p.tokens (Did m.Negate ∷ v) e) ∙ sym h.all;
  bare = ap neg p.bare;
  goes = λ v d n i j q. (
    ap unfit h.is,
    (omega arith, omega arith),
    p.goes (Did m.Negate ∷ v) (d + 1) (n + 1) (omega arith) (omega arith)
        (walks_at IsFit v d (d + 1 - 1) (n + (1 + size x)) (n + 1 + size x) (omega arith) (omega arith) q),
  );
}

-- in round brackets
in_round : (b : BareExpr) (deep many : ℕ) (inside : Lexemes → Lexemes)
    → ((w : Lexemes) (ts : List Token) → Says (inside w) ts → Phrase g.expr expr_bare (Counted deep many) b w ts)
    → (w : Lexemes) (ts : List Token) → Says (fixed fix.OpenRound ∷ inside (fixed fix.CloseRound ∷ w)) ts
    → Phrase g.factor factor_bare (Counted (1 + deep) many) b w ts
in_round b deep many inside reads w ts h =
    let p = reads (fixed fix.CloseRound ∷ w) h.others h.rest in record {
      phrase = g.brackets (h.first, h.is) p.phrase (p.rest.first, p.rest.is);
      others = p.rest.others;
      rest = p.rest.rest;
      tokens = λ v e. ap (λ us. h.first ∷ us)
          (p.tokens (Read p.rest.first r.Close ∷ v) (ap (λ us. p.rest.first ∷ us) e ∙ sym p.rest.all)) ∙ sym h.all;
      bare = p.bare;
      goes = λ v d n i j q. (
        ap unfit h.is,
        omega arith,
        p.goes (Read p.rest.first r.Close ∷ v) (d + 1) n (omega arith) j
            (ap unfit p.rest.is, tt, walks_at IsFit v d (d + 1 - 1) (n + many) (n + many) (omega arith) refl q),
      );
    }

-- one term more at the end of a sum
abbrev sums_end : Sums → OfSign sum_op → Term → Sums
sums_end g.no_more s t = g.added s t g.no_more
sums_end (g.added s0 t0 ss) s t = g.added s0 t0 (sums_end ss s t)

abbrev one_more : Expr → OfSign sum_op → Term → Expr
one_more (g.sum t0 ss) s t = g.sum t0 (sums_end ss s t)

spelled_end : (ss : Sums) (s : OfSign sum_op) (t : Term) (v : Spelled)
    → g.sums (sums_end ss s t) v ≡ g.sums ss (Read s.0 r.Operator ∷ g.term t (Did m.Binary ∷ v))
spelled_end g.no_more s t v = refl
spelled_end (g.added s0 t0 ss) s t v =
    ap (λ u. Read s0.0 r.Operator ∷ g.term t0 (Did m.Binary ∷ u)) (spelled_end ss s t v)

spelled_more : (x : Expr) (s : OfSign sum_op) (t : Term) (v : Spelled)
    → g.expr (one_more x s t) v ≡ g.expr x (Read s.0 r.Operator ∷ g.term t (Did m.Binary ∷ v))
spelled_more (g.sum t0 ss) s t v = ap (g.term t0) (spelled_end ss s t v)

bare_end : (ss : Sums) (s : OfSign sum_op) (t : Term) (b : BareExpr)
    → sums_bare (sums_end ss s t) b ≡ binary s.1 (sums_bare ss b) (term_bare t)
bare_end g.no_more s t b = refl
bare_end (g.added s0 t0 ss) s t b = bare_end ss s t (binary s0.1 b (term_bare t0))

bare_more : (x : Expr) (s : OfSign sum_op) (t : Term)
    → expr_bare (one_more x s t) ≡ binary s.1 (expr_bare x) (term_bare t)
bare_more (g.sum t0 ss) s t = bare_end ss s t (term_bare t0)

sum_text : (op : Op) (one : Fixed) → sum_op (k.Fixed one) ≡ Some op → (x y : BareExpr)
    → Reads g.expr expr_bare at.Alone x → Reads g.term term_bare at.Inner y → (w : Lexemes) (ts : List Token)
    → Says (canon.expr x at.Alone (fixed one ∷ canon.expr y at.Inner w)) ts
    → Phrase g.expr expr_bare (Counted (max (peak x at.Alone) (peak y at.Inner)) (1 + (size x + size y))) (binary op x y) w ts
sum_text op one is x y first second w ts h =
    let p = first (fixed one ∷ canon.expr y at.Inner w) ts h in
    let q = second w p.rest.others p.rest.rest in
    let s : OfSign sum_op = (p.rest.first, op, ap sum_op p.rest.is ∙ is) in record {
      phrase = one_more p.phrase s q.phrase;
      others = q.others;
      rest = q.rest;
      tokens = λ v e. ap texts.tokens_of (spelled_more p.phrase s q.phrase v)
          ∙ p.tokens (Read p.rest.first r.Operator ∷ g.term q.phrase (Did m.Binary ∷ v))
          (ap (λ us. p.rest.first ∷ us) (q.tokens (Did m.Binary ∷ v) e) ∙ sym p.rest.all);
      bare = bare_more p.phrase s q.phrase ∙ ap₂ (binary op) p.bare q.bare;
      goes = λ v d n i j u. rw (spelled_more p.phrase s q.phrase v)
          (p.goes (Read p.rest.first r.Operator ∷ g.term q.phrase (Did m.Binary ∷ v)) d n (omega arith) (omega arith) (
            ap unfit p.rest.is,
            omega arith,
            q.goes (Did m.Binary ∷ v) d (n + size x + 1) (omega arith) (omega arith)
                (walks_at IsFit v d d (n + (1 + (size x + size y))) (n + size x + 1 + size y) refl (omega arith) u),
          ));
    }

-- one factor more at the end of a product
abbrev products_end : Products → OfSign product_op → Factor → Products
products_end g.no_other s f = g.multiplied s f g.no_other
products_end (g.multiplied s0 f0 ps) s f = g.multiplied s0 f0 (products_end ps s f)

abbrev factor_more : Term → OfSign product_op → Factor → Term
factor_more (g.product f0 ps) s f = g.product f0 (products_end ps s f)

factors_end : (ps : Products) (s : OfSign product_op) (f : Factor) (v : Spelled)
    → g.products (products_end ps s f) v ≡ g.products ps (Read s.0 r.Operator ∷ g.factor f (Did m.Binary ∷ v))
factors_end g.no_other s f v = refl
factors_end (g.multiplied s0 f0 ps) s f v =
    ap (λ u. Read s0.0 r.Operator ∷ g.factor f0 (Did m.Binary ∷ u)) (factors_end ps s f v)

factors_more : (x : Term) (s : OfSign product_op) (f : Factor) (v : Spelled)
    → g.term (factor_more x s f) v ≡ g.term x (Read s.0 r.Operator ∷ g.factor f (Did m.Binary ∷ v))
factors_more (g.product f0 ps) s f v = ap (g.factor f0) (factors_end ps s f v)

product_end : (ps : Products) (s : OfSign product_op) (f : Factor) (b : BareExpr)
    → products_bare (products_end ps s f) b ≡ binary s.1 (products_bare ps b) (factor_bare f)
product_end g.no_other s f b = refl
product_end (g.multiplied s0 f0 ps) s f b = product_end ps s f (binary s0.1 b (factor_bare f0))

product_more : (x : Term) (s : OfSign product_op) (f : Factor)
    → term_bare (factor_more x s f) ≡ binary s.1 (term_bare x) (factor_bare f)
product_more (g.product f0 ps) s f = product_end ps s f (factor_bare f0)

product_text : (op : Op) (one : Fixed) → product_op (k.Fixed one) ≡ Some op → (x y : BareExpr)
    → Reads g.term term_bare at.Inner x → Reads g.factor factor_bare at.Tight y → (w : Lexemes) (ts : List Token)
    → Says (canon.expr x at.Inner (fixed one ∷ canon.expr y at.Tight w)) ts
    → Phrase g.term term_bare (Counted (max (peak x at.Inner) (peak y at.Tight)) (1 + (size x + size y))) (binary op x y) w ts
product_text op one is x y first second w ts h =
    let p = first (fixed one ∷ canon.expr y at.Tight w) ts h in
    let q = second w p.rest.others p.rest.rest in
    let s : OfSign product_op = (p.rest.first, op, ap product_op p.rest.is ∙ is) in record {
      phrase = factor_more p.phrase s q.phrase;
      others = q.others;
      rest = q.rest;
      tokens = λ v e. ap texts.tokens_of (factors_more p.phrase s q.phrase v)
          ∙ p.tokens (Read p.rest.first r.Operator ∷ g.factor q.phrase (Did m.Binary ∷ v))
          (ap (λ us. p.rest.first ∷ us) (q.tokens (Did m.Binary ∷ v) e) ∙ sym p.rest.all);
      bare = product_more p.phrase s q.phrase ∙ ap₂ (binary op) p.bare q.bare;
      goes = λ v d n i j u. rw (factors_more p.phrase s q.phrase v)
          (p.goes (Read p.rest.first r.Operator ∷ g.factor q.phrase (Did m.Binary ∷ v)) d n (omega arith) (omega arith) (
            ap unfit p.rest.is,
            omega arith,
            q.goes (Did m.Binary ∷ v) d (n + size x + 1) (omega arith) (omega arith)
                (walks_at IsFit v d d (n + (1 + (size x + size y))) (n + size x + 1 + size y) refl (omega arith) u),
          ));
    }

-- by the form of the expression
number_levels : (digits : ℤ) (places : ℕ) → AtLevels (number digits places)
number_levels digits places = record {
  alone = λ w ts h. as_expr (number digits places) 0 1 w ts (as_term (number digits places) 0 1 w ts (number_text digits places w ts h));
  inner = λ w ts h. as_term (number digits places) 0 1 w ts (number_text digits places w ts h);
  tight = number_text digits places;
}

name_levels : (x : Word) → AtLevels (name x)
name_levels x = record {
  alone = λ w ts h. as_expr (name x) 0 1 w ts (as_term (name x) 0 1 w ts (name_text x w ts h));
  inner = λ w ts h. as_term (name x) 0 1 w ts (name_text x w ts h);
  tight = name_text x;
}

neg_levels : (x : BareExpr) → AtLevels x → AtLevels (neg x)
neg_levels x a =
    let deep : ℕ = 1 + peak x at.Tight in
    let many : ℕ = 1 + size x in record {
      alone = λ w ts h. as_expr (neg x) deep many w ts (as_term (neg x) deep many w ts (minus_text x a.tight w ts h));
      inner = λ w ts h. as_term (neg x) deep many w ts (minus_text x a.tight w ts h);
      tight = minus_text x a.tight;
    }

add_levels : (x y : BareExpr) → AtLevels x → AtLevels y → AtLevels (binary sign.Add x y)
add_levels x y a b =
    let t : BareExpr = binary sign.Add x y in
    let deep : ℕ = max (peak x at.Alone) (peak y at.Inner) in
    let many : ℕ = 1 + (size x + size y) in
    let inside = λ (w : Lexemes). canon.expr x at.Alone (fixed fix.Plus ∷ canon.expr y at.Inner w) in
    let text = sum_text sign.Add fix.Plus refl x y a.alone b.inner in record {
      alone = text;
      inner = λ w ts h. as_term t (1 + deep) many w ts (in_round t deep many inside text w ts h);
      tight = in_round t deep many inside text;
    }

sub_levels : (x y : BareExpr) → AtLevels x → AtLevels y → AtLevels (binary sign.Sub x y)
sub_levels x y a b =
    let t : BareExpr = binary sign.Sub x y in
    let deep : ℕ = max (peak x at.Alone) (peak y at.Inner) in
    let many : ℕ = 1 + (size x + size y) in
    let inside = λ (w : Lexemes). canon.expr x at.Alone (fixed fix.Minus ∷ canon.expr y at.Inner w) in
    let text = sum_text sign.Sub fix.Minus refl x y a.alone b.inner in record {
      alone = text;
      inner = λ w ts h. as_term t (1 + deep) many w ts (in_round t deep many inside text w ts h);
      tight = in_round t deep many inside text;
    }

mul_levels : (x y : BareExpr) → AtLevels x → AtLevels y → AtLevels (binary sign.Mul x y)
mul_levels x y a b =
    let t : BareExpr = binary sign.Mul x y in
    let deep : ℕ = max (peak x at.Inner) (peak y at.Tight) in
    let many : ℕ = 1 + (size x + size y) in
    let inside = λ (w : Lexemes). canon.expr x at.Inner (fixed fix.Star ∷ canon.expr y at.Tight w) in
    let text = product_text sign.Mul fix.Star refl x y a.inner b.tight in
    let alone = λ (w : Lexemes) (ts : List Token) (h : Says (inside w) ts). as_expr t deep many w ts (text w ts h) in record {
      alone = alone;
      inner = text;
      tight = in_round t deep many inside alone;
    }

div_levels : (x y : BareExpr) → AtLevels x → AtLevels y → AtLevels (binary sign.Div x y)
div_levels x y a b =
    let t : BareExpr = binary sign.Div x y in
    let deep : ℕ = max (peak x at.Inner) (peak y at.Tight) in
    let many : ℕ = 1 + (size x + size y) in
    let inside = λ (w : Lexemes). canon.expr x at.Inner (fixed fix.Slash ∷ canon.expr y at.Tight w) in
    let text = product_text sign.Div fix.Slash refl x y a.inner b.tight in
    let alone = λ (w : Lexemes) (ts : List Token) (h : Says (inside w) ts). as_expr t deep many w ts (text w ts h) in record {
      alone = alone;
      inner = text;
      tight = in_round t deep many inside alone;
    }

pub all_levels : (b : BareExpr) → AtLevels b
all_levels (number digits places) = number_levels digits places
all_levels (name x) = name_levels x
all_levels (neg x) = neg_levels x (all_levels x)
all_levels (binary sign.Add x y) = add_levels x y (all_levels x) (all_levels y)
all_levels (binary sign.Sub x y) = sub_levels x y (all_levels x) (all_levels y)
all_levels (binary sign.Mul x y) = mul_levels x y (all_levels x) (all_levels y)
all_levels (binary sign.Div x y) = div_levels x y (all_levels x) (all_levels y)
