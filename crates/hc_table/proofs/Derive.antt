-- Each text of the grammar derives in the table: expressions and conditions.
use Rattle.std.proofs.Common.{◌≡◌, refl, ap, sym, ◌∙◌, subst, append_assoc, List, [], ◌∷◌, ◌++◌, Some, true, false}
use Rattle.hc_grammar.specs.declared.symbol.Symbol.TheVariants.{Head, Mark}
use Rattle.hc_grammar.specs.Table.{Takes, with_more}
use Rattle.hc_grammar.specs.Derives.{Derives, token, mark, takes, skips}
use Rattle.hc_token.specs.declared.kind.Kind.{Kind}
use Rattle.hc_token.specs.declared.fixed.Fixed.TheVariants as fix
use Rattle.hc_token.specs.declared.kind.Kind.TheVariants as k
use Rattle.hc_token.specs.declared.token.Token as tok
use Rattle.hc_token.specs.Lexemes as lexemes
use Rattle.hc_ast.specs.declared.role.Role.{Role}
use Rattle.hc_ast.specs.declared.role.Role.TheVariants as r
use Rattle.hc_ast.specs.declared.role.Mark.TheVariants as m
use Rattle.hc_ast.specs.declared.expr.Op.{Op}
use Rattle.hc_ast.specs.declared.expr.Comparison.{Comparison}
use Rattle.hc_ast.specs.Leaves.{Spelled, OfKind, OfName, sum_op, product_op, comparison}
use Rattle.hc_ast.specs.Exprs as x
use Rattle.hc_ast.specs.Conds as y
use Rattle.hc_table.specs.declared.head.Head as head
use Rattle.hc_table.specs.declared.head.Head.TheVariants as h
use Rattle.hc_table.specs.Symbols.{Rule, an_expr, a_cond}
use Rattle.hc_table.specs.Rows.{factor, products, sums, one, compare, ands, ors, right_side}
use Rattle.hc_table.specs.Table.{same, entry, empties, table}
use Rattle.hc_table.proofs.Leaves.{name_kind, number_kind}

-- the kind of a token
abbrev pub kind_of : tok.Token → Kind
kind_of t = lexemes.kind_of t.lexeme

abbrev pub D : List Rule → Spelled → Type 0
D ss w = Derives table kind_of ss w

-- a wanted token that is there
pub is : (kind : Kind) (t : OfKind kind) → same kind kind ≡ true → same kind (kind_of t.0) ≡ true
is kind t e = ap (same kind) t.1 ∙ e

pub is_name : (t : OfName) → same k.Name (kind_of t.0) ≡ true
is_name t = ap (same k.Name) (name_kind t)

-- one phrase that begins another, with what comes behind it there
pub begins : (x y : head.Head) (q : List Rule) {ss : List Rule} {w : Spelled} → empties x ≡ false
    → ((kind : Kind) (role : Role) (p : List Rule) → entry x kind ≡ Takes role p → entry y kind ≡ Takes role (p ++ q))
    → D (Head x ∷ q ++ ss) w → D (Head y ∷ ss) w
begins x y q {ss = ss} e row (takes {t = t} {role = role} {p = p} {w = rest} f d) =
    takes (row (kind_of t) role p f) (subst (λ (zs : List Rule). D zs rest) (sym (append_assoc p q ss)) d)
begins x y q e row (skips f d) = absurd (cc (e, f))

-- the rows of signs
product_row : (kind : Kind) (op : Op) → product_op kind ≡ Some op
    → products kind ≡ Takes r.Operator (Head h.Factor ∷ Mark m.Binary ∷ Head h.Products ∷ [])
product_row (k.Fixed fix.Star) op e = refl
product_row (k.Fixed fix.Slash) op e = refl
product_row _ op e = absurd (cc)

sum_row : (kind : Kind) (op : Op) → sum_op kind ≡ Some op
    → sums kind ≡ Takes r.Operator (Head h.Term ∷ Mark m.Binary ∷ Head h.Sums ∷ [])
sum_row (k.Fixed fix.Plus) op e = refl
sum_row (k.Fixed fix.Minus) op e = refl
sum_row _ op e = absurd (cc)

compare_row : (kind : Kind) (how : Comparison) → comparison kind ≡ Some how → compare kind ≡ right_side
compare_row (k.Fixed fix.Less) how e = refl
compare_row (k.Fixed fix.LessEqual) how e = refl
compare_row (k.Fixed fix.EqualEqual) how e = refl
compare_row (k.Fixed fix.NotEqual) how e = refl
compare_row (k.Fixed fix.GreaterEqual) how e = refl
compare_row (k.Fixed fix.Greater) how e = refl
compare_row _ how e = absurd (cc)

-- a comparison begins as the first factor of its left side
one_row : (kind : Kind) (role : Role) (p : List Rule) → factor kind ≡ Takes role p
    → one kind ≡ Takes role (p ++ Head h.Products ∷ Head h.Sums ∷ Head h.Compare ∷ [])
one_row k.Number role p e = ap (with_more (Head h.Products ∷ Head h.Sums ∷ Head h.Compare ∷ [])) e
one_row k.Name role p e = ap (with_more (Head h.Products ∷ Head h.Sums ∷ Head h.Compare ∷ [])) e
one_row (k.Fixed fix.Minus) role p e = ap (with_more (Head h.Products ∷ Head h.Sums ∷ Head h.Compare ∷ [])) e
one_row (k.Fixed fix.OpenRound) role p e = ap (with_more (Head h.Products ∷ Head h.Sums ∷ Head h.Compare ∷ [])) e
one_row _ role p e = absurd (cc)

mutual
  pub expr_text : (e : x.Expr) {ss : List Rule} {w : Spelled} → D ss w → D (an_expr ss) (x.expr e w)
  expr_text (x.sum (x.product f fs) ts) d =
      begins h.Factor h.Expr (Head h.Products ∷ Head h.Sums ∷ []) refl
      (λ kind role p e. ap (with_more (Head h.Products ∷ Head h.Sums ∷ [])) e) (factor_text f (products_text fs (sums_text ts d)))

  pub sums_text : (ts : x.Sums) {ss : List Rule} {w : Spelled} → D ss w → D (Head h.Sums ∷ ss) (x.sums ts w)
  sums_text x.no_more d = skips refl d
  sums_text (x.added s t ts) d = takes (sum_row (kind_of s.0) s.1 s.2) (term_text t (mark (sums_text ts d)))

  term_text : (t : x.Term) {ss : List Rule} {w : Spelled} → D ss w → D (Head h.Term ∷ ss) (x.term t w)
  term_text (x.product f fs) d =
      begins h.Factor h.Term (Head h.Products ∷ []) refl (λ kind role p e. ap (with_more (Head h.Products ∷ [])) e)
      (factor_text f (products_text fs d))

  pub products_text : (fs : x.Products) {ss : List Rule} {w : Spelled} → D ss w → D (Head h.Products ∷ ss) (x.products fs w)
  products_text x.no_other d = skips refl d
  products_text (x.multiplied s f fs) d = takes (product_row (kind_of s.0) s.1 s.2) (factor_text f (mark (products_text fs d)))

  pub factor_text : (f : x.Factor) {ss : List Rule} {w : Spelled} → D ss w → D (Head h.Factor ∷ ss) (x.factor f w)
  factor_text (x.minus t f) d = takes (ap factor t.1) (factor_text f (mark d))
  factor_text (x.number t) d = takes (ap factor (number_kind t)) d
  factor_text (x.variable t) d = takes (ap factor (name_kind t)) d
  factor_text (x.brackets a e b) d = takes (ap factor a.1) (expr_text e (token (is (k.Fixed fix.CloseRound) b refl) d))

mutual
  pub cond_text : (c : y.Cond) {ss : List Rule} {w : Spelled} → D ss w → D (a_cond ss) (y.cond c w)
  cond_text (y.either (y.both o bs) os) d =
      begins h.One h.Cond (Head h.Ands ∷ Head h.Ors ∷ []) refl (λ kind role p e. ap (with_more (Head h.Ands ∷ Head h.Ors ∷ [])) e)
      (one_text o (ands_text bs (ors_text os d)))

  ors_text : (os : y.Ors) {ss : List Rule} {w : Spelled} → D ss w → D (Head h.Ors ∷ ss) (y.ors os w)
  ors_text y.no_more d = skips refl d
  ors_text (y.or_both t b os) d = takes (ap ors t.1) (both_text b (mark (ors_text os d)))

  both_text : (b : y.Both) {ss : List Rule} {w : Spelled} → D ss w → D (Head h.Both ∷ ss) (y.both_of b w)
  both_text (y.both o os) d =
      begins h.One h.Both (Head h.Ands ∷ []) refl (λ kind role p e. ap (with_more (Head h.Ands ∷ [])) e) (one_text o (ands_text os d))

  ands_text : (os : y.Ands) {ss : List Rule} {w : Spelled} → D ss w → D (Head h.Ands ∷ ss) (y.ands os w)
  ands_text y.no_other d = skips refl d
  ands_text (y.and_one t o os) d = takes (ap ands t.1) (one_text o (mark (ands_text os d)))

  one_text : (o : y.One) {ss : List Rule} {w : Spelled} → D ss w → D (Head h.One ∷ ss) (y.one o w)
  one_text (y.negation t o) d = takes (ap one t.1) (one_text o (mark d))
  one_text (y.always t) d = takes (ap one t.1) d
  one_text (y.never t) d = takes (ap one t.1) d
  one_text (y.brackets a c b) d = takes (ap one a.1) (cond_text c (token (is (k.Fixed fix.CloseSquare) b refl) d))
  one_text (y.compare (x.sum (x.product f fs) ts) s e) d =
      begins h.Factor h.One (Head h.Products ∷ Head h.Sums ∷ Head h.Compare ∷ []) refl one_row
      (factor_text f (products_text fs (sums_text ts (takes (compare_row (kind_of s.0) s.1 s.2) (expr_text e (mark d))))))
