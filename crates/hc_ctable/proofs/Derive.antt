-- Each text of the grammar derives in the table: expressions.
use Rattle.std.proofs.Common.{◌≡◌, refl, ap, sym, ◌∙◌, subst, append_assoc, List, [], ◌∷◌, ◌++◌, Some, true, false}
use Rattle.hc_grammar.specs.declared.symbol.Symbol.TheVariants.{Head, Mark}
use Rattle.hc_grammar.specs.Table.{Takes, with_more}
use Rattle.hc_grammar.specs.Derives.{Derives, token, mark, takes, skips}
use Rattle.hc_cast.specs.declared.expr.COp.{COp}
use Rattle.hc_ctoken.specs.declared.kind.Kind.{Kind}
use Rattle.hc_ctoken.specs.declared.fixed.Fixed.{Fixed}
use Rattle.hc_ctoken.specs.declared.fixed.Fixed.TheVariants as fix
use Rattle.hc_ctoken.specs.declared.kind.Kind.TheVariants as k
use Rattle.hc_ctoken.specs.declared.token.Lexeme.{Lexeme}
use Rattle.hc_ctoken.specs.declared.token.Lexeme.TheVariants as lex
use Rattle.hc_ctoken.specs.Lexemes as lexemes
use Rattle.hc_ctoken.specs.Tokens.{kind_of}
use Rattle.hc_cgrammar.specs.declared.role.Role.{Role}
use Rattle.hc_cgrammar.specs.declared.role.Role.TheVariants as r
use Rattle.hc_cgrammar.specs.declared.role.Mark.TheVariants as m
use Rattle.hc_cgrammar.specs.Leaves.{Spelled, OfFixed, OfArray, OfLocal, OfNumber, sum_op, comparison}
use Rattle.hc_cgrammar.specs.Exprs as x
use Rattle.hc_ctable.specs.declared.head.Head as head
use Rattle.hc_ctable.specs.declared.head.Head.TheVariants as h
use Rattle.hc_ctable.specs.Symbols.{Rule}
use Rattle.hc_ctable.specs.Rows.{unary, products, sums, compare, right_side, ands, ors}
use Rattle.hc_ctable.specs.Table.{number, same, entry, empties, table}
use Rattle.hc_ctable.proofs.Leaves.{at_local, at_number}

abbrev pub D : List Rule → Spelled → Type 0
D ss w = Derives table kind_of ss w

-- the kind of a keyword or a sign, and of a name of an array
pub fixed_kind : {one : Fixed} (t : OfFixed one) → kind_of t.0 ≡ k.Fixed one
fixed_kind t = ap lexemes.kind_of t.1

pub array_kind : (t : OfArray) → kind_of t.0 ≡ k.Array
array_kind t = ap lexemes.kind_of t.2

-- a wanted keyword or sign that is there
pub is : (one : Fixed) (t : OfFixed one) → same (k.Fixed one) (k.Fixed one) ≡ true → same (k.Fixed one) (kind_of t.0) ≡ true
is one t e = ap (same (k.Fixed one)) (fixed_kind t) ∙ e

-- one phrase that begins another, with what comes behind it there
pub begins : (x y : head.Head) (q : List Rule) {ss : List Rule} {w : Spelled} → empties x ≡ false
    → ((kind : Kind) (role : Role) (p : List Rule) → entry x kind ≡ Takes role p → entry y kind ≡ Takes role (p ++ q))
    → D (Head x ∷ q ++ ss) w → D (Head y ∷ ss) w
begins x y q {ss = ss} e row (takes {t = t} {role = role} {p = p} {w = rest} f d) =
    takes (row (kind_of t) role p f) (subst (λ (zs : List Rule). D zs rest) (sym (append_assoc p q ss)) d)
begins x y q e row (skips f d) = absurd (cc (e, f))

-- the rows of signs
sum_row : (l : Lexeme) (op : COp) → sum_op l ≡ Some op
    → sums (lexemes.kind_of l) ≡ Takes r.Operator (Head h.Product ∷ Mark m.Binary ∷ Head h.Sums ∷ [])
sum_row (lex.Fixed fix.Plus) op e = refl
sum_row (lex.Fixed fix.Minus) op e = refl
sum_row _ op e = absurd (cc)

compare_row : (l : Lexeme) (op : COp) → comparison l ≡ Some op → compare (lexemes.kind_of l) ≡ right_side
compare_row (lex.Fixed fix.Less) op e = refl
compare_row (lex.Fixed fix.LessEqual) op e = refl
compare_row (lex.Fixed fix.EqualEqual) op e = refl
compare_row (lex.Fixed fix.NotEqual) op e = refl
compare_row (lex.Fixed fix.GreaterEqual) op e = refl
compare_row (lex.Fixed fix.Greater) op e = refl
compare_row _ op e = absurd (cc)

-- what follows the first operand of an expression
abbrev pub more_of_or : List Rule
more_of_or = Head h.Products ∷ Head h.Sums ∷ Head h.Compare ∷ Head h.Ands ∷ Head h.Ors ∷ []

mutual
  -- an expression behind whatever begins with its first operand
  pub operands_text : (e : x.Or) {ss : List Rule} {w : Spelled} → D ss w → D (Head h.Unary ∷ more_of_or ++ ss) (x.or e w)
  operands_text (x.either (x.both c cs) os) d = compared_operands c (ands_text cs (ors_text os d))

  compared_operands : (c : x.Compared) {ss : List Rule} {w : Spelled} → D ss w
      → D (Head h.Unary ∷ Head h.Products ∷ Head h.Sums ∷ Head h.Compare ∷ ss) (x.cmp c w)
  compared_operands (x.alone (x.sum (x.product u us) ps)) d = unary_text u (products_text us (sums_text ps (skips refl d)))
  compared_operands (x.compared (x.sum (x.product u us) ps) s y) d =
      unary_text u (products_text us (sums_text ps (takes (compare_row s.0.lexeme s.1 s.2) (sum_text y (mark d)))))

  pub ors_text : (os : x.Ors) {ss : List Rule} {w : Spelled} → D ss w → D (Head h.Ors ∷ ss) (x.ors os w)
  ors_text x.no_or d = skips refl d
  ors_text (x.or_else s a os) d = takes (ap ors (fixed_kind s)) (and_text a (mark (ors_text os d)))

  and_text : (a : x.And) {ss : List Rule} {w : Spelled} → D ss w → D (Head h.And ∷ ss) (x.and a w)
  and_text (x.both c cs) d =
      begins h.Unary h.And (Head h.Products ∷ Head h.Sums ∷ Head h.Compare ∷ Head h.Ands ∷ []) refl
      (λ kind role p f. ap (with_more (Head h.Products ∷ Head h.Sums ∷ Head h.Compare ∷ Head h.Ands ∷ [])) f)
      (compared_operands c (ands_text cs d))

  pub ands_text : (cs : x.Ands) {ss : List Rule} {w : Spelled} → D ss w → D (Head h.Ands ∷ ss) (x.ands cs w)
  ands_text x.no_and d = skips refl d
  ands_text (x.and_also s c cs) d = takes (ap ands (fixed_kind s)) (begins h.Unary h.Compared (Head h.Products ∷ Head h.Sums ∷ Head h.Compare ∷ []) refl
      (λ kind role p f. ap (with_more (Head h.Products ∷ Head h.Sums ∷ Head h.Compare ∷ [])) f) (compared_operands c (mark (ands_text cs d))))

  sum_text : (s : x.Sum) {ss : List Rule} {w : Spelled} → D ss w → D (Head h.Sum ∷ ss) (x.sum_of s w)
  sum_text (x.sum (x.product u us) ps) d =
      begins h.Unary h.Sum (Head h.Products ∷ Head h.Sums ∷ []) refl (λ kind role p f. ap (with_more (Head h.Products ∷ Head h.Sums ∷ [])) f)
      (unary_text u (products_text us (sums_text ps d)))

  sums_text : (ps : x.Sums) {ss : List Rule} {w : Spelled} → D ss w → D (Head h.Sums ∷ ss) (x.sums ps w)
  sums_text x.no_more d = skips refl d
  sums_text (x.added s p ps) d = takes (sum_row s.0.lexeme s.1 s.2) (product_text p (mark (sums_text ps d)))

  product_text : (p : x.Product) {ss : List Rule} {w : Spelled} → D ss w → D (Head h.Product ∷ ss) (x.prod p w)
  product_text (x.product u us) d =
      begins h.Unary h.Product (Head h.Products ∷ []) refl (λ kind role p f. ap (with_more (Head h.Products ∷ [])) f)
      (unary_text u (products_text us d))

  products_text : (us : x.Products) {ss : List Rule} {w : Spelled} → D ss w → D (Head h.Products ∷ ss) (x.products us w)
  products_text x.no_other d = skips refl d
  products_text (x.multiplied s u us) d = takes (ap products (fixed_kind s)) (unary_text u (mark (products_text us d)))

  unary_text : (u : x.Unary) {ss : List Rule} {w : Spelled} → D ss w → D (Head h.Unary ∷ ss) (x.unary u w)
  unary_text (x.minus s u) d = takes (ap unary (fixed_kind s)) (unary_text u (mark d))
  unary_text (x.negation s u) d = takes (ap unary (fixed_kind s)) (unary_text u (mark d))
  unary_text (x.number n) d = takes (at_number unary (Takes r.Number []) refl refl n) d
  unary_text (x.local v) d = takes (at_local unary (Takes r.Local []) refl refl v) d
  unary_text (x.element a l e b) d =
      takes (ap unary (array_kind a)) (token (is fix.OpenSquare l refl) (begins h.Unary h.Or more_of_or refl (λ kind role p f. ap (with_more more_of_or) f) (operands_text e (token (is fix.CloseSquare b refl) (mark d)))))
  unary_text (x.brackets l e b) d = takes (ap unary (fixed_kind l)) (begins h.Unary h.Or more_of_or refl (λ kind role p f. ap (with_more more_of_or) f) (operands_text e (token (is fix.CloseRound b refl) d)))

pub or_text : (e : x.Or) {ss : List Rule} {w : Spelled} → D ss w → D (Head h.Or ∷ ss) (x.or e w)
or_text e d = begins h.Unary h.Or more_of_or refl (λ kind role p f. ap (with_more more_of_or) f) (operands_text e d)
