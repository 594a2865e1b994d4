-- Each row makes a phrase of its parts: expressions and conditions.
use Rattle.std.proofs.Common.{◌≡◌, refl, ap, true, ◌∷◌, [], Some}
use Rattle.std.specs.List.{slice_get}
use Rattle.std.proofs.lemmas.Bool.{eqb-true}
use Rattle.hc_grammar.specs.declared.symbol.Symbol.TheVariants.{Head}
use Rattle.hc_grammar.proofs.Phrases.{Closes, Chain, closes_with}
use Rattle.hc_token.specs.declared.fixed.Fixed.{Fixed}
use Rattle.hc_token.specs.declared.kind.Kind.{Kind}
use Rattle.hc_token.specs.declared.fixed.Fixed.TheVariants as fix
use Rattle.hc_token.specs.declared.kind.Kind.TheVariants as k
use Rattle.hc_token.specs.declared.token.Token.{Token}
use Rattle.hc_ast.specs.declared.expr.Op.TheVariants as sign
use Rattle.hc_ast.specs.declared.expr.Comparison.TheVariants as how
use Rattle.hc_ast.specs.Leaves.{Spelled, OfKind, OfFixed, OfName, sum_op, product_op, comparison}
use Rattle.hc_ast.specs.Exprs as ex
use Rattle.hc_ast.specs.Conds as co
use Rattle.hc_table.specs.declared.head.Head as head
use Rattle.hc_table.specs.declared.head.Head.TheVariants as h
use Rattle.hc_table.specs.Symbols.{Row}
use Rattle.hc_table.specs.Rows.{expr, sums, term, products, factor, cond, ors, both, ands, one, compare}
use Rattle.hc_table.specs.Table.{number, same, table}
use Rattle.hc_table.proofs.Tabled.{kinds, kind_at}
use Rattle.hc_table.proofs.Derive.{kind_of}
use Rattle.hc_table.proofs.Leaves.{a_name, a_number}
use Rattle.hc_table.proofs.Phrase.{Phrase}

-- what is taken where a kind is wanted is of that kind
pub is_kind : (wanted kind : Kind) → same wanted kind ≡ true → kind ≡ wanted
is_kind (k.Fixed wanted) (k.Fixed one) e =
    let here : slice_get kinds (number one) ≡ Some (k.Fixed one) = kind_at (k.Fixed one) in
    let there : slice_get kinds (number wanted) ≡ Some (k.Fixed wanted) = kind_at (k.Fixed wanted) in
    let numbers : number wanted ≡ number one = eqb-true (number wanted) (number one) e in
    cc (ap (slice_get kinds) numbers)
is_kind k.Name k.Name e = refl
is_kind k.Rate k.Rate e = refl
is_kind k.Number k.Number e = refl
is_kind k.End k.End e = refl
is_kind k.LongWord k.LongWord e = refl
is_kind k.LargeNumber k.LargeNumber e = refl
is_kind k.Other k.Other e = refl
is_kind _ _ e = absurd (cc)

-- a token of a kind, as a wanted one was taken
abbrev pub of_kind : (wanted : Kind) (t : Token) → same wanted (kind_of t) ≡ true → OfKind wanted
of_kind wanted t e = (t, is_kind wanted (kind_of t) e)

abbrev pub of_fixed : (one : Fixed) (t : Token) → same (k.Fixed one) (kind_of t) ≡ true → OfFixed one
of_fixed one t e = of_kind (k.Fixed one) t e

abbrev pub of_name : (t : Token) → same k.Name (kind_of t) ≡ true → OfName
of_name t e = a_name t (is_kind k.Name (kind_of t) e)

abbrev pub Makes : head.Head → Token → Row → Type 0
Makes head t row = Closes table kind_of Phrase head t row

pub makes_factor : (t : Token) (kind : Kind) → kind_of t ≡ kind → Makes h.Factor t (factor kind)
makes_factor t k.Number i = λ w v e. (ex.number (a_number t i), cc)
makes_factor t k.Name i = λ w v e. (ex.variable (a_name t i), cc)
makes_factor t (k.Fixed fix.Minus) i = λ w v (u, (f, e), (u1, e1, e2)). (ex.minus (t, i) f, cc)
makes_factor t (k.Fixed fix.OpenRound) i = λ w v (u, (x, e), (b, u1, same_b, e1, e2)).
    (ex.brackets (t, i) x (of_fixed fix.CloseRound b same_b), cc)
makes_factor t _ i = tt

pub makes_products : (t : Token) (kind : Kind) → kind_of t ≡ kind → Makes h.Products t (products kind)
makes_products t (k.Fixed fix.Star) i = λ w v (u, (f, e), (u1, e1, (u2, (ps, e2), e3))).
    (ex.multiplied (t, sign.Mul, ap product_op i) f ps, cc)
makes_products t (k.Fixed fix.Slash) i = λ w v (u, (f, e), (u1, e1, (u2, (ps, e2), e3))).
    (ex.multiplied (t, sign.Div, ap product_op i) f ps, cc)
makes_products t _ i = tt

-- a term begins with its first factor
termed : (w u v : Spelled) → Phrase h.Factor w u → Chain table kind_of Phrase (Head h.Products ∷ []) u v → Phrase h.Term w v
termed w u v (f, e) (u1, (ps, e1), e2) = (ex.product f ps, cc)

pub makes_term : (t : Token) (kind : Kind) → kind_of t ≡ kind → Makes h.Term t (term kind)
makes_term t kind i = closes_with table kind_of Phrase h.Factor h.Term t (Head h.Products ∷ []) (factor kind) termed (makes_factor t kind i)

pub makes_sums : (t : Token) (kind : Kind) → kind_of t ≡ kind → Makes h.Sums t (sums kind)
makes_sums t (k.Fixed fix.Plus) i = λ w v (u, (x, e), (u1, e1, (u2, (ss, e2), e3))). (ex.added (t, sign.Add, ap sum_op i) x ss, cc)
makes_sums t (k.Fixed fix.Minus) i = λ w v (u, (x, e), (u1, e1, (u2, (ss, e2), e3))). (ex.added (t, sign.Sub, ap sum_op i) x ss, cc)
makes_sums t _ i = tt

-- an expression with its first factor
summed : (w u v : Spelled) → Phrase h.Factor w u
    → Chain table kind_of Phrase (Head h.Products ∷ Head h.Sums ∷ []) u v → Phrase h.Expr w v
summed w u v (f, e) (u1, (ps, e1), (u2, (ss, e2), e3)) = (ex.sum (ex.product f ps) ss, cc)

pub makes_expr : (t : Token) (kind : Kind) → kind_of t ≡ kind → Makes h.Expr t (expr kind)
makes_expr t kind i =
    closes_with table kind_of Phrase h.Factor h.Expr t (Head h.Products ∷ Head h.Sums ∷ []) (factor kind) summed (makes_factor t kind i)

-- a comparison with the first factor of its left side
compared : (w u v : Spelled) → Phrase h.Factor w u
    → Chain table kind_of Phrase (Head h.Products ∷ Head h.Sums ∷ Head h.Compare ∷ []) u v → Phrase h.One w v
compared w u v (f, e) (u1, (ps, e1), (u2, (ss, e2), (u3, (s, y, e3), e4))) =
    (co.compare (ex.sum (ex.product f ps) ss) s y, cc)

pub makes_one : (t : Token) (kind : Kind) → kind_of t ≡ kind → Makes h.One t (one kind)
makes_one t (k.Fixed fix.Exclamation) i = λ w v (u, (o, e), (u1, e1, e2)). (co.negation (t, i) o, cc)
makes_one t (k.Fixed fix.True) i = λ w v e. (co.always (t, i), cc)
makes_one t (k.Fixed fix.False) i = λ w v e. (co.never (t, i), cc)
makes_one t (k.Fixed fix.OpenSquare) i = λ w v (u, (c, e), (b, u1, same_b, e1, e2)).
    (co.brackets (t, i) c (of_fixed fix.CloseSquare b same_b), cc)
makes_one t kind i =
    closes_with table kind_of Phrase h.Factor h.One t (Head h.Products ∷ Head h.Sums ∷ Head h.Compare ∷ []) (factor kind)
    compared (makes_factor t kind i)

pub makes_compare : (t : Token) (kind : Kind) → kind_of t ≡ kind → Makes h.Compare t (compare kind)
makes_compare t (k.Fixed fix.Less) i = λ w v (u, (y, e), (u1, e1, e2)). ((t, how.Less, ap comparison i), y, cc)
makes_compare t (k.Fixed fix.LessEqual) i = λ w v (u, (y, e), (u1, e1, e2)). ((t, how.AtMost, ap comparison i), y, cc)
makes_compare t (k.Fixed fix.EqualEqual) i = λ w v (u, (y, e), (u1, e1, e2)). ((t, how.Equal, ap comparison i), y, cc)
makes_compare t (k.Fixed fix.NotEqual) i = λ w v (u, (y, e), (u1, e1, e2)). ((t, how.NotEqual, ap comparison i), y, cc)
makes_compare t (k.Fixed fix.GreaterEqual) i = λ w v (u, (y, e), (u1, e1, e2)). ((t, how.AtLeast, ap comparison i), y, cc)
makes_compare t (k.Fixed fix.Greater) i = λ w v (u, (y, e), (u1, e1, e2)). ((t, how.Greater, ap comparison i), y, cc)
makes_compare t _ i = tt

pub makes_ands : (t : Token) (kind : Kind) → kind_of t ≡ kind → Makes h.Ands t (ands kind)
makes_ands t (k.Fixed fix.AndAnd) i = λ w v (u, (o, e), (u1, e1, (u2, (bs, e2), e3))). (co.and_one (t, i) o bs, cc)
makes_ands t _ i = tt

-- conditions that `&&` joins begin with the first one
joined : (w u v : Spelled) → Phrase h.One w u → Chain table kind_of Phrase (Head h.Ands ∷ []) u v → Phrase h.Both w v
joined w u v (o, e) (u1, (bs, e1), e2) = (co.both o bs, cc)

pub makes_both : (t : Token) (kind : Kind) → kind_of t ≡ kind → Makes h.Both t (both kind)
makes_both t kind i = closes_with table kind_of Phrase h.One h.Both t (Head h.Ands ∷ []) (one kind) joined (makes_one t kind i)

pub makes_ors : (t : Token) (kind : Kind) → kind_of t ≡ kind → Makes h.Ors t (ors kind)
makes_ors t (k.Fixed fix.BarBar) i = λ w v (u, (b, e), (u1, e1, (u2, (os, e2), e3))). (co.or_both (t, i) b os, cc)
makes_ors t _ i = tt

-- a condition with its first one
chosen : (w u v : Spelled) → Phrase h.One w u
    → Chain table kind_of Phrase (Head h.Ands ∷ Head h.Ors ∷ []) u v → Phrase h.Cond w v
chosen w u v (o, e) (u1, (bs, e1), (u2, (os, e2), e3)) = (co.either (co.both o bs) os, cc)

pub makes_cond : (t : Token) (kind : Kind) → kind_of t ≡ kind → Makes h.Cond t (cond kind)
makes_cond t kind i =
    closes_with table kind_of Phrase h.One h.Cond t (Head h.Ands ∷ Head h.Ors ∷ []) (one kind) chosen (makes_one t kind i)
