-- Each row makes a phrase of its parts: expressions.
use Rattle.std.proofs.Common.{◌≡◌, refl, ap, ◌∙◌, true, ◌∷◌, [], Some, Option}
use Rattle.hc_grammar.specs.declared.symbol.Symbol.TheVariants.{Head}
use Rattle.hc_grammar.proofs.Phrases.{Closes, Chain, closes_with}
use Rattle.hc_cast.specs.declared.expr.COp.{COp}
use Rattle.hc_cast.specs.declared.expr.COp.TheVariants as op
use Rattle.hc_ctoken.specs.declared.kind.Kind.{Kind}
use Rattle.hc_ctoken.specs.declared.fixed.Fixed.{Fixed}
use Rattle.hc_ctoken.specs.declared.fixed.Fixed.TheVariants as fix
use Rattle.hc_ctoken.specs.declared.kind.Kind.TheVariants as k
use Rattle.hc_ctoken.specs.declared.token.Lexeme.{Lexeme}
use Rattle.hc_ctoken.specs.declared.token.Lexeme.TheVariants as lex
use Rattle.hc_ctoken.specs.declared.token.Token.{Token}
use Rattle.hc_ctoken.specs.Tokens.{kind_of}
use Rattle.hc_cgrammar.specs.Leaves.{Spelled, OfFixed, OfSign, sum_op, comparison}
use Rattle.hc_cgrammar.specs.Exprs as ex
use Rattle.hc_ctable.specs.declared.head.Head as head
use Rattle.hc_ctable.specs.declared.head.Head.TheVariants as h
use Rattle.hc_ctable.specs.Symbols.{Row}
use Rattle.hc_ctable.specs.Rows.{unary, product, products, sum, sums, compared, compare, and, ands, or, ors}
use Rattle.hc_ctable.specs.Table.{same, table}
use Rattle.hc_ctable.proofs.Leaves.{a_fixed, a_number, a_local, an_array, fixed_said}
use Rattle.hc_ctable.proofs.Phrase.{Phrase, uncompared, compared_with}
use Rattle.hc_ctable.proofs.Phrase as phrase
use Rattle.hc_ctable.proofs.Derive.{more_of_or}

abbrev pub Makes : head.Head → Token → Row → Type 0
Makes head t row = Closes table kind_of Phrase head t row

-- a keyword or a sign of this kind
abbrev pub here : (one : Fixed) (t : Token) → kind_of t ≡ k.Fixed one → same (k.Fixed one) (k.Fixed one) ≡ true → OfFixed one
here one t i e = a_fixed one t (ap (same (k.Fixed one)) i ∙ e)

-- a sign that stands for an operation
abbrev sign_here : (table : Lexeme → Option COp) (one : Fixed) (x : COp) (t : Token) → kind_of t ≡ k.Fixed one
    → same (k.Fixed one) (k.Fixed one) ≡ true → table (lex.Fixed one) ≡ Some x → OfSign table
sign_here table one x t i e f = (t, x, ap table (fixed_said one t.lexeme (ap (same (k.Fixed one)) i ∙ e)) ∙ f)

pub makes_unary : (t : Token) (kind : Kind) → kind_of t ≡ kind → Makes h.Unary t (unary kind)
makes_unary t (k.Fixed fix.Minus) i = λ w v (u, (x, e), (u1, e1, e2)). (ex.minus (here fix.Minus t i refl) x, cc)
makes_unary t (k.Fixed fix.Exclamation) i = λ w v (u, (x, e), (u1, e1, e2)). (ex.negation (here fix.Exclamation t i refl) x, cc)
makes_unary t k.Number i = λ w v e. (ex.number (a_number t (ap (same k.AnyNumber) i)), cc)
makes_unary t k.Zero i = λ w v e. (ex.number (a_number t (ap (same k.AnyNumber) i)), cc)
makes_unary t k.Local i = λ w v e. (ex.local (a_local t (ap (same k.AnyLocal) i)), cc)
makes_unary t k.Unused i = λ w v e. (ex.local (a_local t (ap (same k.AnyLocal) i)), cc)
makes_unary t k.Array i = λ w v (l, u, same_l, e, (u1, (x, e1), (b, u2, same_b, e2, (u3, e3, e4)))).
    (ex.element (an_array t (ap (same k.Array) i)) (a_fixed fix.OpenSquare l same_l) x (a_fixed fix.CloseSquare b same_b), cc)
makes_unary t (k.Fixed fix.OpenRound) i = λ w v (u, (x, e), (b, u1, same_b, e1, e2)).
    (ex.brackets (here fix.OpenRound t i refl) x (a_fixed fix.CloseRound b same_b), cc)
makes_unary t _ i = tt

pub makes_products : (t : Token) (kind : Kind) → kind_of t ≡ kind → Makes h.Products t (products kind)
makes_products t (k.Fixed fix.Star) i = λ w v (u, (x, e), (u1, e1, (u2, (xs, e2), e3))). (ex.multiplied (here fix.Star t i refl) x xs, cc)
makes_products t _ i = tt

pub makes_sums : (t : Token) (kind : Kind) → kind_of t ≡ kind → Makes h.Sums t (sums kind)
makes_sums t (k.Fixed fix.Plus) i = λ w v (u, (x, e), (u1, e1, (u2, (xs, e2), e3))).
    (ex.added (sign_here sum_op fix.Plus op.Add t i refl refl) x xs, cc)
makes_sums t (k.Fixed fix.Minus) i = λ w v (u, (x, e), (u1, e1, (u2, (xs, e2), e3))).
    (ex.added (sign_here sum_op fix.Minus op.Sub t i refl refl) x xs, cc)
makes_sums t _ i = tt

pub makes_compare : (t : Token) (kind : Kind) → kind_of t ≡ kind → Makes h.Compare t (compare kind)
makes_compare t (k.Fixed fix.Less) i = λ w v (u, (y, e), (u1, e1, e2)). (compared_with (sign_here comparison fix.Less op.Less t i refl refl) y, cc)
makes_compare t (k.Fixed fix.LessEqual) i = λ w v (u, (y, e), (u1, e1, e2)).
    (compared_with (sign_here comparison fix.LessEqual op.AtMost t i refl refl) y, cc)
makes_compare t (k.Fixed fix.EqualEqual) i = λ w v (u, (y, e), (u1, e1, e2)).
    (compared_with (sign_here comparison fix.EqualEqual op.Equal t i refl refl) y, cc)
makes_compare t (k.Fixed fix.NotEqual) i = λ w v (u, (y, e), (u1, e1, e2)).
    (compared_with (sign_here comparison fix.NotEqual op.NotEqual t i refl refl) y, cc)
makes_compare t (k.Fixed fix.GreaterEqual) i = λ w v (u, (y, e), (u1, e1, e2)).
    (compared_with (sign_here comparison fix.GreaterEqual op.AtLeast t i refl refl) y, cc)
makes_compare t (k.Fixed fix.Greater) i = λ w v (u, (y, e), (u1, e1, e2)). (compared_with (sign_here comparison fix.Greater op.Greater t i refl refl) y, cc)
makes_compare t _ i = tt

pub makes_ands : (t : Token) (kind : Kind) → kind_of t ≡ kind → Makes h.Ands t (ands kind)
makes_ands t (k.Fixed fix.AndAnd) i = λ w v (u, (x, e), (u1, e1, (u2, (xs, e2), e3))). (ex.and_also (here fix.AndAnd t i refl) x xs, cc)
makes_ands t _ i = tt

pub makes_ors : (t : Token) (kind : Kind) → kind_of t ≡ kind → Makes h.Ors t (ors kind)
makes_ors t (k.Fixed fix.BarBar) i = λ w v (u, (x, e), (u1, e1, (u2, (xs, e2), e3))). (ex.or_else (here fix.BarBar t i refl) x xs, cc)
makes_ors t _ i = tt

-- a comparison is spelled as its left side and what follows that
as_compared : (x : ex.Sum) (n : phrase.CompareRest) (w : Spelled) → ex.sum_of x (phrase.compare_rest n w) ≡ ex.cmp (phrase.compared x n) w
as_compared x uncompared w = refl
as_compared x (compared_with s y) w = refl

-- each layer begins with its first operand
multiplied : (w u v : Spelled) → Phrase h.Unary w u → Chain table kind_of Phrase (Head h.Products ∷ []) u v → Phrase h.Product w v
multiplied w u v (x, e) (u1, (xs, e1), e2) = (ex.product x xs, cc)

pub makes_product : (t : Token) (kind : Kind) → kind_of t ≡ kind → Makes h.Product t (product kind)
makes_product t kind i =
    closes_with table kind_of Phrase h.Unary h.Product t (Head h.Products ∷ []) (unary kind) multiplied (makes_unary t kind i)

summed : (w u v : Spelled) → Phrase h.Unary w u → Chain table kind_of Phrase (Head h.Products ∷ Head h.Sums ∷ []) u v → Phrase h.Sum w v
summed w u v (x, e) (u1, (xs, e1), (u2, (ys, e2), e3)) = (ex.sum (ex.product x xs) ys, cc)

pub makes_sum : (t : Token) (kind : Kind) → kind_of t ≡ kind → Makes h.Sum t (sum kind)
makes_sum t kind i =
    closes_with table kind_of Phrase h.Unary h.Sum t (Head h.Products ∷ Head h.Sums ∷ []) (unary kind) summed (makes_unary t kind i)

beside : (w u v : Spelled) → Phrase h.Unary w u
    → Chain table kind_of Phrase (Head h.Products ∷ Head h.Sums ∷ Head h.Compare ∷ []) u v → Phrase h.Compared w v
beside w u v (x, e) (u1, (xs, e1), (u2, (ys, e2), (u3, (n, e3), e4))) =
    let s = ex.sum (ex.product x xs) ys in
    (phrase.compared s n, cc (as_compared s n v))

pub makes_compared : (t : Token) (kind : Kind) → kind_of t ≡ kind → Makes h.Compared t (compared kind)
makes_compared t kind i =
    closes_with table kind_of Phrase h.Unary h.Compared t (Head h.Products ∷ Head h.Sums ∷ Head h.Compare ∷ []) (unary kind)
    beside (makes_unary t kind i)

joined : (w u v : Spelled) → Phrase h.Unary w u
    → Chain table kind_of Phrase (Head h.Products ∷ Head h.Sums ∷ Head h.Compare ∷ Head h.Ands ∷ []) u v → Phrase h.And w v
joined w u v (x, e) (u1, (xs, e1), (u2, (ys, e2), (u3, (n, e3), (u4, (zs, e4), e5)))) =
    let s = ex.sum (ex.product x xs) ys in
    (ex.both (phrase.compared s n) zs, cc (as_compared s n u3))

pub makes_and : (t : Token) (kind : Kind) → kind_of t ≡ kind → Makes h.And t (and kind)
makes_and t kind i =
    closes_with table kind_of Phrase h.Unary h.And t (Head h.Products ∷ Head h.Sums ∷ Head h.Compare ∷ Head h.Ands ∷ []) (unary kind)
    joined (makes_unary t kind i)

-- an expression, from its first operand and what follows that
pub operands : (w u v : Spelled) → Phrase h.Unary w u → Chain table kind_of Phrase more_of_or u v → Phrase h.Or w v
operands w u v (x, e) (u1, (xs, e1), (u2, (ys, e2), (u3, (n, e3), (u4, (zs, e4), (u5, (os, e5), e6))))) =
    let s = ex.sum (ex.product x xs) ys in
    (ex.either (ex.both (phrase.compared s n) zs) os, cc (as_compared s n u3))

pub makes_or : (t : Token) (kind : Kind) → kind_of t ≡ kind → Makes h.Or t (or kind)
makes_or t kind i = closes_with table kind_of Phrase h.Unary h.Or t more_of_or (unary kind) operands (makes_unary t kind i)
