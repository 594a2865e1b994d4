-- Tokens as the grammar names them, each with what the tree takes from it.
--
-- An example of all that follows. The statement `x := 2 * y` has five tokens: the name x, the sign `:=`, the number with the
-- digits 2 and no places, the sign `*`, and the name y. In the grammar (Stmts, Exprs) it is
--     assign x := (sum (product (number 2) (multiplied * (variable y) no_other)) no_more)
-- It is spelled (StmtRoles, Exprs) by these tokens, in this order, each in its role, with marks between them:
--     x Keep, := Plain, [Fresh], 2 Leaf, * Operator, y Leaf, [Binary], [Assign]
-- The limits are asked along that (Counts): here no item is open, and 2, `*` and y are the three nodes of one expression.
-- Its tree (StmtTrees, Exprs) stands at the place of x:
--     Assign x (Binary Mul (Number 2) (Name y)), with the product at `*`, its parts each at its token
use Rattle.std.specs.Prelude.{◌≡◌, ℕ, List, Option, Some, None}
use Rattle.hc_frac.specs.declared.decimal.Decimal.{Decimal}
use Rattle.hc_grammar.specs.Texts.{Text}
use Rattle.hc_token.specs.declared.kind.Kind.{Kind}
use Rattle.hc_token.specs.declared.kind.Kind.TheVariants as k
use Rattle.hc_token.specs.declared.fixed.Fixed.{Fixed}
use Rattle.hc_token.specs.declared.fixed.Fixed.TheVariants as fix
use Rattle.hc_token.specs.declared.token.Lexeme.TheVariants as lex
use Rattle.hc_token.specs.declared.token.Token.{Token}
use Rattle.hc_token.specs.Lexemes.{kind_of}
use Rattle.hc_ast.specs.declared.role.Role.{Role}
use Rattle.hc_ast.specs.declared.role.Mark.{Mark}
use Rattle.hc_ast.specs.declared.expr.Op.{Op}
use Rattle.hc_ast.specs.declared.expr.Op.TheVariants as sign
use Rattle.hc_ast.specs.declared.expr.Comparison.{Comparison}
use Rattle.hc_ast.specs.declared.expr.Comparison.TheVariants as how

-- a source as its tokens in their roles, with the marks between them
abbrev pub Spelled : Type 0
Spelled = Text Token Role Mark

-- a token of a kind
abbrev pub OfKind : Kind → Type 0
OfKind kind = (t : Token) × (kind_of t.lexeme ≡ kind)

-- this keyword or sign, and the end of the text
abbrev pub OfFixed : Fixed → Type 0
OfFixed one = OfKind (k.Fixed one)

abbrev pub OfEnd : Type 0
OfEnd = OfKind k.End

-- a name, a rate and a number: a token, and what it says
abbrev pub OfName : Type 0
OfName = (t : Token) × (w : List ℕ) × (t.lexeme ≡ lex.Name w)

abbrev pub OfRate : Type 0
OfRate = (t : Token) × (w : List ℕ) × (t.lexeme ≡ lex.Rate w)

abbrev pub OfNumber : Type 0
OfNumber = (t : Token) × (d : Decimal) × (t.lexeme ≡ lex.Number d)

-- the signs of sums, of products and of comparisons
abbrev pub sum_op : Kind → Option Op
sum_op (k.Fixed fix.Plus) = Some sign.Add
sum_op (k.Fixed fix.Minus) = Some sign.Sub
sum_op _ = None

abbrev pub product_op : Kind → Option Op
product_op (k.Fixed fix.Star) = Some sign.Mul
product_op (k.Fixed fix.Slash) = Some sign.Div
product_op _ = None

abbrev pub comparison : Kind → Option Comparison
comparison (k.Fixed fix.Less) = Some how.Less
comparison (k.Fixed fix.LessEqual) = Some how.AtMost
comparison (k.Fixed fix.EqualEqual) = Some how.Equal
comparison (k.Fixed fix.NotEqual) = Some how.NotEqual
comparison (k.Fixed fix.GreaterEqual) = Some how.AtLeast
comparison (k.Fixed fix.Greater) = Some how.Greater
comparison _ = None

-- a token that is such a sign, and what it stands for
abbrev pub OfSign : {X : Type 0} → (Kind → Option X) → Type 0
OfSign {X} table = (t : Token) × (x : X) × (table (kind_of t.lexeme) ≡ Some x)
