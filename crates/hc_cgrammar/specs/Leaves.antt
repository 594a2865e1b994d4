-- Tokens as the grammar names them, each with what the program takes from it.
use Rattle.std.specs.Prelude.{◌≡◌, ℕ, ℤ, pos, List, Option, Some, None, codes}
use Rattle.hc_grammar.specs.Texts.{Text}
use Rattle.hc_cast.specs.declared.primitive.Primitive.{Primitive}
use Rattle.hc_cast.specs.declared.expr.COp.{COp}
use Rattle.hc_cast.specs.declared.expr.COp.TheVariants as op
use Rattle.hc_ctoken.specs.declared.fixed.Fixed.{Fixed}
use Rattle.hc_ctoken.specs.declared.fixed.Fixed.TheVariants as fix
use Rattle.hc_ctoken.specs.declared.token.Lexeme.{Lexeme}
use Rattle.hc_ctoken.specs.declared.token.Lexeme.TheVariants as lex
use Rattle.hc_ctoken.specs.declared.token.Token.{Token}
use Rattle.hc_cgrammar.specs.declared.role.Role.{Role}
use Rattle.hc_cgrammar.specs.declared.role.Mark.{Mark}

-- a unit as its tokens in their roles, with the marks between them
abbrev pub Spelled : Type 0
Spelled = Text Token Role Mark

-- the bytes of a name
abbrev pub Word : Type 0
Word = List ℕ

-- a token that says just this
abbrev pub Saying : Lexeme → Type 0
Saying l = (t : Token) × (t.lexeme ≡ l)

-- this keyword or sign; `0`; `v_u`; the end of the text
abbrev pub OfFixed : Fixed → Type 0
OfFixed one = Saying (lex.Fixed one)

abbrev pub OfZero : Type 0
OfZero = Saying (lex.Number (pos 0))

abbrev pub OfUnused : Type 0
OfUnused = Saying (lex.Local (codes "v_u"))

abbrev pub OfEnd : Type 0
OfEnd = Saying lex.End

-- ANAME, FNAME, VNAME, TNAME, PRIM, NUM and a STRING that isn't empty: a token, and what it says
abbrev pub OfArray : Type 0
OfArray = (t : Token) × (w : Word) × (t.lexeme ≡ lex.Array w)

abbrev pub OfFunction : Type 0
OfFunction = (t : Token) × (w : Word) × (t.lexeme ≡ lex.Function w)

abbrev pub OfLocal : Type 0
OfLocal = (t : Token) × (w : Word) × (t.lexeme ≡ lex.Local w)

abbrev pub OfThread : Type 0
OfThread = (t : Token) × (n : ℕ) × (t.lexeme ≡ lex.Thread n)

abbrev pub OfPrimitive : Type 0
OfPrimitive = (t : Token) × (p : Primitive) × (t.lexeme ≡ lex.Primitive p)

abbrev pub OfNumber : Type 0
OfNumber = (t : Token) × (n : ℤ) × (t.lexeme ≡ lex.Number n)

abbrev pub OfText : Type 0
OfText = (t : Token) × (w : Word) × (t.lexeme ≡ lex.Text w)

-- the empty string
abbrev pub OfEmpty : Type 0
OfEmpty = Saying lex.EmptyText

-- the signs of sums, of products and of comparisons
abbrev pub sum_op : Lexeme → Option COp
sum_op (lex.Fixed fix.Plus) = Some op.Add
sum_op (lex.Fixed fix.Minus) = Some op.Sub
sum_op _ = None

abbrev pub comparison : Lexeme → Option COp
comparison (lex.Fixed fix.Less) = Some op.Less
comparison (lex.Fixed fix.LessEqual) = Some op.AtMost
comparison (lex.Fixed fix.EqualEqual) = Some op.Equal
comparison (lex.Fixed fix.NotEqual) = Some op.NotEqual
comparison (lex.Fixed fix.GreaterEqual) = Some op.AtLeast
comparison (lex.Fixed fix.Greater) = Some op.Greater
comparison _ = None

-- a token that is such a sign, and what it stands for
abbrev pub OfSign : (Lexeme → Option COp) → Type 0
OfSign table = (t : Token) × (x : COp) × (table t.lexeme ≡ Some x)
