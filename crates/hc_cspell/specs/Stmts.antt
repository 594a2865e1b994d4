-- The canonical spelling of statements, each part in front of w.
use Rattle.std.specs.Prelude.{List, [], ◌∷◌, map, Option, Some, None}
use Rattle.hc_cast.specs.declared.primitive.Primitive.{Primitive}
use Rattle.hc_cast.specs.Primitives.{primitive_named}
use Rattle.hc_cast.specs.declared.expr.CExpr.{CExpr}
use Rattle.hc_cast.specs.declared.stmt.CStmt.{CStmt, fold-CStmt}
use Rattle.hc_cast.specs.declared.stmt.CStmt.TheOpen.{CStmt-F, CCase-F}
use Rattle.hc_cast.specs.declared.stmt.CCase.{CCase, fold-CCase}
use Rattle.hc_ctoken.specs.declared.fixed.Fixed.TheVariants as fix
use Rattle.hc_ctoken.specs.declared.token.Lexeme.{Lexeme}
use Rattle.hc_ctoken.specs.declared.token.Lexeme.TheVariants as lex
use Rattle.hc_cgrammar.specs.Leaves.{Word}
use Rattle.hc_cspell.specs.declared.level.Level.TheVariants as at
use Rattle.hc_cspell.specs.Tokens.{Lexemes, fixed}
use Rattle.hc_cspell.specs.Exprs.{expr}

-- a part of a program, spelled
abbrev pub Spells : Type 0
Spells = Lexemes → Lexemes

-- one after another
abbrev pub all_of : List Spells → Spells
all_of [] w = w
all_of (f ∷ fs) w = f (all_of fs w)

-- { stmt } in curly brackets
abbrev pub block : List Spells → Spells
block fs w = fixed fix.OpenCurly ∷ all_of fs (fixed fix.CloseCurly ∷ w)

-- what is called: a primitive, or else a function
abbrev pub callee_of : Option Primitive → Word → Lexeme
callee_of (Some p) f = lex.Primitive p
callee_of None f = lex.Function f

abbrev pub callee : Word → Lexeme
callee f = callee_of (primitive_named f) f

-- further arguments, each behind a comma; arguments with commas between them
abbrev pub more_arguments : List CExpr → Spells
more_arguments [] w = w
more_arguments (e ∷ es) w = fixed fix.Comma ∷ expr e at.Or (more_arguments es w)

abbrev pub arguments : List CExpr → Spells
arguments [] w = w
arguments (e ∷ es) w = expr e at.Or (more_arguments es w)

abbrev pub call : Word → List CExpr → Spells
call f es w = callee f ∷ fixed fix.OpenRound ∷ arguments es (fixed fix.CloseRound ∷ w)

-- the local that takes a call's result, if one does
abbrev pub taken_by : Option Word → Spells
taken_by None w = w
taken_by (Some x) w = lex.Local x ∷ fixed fix.Equal ∷ w

-- the else part of an `if`, if there is one
abbrev pub else_part : Option (List Spells) → Spells
else_part None w = w
else_part (Some fs) w = fixed fix.Else ∷ block fs w

-- a value that is given back, if one is
abbrev pub value : Option CExpr → Spells
value None w = w
value (Some e) w = expr e at.Or w

-- one level of a statement, where the statements and cases inside are spelled already
abbrev pub stmt_layer : CStmt-F Spells Spells → Spells
stmt_layer (CStmt-F.Set x e) w = lex.Local x ∷ fixed fix.Equal ∷ expr e at.Or (fixed fix.Semicolon ∷ w)
stmt_layer (CStmt-F.Store a i e) w =
    lex.Array a ∷ fixed fix.OpenSquare
    ∷ expr i at.Or (fixed fix.CloseSquare ∷ fixed fix.Equal ∷ expr e at.Or (fixed fix.Semicolon ∷ w))
stmt_layer (CStmt-F.Call x f es) w = taken_by x (call f es (fixed fix.Semicolon ∷ w))
stmt_layer (CStmt-F.If e fs other) w =
    fixed fix.If ∷ fixed fix.OpenRound ∷ expr e at.Or (fixed fix.CloseRound ∷ block fs (else_part other w))
stmt_layer (CStmt-F.While e fs) w =
    fixed fix.While ∷ fixed fix.OpenRound ∷ expr e at.Or (fixed fix.CloseRound ∷ block fs w)
stmt_layer (CStmt-F.Switch e cases fs) w =
    fixed fix.Switch ∷ fixed fix.OpenRound
    ∷ expr e at.Or
    (fixed fix.CloseRound ∷ fixed fix.OpenCurly
    ∷ all_of cases
    (fixed fix.Default ∷ fixed fix.Colon
    ∷ block fs (fixed fix.Break ∷ fixed fix.Semicolon ∷ fixed fix.CloseCurly ∷ w)))
stmt_layer (CStmt-F.Return e) w = fixed fix.Return ∷ value e (fixed fix.Semicolon ∷ w)

abbrev pub case_layer : CCase-F Spells Spells → Spells
case_layer c w =
    fixed fix.Case ∷ lex.Number c.number ∷ fixed fix.Colon ∷ block c.body (fixed fix.Break ∷ fixed fix.Semicolon ∷ w)

abbrev pub stmt : CStmt → Spells
stmt s = fold-CStmt Spells Spells stmt_layer case_layer s

abbrev pub a_case : CCase → Spells
a_case c = fold-CCase Spells Spells stmt_layer case_layer c

abbrev pub stmts : List CStmt → Spells
stmts ss = all_of (map stmt ss)

abbrev pub cases : List CCase → Spells
cases cs = all_of (map a_case cs)
