-- What each phrase is before a token of each kind.
use Rattle.std.specs.Prelude.{List, [], ◌∷◌}
use Rattle.hc_grammar.specs.declared.symbol.Symbol.TheVariants.{Token, Head, Mark}
use Rattle.hc_grammar.specs.Table.{Takes, Skips, Refuses, with_more}
use Rattle.hc_ctoken.specs.declared.fixed.Fixed.TheVariants as fix
use Rattle.hc_ctoken.specs.declared.kind.Kind.{Kind}
use Rattle.hc_ctoken.specs.declared.kind.Kind.TheVariants as k
use Rattle.hc_cgrammar.specs.declared.role.Role.{Role}
use Rattle.hc_cgrammar.specs.declared.role.Role.TheVariants as r
use Rattle.hc_cgrammar.specs.declared.role.Mark.TheVariants as m
use Rattle.hc_ctable.specs.declared.head.Head as head
use Rattle.hc_ctable.specs.declared.head.Head.TheVariants as h
use Rattle.hc_ctable.specs.Symbols.{Rule, Row, fixed, plain, an_or, a_test, a_block, a_body, called}

-- the strings of an array of names, behind its word
abbrev pub strings : Role → head.Head → List Rule → List Rule
strings role others p =
    fixed fix.OpenSquare r.Open ∷ Token k.AnyNumber r.Count ∷ fixed fix.CloseSquare r.Close ∷ plain fix.Equal ∷ fixed fix.OpenCurly r.Open
    ∷ Token k.Text role ∷ Head others ∷ fixed fix.CloseCurly r.EndNames ∷ plain fix.Semicolon ∷ p

-- unit = { array } names names { function } thread { thread } table main
-- array = "static" "int" ANAME "[" NUM "]" ";"
-- names = "const" "char" "*" "const" ("chan_name" | "proc_name") "[" NUM "]" "=" "{" STRING { "," STRING } "}" ";"
abbrev pub unit : Kind → Row
unit (k.Fixed fix.Static) = Takes r.Plain (plain fix.Int ∷ Token k.Array r.DeclareArray ∷ fixed fix.OpenSquare r.OpenLength
    ∷ Token k.AnyNumber r.Length ∷ fixed fix.CloseSquare r.Close ∷ plain fix.Semicolon ∷ Mark m.Array ∷ Head h.Unit ∷ [])
unit (k.Fixed fix.Const) = Takes r.Plain (plain fix.Char ∷ plain fix.Star ∷ plain fix.Const ∷ plain fix.ChanName
    ∷ strings r.Channel h.Channels
    (plain fix.Const ∷ plain fix.Char ∷ plain fix.Star ∷ plain fix.Const ∷ plain fix.ProcName
    ∷ strings r.Process h.Processes (Head h.Functions ∷ [])))
unit _ = Refuses

-- { "," STRING }
abbrev pub more_strings : Role → head.Head → Kind → Row
more_strings role others (k.Fixed fix.Comma) = Takes r.Plain (Token k.Text role ∷ Head others ∷ [])
more_strings role others _ = Skips

-- { function } thread { thread } table main
abbrev pub functions : Kind → Row
functions (k.Fixed fix.Static) = Takes r.Plain (Head h.Kinded ∷ [])
functions _ = Refuses

-- function = "static" ( "int" | "void" ) FNAME "(" ( "void" | "int" VNAME { "," "int" VNAME } ) ")" "{" body "}", behind its name
abbrev pub a_function : List Rule
a_function =
    fixed fix.OpenRound r.Open ∷ Mark m.Parameters ∷ Head h.Parameters ∷ fixed fix.CloseRound r.Close
    ∷ a_body r.EndFunction (Mark m.Function ∷ Head h.Functions ∷ [])

-- behind "static"
abbrev pub kinded : Kind → Row
kinded (k.Fixed fix.Int) = Takes r.Plain (Token k.Function r.DeclareGiving ∷ a_function)
kinded (k.Fixed fix.Void) = Takes r.Plain (Head h.Voided ∷ [])
kinded _ = Refuses

-- thread = "static" "void" "*" TNAME "(" "void" "*" "v_u" ")" "{" body "}", behind its name
abbrev pub a_thread : List Rule
a_thread =
    fixed fix.OpenRound r.Open ∷ plain fix.Void ∷ plain fix.Star ∷ Token k.Unused r.Plain ∷ fixed fix.CloseRound r.Close
    ∷ a_body r.EndThread (Mark m.Thread ∷ Head h.Threads ∷ [])

-- behind "static" "void"
abbrev pub voided : Kind → Row
voided k.Function = Takes r.DeclareVoid a_function
voided (k.Fixed fix.Star) = Takes r.Plain (Token k.Thread r.DeclareThread ∷ a_thread)
voided _ = Refuses

-- { thread } table main
abbrev pub threads : Kind → Row
threads (k.Fixed fix.Static) = Takes r.Plain (plain fix.Void ∷ plain fix.Star ∷ Head h.Starred ∷ [])
threads _ = Refuses

-- main = "int" "main" "(" "void" ")" "{" "return" "hc_main" "(" NUM "," "hc_threads" ")" ";" "}"
abbrev pub main : List Rule
main =
    plain fix.Int ∷ plain fix.Main ∷ fixed fix.OpenRound r.Open ∷ plain fix.Void ∷ fixed fix.CloseRound r.Close
    ∷ fixed fix.OpenCurly r.Open ∷ plain fix.Return ∷ plain fix.HcMain ∷ fixed fix.OpenRound r.Open ∷ Token k.AnyNumber r.MainCount
    ∷ plain fix.Comma ∷ plain fix.HcThreads ∷ fixed fix.CloseRound r.Close ∷ plain fix.Semicolon ∷ fixed fix.CloseCurly r.Close ∷ []

-- table = "static" "void" "*" "(" "*" "const" "hc_threads" "[" NUM "]" ")" "(" "void" "*" ")" "=" "{" TNAME { "," TNAME } "}" ";"
-- a thread or the table behind "static" "void" "*"
abbrev pub starred : Kind → Row
starred k.Thread = Takes r.DeclareThread a_thread
starred (k.Fixed fix.OpenRound) = Takes r.Open (plain fix.Star ∷ plain fix.Const ∷ plain fix.HcThreads ∷ fixed fix.OpenSquare r.Open
    ∷ Token k.AnyNumber r.TableCount ∷ fixed fix.CloseSquare r.Close ∷ fixed fix.CloseRound r.Close
    ∷ fixed fix.OpenRound r.Open ∷ plain fix.Void ∷ plain fix.Star ∷ fixed fix.CloseRound r.Close ∷ plain fix.Equal
    ∷ fixed fix.OpenCurly r.Open ∷ Token k.Thread r.Listed ∷ Head h.Listed ∷ fixed fix.CloseCurly r.EndTable ∷ plain fix.Semicolon ∷ main)
starred _ = Refuses

-- { "," TNAME }
abbrev pub listed : Kind → Row
listed (k.Fixed fix.Comma) = Takes r.Plain (Token k.Thread r.Listed ∷ Head h.Listed ∷ [])
listed _ = Skips

-- "void" | "int" VNAME { "," "int" VNAME }
abbrev pub parameters : Kind → Row
parameters (k.Fixed fix.Void) = Takes r.Plain []
parameters (k.Fixed fix.Int) = Takes r.Plain (Token k.AnyLocal r.DeclareParameter ∷ Head h.MoreParameters ∷ [])
parameters _ = Refuses

-- { "," "int" VNAME }
abbrev pub more_parameters : Kind → Row
more_parameters (k.Fixed fix.Comma) = Takes r.Plain (plain fix.Int ∷ Token k.AnyLocal r.DeclareParameter ∷ Head h.MoreParameters ∷ [])
more_parameters _ = Skips

-- { "int" VNAME "=" "0" ";" }
abbrev pub locals : Kind → Row
locals (k.Fixed fix.Int) = Takes r.Plain (Token k.AnyLocal r.DeclareLocal ∷ plain fix.Equal ∷ Token k.Zero r.Plain ∷ plain fix.Semicolon
    ∷ Head h.Locals ∷ [])
locals _ = Skips

-- { stmt }
-- stmt = VNAME "=" ( or | call ) ";" | ANAME "[" or "]" "=" or ";" | call ";"
--      | "if" "(" or ")" block [ "else" block ] | "while" "(" or ")" block
--      | "switch" "(" or ")" "{" { "case" NUM ":" block "break" ";" } "default" ":" block "break" ";" "}"
--      | "return" [ or ] ";"
abbrev pub a_target : Row
a_target = Takes r.Target (plain fix.Equal ∷ Mark m.Fresh ∷ Head h.Value ∷ Head h.Statements ∷ [])

abbrev pub a_call : Row
a_call = Takes r.Callee (called (plain fix.Semicolon ∷ Mark m.Call ∷ Head h.Statements ∷ []))

abbrev pub statements : Kind → Row
statements k.Local = a_target
statements k.Unused = a_target
statements k.Array = Takes r.TargetArray (fixed fix.OpenSquare r.Open
    ∷ an_or (fixed fix.CloseSquare r.Close ∷ plain fix.Equal ∷ an_or (plain fix.Semicolon ∷ Mark m.Store ∷ Head h.Statements ∷ [])))
statements k.Function = a_call
statements k.Primitive = a_call
statements (k.Fixed fix.If) = Takes r.Plain (a_test (a_block (Head h.Else ∷ Head h.Statements ∷ [])))
statements (k.Fixed fix.While) = Takes r.Plain (a_test (a_block (Mark m.While ∷ Head h.Statements ∷ [])))
statements (k.Fixed fix.Switch) = Takes r.Plain (a_test (fixed fix.OpenCurly r.OpenCases ∷ Mark m.Cases ∷ Head h.Cases
    ∷ Mark m.Switch ∷ Head h.Statements ∷ []))
statements (k.Fixed fix.Return) = Takes r.Plain (Mark m.Fresh ∷ Head h.Returned ∷ Head h.Statements ∷ [])
statements _ = Skips

-- [ "else" block ]
abbrev pub else_part : Kind → Row
else_part (k.Fixed fix.Else) = Takes r.Plain (a_block (Mark m.IfElse ∷ []))
else_part _ = Skips

-- { "case" NUM ":" block "break" ";" } "default" ":" block "break" ";" "}"
abbrev pub cases : Kind → Row
cases (k.Fixed fix.Case) = Takes r.Plain (Token k.AnyNumber r.CaseNumber ∷ plain fix.Colon
    ∷ a_block (plain fix.Break ∷ plain fix.Semicolon ∷ Mark m.Case ∷ Head h.Cases ∷ []))
cases (k.Fixed fix.Default) = Takes r.Plain (plain fix.Colon
    ∷ a_block (plain fix.Break ∷ plain fix.Semicolon ∷ fixed fix.CloseCurly r.CloseCases ∷ []))
cases _ = Refuses

-- unary = "-" unary | "!" unary | NUM | VNAME | ANAME "[" or "]" | "(" or ")"
abbrev pub unary : Kind → Row
unary (k.Fixed fix.Minus) = Takes r.Minus (Head h.Unary ∷ Mark m.Negate ∷ [])
unary (k.Fixed fix.Exclamation) = Takes r.Not (Head h.Unary ∷ Mark m.Not ∷ [])
unary k.Number = Takes r.Number []
unary k.Zero = Takes r.Number []
unary k.Local = Takes r.Local []
unary k.Unused = Takes r.Local []
unary k.Array = Takes r.Element (fixed fix.OpenSquare r.Open ∷ Head h.Or ∷ fixed fix.CloseSquare r.Close ∷ Mark m.Element ∷ [])
unary (k.Fixed fix.OpenRound) = Takes r.Open (Head h.Or ∷ fixed fix.CloseRound r.Close ∷ [])
unary _ = Refuses

-- an expression in front of what follows it
abbrev pub or_then : List Rule → Kind → Row
or_then p kind = with_more (Head h.Products ∷ Head h.Sums ∷ Head h.Compare ∷ Head h.Ands ∷ Head h.Ors ∷ p) (unary kind)

-- ( or | call ) ";"
abbrev pub value : Kind → Row
value k.Function = Takes r.GivingCallee (called (plain fix.Semicolon ∷ Mark m.SetCall ∷ []))
value k.Primitive = Takes r.GivingCallee (called (plain fix.Semicolon ∷ Mark m.SetCall ∷ []))
value kind = or_then (plain fix.Semicolon ∷ Mark m.Set ∷ []) kind

-- [ or ] ";"
abbrev pub returned : Kind → Row
returned (k.Fixed fix.Semicolon) = Takes r.EndReturn (Mark m.Return ∷ [])
returned kind = or_then (fixed fix.Semicolon r.EndValueReturn ∷ Mark m.ValueReturn ∷ []) kind

-- [ or { "," or } ] ")"
abbrev pub arguments : Kind → Row
arguments (k.Fixed fix.CloseRound) = Takes r.CloseArguments []
arguments kind = or_then (Mark m.Argument ∷ Head h.MoreArguments ∷ []) kind

-- { "," or } ")"
abbrev pub more_arguments : Kind → Row
more_arguments (k.Fixed fix.CloseRound) = Takes r.CloseArguments []
more_arguments (k.Fixed fix.Comma) = Takes r.NextArgument (an_or (Mark m.Argument ∷ Head h.MoreArguments ∷ []))
more_arguments _ = Refuses

-- or = and { "||" and }
abbrev pub or : Kind → Row
or kind = or_then [] kind

abbrev pub ors : Kind → Row
ors (k.Fixed fix.BarBar) = Takes r.Operator (Head h.And ∷ Mark m.Binary ∷ Head h.Ors ∷ [])
ors _ = Skips

-- and = cmp { "&&" cmp }
abbrev pub and : Kind → Row
and kind = with_more (Head h.Products ∷ Head h.Sums ∷ Head h.Compare ∷ Head h.Ands ∷ []) (unary kind)

abbrev pub ands : Kind → Row
ands (k.Fixed fix.AndAnd) = Takes r.Operator (Head h.Compared ∷ Mark m.Binary ∷ Head h.Ands ∷ [])
ands _ = Skips

-- cmp = sum [ ( "<" | "<=" | "==" | "!=" | ">=" | ">" ) sum ]
abbrev pub compared : Kind → Row
compared kind = with_more (Head h.Products ∷ Head h.Sums ∷ Head h.Compare ∷ []) (unary kind)

abbrev pub right_side : Row
right_side = Takes r.Operator (Head h.Sum ∷ Mark m.Binary ∷ [])

abbrev pub compare : Kind → Row
compare (k.Fixed fix.Less) = right_side
compare (k.Fixed fix.LessEqual) = right_side
compare (k.Fixed fix.EqualEqual) = right_side
compare (k.Fixed fix.NotEqual) = right_side
compare (k.Fixed fix.GreaterEqual) = right_side
compare (k.Fixed fix.Greater) = right_side
compare _ = Skips

-- sum = prod { ( "+" | "-" ) prod }
abbrev pub sum : Kind → Row
sum kind = with_more (Head h.Products ∷ Head h.Sums ∷ []) (unary kind)

abbrev pub sums : Kind → Row
sums (k.Fixed fix.Plus) = Takes r.Operator (Head h.Product ∷ Mark m.Binary ∷ Head h.Sums ∷ [])
sums (k.Fixed fix.Minus) = Takes r.Operator (Head h.Product ∷ Mark m.Binary ∷ Head h.Sums ∷ [])
sums _ = Skips

-- prod = unary { "*" unary }
abbrev pub product : Kind → Row
product kind = with_more (Head h.Products ∷ []) (unary kind)

abbrev pub products : Kind → Row
products (k.Fixed fix.Star) = Takes r.Operator (Head h.Unary ∷ Mark m.Binary ∷ Head h.Products ∷ [])
products _ = Skips
