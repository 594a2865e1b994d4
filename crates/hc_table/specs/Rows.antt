-- What each phrase is before a token of each kind.
use Rattle.std.specs.Prelude.{List, [], ◌∷◌}
use Rattle.hc_grammar.specs.declared.symbol.Symbol.TheVariants.{Token, Head, Mark}
use Rattle.hc_grammar.specs.Table.{Takes, Skips, Refuses, with_more}
use Rattle.hc_token.specs.declared.kind.Kind.{Kind}
use Rattle.hc_token.specs.declared.fixed.Fixed.TheVariants as fix
use Rattle.hc_token.specs.declared.kind.Kind.TheVariants as k
use Rattle.hc_ast.specs.declared.role.Role.TheVariants as r
use Rattle.hc_ast.specs.declared.role.Mark.TheVariants as m
use Rattle.hc_table.specs.declared.head.Head.TheVariants as h
use Rattle.hc_table.specs.Symbols.{Rule, Row, fixed, an_expr, a_cond, a_seq}

-- source = { module } "system" process { "||" process } "endsystem"
-- module = "module" NAME "(" [ param { "," param } ] ")" ":" "begin" seq "end" "endmodule"
abbrev pub source : Kind → Row
source (k.Fixed fix.Module) = Takes r.Plain (Token k.Name r.Keep ∷ fixed fix.OpenRound r.Plain ∷ Mark m.Params ∷ Head h.Params
    ∷ fixed fix.Colon r.Plain ∷ fixed fix.Begin r.Plain
    ∷ a_seq (fixed fix.EndBody r.Plain ∷ fixed fix.EndModule r.Plain ∷ Mark m.Module ∷ Head h.Source ∷ []))
source (k.Fixed fix.System) = Takes r.Plain (Head h.Process ∷ Head h.Processes ∷ [])
source _ = Refuses

-- param = ( "ch" | "val" ) NAME, in front of what follows it
abbrev pub param_then : List Rule → Kind → Row
param_then p (k.Fixed fix.Ch) = Takes r.Keep (Token k.Name r.Keep ∷ Mark m.Param ∷ p)
param_then p (k.Fixed fix.Val) = Takes r.Keep (Token k.Name r.Keep ∷ Mark m.Param ∷ p)
param_then p _ = Refuses

-- [ param { "," param } ] ")"
abbrev pub params : Kind → Row
params (k.Fixed fix.CloseRound) = Takes r.Plain []
params kind = param_then (Head h.MoreParams ∷ []) kind

-- { "," param } ")"
abbrev pub more_params : Kind → Row
more_params (k.Fixed fix.CloseRound) = Takes r.Plain []
more_params (k.Fixed fix.Comma) = Takes r.Plain (Head h.Param ∷ Head h.MoreParams ∷ [])
more_params _ = Refuses

-- process = NAME "=" ( "(" seq ")" | NAME "(" [ expr { "," expr } ] ")" )
abbrev pub process : Kind → Row
process k.Name = Takes r.Keep (fixed fix.Equal r.Plain ∷ Head h.ProcessBody ∷ [])
process _ = Refuses

-- "(" seq ")" | NAME "(" [ expr { "," expr } ] ")"
abbrev pub process_body : Kind → Row
process_body (k.Fixed fix.OpenRound) = Takes r.Plain (a_seq (fixed fix.CloseRound r.Plain ∷ Mark m.Inline ∷ []))
process_body k.Name = Takes r.Keep (fixed fix.OpenRound r.Plain ∷ Mark m.Arguments ∷ Mark m.Fresh ∷ Head h.Arguments ∷ Mark m.Call ∷ [])
process_body _ = Refuses

-- { "||" process } "endsystem"
abbrev pub processes : Kind → Row
processes (k.Fixed fix.BarBar) = Takes r.Plain (Head h.Process ∷ Head h.Processes ∷ [])
processes (k.Fixed fix.EndSystem) = Takes r.Plain []
processes _ = Refuses

-- factor = "-" factor | NUMBER | NAME | "(" expr ")"
abbrev pub factor : Kind → Row
factor k.Number = Takes r.Leaf []
factor k.Name = Takes r.Leaf []
factor (k.Fixed fix.Minus) = Takes r.Prefix (Head h.Factor ∷ Mark m.Negate ∷ [])
factor (k.Fixed fix.OpenRound) = Takes r.Open (an_expr (fixed fix.CloseRound r.Close ∷ []))
factor _ = Refuses

-- term = factor { ( "*" | "/" ) factor }
abbrev pub term : Kind → Row
term kind = with_more (Head h.Products ∷ []) (factor kind)

-- expr = term { ( "+" | "-" ) term }
abbrev pub expr : Kind → Row
expr kind = with_more (Head h.Products ∷ Head h.Sums ∷ []) (factor kind)

-- [ expr { "," expr } ] ")"
abbrev pub arguments : Kind → Row
arguments (k.Fixed fix.CloseRound) = Takes r.Plain []
arguments kind = with_more (Head h.Products ∷ Head h.Sums ∷ Mark m.Argument ∷ Head h.MoreArguments ∷ []) (factor kind)

-- { "," expr } ")"
abbrev pub more_arguments : Kind → Row
more_arguments (k.Fixed fix.CloseRound) = Takes r.Plain []
more_arguments (k.Fixed fix.Comma) = Takes r.Plain (Mark m.Fresh ∷ an_expr (Mark m.Argument ∷ Head h.MoreArguments ∷ []))
more_arguments _ = Refuses

-- an expression in brackets, in front of what follows it
abbrev pub in_brackets : List Rule → List Rule
in_brackets p = fixed fix.OpenRound r.Plain ∷ Mark m.Fresh ∷ an_expr (fixed fix.CloseRound r.Plain ∷ p)

-- stmt = "skip" | NAME ":=" expr | "wait" "(" expr ")" | "log" "(" expr ")" | io | "if" cond "then" seq [ "else" seq ] "endif"
--      | "(" seq ")" ( "++" "(" seq ")" | "**" | "{" cond "}" "**" ) | choice | "<" rate { "," rate } "&" cond ">" [ "|>" choice ]
-- choice = "[]" "(" branch { "," branch } ")"
abbrev pub stmt : Kind → Row
stmt (k.Fixed fix.Skip) = Takes r.Keep (Mark m.Skip ∷ [])
stmt k.Name = Takes r.Keep (Head h.Named ∷ [])
stmt (k.Fixed fix.Wait) = Takes r.Keep (in_brackets (Mark m.Wait ∷ []))
stmt (k.Fixed fix.Log) = Takes r.Keep (in_brackets (Mark m.Log ∷ []))
stmt (k.Fixed fix.If) = Takes r.Begin (Mark m.Fresh ∷ a_cond (fixed fix.Then r.Plain ∷ a_seq (Head h.Else ∷ [])))
stmt (k.Fixed fix.OpenRound) = Takes r.Begin (a_seq (fixed fix.CloseRound r.Close ∷ Head h.After ∷ []))
stmt (k.Fixed fix.EmptySquare) = Takes r.Keep (fixed fix.OpenRound r.Open ∷ Mark m.Branches ∷ Head h.Branch ∷ Head h.Branches ∷ Mark m.Choice ∷ [])
stmt (k.Fixed fix.Less) = Takes r.Begin (Mark m.Rates ∷ Head h.Rate ∷ Head h.Rates ∷ Head h.Interrupt ∷ Mark m.Evolve ∷ [])
stmt _ = Refuses

-- seq = stmt { ";" stmt }
abbrev pub seq : Kind → Row
seq kind = with_more (Head h.More ∷ []) (stmt kind)

-- a statement behind its NAME: ":=" expr | "!" expr | "?" NAME
abbrev pub named : Kind → Row
named (k.Fixed fix.ColonEqual) = Takes r.Plain (Mark m.Fresh ∷ an_expr (Mark m.Assign ∷ []))
named (k.Fixed fix.Exclamation) = Takes r.Plain (Mark m.Fresh ∷ an_expr (Mark m.Send ∷ Mark m.Io ∷ []))
named (k.Fixed fix.Question) = Takes r.Plain (Token k.Name r.Keep ∷ Mark m.Receive ∷ Mark m.Io ∷ [])
named _ = Refuses

-- [ "else" seq ] "endif"
abbrev pub else_part : Kind → Row
else_part (k.Fixed fix.EndIf) = Takes r.Close (Mark m.If ∷ [])
else_part (k.Fixed fix.Else) = Takes r.Plain (a_seq (fixed fix.EndIf r.Close ∷ Mark m.Else ∷ []))
else_part _ = Refuses

-- "++" "(" seq ")" | "**" | "{" cond "}" "**"
abbrev pub after : Kind → Row
after (k.Fixed fix.StarStar) = Takes r.Plain (Mark m.Forever ∷ [])
after (k.Fixed fix.PlusPlus) = Takes r.Plain (fixed fix.OpenRound r.Open ∷ a_seq (fixed fix.CloseRound r.Close ∷ Mark m.Pick ∷ []))
after (k.Fixed fix.OpenCurly) = Takes r.Open (Mark m.Fresh ∷ a_cond (fixed fix.CloseCurly r.Close ∷ fixed fix.StarStar r.Plain ∷ Mark m.Loop ∷ []))
after _ = Refuses

-- branch = io "-->" seq
abbrev pub branch : Kind → Row
branch k.Name = Takes r.Keep (Head h.Meet ∷ fixed fix.Arrow r.Plain ∷ a_seq (Mark m.Branch ∷ []))
branch _ = Refuses

-- io behind its NAME: "!" expr | "?" NAME
abbrev pub meet : Kind → Row
meet (k.Fixed fix.Exclamation) = Takes r.Plain (Mark m.Fresh ∷ an_expr (Mark m.Send ∷ []))
meet (k.Fixed fix.Question) = Takes r.Plain (Token k.Name r.Keep ∷ Mark m.Receive ∷ [])
meet _ = Refuses

-- { "," branch } ")"
abbrev pub branches : Kind → Row
branches (k.Fixed fix.CloseRound) = Takes r.Close []
branches (k.Fixed fix.Comma) = Takes r.Plain (Head h.Branch ∷ Head h.Branches ∷ [])
branches _ = Refuses

-- rate = RATE "=" expr
abbrev pub rate : Kind → Row
rate k.Rate = Takes r.Keep (fixed fix.Equal r.Plain ∷ Mark m.Fresh ∷ an_expr (Mark m.Rate ∷ []))
rate _ = Refuses

-- { "," rate } "&" cond ">"
abbrev pub rates : Kind → Row
rates (k.Fixed fix.Comma) = Takes r.Plain (Head h.Rate ∷ Head h.Rates ∷ [])
rates (k.Fixed fix.And) = Takes r.Plain (Mark m.Fresh ∷ a_cond (fixed fix.Greater r.Close ∷ []))
rates _ = Refuses

-- [ "|>" choice ]
abbrev pub interrupt : Kind → Row
interrupt (k.Fixed fix.BarGreater) = Takes r.Plain (fixed fix.EmptySquare r.Plain ∷ fixed fix.OpenRound r.Open ∷ Head h.Branch ∷ Head h.Branches ∷ [])
interrupt _ = Skips

-- { ";" stmt }
abbrev pub more : Kind → Row
more (k.Fixed fix.Semicolon) = Takes r.Plain (Head h.Stmt ∷ Head h.More ∷ [])
more _ = Skips

-- { ( "*" | "/" ) factor }
abbrev pub products : Kind → Row
products (k.Fixed fix.Star) = Takes r.Operator (Head h.Factor ∷ Mark m.Binary ∷ Head h.Products ∷ [])
products (k.Fixed fix.Slash) = Takes r.Operator (Head h.Factor ∷ Mark m.Binary ∷ Head h.Products ∷ [])
products _ = Skips

-- { ( "+" | "-" ) term }
abbrev pub sums : Kind → Row
sums (k.Fixed fix.Plus) = Takes r.Operator (Head h.Term ∷ Mark m.Binary ∷ Head h.Sums ∷ [])
sums (k.Fixed fix.Minus) = Takes r.Operator (Head h.Term ∷ Mark m.Binary ∷ Head h.Sums ∷ [])
sums _ = Skips

-- one = "!" one | "true" | "false" | "[" cond "]" | expr ( "<" | "<=" | "==" | "!=" | ">=" | ">" ) expr
abbrev pub one : Kind → Row
one (k.Fixed fix.Exclamation) = Takes r.Prefix (Head h.One ∷ Mark m.Not ∷ [])
one (k.Fixed fix.True) = Takes r.Leaf []
one (k.Fixed fix.False) = Takes r.Leaf []
one (k.Fixed fix.OpenSquare) = Takes r.Open (a_cond (fixed fix.CloseSquare r.Close ∷ []))
one kind = with_more (Head h.Products ∷ Head h.Sums ∷ Head h.Compare ∷ []) (factor kind)

-- both = one { "&&" one }
abbrev pub both : Kind → Row
both kind = with_more (Head h.Ands ∷ []) (one kind)

-- cond = both { "||" both }
abbrev pub cond : Kind → Row
cond kind = with_more (Head h.Ands ∷ Head h.Ors ∷ []) (one kind)

-- the right side of a comparison, behind its sign
abbrev pub right_side : Row
right_side = Takes r.Operator (an_expr (Mark m.Compare ∷ []))

abbrev pub compare : Kind → Row
compare (k.Fixed fix.Less) = right_side
compare (k.Fixed fix.LessEqual) = right_side
compare (k.Fixed fix.EqualEqual) = right_side
compare (k.Fixed fix.NotEqual) = right_side
compare (k.Fixed fix.GreaterEqual) = right_side
compare (k.Fixed fix.Greater) = right_side
compare _ = Refuses

-- { "&&" one }
abbrev pub ands : Kind → Row
ands (k.Fixed fix.AndAnd) = Takes r.Operator (Head h.One ∷ Mark m.And ∷ Head h.Ands ∷ [])
ands _ = Skips

-- { "||" both }
abbrev pub ors : Kind → Row
ors (k.Fixed fix.BarBar) = Takes r.Operator (Head h.Both ∷ Mark m.Or ∷ Head h.Ors ∷ [])
ors _ = Skips
