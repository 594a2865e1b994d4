-- The table of the source language.
use Rattle.std.specs.Prelude.{Option, None, ℕ, Bool, true, false, ◌||◌, ◌==◌, List, [], ◌∷◌}
use Rattle.hc_grammar.specs.declared.symbol.Symbol.TheVariants as symbol
use Rattle.hc_grammar.specs.Table.{Table}
use Rattle.hc_token.specs.declared.kind.Kind.{Kind}
use Rattle.hc_token.specs.declared.fixed.Fixed.{Fixed}
use Rattle.hc_token.specs.declared.fixed.Fixed.TheVariants as fix
use Rattle.hc_token.specs.declared.kind.Kind.TheVariants as k
use Rattle.hc_ast.specs.declared.role.Role.{Role}
use Rattle.hc_ast.specs.declared.role.Role.TheVariants as r
use Rattle.hc_ast.specs.declared.role.Mark.{Mark}
use Rattle.hc_table.specs.declared.head.Head.{Head}
use Rattle.hc_table.specs.declared.head.Head.TheVariants as h
use Rattle.hc_table.specs.Symbols.{Rule, Row}
use Rattle.hc_table.specs.Rows.{source, params, more_params, param_then, process, process_body, processes, arguments, more_arguments, seq, stmt, named, else_part, after, branch, meet, branches, rate, rates, interrupt, more, expr, sums, term, products, factor, cond, ors, both, ands, one, compare}

-- keywords and signs by numbers, so that they can be told apart
abbrev pub number : Fixed → ℕ
number fix.Module = 0
number fix.EndModule = 1
number fix.Begin = 2
number fix.EndBody = 3
number fix.System = 4
number fix.EndSystem = 5
number fix.Ch = 6
number fix.Val = 7
number fix.Skip = 8
number fix.Wait = 9
number fix.Log = 10
number fix.If = 11
number fix.Then = 12
number fix.Else = 13
number fix.EndIf = 14
number fix.True = 15
number fix.False = 16
number fix.Arrow = 17
number fix.ColonEqual = 18
number fix.BarBar = 19
number fix.BarGreater = 20
number fix.PlusPlus = 21
number fix.StarStar = 22
number fix.EmptySquare = 23
number fix.AndAnd = 24
number fix.LessEqual = 25
number fix.GreaterEqual = 26
number fix.EqualEqual = 27
number fix.NotEqual = 28
number fix.OpenRound = 29
number fix.CloseRound = 30
number fix.OpenCurly = 31
number fix.CloseCurly = 32
number fix.OpenSquare = 33
number fix.CloseSquare = 34
number fix.Less = 35
number fix.Greater = 36
number fix.Comma = 37
number fix.Semicolon = 38
number fix.Colon = 39
number fix.Equal = 40
number fix.And = 41
number fix.Exclamation = 42
number fix.Question = 43
number fix.Plus = 44
number fix.Minus = 45
number fix.Star = 46
number fix.Slash = 47

-- a token of a kind is taken where that kind is wanted
abbrev pub same : Kind → Kind → Bool
same (k.Fixed wanted) (k.Fixed one) = number wanted == number one
same k.Name k.Name = true
same k.Rate k.Rate = true
same k.Number k.Number = true
same k.End k.End = true
same k.LongWord k.LongWord = true
same k.LargeNumber k.LargeNumber = true
same k.Other k.Other = true
same _ _ = false

-- what each phrase is before a token
abbrev pub entry : Head → Kind → Row
entry h.Source kind = source kind
entry h.Params kind = params kind
entry h.MoreParams kind = more_params kind
entry h.Param kind = param_then [] kind
entry h.Process kind = process kind
entry h.ProcessBody kind = process_body kind
entry h.Processes kind = processes kind
entry h.Arguments kind = arguments kind
entry h.MoreArguments kind = more_arguments kind
entry h.Seq kind = seq kind
entry h.Stmt kind = stmt kind
entry h.Named kind = named kind
entry h.Else kind = else_part kind
entry h.After kind = after kind
entry h.Branch kind = branch kind
entry h.Meet kind = meet kind
entry h.Branches kind = branches kind
entry h.Rate kind = rate kind
entry h.Rates kind = rates kind
entry h.Interrupt kind = interrupt kind
entry h.More kind = more kind
entry h.Expr kind = expr kind
entry h.Sums kind = sums kind
entry h.Term kind = term kind
entry h.Products kind = products kind
entry h.Factor kind = factor kind
entry h.Cond kind = cond kind
entry h.Ors kind = ors kind
entry h.Both kind = both kind
entry h.Ands kind = ands kind
entry h.One kind = one kind
entry h.Compare kind = compare kind

-- the phrases that may be empty
abbrev pub empties : Head → Bool
empties h.Interrupt = true
empties h.More = true
empties h.Products = true
empties h.Sums = true
empties h.Ands = true
empties h.Ors = true
empties _ = false

-- none leaves a mark where it is empty
abbrev pub left_out : Head → Option Mark
left_out head = None

-- what may come behind a sequence, a statement, a condition and an expression
abbrev pub follow_seq : Kind → Bool
follow_seq (k.Fixed fix.CloseRound) = true
follow_seq (k.Fixed fix.EndBody) = true
follow_seq (k.Fixed fix.Else) = true
follow_seq (k.Fixed fix.EndIf) = true
follow_seq (k.Fixed fix.Comma) = true
follow_seq _ = false

abbrev pub follow_stmt : Kind → Bool
follow_stmt (k.Fixed fix.Semicolon) = true
follow_stmt kind = follow_seq kind

abbrev pub follow_cond : Kind → Bool
follow_cond (k.Fixed fix.Then) = true
follow_cond (k.Fixed fix.CloseCurly) = true
follow_cond (k.Fixed fix.CloseSquare) = true
follow_cond (k.Fixed fix.Greater) = true
follow_cond _ = false

abbrev pub follow_both : Kind → Bool
follow_both (k.Fixed fix.BarBar) = true
follow_both kind = follow_cond kind

abbrev pub follow_one : Kind → Bool
follow_one (k.Fixed fix.AndAnd) = true
follow_one kind = follow_both kind

abbrev pub follow_expr : Kind → Bool
follow_expr (k.Fixed fix.Arrow) = true
follow_expr (k.Fixed fix.And) = true
follow_expr (k.Fixed fix.Less) = true
follow_expr (k.Fixed fix.LessEqual) = true
follow_expr (k.Fixed fix.EqualEqual) = true
follow_expr (k.Fixed fix.NotEqual) = true
follow_expr (k.Fixed fix.GreaterEqual) = true
follow_expr kind = follow_one kind || follow_stmt kind

abbrev pub follow_term : Kind → Bool
follow_term (k.Fixed fix.Plus) = true
follow_term (k.Fixed fix.Minus) = true
follow_term kind = follow_expr kind

-- what may come behind a branch, its communication and a rate
abbrev pub follow_branch : Kind → Bool
follow_branch (k.Fixed fix.Comma) = true
follow_branch (k.Fixed fix.CloseRound) = true
follow_branch _ = false

abbrev pub follow_io : Kind → Bool
follow_io (k.Fixed fix.Arrow) = true
follow_io _ = false

abbrev pub follow_rate : Kind → Bool
follow_rate (k.Fixed fix.Comma) = true
follow_rate (k.Fixed fix.And) = true
follow_rate _ = false

-- what may come behind a phrase that may be empty, or that may end in one
abbrev pub follow : Head → Kind → Bool
follow h.Seq kind = follow_seq kind
follow h.Stmt kind = follow_stmt kind
follow h.Named kind = follow_stmt kind
follow h.Branch kind = follow_branch kind
follow h.Meet kind = follow_io kind
follow h.Rate kind = follow_rate kind
follow h.Interrupt kind = follow_stmt kind
follow h.More kind = follow_seq kind
follow h.Expr kind = follow_expr kind
follow h.Sums kind = follow_expr kind
follow h.Term kind = follow_term kind
follow h.Products kind = follow_term kind
follow h.Cond kind = follow_cond kind
follow h.Ors kind = follow_cond kind
follow h.Both kind = follow_both kind
follow h.Ands kind = follow_both kind
follow h.One kind = follow_one kind
follow h.Compare kind = follow_one kind
follow _ kind = true

abbrev pub table : Table Kind Head Role Mark
table = record { same = same; entry = entry; empties = empties; left_out = left_out; follow = follow }

-- a source, and then the end of the text
abbrev pub start : List Rule
start = symbol.Head h.Source ∷ symbol.Token k.End r.Plain ∷ []
