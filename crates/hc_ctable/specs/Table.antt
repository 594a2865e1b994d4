-- The table of the subset of C.
use Rattle.std.specs.Prelude.{Option, Some, None, ℕ, Bool, true, false, ◌||◌, ◌==◌, List, [], ◌∷◌}
use Rattle.hc_grammar.specs.declared.symbol.Symbol.TheVariants as symbol
use Rattle.hc_grammar.specs.Table.{Table}
use Rattle.hc_ctoken.specs.declared.fixed.Fixed.{Fixed}
use Rattle.hc_ctoken.specs.declared.fixed.Fixed.TheVariants as fix
use Rattle.hc_ctoken.specs.declared.kind.Kind.{Kind}
use Rattle.hc_ctoken.specs.declared.kind.Kind.TheVariants as k
use Rattle.hc_cgrammar.specs.declared.role.Role.{Role}
use Rattle.hc_cgrammar.specs.declared.role.Role.TheVariants as r
use Rattle.hc_cgrammar.specs.declared.role.Mark.{Mark}
use Rattle.hc_cgrammar.specs.declared.role.Mark.TheVariants as m
use Rattle.hc_ctable.specs.declared.head.Head.{Head}
use Rattle.hc_ctable.specs.declared.head.Head.TheVariants as h
use Rattle.hc_ctable.specs.Symbols.{Rule, Row}
use Rattle.hc_ctable.specs.Rows.{unit, more_strings, functions, kinded, voided, threads, starred, listed, parameters, more_parameters, locals, statements, else_part, cases, value, returned, arguments, more_arguments, or, ors, and, ands, compared, compare, sum, sums, product, products, unary}

-- keywords and signs by numbers, so that they can be told apart
abbrev pub number : Fixed → ℕ
number fix.Static = 0
number fix.Int = 1
number fix.Const = 2
number fix.Char = 3
number fix.Void = 4
number fix.If = 5
number fix.Else = 6
number fix.While = 7
number fix.Switch = 8
number fix.Case = 9
number fix.Break = 10
number fix.Default = 11
number fix.Return = 12
number fix.ChanName = 13
number fix.ProcName = 14
number fix.HcThreads = 15
number fix.Main = 16
number fix.HcMain = 17
number fix.BarBar = 18
number fix.AndAnd = 19
number fix.LessEqual = 20
number fix.GreaterEqual = 21
number fix.EqualEqual = 22
number fix.NotEqual = 23
number fix.OpenRound = 24
number fix.CloseRound = 25
number fix.OpenCurly = 26
number fix.CloseCurly = 27
number fix.OpenSquare = 28
number fix.CloseSquare = 29
number fix.Less = 30
number fix.Greater = 31
number fix.Comma = 32
number fix.Semicolon = 33
number fix.Colon = 34
number fix.Equal = 35
number fix.Exclamation = 36
number fix.Plus = 37
number fix.Minus = 38
number fix.Star = 39

-- a token of a kind is taken where that kind is wanted; two kinds are wanted alone, and take two each
abbrev pub same : Kind → Kind → Bool
same (k.Fixed wanted) (k.Fixed one) = number wanted == number one
same k.Array k.Array = true
same k.Function k.Function = true
same k.Local k.Local = true
same k.Unused k.Unused = true
same k.Thread k.Thread = true
same k.Primitive k.Primitive = true
same k.Number k.Number = true
same k.Zero k.Zero = true
same k.Text k.Text = true
same k.End k.End = true
same k.AnyNumber k.Number = true
same k.AnyNumber k.Zero = true
same k.AnyLocal k.Local = true
same k.AnyLocal k.Unused = true
same k.LongWord k.LongWord = true
same k.LargeNumber k.LargeNumber = true
same k.Padded k.Padded = true
same k.Other k.Other = true
same _ _ = false

-- what each phrase is before a token
abbrev pub entry : Head → Kind → Row
entry h.Unit kind = unit kind
entry h.Channels kind = more_strings r.Channel h.Channels kind
entry h.Processes kind = more_strings r.Process h.Processes kind
entry h.Functions kind = functions kind
entry h.Kinded kind = kinded kind
entry h.Voided kind = voided kind
entry h.Threads kind = threads kind
entry h.Starred kind = starred kind
entry h.Listed kind = listed kind
entry h.Parameters kind = parameters kind
entry h.MoreParameters kind = more_parameters kind
entry h.Locals kind = locals kind
entry h.Statements kind = statements kind
entry h.Else kind = else_part kind
entry h.Cases kind = cases kind
entry h.Value kind = value kind
entry h.Returned kind = returned kind
entry h.Arguments kind = arguments kind
entry h.MoreArguments kind = more_arguments kind
entry h.Or kind = or kind
entry h.Ors kind = ors kind
entry h.And kind = and kind
entry h.Ands kind = ands kind
entry h.Compared kind = compared kind
entry h.Compare kind = compare kind
entry h.Sum kind = sum kind
entry h.Sums kind = sums kind
entry h.Product kind = product kind
entry h.Products kind = products kind
entry h.Unary kind = unary kind

-- the phrases that may be empty
abbrev pub empties : Head → Bool
empties h.Channels = true
empties h.Processes = true
empties h.Listed = true
empties h.MoreParameters = true
empties h.Locals = true
empties h.Statements = true
empties h.Else = true
empties h.Ors = true
empties h.Ands = true
empties h.Compare = true
empties h.Sums = true
empties h.Products = true
empties _ = false

-- an `if` without an else part leaves a mark
abbrev pub left_out : Head → Option Mark
left_out h.Else = Some m.If
left_out _ = None

-- what strings and listed names, parameters, and statements are closed by
abbrev pub follow_list : Kind → Bool
follow_list (k.Fixed fix.CloseCurly) = true
follow_list _ = false

abbrev pub follow_parameters : Kind → Bool
follow_parameters (k.Fixed fix.CloseRound) = true
follow_parameters _ = false

-- what a statement may begin with, or what closes statements
abbrev pub follow_stmt : Kind → Bool
follow_stmt k.Local = true
follow_stmt k.Unused = true
follow_stmt k.Array = true
follow_stmt k.Function = true
follow_stmt k.Primitive = true
follow_stmt (k.Fixed fix.If) = true
follow_stmt (k.Fixed fix.While) = true
follow_stmt (k.Fixed fix.Switch) = true
follow_stmt (k.Fixed fix.Return) = true
follow_stmt kind = follow_list kind

-- what may come behind each layer of an expression
abbrev pub follow_or : Kind → Bool
follow_or (k.Fixed fix.CloseRound) = true
follow_or (k.Fixed fix.CloseSquare) = true
follow_or (k.Fixed fix.Comma) = true
follow_or (k.Fixed fix.Semicolon) = true
follow_or _ = false

abbrev pub follow_and : Kind → Bool
follow_and (k.Fixed fix.BarBar) = true
follow_and kind = follow_or kind

abbrev pub follow_cmp : Kind → Bool
follow_cmp (k.Fixed fix.AndAnd) = true
follow_cmp kind = follow_and kind

abbrev pub follow_sum : Kind → Bool
follow_sum (k.Fixed fix.Less) = true
follow_sum (k.Fixed fix.LessEqual) = true
follow_sum (k.Fixed fix.EqualEqual) = true
follow_sum (k.Fixed fix.NotEqual) = true
follow_sum (k.Fixed fix.GreaterEqual) = true
follow_sum (k.Fixed fix.Greater) = true
follow_sum kind = follow_cmp kind

abbrev pub follow_product : Kind → Bool
follow_product (k.Fixed fix.Plus) = true
follow_product (k.Fixed fix.Minus) = true
follow_product kind = follow_sum kind

abbrev pub follow_unary : Kind → Bool
follow_unary (k.Fixed fix.Star) = true
follow_unary kind = follow_product kind

-- what may come behind a phrase that may be empty, or that may end in one
abbrev pub follow : Head → Kind → Bool
follow h.Channels kind = follow_list kind
follow h.Processes kind = follow_list kind
follow h.Listed kind = follow_list kind
follow h.Parameters kind = follow_parameters kind
follow h.MoreParameters kind = follow_parameters kind
follow h.Locals kind = follow_stmt kind
follow h.Statements kind = follow_list kind
follow h.Else kind = follow_stmt kind
follow h.Or kind = follow_or kind
follow h.Ors kind = follow_or kind
follow h.And kind = follow_and kind
follow h.Ands kind = follow_and kind
follow h.Compared kind = follow_cmp kind
follow h.Compare kind = follow_cmp kind
follow h.Sum kind = follow_sum kind
follow h.Sums kind = follow_sum kind
follow h.Product kind = follow_product kind
follow h.Products kind = follow_product kind
follow h.Unary kind = follow_unary kind
follow _ kind = true

abbrev pub table : Table Kind Head Role Mark
table = record { same = same; entry = entry; empties = empties; left_out = left_out; follow = follow }

-- a unit, and then the end of the text
abbrev pub start : List Rule
start = symbol.Head h.Unit ∷ symbol.Token k.End r.Plain ∷ []
