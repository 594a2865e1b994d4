-- The table of the small language.
use Rattle.std.specs.Prelude.{Option, Some, None, ℕ, Bool, true, false, ◌==◌, List, [], ◌∷◌}
use Rattle.hc_grammar.specs.declared.symbol.Symbol as symbol
use Rattle.hc_grammar.specs.declared.symbol.Symbol.TheVariants as want
use Rattle.hc_grammar.specs.Table as base
use Rattle.hc_grammar.specs.Table.{Table, Takes, Skips, Refuses}
use Rattle.hc_small_grammar.specs.declared.letters.Kind.{Kind}
use Rattle.hc_small_grammar.specs.declared.letters.Kind.TheVariants as k
use Rattle.hc_small_grammar.specs.declared.letters.Role.{Role}
use Rattle.hc_small_grammar.specs.declared.letters.Role.TheVariants as r
use Rattle.hc_small_grammar.specs.declared.letters.Mark.{Mark}
use Rattle.hc_small_grammar.specs.declared.letters.Mark.TheVariants as m
use Rattle.hc_small_grammar.specs.declared.letters.Head.{Head}
use Rattle.hc_small_grammar.specs.declared.letters.Head.TheVariants as h

abbrev pub Rule : Type 0
Rule = symbol.Symbol Kind Head Role Mark

abbrev pub Row : Type 0
Row = base.Entry Kind Head Role Mark

abbrev pub number : Kind → ℕ
number k.Let = 0
number k.Use = 1
number k.Drop = 2
number k.Name = 3
number k.It = 4
number k.AnyName = 5
number k.OpenRound = 6
number k.CloseRound = 7
number k.Semicolon = 8
number k.Equal = 9
number k.LongWord = 10
number k.End = 11
number k.Other = 12

-- any name takes a name and `it`, and no token is of that kind; else a kind is taken where it is wanted
abbrev pub same : Kind → Kind → Bool
same k.AnyName k.Name = true
same k.AnyName k.It = true
same k.AnyName _ = false
same wanted kind = number wanted == number kind

-- lines = nothing, or `let` NAME first `;` lines, or `use` value `;` lines, or `drop` (NAME or `it`) `;` lines
abbrev pub lines : Kind → Row
lines k.Let = Takes r.Plain (want.Token k.Name r.Declares ∷ want.Head h.First ∷ want.Token k.Semicolon r.Plain ∷ want.Head h.Lines ∷ [])
lines k.Use = Takes r.Plain (want.Head h.Value ∷ want.Token k.Semicolon r.Plain ∷ want.Head h.Lines ∷ [])
lines k.Drop = Takes r.Plain (want.Token k.AnyName r.Uses ∷ want.Token k.Semicolon r.Plain ∷ want.Head h.Lines ∷ [])
lines _ = Skips

-- first = `=` value, or nothing
abbrev pub first : Kind → Row
first k.Equal = Takes r.Plain (want.Head h.Value ∷ [])
first _ = Skips

-- value = NAME or `it`, or `(` value `)`
abbrev pub value : Kind → Row
value k.Name = Takes r.Uses []
value k.It = Takes r.Uses []
value k.OpenRound = Takes r.Open (want.Head h.Value ∷ want.Token k.CloseRound r.Close ∷ want.Mark m.Bracketed ∷ [])
value _ = Refuses

abbrev pub entry : Head → Kind → Row
entry h.Lines kind = lines kind
entry h.First kind = first kind
entry h.Value kind = value kind

abbrev pub empties : Head → Bool
empties h.Lines = true
empties h.First = true
empties h.Value = false

-- a first value that isn't said leaves a mark
abbrev pub left_out : Head → Option Mark
left_out h.First = Some m.Unsaid
left_out _ = None

-- what may come behind lines and behind a first value; nothing ends a value by being seen
abbrev pub follow : Head → Kind → Bool
follow h.Lines k.End = true
follow h.Lines _ = false
follow h.First k.Semicolon = true
follow h.First _ = false
follow h.Value _ = true

abbrev pub table : Table Kind Head Role Mark
table = record { same = same; entry = entry; empties = empties; left_out = left_out; follow = follow }

-- lines, and then the end of the text
abbrev pub start : List Rule
start = want.Head h.Lines ∷ want.Token k.End r.Plain ∷ []
