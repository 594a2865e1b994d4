-- The symbols of the table.
use Rattle.std.specs.Prelude.{List, [], ◌∷◌}
use Rattle.hc_grammar.specs.declared.symbol.Symbol.{Symbol}
use Rattle.hc_grammar.specs.declared.symbol.Symbol.TheVariants.{Token, Head, Mark}
use Rattle.hc_grammar.specs.Table as table
use Rattle.hc_ctoken.specs.declared.fixed.Fixed.{Fixed}
use Rattle.hc_ctoken.specs.declared.fixed.Fixed.TheVariants as fix
use Rattle.hc_ctoken.specs.declared.kind.Kind.{Kind}
use Rattle.hc_ctoken.specs.declared.kind.Kind.TheVariants as k
use Rattle.hc_cgrammar.specs.declared.role.Role.{Role}
use Rattle.hc_cgrammar.specs.declared.role.Role.TheVariants as r
use Rattle.hc_cgrammar.specs.declared.role.Mark as mark
use Rattle.hc_cgrammar.specs.declared.role.Mark.TheVariants as m
use Rattle.hc_ctable.specs.declared.head.Head as head
use Rattle.hc_ctable.specs.declared.head.Head.TheVariants as h

abbrev pub Rule : Type 0
Rule = Symbol Kind head.Head Role mark.Mark

abbrev pub Row : Type 0
Row = table.Entry Kind head.Head Role mark.Mark

-- a keyword or a sign in its role, and one that only parts others
abbrev pub fixed : Fixed → Role → Rule
fixed one role = Token (k.Fixed one) role

abbrev pub plain : Fixed → Rule
plain one = fixed one r.Plain

-- an expression of its own, and an expression in round brackets, each in front of what follows it
abbrev pub an_or : List Rule → List Rule
an_or p = Mark m.Fresh ∷ Head h.Or ∷ p

abbrev pub a_test : List Rule → List Rule
a_test p = fixed fix.OpenRound r.Open ∷ an_or (fixed fix.CloseRound r.Close ∷ p)

-- block = "{" { stmt } "}"
abbrev pub a_block : List Rule → List Rule
a_block p = fixed fix.OpenCurly r.Open ∷ Mark m.Statements ∷ Head h.Statements ∷ fixed fix.CloseCurly r.Close ∷ p

-- "{" body "}", whose end has a role of its own
abbrev pub a_body : Role → List Rule → List Rule
a_body role p =
    fixed fix.OpenCurly r.Open ∷ Mark m.Locals ∷ Head h.Locals ∷ Mark m.Statements ∷ Head h.Statements ∷ fixed fix.CloseCurly role ∷ p

-- the arguments of a call behind its callee
abbrev pub called : List Rule → List Rule
called p = fixed fix.OpenRound r.OpenArguments ∷ Mark m.Fresh ∷ Head h.Arguments ∷ p
