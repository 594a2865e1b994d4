-- The symbols of the source language's table.
use Rattle.std.specs.Prelude.{List, ◌∷◌}
use Rattle.hc_grammar.specs.declared.symbol.Symbol.{Symbol}
use Rattle.hc_grammar.specs.declared.symbol.Symbol.TheVariants.{Token, Head, Mark}
use Rattle.hc_grammar.specs.Table as table
use Rattle.hc_token.specs.declared.fixed.Fixed.{Fixed}
use Rattle.hc_token.specs.declared.kind.Kind.{Kind}
use Rattle.hc_token.specs.declared.kind.Kind.TheVariants as k
use Rattle.hc_ast.specs.declared.role.Role.{Role}
use Rattle.hc_ast.specs.declared.role.Mark as mark
use Rattle.hc_ast.specs.declared.role.Mark.TheVariants as m
use Rattle.hc_table.specs.declared.head.Head as head
use Rattle.hc_table.specs.declared.head.Head.TheVariants as h

abbrev pub Rule : Type 0
Rule = Symbol Kind head.Head Role mark.Mark

abbrev pub Row : Type 0
Row = table.Entry Kind head.Head Role mark.Mark

-- a keyword or a sign in its role
abbrev pub fixed : Fixed → Role → Rule
fixed one role = Token (k.Fixed one) role

-- an expression, a condition and a sequence of statements, each in front of what follows it
abbrev pub an_expr : List Rule → List Rule
an_expr p = Head h.Expr ∷ p

abbrev pub a_cond : List Rule → List Rule
a_cond p = Head h.Cond ∷ p

abbrev pub a_seq : List Rule → List Rule
a_seq p = Mark m.Body ∷ Head h.Seq ∷ p
