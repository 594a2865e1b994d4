-- The source language with the tree that is built along it.
use Rattle.hc_grammar.specs.Language as grammar
use Rattle.hc_token.specs.declared.kind.Kind.{Kind}
use Rattle.hc_token.specs.declared.token.Token.{Token}
use Rattle.hc_ast.specs.declared.flaw.Flaw.{Flaw}
use Rattle.hc_ast.specs.declared.role.Role.{Role}
use Rattle.hc_ast.specs.declared.role.Mark.{Mark}
use Rattle.hc_ast.specs.Counts.{Counts}
use Rattle.hc_table.specs.declared.head.Head.{Head}
use Rattle.hc_table.specs.Language as table
use Rattle.hc_parse.specs.declared.values.Values.{Values}
use Rattle.hc_parse.specs.Builder.{builder, blank}

abbrev pub language : grammar.Language Kind Head Role Mark Token Counts Flaw Values
language = table.language builder blank
