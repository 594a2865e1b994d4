-- The source language, as a table reads it, with whatever is built along its texts.
use Rattle.hc_grammar.specs.Reader.{Walk}
use Rattle.hc_grammar.specs.Language as grammar
use Rattle.hc_token.specs.declared.kind.Kind.{Kind}
use Rattle.hc_token.specs.declared.kind.Kind.TheVariants as k
use Rattle.hc_token.specs.declared.token.Token.{Token}
use Rattle.hc_token.specs.Lexemes.{kind_of}
use Rattle.hc_ast.specs.declared.flaw.Flaw.{Flaw}
use Rattle.hc_ast.specs.declared.role.Role.{Role}
use Rattle.hc_ast.specs.declared.role.Mark.{Mark}
use Rattle.hc_ast.specs.Counts.{Counts, opening, reader}
use Rattle.hc_table.specs.declared.head.Head.{Head}
use Rattle.hc_table.specs.Table.{table, start}

abbrev pub language : {V : Type 0} → Walk Token Role Mark V → V → grammar.Language Kind Head Role Mark Token Counts Flaw V
language builder blank = record {
  table = table;
  kind = λ t. kind_of t.lexeme;
  start = start;
  last = k.End;
  reader = reader;
  opening = opening;
  builder = builder;
  blank = blank;
}
