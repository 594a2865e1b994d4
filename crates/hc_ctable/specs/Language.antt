-- The subset of C, as a table reads it, with whatever is built along its texts.
use Rattle.hc_grammar.specs.Reader.{Walk}
use Rattle.hc_grammar.specs.Language as grammar
use Rattle.hc_ctoken.specs.declared.kind.Kind.{Kind}
use Rattle.hc_ctoken.specs.declared.kind.Kind.TheVariants as k
use Rattle.hc_ctoken.specs.declared.token.Token.{Token}
use Rattle.hc_ctoken.specs.Tokens.{kind_of}
use Rattle.hc_cgrammar.specs.declared.flaw.Flaw.{Flaw}
use Rattle.hc_cgrammar.specs.declared.role.Role.{Role}
use Rattle.hc_cgrammar.specs.declared.role.Mark.{Mark}
use Rattle.hc_cgrammar.specs.State.{State, opening}
use Rattle.hc_cgrammar.specs.Rules.{reader}
use Rattle.hc_ctable.specs.declared.head.Head.{Head}
use Rattle.hc_ctable.specs.Table.{table, start}

abbrev pub language : {V : Type 0} → Walk Token Role Mark V → V → grammar.Language Kind Head Role Mark Token State Flaw V
language builder blank = record {
  table = table;
  kind = kind_of;
  start = start;
  last = k.End;
  reader = reader;
  opening = opening;
  builder = builder;
  blank = blank;
}
