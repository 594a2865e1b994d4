-- The subset of C with the program that is built along a unit.
use Rattle.hc_grammar.specs.Language as grammar
use Rattle.hc_ctoken.specs.declared.kind.Kind.{Kind}
use Rattle.hc_ctoken.specs.declared.token.Token.{Token}
use Rattle.hc_cgrammar.specs.declared.flaw.Flaw.{Flaw}
use Rattle.hc_cgrammar.specs.declared.role.Role.{Role}
use Rattle.hc_cgrammar.specs.declared.role.Mark.{Mark}
use Rattle.hc_cgrammar.specs.State.{State}
use Rattle.hc_ctable.specs.declared.head.Head.{Head}
use Rattle.hc_ctable.specs.Language as table
use Rattle.hc_cread.specs.declared.values.Values.{Values}
use Rattle.hc_cread.specs.Builder.{builder, blank}

abbrev pub language : grammar.Language Kind Head Role Mark Token State Flaw Values
language = table.language builder blank
