-- What a token is and says, and its kind: what it is without what it says.
use Rattle.hc_token.specs.declared.kind.Kind.{Kind}
use Rattle.hc_token.specs.declared.kind.Kind.TheVariants as k
use Rattle.hc_token.specs.declared.token.Lexeme.{Lexeme}
use Rattle.hc_token.specs.declared.token.Lexeme.TheVariants as lex

-- names and rates say a name, numbers a number, and the others nothing more
abbrev pub kind_of : Lexeme → Kind
kind_of (lex.Fixed one) = k.Fixed one
kind_of (lex.Name w) = k.Name
kind_of (lex.Rate w) = k.Rate
kind_of (lex.Number d) = k.Number
kind_of lex.End = k.End
kind_of lex.LongWord = k.LongWord
kind_of lex.LargeNumber = k.LargeNumber
kind_of lex.Other = k.Other
