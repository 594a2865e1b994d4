-- What is called, as far as the program asks.
use Rattle.hc_cgrammar.specs.State.{Signature}
use Rattle.hc_crules.specs.declared.named.Callee.{Callee}

abbrev pub callee_of : Signature → Callee
callee_of f = record { arity = f.arity; gives = f.gives }
