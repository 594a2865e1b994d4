-- What the program's parts of a state stand for in the state of hc_cgrammar.
use Rattle.std.specs.Prelude.{◌≡◌, Bool, Some}
use Rattle.hc_grammar.specs.declared.language.Fault.{Fault}
use Rattle.hc_grammar.specs.declared.language.Fault.TheVariants.{Flaw, Memory}
use Rattle.hc_ctoken.specs.declared.token.Lexeme.{Lexeme}
use Rattle.hc_cgrammar.specs.declared.flaw.Flaw as flaw
use Rattle.hc_cgrammar.specs.declared.role.Role.{Role}
use Rattle.hc_cgrammar.specs.Leaves.{Word}
use Rattle.hc_cgrammar.specs.State as state
use Rattle.hc_cgrammar.specs.Rules.{judged}
use Rattle.hc_crules.specs.declared.shape.Shape.{Shape}
use Rattle.hc_crules.specs.declared.shape.Shape.TheVariants as x
use Rattle.hc_crules.specs.declared.call.Call.{Call}
use Rattle.hc_crules.specs.declared.strings.Strings.{Strings}
use Rattle.hc_crules.specs.declared.owner.Signature.{Signature}
use Rattle.hc_crules.specs.declared.owner.Owner.{Owner}
use Rattle.hc_crules.specs.declared.owner.Owner.TheVariants as o

abbrev pub shape_seen : Shape → state.Shape
shape_seen x.Nothing = state.nothing
shape_seen (x.Number n) = state.number n
shape_seen x.Minus = state.minus
shape_seen x.MinusNumber = state.minus_number
shape_seen x.Other = state.other

abbrev pub call_seen : Call → state.Call
call_seen c = record { arity = c.arity; is_set = c.is_set; commas = c.commas; arguments = c.arguments; third = shape_seen c.third }

abbrev pub strings_seen : Strings → state.Strings
strings_seen s = record { wanted = s.wanted; count = s.count; has_empty = s.has_empty }

abbrev pub signature_seen : Signature → state.Signature
signature_seen f = record { name = f.name; arity = f.arity; gives = f.gives }

abbrev pub owner_seen : Owner → state.Owner
owner_seen (o.Function f) = state.function (signature_seen f)
owner_seen o.Thread = state.thread

-- the body of a function of this name, before its parameters
abbrev pub function_of : Word → Bool → state.Owner
function_of name gives = state.function (record { name = name; arity = 0; gives = gives })

-- this is wrong with a token in its role, or memory ran out
abbrev pub IsWrong : Role → Lexeme → state.State → Fault flaw.Flaw → Type 0
IsWrong role l s (Flaw f) = judged role l s ≡ Some f
IsWrong role l s Memory = Unit {0}
