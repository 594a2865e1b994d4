-- What the answers of reading say.
use Rattle.std.specs.Prelude.{Option, Some, None}
use Rattle.hc_frac.specs.declared.place.Place.{Place}
use Rattle.hc_grammar.specs.declared.language.Fault as fault
use Rattle.hc_grammar.specs.declared.language.Fault.TheVariants as is
use Rattle.hc_grammar.specs.declared.whole.Stop.{Stop}
use Rattle.hc_grammar.specs.declared.whole.Stop.TheVariants.{Refused, Memory}

-- what is wrong, and where; nothing where memory ran out
abbrev pub told : {R : Type 0} → Stop R → Option (R × Place)
told (Refused r p) = Some (r, p)
told Memory = None

-- the answer for the fault of a token at a place
abbrev pub stop_at : {R : Type 0} → Place → fault.Fault R → Stop R
stop_at p (is.Flaw r) = Refused r p
stop_at p is.Memory = Memory
