-- What the answers of parsing say.
use Rattle.std.specs.Prelude.{◌≡◌, ℕ, List, Option, Some, None, IfSome, Result}
use Rattle.hc_frac.specs.declared.place.Place.{Place}
use Rattle.hc_grammar.specs.Exact as grammar
use Rattle.hc_grammar.specs.declared.whole.Stop.{Stop}
use Rattle.hc_grammar.specs.declared.whole.Stop.TheVariants as is
use Rattle.hc_ast.specs.declared.flaw.Flaw.{Flaw}
use Rattle.hc_ast.specs.declared.flaw.Flaw.TheVariants as wrong
use Rattle.hc_ast.specs.declared.tree.Tree.{Tree}
use Rattle.hc_ast.specs.Source.{IsSource, IsRefused}
use Rattle.hc_parse.specs.declared.parsing.ParseStop.{ParseStop}
use Rattle.hc_parse.specs.declared.parsing.ParseStop.TheVariants.{NameTooLong, NumberUnfit, Syntax, TooDeep, TooManyNodes, Memory}

-- what is wrong, and where; nothing where memory ran out
abbrev pub told : ParseStop → Option (Flaw × Place)
told (NameTooLong p) = Some (wrong.NameTooLong, p)
told (NumberUnfit p) = Some (wrong.NumberUnfit, p)
told (Syntax p) = Some (wrong.Syntax, p)
told (TooDeep p) = Some (wrong.TooDeep, p)
told (TooManyNodes p) = Some (wrong.TooManyNodes, p)
told Memory = None

-- the bytes are refused there, for this
abbrev pub IsStop : List ℕ → ParseStop → Type 0
IsStop bytes s = IfSome (told s) (λ f. IsRefused bytes f.0 f.1)

-- the answer for something that is wrong at a place
abbrev pub stop_for : Flaw → Place → ParseStop
stop_for wrong.NameTooLong p = NameTooLong p
stop_for wrong.NumberUnfit p = NumberUnfit p
stop_for wrong.Syntax p = Syntax p
stop_for wrong.TooDeep p = TooDeep p
stop_for wrong.TooManyNodes p = TooManyNodes p

-- the answer for what reading stops with
abbrev pub stop_of : Stop Flaw → ParseStop
stop_of (is.Refused f p) = stop_for f p
stop_of is.Memory = Memory

-- the answer to a text is the tree of a source, or the first refusal, and both are answered unless memory runs out
abbrev pub IsExact : List ℕ → Result Tree ParseStop → Type 0
IsExact bytes = grammar.IsExact (λ t. t) told (IsSource bytes) (λ f. IsRefused bytes f.0 f.1)
