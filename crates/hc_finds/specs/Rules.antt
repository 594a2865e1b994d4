-- The rules on the parts of a process, in the order in which they are asked.
use Rattle.std.specs.Prelude.{List, [], ◌∷◌, map, flat_map}
use Rattle.hc_frac.specs.declared.place.Place.{Place}
use Rattle.hc_finds.specs.declared.stop.CheckStop.{CheckStop}
use Rattle.hc_finds.specs.declared.stop.CheckStop.TheVariants as stop
use Rattle.hc_finds.specs.declared.rules.Rule.{Rule}
use Rattle.hc_finds.specs.declared.rules.Rule.TheVariants as rule
use Rattle.hc_finds.specs.Parts.{Part}
use Rattle.hc_finds.specs.Looks as look

-- where a part breaks a rule
abbrev pub breaks : Rule → Part → List Place
breaks rule.DivisorNotLiteral x = look.divisor_not_literal x
breaks rule.ZeroDivisor x = look.zero_divisor x
breaks rule.RepeatedRate x = look.repeated_rate x
breaks rule.RateEvolves x = look.rate_evolves x
breaks rule.NotAffine x = look.not_affine x
breaks rule.RepeatedGuard x = look.repeated_guard x

-- how it is refused
abbrev pub refused_by : Rule → Place → CheckStop
refused_by rule.DivisorNotLiteral p = stop.DivisorNotLiteral p
refused_by rule.ZeroDivisor p = stop.ZeroDivisor p
refused_by rule.RepeatedRate p = stop.RepeatedRate p
refused_by rule.RateEvolves p = stop.RateEvolves p
refused_by rule.NotAffine p = stop.NotAffine p
refused_by rule.RepeatedGuard p = stop.RepeatedGuard p

-- all places where these parts break a rule
abbrev pub broken : Rule → List Part → List CheckStop
broken r xs = map (refused_by r) (flat_map (breaks r) xs)

-- the rules in the order in which they are asked
abbrev pub rules : List Rule
rules =
    rule.DivisorNotLiteral ∷ rule.ZeroDivisor ∷ rule.RepeatedRate ∷ rule.RateEvolves
    ∷ rule.NotAffine ∷ rule.RepeatedGuard ∷ []
