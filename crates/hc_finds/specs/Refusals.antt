-- Where an expanded source is refused: all that is found, phase after phase.
use Rattle.std.specs.Prelude.{Bool, true, false, List, [], ◌++◌, map, flat_map}
use Rattle.hc_frac.specs.declared.place.Place.{Place}
use Rattle.hc_modules.specs.declared.flat.FlatProcess.{FlatProcess}
use Rattle.hc_finds.specs.declared.stop.CheckStop.{CheckStop}
use Rattle.hc_finds.specs.declared.stop.CheckStop.TheVariants as stop
use Rattle.hc_finds.specs.Parts.{Part, parts_of}
use Rattle.hc_finds.specs.Rules.{rules, broken}
use Rattle.hc_finds.specs.Uses.{Use, uses_of, self_channels, shared_ends}
use Rattle.hc_finds.specs.Limits.{beyond_limits}

-- the parts of a process, and of all, in the order of the text
abbrev pub parts_in : FlatProcess → List Part
parts_in p = parts_of false p.body

abbrev pub all_parts : List FlatProcess → List Part
all_parts ps = flat_map parts_in ps

-- how a second sender, or receiver, is refused
abbrev pub second_end : Bool → Place → CheckStop
second_end true p = stop.TwoSenders p
second_end false p = stop.TwoReceivers p

-- what is found at the ends of channels, where the processes use them so
abbrev pub bad_ends : List (List Use) → List CheckStop
bad_ends us =
    map stop.SelfChannel (flat_map self_channels us)
    ++ map stop.TwoSenders (shared_ends true us)
    ++ map stop.TwoReceivers (shared_ends false us)

-- all that is found: beyond the limits, against the rules on parts, and at the ends of channels
abbrev pub refusals : List FlatProcess → List CheckStop
refusals ps = beyond_limits [] ps ++ flat_map (λ r. broken r (all_parts ps)) rules ++ bad_ends (map uses_of ps)
