-- The limits as the program counts: from the names that are noted so far.
use Rattle.std.specs.Prelude.{nat_lt, List, [], ◌∷◌, ◌++◌, map, length, flat_map}
use Rattle.hc_limits.specs.Limits.{most_channels, most_variables}
use Rattle.hc_frac.specs.declared.place.Place.{Place}
use Rattle.indexmap.specs.IndexSet.{insert_all}
use Rattle.hc_ast.specs.Bare.{Word}
use Rattle.hc_modules.specs.Bindings.{same_word}
use Rattle.hc_modules.specs.Finds.{only_if}
use Rattle.hc_finds.specs.declared.stop.What.TheVariants as what
use Rattle.hc_finds.specs.declared.stop.CheckStop.{CheckStop}
use Rattle.hc_finds.specs.declared.stop.CheckStop.TheVariants.{TooMany}
use Rattle.hc_finds.specs.Parts.{Part}
use Rattle.hc_finds.specs.Limits.{place_of, channels_in, variables_in, guards_beyond, nodes_beyond}

-- these names, and then those
abbrev pub with_names : List Word → List Word → List Word
with_names names xs = insert_all same_word names xs

abbrev pub channels_over : List Word → Part → List Place
channels_over names x = flat_map (λ c. only_if (nat_lt most_channels (length (with_names names (c ∷ [])))) (place_of x)) (channels_in x)

abbrev pub variables_over : List Word → Part → List Place
variables_over names x = only_if (nat_lt most_variables (length (with_names names (variables_in x)))) (place_of x)

abbrev pub over_at : List Word → List Word → Part → List CheckStop
over_at channels variables x =
    map (TooMany what.Guards) (guards_beyond x)
    ++ map (TooMany what.Channels) (channels_over channels x)
    ++ map (TooMany what.Variables) (variables_over variables x)
    ++ map (TooMany what.Nodes) (nodes_beyond x)

abbrev pub over_along : List Word → List Word → List Part → List CheckStop
over_along channels variables [] = []
over_along channels variables (x ∷ xs) =
    over_at channels variables x ++ over_along (with_names channels (channels_in x)) (with_names variables (variables_in x)) xs
