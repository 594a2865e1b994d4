-- What goes beyond the limits: guards of a choice, channels, variables of a process, nodes of an expression.
use Rattle.std.specs.Prelude.{true, nat_le, nat_lt, List, [], ◌∷◌, ◌++◌, map, length, flat_map}
use Rattle.hc_limits.specs.Limits.{most_guards, most_channels, most_variables, most_nodes}
use Rattle.hc_frac.specs.declared.place.Place.{Place}
use Rattle.hc_ast.specs.Bare.{Word}
use Rattle.hc_ast.specs.declared.stmt.IoTree.{IoTree}
use Rattle.hc_ast.specs.declared.stmt.IoTree.TheVariants as io_of
use Rattle.hc_modules.specs.declared.flat.FlatProcess.{FlatProcess}
use Rattle.hc_modules.specs.Finds.{only_if}
use Rattle.hc_modules.specs.Outermost.{Outermost, of_expr, of_cond, of_io}
use Rattle.hc_finds.specs.declared.stop.What.TheVariants as what
use Rattle.hc_finds.specs.declared.stop.CheckStop.{CheckStop}
use Rattle.hc_finds.specs.declared.stop.CheckStop.TheVariants.{TooMany}
use Rattle.hc_finds.specs.Exprs.{words_in, sides}
use Rattle.hc_finds.specs.Names.{first_occurrences}
use Rattle.hc_finds.specs.Parts.{Part, assign, compute, test, communicate, rate, domain, guard, parts_of}

-- the statement, branch or rate that a part belongs to
abbrev pub place_of : Part → Place
place_of (assign p x e) = p
place_of (compute p e) = p
place_of (test p c) = p
place_of (communicate p i) = p
place_of (rate all earlier r) = r.place
place_of (domain rs p c) = p
place_of (guard rs earlier p i) = p

abbrev pub channel_of : IoTree → Word
channel_of (io_of.Send c e) = c
channel_of (io_of.Receive c x) = c

-- the channel that a part names
abbrev pub channels_in : Part → List Word
channels_in (communicate p i) = channel_of i ∷ []
channels_in (guard rs earlier p i) = channel_of i ∷ []
channels_in x = []

abbrev pub io_variables : IoTree → List Word
io_variables (io_of.Send c e) = words_in e
io_variables (io_of.Receive c x) = x ∷ []

-- the variables that a part names, in order
abbrev pub variables_in : Part → List Word
variables_in (assign p x e) = x ∷ words_in e
variables_in (compute p e) = words_in e
variables_in (test p c) = flat_map words_in (sides c)
variables_in (communicate p i) = io_variables i
variables_in (rate all earlier r) = r.variable ∷ words_in r.value
variables_in (domain rs p c) = flat_map words_in (sides c)
variables_in (guard rs earlier p i) = io_variables i

-- the outermost expression or condition of a part
abbrev pub outermost_in : Part → List Outermost
outermost_in (assign p x e) = of_expr e ∷ []
outermost_in (compute p e) = of_expr e ∷ []
outermost_in (test p c) = of_cond c ∷ []
outermost_in (communicate p i) = of_io i
outermost_in (rate all earlier r) = of_expr r.value ∷ []
outermost_in (domain rs p c) = of_cond c ∷ []
outermost_in (guard rs earlier p i) = of_io i

-- a branch beyond the limit of guards of its choice
abbrev pub guards_beyond : Part → List Place
guards_beyond (guard rs earlier p i) = only_if (nat_le most_guards (length earlier)) p
guards_beyond x = []

-- a part with which there are too many channels, where these stand before
abbrev pub channels_beyond : List Word → Part → List Place
channels_beyond before x =
    flat_map (λ c. only_if (nat_lt most_channels (length (first_occurrences (before ++ c ∷ [])))) (place_of x)) (channels_in x)

-- a part with which its process has too many variables, where these stand before
abbrev pub variables_beyond : List Word → Part → List Place
variables_beyond before x = only_if (nat_lt most_variables (length (first_occurrences (before ++ variables_in x)))) (place_of x)

-- an outermost expression or condition with too many nodes
abbrev pub nodes_beyond : Part → List Place
nodes_beyond x = flat_map (λ o. only_if (nat_lt most_nodes o.size) o.place) (outermost_in x)

-- all four at a part, where these channels and variables stand before
abbrev pub beyond_at : List Word → List Word → Part → List CheckStop
beyond_at channels variables x =
    map (TooMany what.Guards) (guards_beyond x)
    ++ map (TooMany what.Channels) (channels_beyond channels x)
    ++ map (TooMany what.Variables) (variables_beyond variables x)
    ++ map (TooMany what.Nodes) (nodes_beyond x)

-- along the parts of a process
abbrev pub beyond_along : List Word → List Word → List Part → List CheckStop
beyond_along channels variables [] = []
beyond_along channels variables (x ∷ xs) =
    beyond_at channels variables x ++ beyond_along (channels ++ channels_in x) (variables ++ variables_in x) xs

-- the parts of a process, with a loop's test before its body
abbrev pub limited_parts : FlatProcess → List Part
limited_parts p = parts_of true p.body

-- the channels and the variables that a process names, in this order
abbrev pub channels_named : FlatProcess → List Word
channels_named p = flat_map channels_in (limited_parts p)

abbrev pub variables_named : FlatProcess → List Word
variables_named p = flat_map variables_in (limited_parts p)

-- the variables of a process
abbrev pub variables_of : FlatProcess → List Word
variables_of p = first_occurrences (variables_named p)

-- the channels of all processes
abbrev pub channels_of : List FlatProcess → List Word
channels_of ps = first_occurrences (flat_map channels_named ps)

-- along the processes, behind others that name these channels
abbrev pub beyond_limits : List Word → List FlatProcess → List CheckStop
beyond_limits channels [] = []
beyond_limits channels (p ∷ ps) = beyond_along channels [] (limited_parts p) ++ beyond_limits (channels ++ channels_named p) ps
