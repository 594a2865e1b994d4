-- The channels of a system that have both ends.
use Rattle.std.specs.Prelude.{ℕ, ◌+◌, Bool, true, List, [], ◌∷◌, ◌++◌, find, nat_eq, Option, Some, None}
use Rattle.std.specs.Cmp.Lexicographic.{pointwise}
use Rattle.hc_term.specs.declared.system.System.{System}
use Rattle.hc_term.specs.Ends.{ends_of}
use Rattle.hc_term.specs.TraceText.{process_name}
use Rattle.hc_upgrade.specs.declared.routes.Route.{Route}

-- a channel of this name between the processes at its ends, if both are there
abbrev pub route_between : System → List ℕ → Option ℕ → Option ℕ → Option Route
route_between sys channel (Some p) (Some q) =
    Some (record { channel = channel; sender = process_name sys p; receiver = process_name sys q })
route_between sys channel p q = None

-- channel number c
abbrev pub route_at : System → ℕ → List ℕ → Option Route
route_at sys c channel = route_between sys channel (ends_of sys c).sender (ends_of sys c).receiver

abbrev pub listed : Option Route → List Route
listed None = []
listed (Some r) = r ∷ []

-- the channels, of which the first has number c
abbrev pub routes_from : System → ℕ → List (List ℕ) → List Route
routes_from sys c [] = []
routes_from sys c (channel ∷ more) = listed (route_at sys c channel) ++ routes_from sys (c + 1) more

abbrev pub routes : System → List Route
routes sys = routes_from sys 0 sys.channels

-- the first that has this name
abbrev pub route_named : List ℕ → List Route → Option Route
route_named channel rs = find (λ r. pointwise nat_eq r.channel channel) rs

-- a name, where it is given, is this one
abbrev pub agrees : Option (List ℕ) → List ℕ → Bool
agrees None name = true
agrees (Some given) name = pointwise nat_eq given name
