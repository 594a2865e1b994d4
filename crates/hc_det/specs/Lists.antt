-- What a run hands over, channel by channel.
use Rattle.std.specs.Prelude.{ℕ, ◌+◌, List, [], ◌∷◌}
use Rattle.hc_term.specs.declared.system.System.{System}
use Rattle.hc_term.specs.declared.run.Item.{Item}
use Rattle.hc_order.specs.Determinate.{handed}
use Rattle.hc_det.specs.declared.lists.ChannelList.{ChannelList}

-- each of these channels, of which the first has number c, with what is handed over on it
abbrev pub lists_from : List Item → ℕ → List (List ℕ) → List ChannelList
lists_from items c [] = []
lists_from items c (name ∷ names) = record { name = name; meetings = handed c items } ∷ lists_from items (c + 1) names

-- each channel of the system
abbrev pub lists_of : System → List Item → List ChannelList
lists_of sys items = lists_from items 0 sys.channels
