-- The actions, and what belongs to which.
use Rattle.std.specs.Prelude.{Bool, true, false, not, ◌&&◌, ◌||◌, Option, Some, None, codes}
use Rattle.clap.specs.Walk.{Text}
use Rattle.hc_words.specs.declared.actions.Action.{Action}
use Rattle.hc_words.specs.declared.actions.Action.TheVariants.{Check, Print, Simulate, Channels, Convert, Verify, Make, Cexec}
use Rattle.hc_words.specs.declared.actions.Room.{Room}
use Rattle.hc_words.specs.Line.{Given}

abbrev pub name_of_action : Action → Text
name_of_action Check = codes "check"
name_of_action Print = codes "print"
name_of_action Simulate = codes "simulate"
name_of_action Channels = codes "channels"
name_of_action Convert = codes "convert"
name_of_action Verify = codes "verify"
name_of_action Make = codes "make"
name_of_action Cexec = codes "cexec"

abbrev pub nothing : Room
nothing = record { number = false; seed = false; horizon = false; limit = false; workers = false; steps = false; report = false; channels = false }

-- the table: what may stand behind an action, one line each
abbrev pub room_of : Action → Room
room_of Check = nothing
room_of Print = nothing
room_of Simulate = record nothing { seed = true; horizon = true; limit = true }
room_of Channels = record nothing { seed = true; horizon = true; limit = true }
room_of Convert = nothing
room_of Verify = record nothing { seed = true; horizon = true; limit = true }
room_of Make = record nothing { number = true; seed = true }
room_of Cexec = record nothing { seed = true; steps = true; report = true }

-- the one action of the call that runs on threads, and its row
abbrev pub name_of_run : Text
name_of_run = codes "run"

abbrev pub room_of_run : Room
room_of_run = record nothing { seed = true; horizon = true; limit = true; workers = true; report = true; channels = true }

-- N is given exactly where it's wanted
abbrev pub is_wanted : Bool → Option Text → Bool
is_wanted wanted None = not wanted
is_wanted wanted (Some t) = wanted

-- an option is given only where there is room for it
abbrev pub allows : Bool → Option Text → Bool
allows room None = true
allows room (Some t) = room

-- what is given has room
abbrev pub fits : Room → Given → Bool
fits room g =
    is_wanted room.number g.number && allows room.seed g.seed && allows room.horizon g.horizon && allows room.limit g.limit
    && allows room.workers g.workers && allows room.steps g.steps && (room.report || not g.report) && (room.channels || not g.channels)

abbrev pub belongs : Action → Given → Bool
belongs action g = fits (room_of action) g
