-- The two ends of a channel: the process that sends on it, and the one that receives.
use Rattle.std.specs.Prelude.{ℕ, ◌+◌, Bool, true, false, ◌&&◌, if◌then◌else◌, List, [], ◌∷◌, Option, Some, None, is_some}
use Rattle.hc_term.specs.declared.system.Process.{Process}
use Rattle.hc_term.specs.declared.system.System.{System}
use Rattle.hc_term.specs.declared.ends.Ends.{Ends}
use Rattle.hc_term.specs.Rules.{is_user}

-- the first of the processes, the first of which has number p, that sends, or receives, on channel c
abbrev pub user_from : Bool → ℕ → ℕ → List Process → Option ℕ
user_from sending c p [] = None
user_from sending c p (b ∷ bs) = if is_user sending c b then Some p else user_from sending c (p + 1) bs

-- the process that sends on channel c anywhere in its body, and the one that receives: by the rules there is at most one of each
abbrev pub ends_of : System → ℕ → Ends
ends_of sys c = record { sender = user_from true c 0 sys.processes; receiver = user_from false c 0 sys.processes }

-- both ends are used
abbrev pub is_joining : Ends → Bool
is_joining e = is_some e.sender && is_some e.receiver
