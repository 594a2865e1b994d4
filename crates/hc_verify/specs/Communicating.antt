-- Two processes that meet on a channel.
use Rattle.std.specs.Prelude.{◌≡◌, ◌<◌, ◌≤◌, ℕ, ◌+◌, Bool, true, false, length, Option, Some, None}
use Rattle.hc_rational.specs.Words.{Rational}
use Rattle.hc_term.specs.declared.system.System.{System}
use Rattle.hc_term.specs.declared.task.Task.{Task}
use Rattle.hc_term.specs.declared.model.ProcessState.{ProcessState}
use Rattle.hc_term.specs.declared.model.Meeting.{Meeting}
use Rattle.hc_term.specs.declared.model.Configuration.{Configuration}
use Rattle.hc_term.specs.Step.{replaced, met, Meets}
use Rattle.hc_term.specs.Ends.{ends_of, is_joining}
use Rattle.hc_order.specs.Demand.{Strolls}
use Rattle.hc_verify.specs.declared.walk.Walk.{Walk}
use Rattle.hc_verify.specs.Stands.{IsAt}
use Rattle.hc_verify.specs.Halting.{HasNoStep}

-- the meeting hands the value over on the channel, which is one of the system's, between the processes at its ends
pub record IsBetweenEnds (sys : System) (channel : ℕ) (value : Rational) (m : Meeting) : Type 0 where
  pub below : channel < length sys.channels
  pub on : m.channel ≡ channel
  pub over : m.value ≡ value
  pub ends : ends_of sys channel ≡ record { sender = Some m.sender; receiver = Some m.receiver }

-- that meeting; or an end isn't used
abbrev pub IsMeetingOn : System → ℕ → Rational → Option Meeting → Type 0
IsMeetingOn sys channel value (Some m) = IsBetweenEnds sys channel value m
IsMeetingOn sys channel value None = channel < length sys.channels → is_joining (ends_of sys channel) ≡ false

-- from these states both ends of a meeting took so many invisible steps in all, and have no step left
pub record HaveHalted (t : Task) (m : Meeting) (clock : Rational) (q r : ProcessState) (n : ℕ) : Type 0 where
  pub sender : ProcessState
  pub receiver : ProcessState
  pub sending : ℕ
  pub receiving : ℕ
  pub counted : n ≡ sending + receiving
  pub sender_strolls : Strolls t clock m.sender sending q sender
  pub receiver_strolls : Strolls t clock m.receiver receiving r receiver
  pub sender_still : HasNoStep t clock m.sender sender
  pub receiver_still : HasNoStep t clock m.receiver receiver

-- they did so; or that can't be in fewer steps than there is room for
abbrev pub BothHalt : Task → Meeting → ℕ → Configuration → ProcessState → ProcessState → Walk → Option ℕ → Type 0
BothHalt t m room c q r new (Some n) =
    (n ≤ room) × ((h : HaveHalted t m c.clock q r n) × IsAt t.system new (replaced (replaced c m.sender h.sender) m.receiver h.receiver))
BothHalt t m room c q r new None = (n : ℕ) → HaveHalted t m c.clock q r n → n < room → ⊥

-- whether both offer the meeting, after which the walk stands then
abbrev pub IsOffered : System → Meeting → Configuration → Walk → Bool → Type 0
IsOffered sys m c new true = Meets m c × IsAt sys new (met m c)
IsOffered sys m c new false = Meets m c → ⊥
