-- Configurations of a system, its steps, and its runs.
use Rattle.std.specs.Prelude.{◌≡◌, ◌<◌, ◌≤◌, ℕ, zero, suc, Bool, true, false, not, List, [], ◌∷◌, length, map, replicate, slice_get, slice_set, Option, Some, None}
use Rattle.std.specs.List.{list_all}
use Rattle.hc_rational.specs.Words.{Rational, zero_ℚ, ◌+ℚ◌}
use Rattle.hc_term.specs.declared.system.Process.{Process}
use Rattle.hc_term.specs.declared.task.Task.{Task}
use Rattle.hc_term.specs.declared.run.Step.{Step}
use Rattle.hc_term.specs.declared.run.Step.TheVariants.{Silent, Comm, Delay}
use Rattle.hc_term.specs.declared.run.Item.{Item}
use Rattle.hc_term.specs.declared.post.Post.{Post}
use Rattle.hc_term.specs.declared.model.ProcessState.{ProcessState}
use Rattle.hc_term.specs.declared.model.Meeting.{Meeting}
use Rattle.hc_term.specs.declared.model.Mark.TheVariants.{Going}
use Rattle.hc_term.specs.declared.model.Configuration.{Configuration}
use Rattle.hc_term.specs.Process.{is_done, wants}
use Rattle.hc_term.specs.Silent.{Outcome, Idle, Did, silent}
use Rattle.hc_term.specs.Offers.{post}
use Rattle.hc_term.specs.Communication.{sent, received, moved}
use Rattle.hc_term.specs.Posts.{first_meeting, sent_on, receives_on, Passing, Took, passing_on}

-- a process begins with its whole body, all variables 0 and no choices taken
abbrev pub opening_of : Process → ProcessState
opening_of p = record { todo = p.body; store = replicate (length p.variables) zero_ℚ; choices = 0; mark = Going }

abbrev pub opening : Task → Configuration
opening t = record { clock = zero_ℚ; processes = map opening_of t.system.processes }

abbrev pub posts : Configuration → List Post
posts c = map (post c.clock) c.processes

-- ---- what a configuration may do

-- the meeting on the ready channel of least number
abbrev pub ready : Task → Configuration → Option Meeting
ready t c = first_meeting (length t.system.channels) (posts c)

-- whether no process wants a silent step
abbrev pub rests : List ProcessState → Bool
rests ps = list_all (λ p. not (wants p)) ps

abbrev pub all_ended : List ProcessState → Bool
all_ended ps = list_all (λ p. is_done p.todo) ps

abbrev pub passing_quiet : Task → Configuration → Passing
passing_quiet t c = passing_on c.clock t.horizon (posts c)

abbrev pub passing_by : Option Meeting → Bool → Passing → Option Passing
passing_by (Some m) quiet what = None
passing_by None false what = None
passing_by None true what = Some what

-- what time does, or none where a channel is ready or a process wants a silent step
abbrev pub passing : Task → Configuration → Option Passing
passing t c = passing_by (ready t c) (rests c.processes) (passing_quiet t c)

abbrev pub silent_by : Task → Rational → ℕ → Option ProcessState → Outcome
silent_by t clock p None = Idle
silent_by t clock p (Some q) = silent t.seed p clock q

-- what process number p does by a silent step
abbrev pub silent_of : Task → Configuration → ℕ → Outcome
silent_of t c p = silent_by t c.clock p (slice_get c.processes p)

-- ---- what a step leads to

abbrev pub changed : (ProcessState → ProcessState) → ℕ → List ProcessState → List ProcessState
changed f p [] = []
changed f zero (q ∷ qs) = f q ∷ qs
changed f (suc p) (q ∷ qs) = q ∷ changed f p qs

abbrev pub replaced : Configuration → ℕ → ProcessState → Configuration
replaced c p q = record c { processes = slice_set c.processes p q }

abbrev pub met : Meeting → Configuration → Configuration
met m c = record c { processes = changed (sent m.channel) m.sender (changed (received m.channel m.value) m.receiver c.processes) }

abbrev pub delayed : Rational → Configuration → Configuration
delayed d c = record { clock = c.clock +ℚ d; processes = map (moved d) c.processes }

-- ---- steps and runs

abbrev pub SendsAt : ℕ → Rational → Option Post → Type 0
SendsAt c v None = ⊥
SendsAt c v (Some p) = sent_on c p.offers ≡ Some v

abbrev pub ReceivesAt : ℕ → Option Post → Type 0
ReceivesAt c None = ⊥
ReceivesAt c (Some p) = receives_on c p.offers ≡ true

-- One process offers to send the value and another to receive: by the rules of a system no process is on both ends of a channel.
pub record Meets (m : Meeting) (c : Configuration) : Type 0 where
  pub gives : SendsAt m.channel m.value (slice_get (posts c) m.sender)
  pub takes : ReceivesAt m.channel (slice_get (posts c) m.receiver)

-- the step leads from the configuration c to the configuration new
abbrev pub StepTo : Task → Configuration → Step → Configuration → Type 0
StepTo t c (Silent p logged) new = (q : ProcessState) × (silent_of t c p ≡ Did logged q) × (new ≡ replaced c p q)
StepTo t c (Comm channel value) new =
    (m : Meeting) × (m.channel ≡ channel) × (m.value ≡ value) × (channel < length t.system.channels) × Meets m c × (new ≡ met m c)
StepTo t c (Delay d) new = (passing t c ≡ Some (Took d)) × (new ≡ delayed d c)

-- the items, each with the clock before its step, lead from c to new
abbrev pub Leads : Task → Configuration → List Item → Configuration → Type 0
Leads t c [] new = new ≡ c
Leads t c (i ∷ is) new = (i.at ≡ c.clock) × ((mid : Configuration) × StepTo t c i.step mid × Leads t mid is new)

-- the items are a run of the task, which ends in this configuration
pub record IsRun (t : Task) (items : List Item) (end : Configuration) : Type 0 where
  pub leads : Leads t (opening t) items end
  pub within : length items ≤ t.limit
