-- Turns whose silent steps may have been worked out beside the joint: what is lent for them, what such a turn answers, and
-- what it does.
use Rattle.std.specs.Prelude.{◌≡◌, ◌≢◌, ◌<◌, ◌≤◌, ◌⊎◌, ℕ, ◌+◌, ◌-◌, Bool, true, false, length, slice_get, Some, None}
use Rattle.hc_rational.specs.Words.{Rational}
use Rattle.hc_term.specs.declared.model.ProcessState.{ProcessState}
use Rattle.hc_term.specs.declared.model.Configuration.{Configuration}
use Rattle.hc_term.specs.Event.{Event}
use Rattle.hc_code.specs.Stands.{Table, AllAgree}
use Rattle.hc_step.specs.Represents.{Represents}
use Rattle.hc_advance.specs.Lead.{Lead, begun}
use Rattle.hc_member.specs.Lending.{Kept, HasSteps}
use Rattle.hc_joint.specs.declared.turn.Turn.{Turn}
use Rattle.hc_joint.specs.declared.turn.Turn.TheVariants as turn
use Rattle.hc_joint.specs.Able.{is_able}
use Rattle.hc_joint.specs.Seen.{Seen}
use Rattle.hc_joint.specs.Keeps.{turned}

-- ---- what is kept of a process

-- By some table of its code, what is kept stands for the state of process number p in c.
pub record KeptOf (c : Configuration) (p : ℕ) : Type 0 where
  pub kept : Kept
  pub state : ProcessState
  pub there : slice_get c.processes p ≡ Some state
  pub number : kept.local.process ≡ p
  pub table : Table
  pub agrees : AllAgree table kept.code.instrs table
  pub stands : Represents table c.clock kept.local state

-- ---- lending

-- no stop stands, and process number p has a silent step in c
pub record MayTurn (s : Seen) (p : ℕ) (c : Configuration) : Type 0 where
  pub going : s.stop ≡ None
  pub able : is_able p c.processes ≡ true

-- The advance was lent what is kept of the process, if that may have a turn and has the advance's code: it starts there
-- now, and isn't worked. Else it is unchanged.
abbrev pub Leases : Seen → ℕ → Configuration → Lead → Lead → Bool → Type 0
Leases s p c old new true =
    MayTurn s p c × ((k : KeptOf c p) × (old.code ≡ k.kept.code) × (new ≡ begun k.kept.code k.kept.local s.clock s.task.seed))
Leases s p c old new false =
    (new ≡ old) × ((s.stop ≢ None) ⊎ (is_able p c.processes ≡ false) ⊎ ((k : KeptOf c p) × (old.code ≢ k.kept.code)))

-- ---- what a turn answers

-- what comes of its steps, where so many are left to the limit
abbrev pub Judges : Kept → Rational → ℕ → ℕ → Lead → Turn → Type 0
Judges k clock seed left a turn.Recomputed = (steps : ℕ) → HasSteps k clock seed a steps → ⊥
Judges k clock seed left a turn.Cut = (steps : ℕ) × HasSteps k clock seed a steps × (left < steps)
Judges k clock seed left a turn.Taken = (steps : ℕ) × HasSteps k clock seed a steps × (steps ≤ left)
Judges k clock seed left a turn.Stopped = ⊥
Judges k clock seed left a turn.NotAble = ⊥

-- by what is kept of the process
abbrev pub JudgedBy : Seen → ℕ → Configuration → Lead → Turn → Type 0
JudgedBy s p c a said =
    MayTurn s p c × ((k : KeptOf c p) × Judges k.kept s.clock s.task.seed (s.task.limit - length s.history) a said)

-- What a turn of process number p answers to an advance, where the history leads to c: the first of these that holds.
abbrev pub Answers : Seen → ℕ → Configuration → Lead → Turn → Type 0
Answers s p c a turn.Stopped = s.stop ≢ None
Answers s p c a turn.NotAble = (s.stop ≡ None) × (is_able p c.processes ≡ false)
Answers s p c a turn.Recomputed = JudgedBy s p c a turn.Recomputed
Answers s p c a turn.Cut = JudgedBy s p c a turn.Cut
Answers s p c a turn.Taken = JudgedBy s p c a turn.Taken

-- ---- what it does

-- a turn with this event, whose steps were worked out anew
abbrev pub recomputed : Seen → Event → Seen
recomputed s e = let after = turned s e in record after { recomputed = s.recomputed + 1 }

-- where a turn was made, the event is behind the history, and its stop is set; else nothing changes
abbrev pub state_after : Seen → Event → Turn → Seen
state_after s e turn.Stopped = s
state_after s e turn.NotAble = s
state_after s e turn.Recomputed = recomputed s e
state_after s e turn.Cut = turned s e
state_after s e turn.Taken = turned s e
