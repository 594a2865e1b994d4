-- The numbers by which steps and stops name processes and channels of a system.
use Rattle.std.specs.Prelude.{◌<◌, List, [], ◌∷◌, length, IsTrue, Some, None, ⊤}
use Rattle.hc_term.specs.declared.system.System.{System}
use Rattle.hc_term.specs.declared.run.Step.{Step}
use Rattle.hc_term.specs.declared.run.Step.TheVariants.{Silent, Comm, Delay}
use Rattle.hc_term.specs.declared.run.Item.{Item}
use Rattle.hc_term.specs.declared.run.Stop.{Stop}
use Rattle.hc_term.specs.Ends.{is_joining, ends_of}
use Rattle.hc_term.specs.declared.run.Stop.TheVariants.{Terminated, Deadlock, Horizon, Limit, Overflow}

-- the process that the step names is one of the system, or the channel is, and both its ends are used
abbrev pub StepInRange : System → Step → Type 0
StepInRange sys (Silent p logged) = p < length sys.processes
StepInRange sys (Comm c v) = (c < length sys.channels) × IsTrue (is_joining (ends_of sys c))
StepInRange sys (Delay d) = ⊤

-- so it is with each step
abbrev pub AreInRange : System → List Item → Type 0
AreInRange sys [] = ⊤
AreInRange sys (i ∷ is) = StepInRange sys i.step × AreInRange sys is

-- the process that the stop names, if it does, is one of the system
abbrev pub StopInRange : System → Stop → Type 0
StopInRange sys Terminated = ⊤
StopInRange sys Deadlock = ⊤
StopInRange sys Horizon = ⊤
StopInRange sys Limit = ⊤
StopInRange sys (Overflow None) = ⊤
StopInRange sys (Overflow (Some p)) = p < length sys.processes
