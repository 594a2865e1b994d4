-- The state for which a machine stands.
use Rattle.std.specs.Prelude.{◌≡◌, ◌<◌, ◌≤◌, ℕ, ◌+◌, ◌-◌, ◌^◌, List, [], ◌∷◌, length, min, slice_get, ℤ, Option, Some, None}
use Rattle.hc_cast.specs.declared.program.CProgram.{CProgram}
use Rattle.hc_schedule.specs.Threads as world
use Rattle.hc_cmach.specs.State.{Word, Frame, Own}
use Rattle.hc_cmach.specs.Line.{Line, line_text, first_end}
use Rattle.hc_cmach.specs.Machine.{CState}
use Rattle.hc_ccode.specs.declared.code.Entry.{Entry}
use Rattle.hc_ccode.specs.Placed.{placed_target}
use Rattle.hc_ccode.specs.Stages.{Stages, At, IsCodeBy}
use Rattle.hc_cexec.specs.declared.activation.Activation.{Activation}
use Rattle.hc_cexec.specs.declared.thread.Thread.{Thread}
use Rattle.hc_cexec.specs.declared.machine.Machine.{Machine}

-- ---- frames

-- the activation is that frame; its number is how many functions its body calls at most
pub record FrameIs (t : Stages) (known : ℕ) (a : Activation) (f : Frame) : Type 0 where
  pub todo : At t f.names known a.place f.todo
  pub values : a.values ≡ f.values
  pub gives : a.gives ≡ f.gives

-- the result goes to the local of the caller that takes it
abbrev pub TargetIs : Option ℕ → List Frame → Option Word → Type 0
TargetIs result [] target = Unit {0}
TargetIs result (f ∷ fs) target = result ≡ placed_target f.names target

-- callers stand behind those that they call
abbrev pub IsBefore : ℕ → Option ℕ → Type 0
IsBefore i None = Unit {0}
IsBefore i (Some j) = i < j

-- the activation at hand is the innermost frame
pub record IsOnTop (t : Stages) (xs : List Activation) (c : Option ℕ) (f : Frame) (fs : List Frame) : Type 0 where
  pub place : ℕ
  pub activation : Activation
  pub is : c ≡ Some place
  pub stands : slice_get xs place ≡ Some activation
  pub frame : FrameIs t place activation f
  pub target : TargetIs activation.result fs f.target
  pub before : IsBefore place activation.caller

-- from one activation to its caller, they are these frames
abbrev pub StackIs : Stages → List Activation → Option ℕ → List Frame → Type 0
StackIs t xs c [] = c ≡ None
StackIs t xs c (f ∷ fs) = (top : IsOnTop t xs c f fs) × StackIs t xs top.activation.caller fs

-- ---- threads

-- each function has an activation with room for its parameters and locals
pub record HasRoom (xs : List Activation) (i : ℕ) (e : Entry) : Type 0 where
  pub activation : Activation
  pub stands : slice_get xs i ≡ Some activation
  pub even : length activation.values ≡ e.params + e.locals

abbrev pub HasRooms : List Entry → List Activation → Type 0
HasRooms es xs = (i : ℕ) (e : Entry) → slice_get es i ≡ Some e → HasRoom xs i e

pub record OwnIs (es : List Entry) (t : Stages) (th : Thread) (own : Own) : Type 0 where
  pub row : th.row ≡ own.row
  pub stack : StackIs t th.activations th.current own.frames
  pub rooms : HasRooms es th.activations

pub record ThreadIs (es : List Entry) (t : Stages) (th : Thread) (w : world.Thread Own) : Type 0 where
  pub own : OwnIs es t th w.own
  pub status : th.status ≡ w.status

abbrev pub ThreadsAre : List Entry → Stages → List Thread → List (world.Thread Own) → Type 0
ThreadsAre es t [] [] = Unit {0}
ThreadsAre es t (th ∷ ths) (w ∷ ws) = ThreadIs es t th w × ThreadsAre es t ths ws
ThreadsAre es t _ _ = ⊥

-- ---- machines

-- the line that was printed last
abbrev pub last_text : CProgram → List (ℕ × Line) → List ℕ
last_text g [] = []
last_text g (l ∷ []) = line_text g l.1
last_text g (l ∷ m ∷ ls) = last_text g (m ∷ ls)

-- a count of 64 bits stands at its last value
abbrev pub counted : ℕ → ℕ
counted n = min n (2 ^ 64 - 1)

-- there is room for the arguments of each function
abbrev pub HasSpace : List Entry → List ℤ → Type 0
HasSpace es there = (i : ℕ) (e : Entry) → slice_get es i ≡ Some e → e.params ≤ length there

pub record IsAtBy (g : CProgram) (m : Machine) (t : Stages) (s : CState) : Type 0 where
  pub code : IsCodeBy g m.code t
  pub owner : m.world.owner ≡ s.world.owner
  pub row : m.world.row ≡ s.world.shared.row
  pub arrays : m.world.arrays ≡ s.world.shared.arrays
  pub threads : ThreadsAre m.code.functions t m.world.threads.items s.world.threads
  pub space : HasSpace m.code.functions m.world.arguments
  pub six : 6 ≤ length m.world.arguments
  pub channels : m.channels ≡ length g.channels
  pub processes : m.processes ≡ length g.processes
  pub line : m.told.line.bytes ≡ last_text g s.lines
  pub ended : m.told.ended ≡ first_end s.lines
  pub moved : m.moved ≡ counted s.moved

-- the machine was opened with the program, and stands at this state
abbrev pub IsAt : CProgram → Machine → CState → Type 0
IsAt g m s = (t : Stages) × IsAtBy g m t s
