-- What a step leaves behind that is taken, in the words of the code.
use Rattle.std.specs.Prelude.{◌≡◌, ℕ, ◌+◌}
use Rattle.hc_cast.specs.declared.program.CProgram.{CProgram}
use Rattle.hc_cmach.specs.declared.moved.Moved.{Moved}
use Rattle.hc_cmach.specs.declared.moved.Moved.TheVariants as said
use Rattle.hc_cexec.specs.declared.asked.Act.{Act}
use Rattle.hc_cexec.specs.declared.asked.Act.TheVariants as act
use Rattle.hc_cexec.specs.declared.asked.Then.{Then}
use Rattle.hc_cexec.specs.declared.told.Told.{Told}
use Rattle.hc_cexec.specs.declared.machine.Machine.{Machine}
use Rattle.hc_cexec.specs.Applied.{IsAfter, roused}
use Rattle.hc_cexec.specs.Answers.{KeepsAll}
use Rattle.hc_cexec.specs.Stands.{counted}
use Rattle.hc_cexec.specs.Told.{IsPrinted}

-- what is answered
abbrev pub said_of : Act → Moved
said_of (act.Prints l) = said.Printed
said_of _ = said.Moved

-- a line is printed, or nothing is
abbrev pub TellsBy : CProgram → Act → Told → Told → Type 0
TellsBy g (act.Prints l) old new = IsPrinted g l old new
TellsBy g _ old new = new ≡ old

-- the same program stands there
pub record IsSame (old new : Machine) : Type 0 where
  pub code : new.code ≡ old.code
  pub channels : new.channels ≡ old.channels
  pub processes : new.processes ≡ old.processes

-- thread t did this
pub record IsTaken (g : CProgram) (t : ℕ) (a : Act) (x : Then) (old new : Machine) : Type 0 where
  pub same : IsSame old new
  pub world : IsAfter old.code.functions t a x old.world new.world
  pub moved : new.moved ≡ counted (old.moved + 1)
  pub told : TellsBy g a old.told new.told

-- nothing changes but the values of a call's arguments
pub record IsKept (old new : Machine) : Type 0 where
  pub same : IsSame old new
  pub world : KeepsAll old.world new.world
  pub moved : new.moved ≡ old.moved
  pub told : new.told ≡ old.told

-- thread t was woken, if it waited
pub record IsRoused (t : ℕ) (old new : Machine) : Type 0 where
  pub same : IsSame old new
  pub owner : new.world.owner ≡ old.world.owner
  pub row : new.world.row ≡ old.world.row
  pub arrays : new.world.arrays ≡ old.world.arrays
  pub threads : new.world.threads.items ≡ roused old.world.threads.items t
  pub arguments : new.world.arguments ≡ old.world.arguments
  pub moved : new.moved ≡ old.moved
  pub told : new.told ≡ old.told
