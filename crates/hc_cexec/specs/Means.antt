-- What is asked for, in the words of the machine's definition.
use Rattle.std.specs.Prelude.{◌≡◌, List, [], slice_set, slice_index_or, ℤ}
use Rattle.hc_schedule.specs.Threads as world
use Rattle.hc_cmach.specs.State.{Own, Shared, Certain, Divides}
use Rattle.hc_cmach.specs.Line.{Line}
use Rattle.hc_cmach.specs.Primitive.{CTurn}
use Rattle.hc_ccode.specs.declared.code.Entry.{Entry}
use Rattle.hc_ccode.specs.Stages.{Stages}
use Rattle.hc_cprim.specs.Deeds.{line_of}
use Rattle.hc_cexec.specs.declared.thread.Thread.{Thread}
use Rattle.hc_cexec.specs.declared.asked.Act.{Act}
use Rattle.hc_cexec.specs.declared.asked.Act.TheVariants as act
use Rattle.hc_cexec.specs.declared.asked.Then.{Then}
use Rattle.hc_cexec.specs.declared.asked.Asked.{Asked}
use Rattle.hc_cexec.specs.declared.asked.Asked.TheVariants as asked
use Rattle.hc_cexec.specs.Goes.{went, with_row}
use Rattle.hc_cexec.specs.Stands.{OwnIs}

abbrev pub CAct : Type 0
CAct = world.Act Own Shared Line

-- the act, with what the thread's own part is after it
abbrev pub acted : Act → Shared → Own → CAct
acted act.Goes m own = world.Goes own
acted act.Locks m own = world.Locks own
acted act.Unlocks m own = world.Unlocks own
acted (act.Waits k) m own = world.Waits k own
acted (act.Wakes k) m own = world.Wakes k own
acted (act.PutsOwn d v) m own = world.Goes own
acted (act.PutsCommon d v) m own = world.Works own (record { row = slice_set m.row d v; arrays = m.arrays })
acted (act.Stores a i z) m own =
    world.Works own (record { row = m.row; arrays = slice_set m.arrays a (slice_set (slice_index_or m.arrays a []) i z) })
acted (act.Prints l) m own = world.Prints own (line_of l)
acted act.Retakes m own = world.Retakes own

-- the thread does this, and its own part is what it is once it has gone on so
pub record MeansDoing (es : List Entry) (t : Stages) (there : List ℤ) (m : Shared) (th : Thread) (a : Act) (x : Then) (turn : CTurn) : Type 0 where
  pub own : Own
  pub is : turn ≡ world.Does (acted a m own)
  pub goes : OwnIs es t (went es there x (with_row a th)) own

-- what is asked for is that request of the definition
abbrev pub Means : List Entry → Stages → List ℤ → Shared → Thread → Asked → CTurn → Type 0
Means es t there m th asked.Returned turn = turn ≡ world.Returned
Means es t there m th (asked.Fails k) turn = turn ≡ world.Fails (Certain k)
Means es t there m th (asked.Divides r b k) turn = turn ≡ world.Fails (Divides r b k)
Means es t there m th (asked.Does a x) turn = MeansDoing es t there m th a x turn
