-- A step that is taken leads to the state of the definition.
use Rattle.std.proofs.Common.{◌≡◌, refl, sym, ap, ◌∙◌, subst, ℕ, ◌+◌, List, [], ◌∷◌, ◌++◌, length, slice_get, Option, Some, None, arith}
use Rattle.std.specs.Prelude.{ℤ}
use Rattle.hc_cast.specs.declared.program.CProgram.{CProgram}
use Rattle.hc_ccode.specs.declared.code.Entry.{Entry}
use Rattle.hc_ccode.specs.declared.code.Code.{Code}
use Rattle.hc_ccode.specs.Stages.{Stages, IsCodeBy}
use Rattle.hc_schedule.specs.declared.status.Status.TheVariants as status
use Rattle.hc_schedule.specs.Sections.{Step}
use Rattle.hc_schedule.specs.Threads as world
use Rattle.hc_schedule.specs.Schedule.{lines_after, did, after}
use Rattle.hc_cmach.specs.State.{Own, Shared}
use Rattle.hc_cmach.specs.Turn.{c_code}
use Rattle.hc_cmach.specs.Line as told
use Rattle.hc_cmach.specs.Line.{line_text, first_end}
use Rattle.hc_cmach.specs.Machine.{CState, CAnswer, stepped, step_said, said_by, said_act}
use Rattle.hc_cprim.specs.Deeds.{line_of}
use Rattle.hc_cprim.specs.declared.deed.Line.{Line}
use Rattle.hc_cprim.specs.declared.deed.Line.TheVariants as line
use Rattle.hc_cexec.specs.declared.thread.Thread.{Thread}
use Rattle.hc_cexec.specs.declared.told.Told.{Told}
use Rattle.hc_cexec.specs.declared.machine.Machine.{Machine}
use Rattle.hc_cexec.specs.declared.asked.Act.{Act}
use Rattle.hc_cexec.specs.declared.asked.Act.TheVariants as act
use Rattle.hc_cexec.specs.declared.asked.Then.{Then}
use Rattle.hc_cexec.specs.declared.asked.Answer.{Answer}
use Rattle.hc_cexec.specs.Goes.{went, with_row}
use Rattle.hc_cexec.specs.Means.{acted}
use Rattle.hc_cexec.specs.Applied.{owner_after, status_after, row_after, arrays_after, thread_after, replaced, replaced_by, stirred_after}
use Rattle.hc_cexec.specs.Answers.{AnswersAs}
use Rattle.hc_cexec.specs.Stands.{HasSpace, OwnIs, ThreadIs, ThreadsAre, last_text, counted, IsAtBy}
use Rattle.hc_cexec.specs.Taken.{said_of, TellsBy, IsSame, IsTaken, IsKept}
use Rattle.hc_cexec.specs.Told.{ended_by}
use Rattle.hc_cexec.proofs.Worlds.{set_both, map_both}
use Rattle.hc_cexec.proofs.Answering.{Takes, Answered, WorldIs, answered}

-- ---- lines

pub last_is : (g : CProgram) (ls : List (ℕ × told.Line)) (l : ℕ × told.Line) → last_text g (ls ++ l ∷ []) ≡ line_text g l.1
last_is g [] l = refl
last_is g (k ∷ []) l = refl
last_is g (k ∷ j ∷ ls) l = last_is g (j ∷ ls) l

end_alone : (q : ℕ) (l : Line) → first_end ((q, line_of l) ∷ []) ≡ ended_by None l
end_alone q (line.Delays clock by) = refl
end_alone q (line.Meets clock c p r v) = refl
end_alone q (line.Logs clock p v) = refl
end_alone q (line.Ends k clock who) = refl

pub end_is : (ls : List (ℕ × told.Line)) (q : ℕ) (l : Line) → first_end (ls ++ (q, line_of l) ∷ []) ≡ ended_by (first_end ls) l
end_is [] q l = end_alone q l
end_is ((p, told.Delays clock by) ∷ ls) q l = end_is ls q l
end_is ((p, told.Meets clock c r s v) ∷ ls) q l = end_is ls q l
end_is ((p, told.Logs clock r v) ∷ ls) q l = end_is ls q l
end_is ((p, told.Ends k clock who) ∷ ls) q l = refl

-- what is told of the lines
pub record TellsOf (g : CProgram) (x : Told) (ls : List (ℕ × told.Line)) : Type 0 where
  pub line : x.line.bytes ≡ last_text g ls
  pub ended : x.ended ≡ first_end ls

pub tells_on : (g : CProgram) (a : Act) (m : Shared) (own : Own) (old new : Told) (ls : List (ℕ × told.Line)) (q : ℕ) → TellsOf g old ls → TellsBy g a old new →
    TellsOf g new (lines_after ls q (acted a m own))
tells_on g (act.Prints l) m own old new ls q is by =
    record {
      line = by.line ∙ sym (last_is g ls (q, line_of l));
      ended = by.ended ∙ ap (λ (o : Option ℕ). ended_by o l) is.ended ∙ sym (end_is ls q l);
    }
tells_on g act.Goes m own old new ls q is by = subst (λ (x : Told). TellsOf g x ls) (sym by) is
tells_on g act.Locks m own old new ls q is by = subst (λ (x : Told). TellsOf g x ls) (sym by) is
tells_on g act.Unlocks m own old new ls q is by = subst (λ (x : Told). TellsOf g x ls) (sym by) is
tells_on g (act.Waits k) m own old new ls q is by = subst (λ (x : Told). TellsOf g x ls) (sym by) is
tells_on g (act.Wakes k) m own old new ls q is by = subst (λ (x : Told). TellsOf g x ls) (sym by) is
tells_on g (act.PutsOwn d v) m own old new ls q is by = subst (λ (x : Told). TellsOf g x ls) (sym by) is
tells_on g (act.PutsCommon d v) m own old new ls q is by = subst (λ (x : Told). TellsOf g x ls) (sym by) is
tells_on g (act.Stores b i z) m own old new ls q is by = subst (λ (x : Told). TellsOf g x ls) (sym by) is
tells_on g act.Retakes m own old new ls q is by = subst (λ (x : Told). TellsOf g x ls) (sym by) is

pub said_same : (a : Act) (m : Shared) (own : Own) → said_of a ≡ said_act (acted a m own)
said_same act.Goes m own = refl
said_same act.Locks m own = refl
said_same act.Unlocks m own = refl
said_same (act.Waits k) m own = refl
said_same (act.Wakes k) m own = refl
said_same (act.PutsOwn d v) m own = refl
said_same (act.PutsCommon d v) m own = refl
said_same (act.Stores a i z) m own = refl
said_same (act.Prints l) m own = refl
said_same act.Retakes m own = refl

-- ---- counts

pub counted_on : (k n : ℕ) → k ≡ counted n → counted (k + 1) ≡ counted (n + 1)
counted_on k n e = omega (arith, e)

-- ---- what changes in the world

module _ (w : world.World Own Shared) (q : ℕ) (own : Own) where
  abbrev next : Act → world.World Own Shared
  next a = world.applied w q (acted a w.shared own)

  owner_as : (a : Act) → (next a).owner ≡ owner_after a q w.owner
  owner_as act.Goes = refl
  owner_as act.Locks = refl
  owner_as act.Unlocks = refl
  owner_as (act.Waits k) = refl
  owner_as (act.Wakes k) = refl
  owner_as (act.PutsOwn d v) = refl
  owner_as (act.PutsCommon d v) = refl
  owner_as (act.Stores a i z) = refl
  owner_as (act.Prints l) = refl
  owner_as act.Retakes = refl

  row_as : (a : Act) → (next a).shared.row ≡ row_after a w.shared.row
  row_as act.Goes = refl
  row_as act.Locks = refl
  row_as act.Unlocks = refl
  row_as (act.Waits k) = refl
  row_as (act.Wakes k) = refl
  row_as (act.PutsOwn d v) = refl
  row_as (act.PutsCommon d v) = refl
  row_as (act.Stores a i z) = refl
  row_as (act.Prints l) = refl
  row_as act.Retakes = refl

  arrays_as : (a : Act) → (next a).shared.arrays ≡ arrays_after a w.shared.arrays
  arrays_as act.Goes = refl
  arrays_as act.Locks = refl
  arrays_as act.Unlocks = refl
  arrays_as (act.Waits k) = refl
  arrays_as (act.Wakes k) = refl
  arrays_as (act.PutsOwn d v) = refl
  arrays_as (act.PutsCommon d v) = refl
  arrays_as (act.Stores a i z) = refl
  arrays_as (act.Prints l) = refl
  arrays_as act.Retakes = refl

  module _ (es : List Entry) (t : Stages) (ths : List Thread) (th : Thread) (stands : slice_get ths q ≡ Some th) (there : List ℤ) (x : Then)
      (all : ThreadsAre es t ths w.threads) where
    abbrev news : Act → List Thread
    news a = replaced ths q (thread_after es there a x)

    put_as : (a : Act) → OwnIs es t (went es there x (with_row a th)) own → ThreadsAre es t (news a) (world.put w.threads q own (status_after a))
    put_as a is =
        let new : Thread = thread_after es there a x th in
        let mine : ThreadIs es t (thread_after es there a x th) (record { own = own; status = status_after a }) =
        record { own = record { row = is.row; stack = is.stack; rooms = is.rooms }; status = refl } in
        subst (λ (o : Option Thread). ThreadsAre es t (replaced_by ths q (thread_after es there a x) o) (world.put w.threads q own (status_after a))) (sym stands)
        (set_both es t ths w.threads q (thread_after es there a x th) (record { own = own; status = status_after a }) mine all)

    threads_as : (a : Act) → OwnIs es t (went es there x (with_row a th)) own → ThreadsAre es t (stirred_after a (news a)) (next a).threads
    threads_as act.Goes is = put_as act.Goes is
    threads_as act.Locks is = put_as act.Locks is
    threads_as act.Unlocks is = put_as act.Unlocks is
    threads_as (act.Waits k) is = put_as (act.Waits k) is
    threads_as (act.Wakes k) is = map_both es t k (news (act.Wakes k)) (world.put w.threads q own status.Ready) (put_as (act.Wakes k) is)
    threads_as (act.PutsOwn d v) is = put_as (act.PutsOwn d v) is
    threads_as (act.PutsCommon d v) is = put_as (act.PutsCommon d v) is
    threads_as (act.Stores a i z) is = put_as (act.Stores a i z) is
    threads_as (act.Prints l) is = put_as (act.Prints l) is
    threads_as act.Retakes is = put_as act.Retakes is

-- ---- machines

-- the shared part, the threads, what was told and how many steps moved are those of a state
pub record Holds (g : CProgram) (es : List Entry) (t : Stages) (n : Machine) (s : CState) : Type 0 where
  pub owner : n.world.owner ≡ s.world.owner
  pub row : n.world.row ≡ s.world.shared.row
  pub arrays : n.world.arrays ≡ s.world.shared.arrays
  pub threads : ThreadsAre es t n.world.threads.items s.world.threads
  pub told : TellsOf g n.told s.lines
  pub moved : n.moved ≡ counted s.moved

module _ (g : CProgram) (m : Machine) (t : Stages) (s : CState) (is : IsAtBy g m t s) where
  abbrev es : List Entry
  es = m.code.functions

  pub world_is : WorldIs m.code t m.world s.world
  world_is = record { owner = is.owner; row = is.row; arrays = is.arrays; threads = is.threads }

  pub told_is : TellsOf g m.told s.lines
  told_is = record { line = is.line; ended = is.ended }

  pub space_on : (there : List ℤ) → length there ≡ length m.world.arguments → HasSpace es there
  space_on there even i e stands = let room = is.space i e stands in omega (arith, room, even)

  -- the same program stands at another state
  pub at_state : (n : Machine) (new : CState) → IsSame m n → length n.world.arguments ≡ length m.world.arguments → Holds g es t n new → IsAtBy g n t new
  at_state n new same even holds =
      record {
        code = subst (λ (c : Code). IsCodeBy g c t) (sym same.code) is.code;
        owner = holds.owner;
        row = holds.row;
        arrays = holds.arrays;
        threads = subst (λ (c : Code). ThreadsAre c.functions t n.world.threads.items new.world.threads) (sym same.code) holds.threads;
        space = subst (λ (c : Code). HasSpace c.functions n.world.arguments) (sym same.code) (space_on n.world.arguments even);
        six = let six = is.six in omega (arith, six, even);
        channels = same.channels ∙ is.channels;
        processes = same.processes ∙ is.processes;
        line = holds.told.line;
        ended = holds.told.ended;
        moved = holds.moved;
      }

  -- nothing happens
  pub kept_at : (n : Machine) → IsKept m n → IsAtBy g n t s
  kept_at n k =
      at_state n s k.same k.world.even
      (
      record {
        owner = k.world.owner ∙ is.owner;
        row = k.world.row ∙ is.row;
        arrays = k.world.arrays ∙ is.arrays;
        threads = subst (λ (ths : List Thread). ThreadsAre es t ths s.world.threads) (sym k.world.threads) is.threads;
        told = subst (λ (x : Told). TellsOf g x s.lines) (sym k.told) told_is;
        moved = k.moved ∙ is.moved;
      }
      )

  -- a step that is taken
  pub taken_at : (q : ℕ) (a : Act) (x : Then) (n : Machine) → Takes es t m.world.arguments s.world.shared m.world.threads.items q a x (world.answer (c_code g) s.world q) →
      IsTaken g q a x m n → IsAtBy g n t (stepped g s (Step q))
  taken_at q a x n takes taken =
      let own = takes.own in
      let all : ThreadsAre es t (stirred_after a (replaced m.world.threads.items q (thread_after es m.world.arguments a x))) (next s.world q own a).threads =
      threads_as s.world q own es t m.world.threads.items takes.thread takes.stands m.world.arguments x is.threads a takes.goes in
      subst (λ (ans : CAnswer). IsAtBy g n t (after s q ans)) (sym takes.is)
      (
      at_state n (did s q (acted a s.world.shared own)) taken.same (ap length taken.world.arguments)
      (
      record {
        owner = taken.world.owner ∙ ap (owner_after a q) is.owner ∙ sym (owner_as s.world q own a);
        row = taken.world.row ∙ ap (row_after a) is.row ∙ sym (row_as s.world q own a);
        arrays = taken.world.arrays ∙ ap (arrays_after a) is.arrays ∙ sym (arrays_as s.world q own a);
        threads = subst (λ (ths : List Thread). ThreadsAre es t ths (next s.world q own a).threads) (sym taken.world.threads) all;
        told = tells_on g a s.world.shared own m.told n.told s.lines q told_is taken.told;
        moved = taken.moved ∙ counted_on m.moved s.moved is.moved;
      }
      )
      )

  pub taken_says : (q : ℕ) (a : Act) (x : Then) → Takes es t m.world.arguments s.world.shared m.world.threads.items q a x (world.answer (c_code g) s.world q) →
      said_of a ≡ step_said g s q
  taken_says q a x takes =
      said_same a s.world.shared takes.own ∙ ap (said_by s.world) (sym takes.is)

  -- what a step comes to
  pub answered_at : (n : Machine) (q : ℕ) (x : Answer) → IsKept m n → AnswersAs m.code m.world q m.channels m.processes n.world.arguments x →
      Answered es t n.world.arguments s.world n.world.threads.items q x (world.answer (c_code g) s.world q)
  answered_at n q x k h =
      subst (λ (ths : List Thread). Answered es t n.world.arguments s.world ths q x (world.answer (c_code g) s.world q)) (sym k.world.threads)
      (
      answered g m.code t is.code m.world s.world world_is q n.world.arguments (space_on n.world.arguments k.world.even)
      (let six = is.six in let even = k.world.even in omega (arith, six, even)) m.channels m.processes is.channels is.processes x h
      )
