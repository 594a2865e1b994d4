-- What a step comes to is the answer of the definition.
use Rattle.std.proofs.Common.{◌≡◌, refl, sym, ap, ◌∙◌, subst, ℕ, ◌≤◌, Bool, true, false, List, [], ◌∷◌, length, slice_get, slice_index_or, Option, Some, None}
use Rattle.std.specs.Prelude.{ℤ, if◌then◌else◌, ◌==◌}
use Rattle.hc_rational.specs.Words.{Rational, zero_ℚ, is_zero}
use Rattle.hc_cast.specs.declared.program.CProgram.{CProgram}
use Rattle.hc_ccode.specs.declared.code.Entry.{Entry}
use Rattle.hc_ccode.specs.declared.code.Code.{Code}
use Rattle.hc_ccode.specs.Stages.{Stages, stage, IsCodeBy}
use Rattle.hc_cmach.specs.declared.kind.Kind.{Kind}
use Rattle.hc_cmach.specs.declared.kind.Kind.TheVariants.{ZeroDivisor, NotOwner, LockedTwice, Unlocked}
use Rattle.hc_schedule.specs.declared.status.Status.{Status}
use Rattle.hc_schedule.specs.declared.status.Status.TheVariants as status
use Rattle.hc_schedule.specs.Threads as world
use Rattle.hc_schedule.specs.Threads.{Hold, Free, Mine, Others, hold, seen}
use Rattle.hc_cmach.specs.State.{Frame, Own, Shared, Fault, Certain, Divides, common_row}
use Rattle.hc_cmach.specs.Turn as turn
use Rattle.hc_cmach.specs.Turn.{thread_turn, c_code, kind_of}
use Rattle.hc_cmach.specs.Primitive.{CTurn}
use Rattle.hc_cmach.specs.Machine.{CAnswer}
use Rattle.hc_cprim.specs.Worth.{seen_by}
use Rattle.hc_cprim.specs.Deeds.{Around, IsOf}
use Rattle.hc_cprim.specs.declared.deed.Seat.{Seat}
use Rattle.hc_cexec.specs.declared.thread.Thread.{Thread}
use Rattle.hc_cexec.specs.declared.kernel.World.{World}
use Rattle.hc_cexec.specs.declared.asked.Act.{Act}
use Rattle.hc_cexec.specs.declared.asked.Act.TheVariants as act
use Rattle.hc_cexec.specs.declared.asked.Then.{Then}
use Rattle.hc_cexec.specs.declared.asked.Then.TheVariants as then
use Rattle.hc_cexec.specs.declared.asked.Asked.{Asked}
use Rattle.hc_cexec.specs.declared.asked.Asked.TheVariants as asked
use Rattle.hc_cexec.specs.declared.asked.Answer.{Answer}
use Rattle.hc_cexec.specs.declared.asked.Answer.TheVariants as answer
use Rattle.hc_cexec.specs.Asks.{AsksFrom, AsksFor}
use Rattle.hc_cexec.specs.Goes.{went, went_by, with_row}
use Rattle.hc_cexec.specs.Means.{Means, acted}
use Rattle.hc_cexec.specs.Applied as applied
use Rattle.hc_cexec.specs.Applied.{is_mine, takes, ruled, retaken, settled, kind_by, row_in}
use Rattle.hc_cexec.specs.Answers.{AnswersReady, AnswersBy, AnswersAt, AnswersAs}
use Rattle.hc_cexec.specs.Stands.{StackIs, HasRooms, HasSpace, OwnIs, ThreadsAre}
use Rattle.hc_cexec.proofs.Codes.{node_at}
use Rattle.hc_cexec.proofs.Requests.{frame_as}
use Rattle.hc_cexec.proofs.Worlds.{HasThread, get_some, get_none, row_same}

-- the owner of the mutex sees what is shared
seen_same : (h : Hold) (m : Shared) → seen_by (is_mine h) m ≡ seen h m
seen_same Free m = refl
seen_same Mine m = refl
seen_same Others m = refl

-- ---- what a thread asks for

module _ (g : CProgram) (c : Code) (t : Stages) (code : IsCodeBy g c t) (m : Shared) (q : ℕ) (th : Thread) (there : List ℤ)
    (space : HasSpace c.functions there) (six : 6 ≤ length there) (seat : Seat) (number : seat.thread ≡ q) (common : seat.common.now ≡ m.row)
    (channels : seat.channels ≡ length g.channels) (processes : seat.processes ≡ length g.processes) (x : Asked) where
  of_program : (a : Around) → a.program ≡ g → IsOf seat a
  of_program a e =
      record {
        channels = channels ∙ ap (λ (p : CProgram). length p.channels) (sym e);
        processes = processes ∙ ap (λ (p : CProgram). length p.processes) (sym e);
      }

  frames_ask : (row : List Rational) (fs : List Frame) → th.row ≡ row → seat.row.now ≡ row → StackIs t th.activations th.current fs →
      HasRooms c.functions th.activations → AsksFor c seat m.arrays th there x →
      Means c.functions t there m th x (thread_turn g seat.thread row (seen_by seat.owns m) fs)
  frames_ask row [] same mine stack rooms asks =
      let none : x ≡ asked.Returned = subst (AsksFrom c seat m.arrays th.activations there x) stack asks in
      subst (λ (y : Asked). Means c.functions t there m th y world.Returned) (sym none) refl
  frames_ask row (f ∷ fs) same mine stack rooms asks =
      let top = stack.0 in
      let from = subst (AsksFrom c seat m.arrays th.activations there x) top.is asks in
      let node = node_at g t c.nodes t top.activation.place (stage f.names top.place f.todo) code.agree top.frame.todo in
      frame_as g c t code seat m common of_program there space six th row same mine f fs stack rooms f.todo node.node x node.agrees
      (from top.activation node.node top.stands node.stands)

  pub own_asks : (own : Own) → OwnIs c.functions t th own → seat.row.now ≡ th.row → AsksFor c seat m.arrays th there x →
      Means c.functions t there m th x (thread_turn g q own.row (seen_by seat.owns m) own.frames)
  own_asks own is mine asks =
      subst (λ (n : ℕ). Means c.functions t there m th x (thread_turn g n own.row (seen_by seat.owns m) own.frames)) number
      (frames_ask own.row own.frames is.row (mine ∙ is.row) is.stack is.rooms asks)

-- ---- what comes of it

-- the thread takes the step, and its own part is what it is once it has gone on so
pub record Takes (es : List Entry) (t : Stages) (there : List ℤ) (m : Shared) (ths : List Thread) (q : ℕ) (a : Act) (x : Then) (ans : CAnswer) : Type 0 where
  pub thread : Thread
  pub stands : slice_get ths q ≡ Some thread
  pub own : Own
  pub is : ans ≡ world.Takes (acted a m own)
  pub goes : OwnIs es t (went es there x (with_row a thread)) own

-- the answer is that of the definition
abbrev pub Answered : List Entry → Stages → List ℤ → world.World Own Shared → List Thread → ℕ → Answer → CAnswer → Type 0
Answered es t there w ths q answer.Blocked ans = ans ≡ world.Blocked
Answered es t there w ths q answer.Over ans = ans ≡ world.Over
Answered es t there w ths q (answer.Undefined k) ans = (f : Fault) × (ans ≡ world.Undefined f) × (kind_of w f ≡ k)
Answered es t there w ths q (answer.Takes a x) ans = Takes es t there w.shared ths q a x ans

module _ (g : CProgram) (es : List Entry) (t : Stages) (there : List ℤ) (w : world.World Own Shared) (ths : List Thread) (q : ℕ) (th : Thread)
    (stands : slice_get ths q ≡ Some th) where
  abbrev IsAnswered : Answer → CAnswer → Type 0
  IsAnswered x ans = Answered es t there w ths q x ans

  module _ (a : Act) (x : Then) (own : Own) (goes : OwnIs es t (went es there x (with_row a th)) own) where
    taken : IsAnswered (takes a x) (world.Takes (acted a w.shared own))
    taken = record { thread = th; stands = stands; own = own; is = refl; goes = goes }

    under_as : (h : Hold) (k : Kind) → IsAnswered (applied.under h k (takes a x)) (world.under h (Certain k) (acted a w.shared own))
    under_as Free k = (Certain k, refl, refl)
    under_as Mine k = taken
    under_as Others k = (Certain k, refl, refl)

    locking_as : (h : Hold) → IsAnswered (applied.locking h (takes a x)) (world.locking h (Certain LockedTwice) (acted a w.shared own))
    locking_as Free = taken
    locking_as Mine = (Certain LockedTwice, refl, refl)
    locking_as Others = refl

  ruled_as : (h : Hold) (a : Act) (x : Then) (own : Own) → OwnIs es t (went es there x (with_row a th)) own →
      IsAnswered (ruled h a (takes a x)) (world.allowed (c_code g) h (acted a w.shared own))
  ruled_as h act.Goes x own goes = taken act.Goes x own goes
  ruled_as h (act.PutsOwn d v) x own goes = taken (act.PutsOwn d v) x own goes
  ruled_as h act.Locks x own goes = locking_as act.Locks x own goes h
  ruled_as h act.Unlocks x own goes = under_as act.Unlocks x own goes h NotOwner
  ruled_as h (act.Waits k) x own goes = under_as (act.Waits k) x own goes h NotOwner
  ruled_as h (act.Wakes k) x own goes = under_as (act.Wakes k) x own goes h Unlocked
  ruled_as h (act.PutsCommon d v) x own goes = under_as (act.PutsCommon d v) x own goes h Unlocked
  ruled_as h (act.Stores a i z) x own goes = under_as (act.Stores a i z) x own goes h Unlocked
  ruled_as h (act.Prints l) x own goes = under_as (act.Prints l) x own goes h Unlocked
  ruled_as h act.Retakes x own goes = under_as act.Retakes x own goes h Unlocked

  -- a thread that is ready
  settled_as : (old : World) (h : Hold) (x : Asked) (turn : CTurn) → hold old.owner q ≡ h →
      ((r b : ℕ) (k : Kind) → kind_of w (Divides r b k) ≡ kind_by old r b k) → Means es t there w.shared th x turn →
      IsAnswered (settled old q x) (world.answer_of (c_code g) h turn)
  settled_as old h asked.Returned turn same kinds means = ap (world.answer_of (c_code g) h) means
  settled_as old h (asked.Fails k) turn same kinds means = (Certain k, ap (world.answer_of (c_code g) h) means, refl)
  settled_as old h (asked.Divides r b k) turn same kinds means = (Divides r b k, ap (world.answer_of (c_code g) h) means, kinds r b k)
  settled_as old h (asked.Does a x) turn same kinds means =
      subst (λ (z : Hold). IsAnswered (ruled z a (takes a x)) (world.answer_of (c_code g) h turn)) (sym same)
      (
      subst (λ (u : CTurn). IsAnswered (ruled h a (takes a x)) (world.answer_of (c_code g) h u)) (sym means.is)
      (ruled_as h a x means.own means.goes)
      )

  -- a woken thread
  stays : (c : Option ℕ) → went_by es there then.Stays th c ≡ th
  stays None = refl
  stays (Some i) = refl

  retaken_as : (h : Hold) (own : Own) → OwnIs es t th own → IsAnswered (retaken h) (world.retaking h own)
  retaken_as Free own is =
      record { thread = th; stands = stands; own = own; is = refl; goes = subst (λ (new : Thread). OwnIs es t new own) (sym (stays th.current)) is }
  retaken_as Mine own is = refl
  retaken_as Others own is = refl

-- ---- worlds

-- the world is that of the definition, but for the threads
pub record WorldIs (c : Code) (t : Stages) (old : World) (w : world.World Own Shared) : Type 0 where
  pub owner : old.owner ≡ w.owner
  pub row : old.row ≡ w.shared.row
  pub arrays : old.arrays ≡ w.shared.arrays
  pub threads : ThreadsAre c.functions t old.threads.items w.threads

module _ (g : CProgram) (c : Code) (t : Stages) (code : IsCodeBy g c t) (old : World) (w : world.World Own Shared) (is : WorldIs c t old w) (q : ℕ)
    (there : List ℤ) (space : HasSpace c.functions there) (six : 6 ≤ length there) (channels processes : ℕ)
    (of_channels : channels ≡ length g.channels) (of_processes : processes ≡ length g.processes) (x : Answer) where
  abbrev IsIt : Answer → CAnswer → Type 0
  IsIt y ans = Answered c.functions t there w old.threads.items q y ans

  abbrev held : Hold
  held = hold w.owner q

  held_same : hold old.owner q ≡ held
  held_same = ap (λ (o : Option ℕ). hold o q) is.owner

  row_is : (r : ℕ) → turn.row_of w r ≡ row_in old r
  row_is r = chosen (r == common_row)
    where
      chosen : (b : Bool) → (if b then w.shared.row else turn.row_at (slice_get w.threads r)) ≡ (if b then old.row else applied.row_at (slice_get old.threads.items r))
      chosen true = sym is.row
      chosen false = sym (row_same c.functions t old.threads.items w.threads r is.threads)

  kinds : (r b : ℕ) (k : Kind) → kind_of w (Divides r b k) ≡ kind_by old r b k
  kinds r b k = ap (λ (row : List Rational). if is_zero (slice_index_or row b zero_ℚ) then ZeroDivisor else k) (row_is r)

  module _ (th : Thread) (stands : slice_get old.threads.items q ≡ Some th) (has : HasThread c.functions t w.threads q th) where
    ready_as : AnswersReady c old q channels processes th there x → IsIt x (world.answer_of (c_code g) held (thread_turn g q has.thread.own.row (seen held w.shared) has.thread.own.frames))
    ready_as r =
        let seat = r.asks.seat in
        let seat_is = r.asks.is in
        let asks : AsksFor c seat w.shared.arrays th there r.asked = subst (λ (zs : List (List ℤ)). AsksFor c seat zs th there r.asked) is.arrays r.asks.asks in
        let means = own_asks g c t code w.shared q th there space six seat seat_is.thread (seat_is.common ∙ is.row) (seat_is.channels_are ∙ of_channels)
        (seat_is.processes_are ∙ of_processes) r.asked has.thread.own has.is.own seat_is.row asks in
        let sees : seen_by seat.owns w.shared ≡ seen held w.shared =
        ap (λ (b : Bool). seen_by b w.shared) (seat_is.owns ∙ ap is_mine held_same) ∙ seen_same held w.shared in
        subst (λ (y : Answer). IsIt y (world.answer_of (c_code g) held (thread_turn g q has.thread.own.row (seen held w.shared) has.thread.own.frames))) (sym r.is)
        (
        settled_as g c.functions t there w old.threads.items q th stands old held r.asked
        (thread_turn g q has.thread.own.row (seen held w.shared) has.thread.own.frames) held_same kinds
        (subst (λ (s : Option Shared). Means c.functions t there w.shared th r.asked (thread_turn g q has.thread.own.row s has.thread.own.frames)) sees means)
        )

    by_status : (s : Status) → AnswersBy c old q channels processes th there x s → IsIt x (world.answer_by (c_code g) held w.shared q has.thread.own s)
    by_status status.Ready h = ready_as h
    by_status (status.Waiting k) h = subst (λ (y : Answer). IsIt y world.Blocked) (sym h) refl
    by_status status.Woken h =
        subst (λ (y : Answer). IsIt y (world.retaking held has.thread.own)) (sym (h ∙ ap retaken held_same))
        (retaken_as g c.functions t there w old.threads.items q th stands held has.thread.own has.is.own)

    some_as : AnswersBy c old q channels processes th there x th.status → IsIt x (world.answer (c_code g) w q)
    some_as h =
        subst (λ (o : Option (world.Thread Own)). IsIt x (world.answer_at (c_code g) held w.shared q o)) (sym has.stands)
        (subst (λ (s : Status). IsIt x (world.answer_by (c_code g) held w.shared q has.thread.own s)) has.is.status (by_status th.status h))

  at_thread : (o : Option Thread) → slice_get old.threads.items q ≡ o → AnswersAt c old q channels processes there x o → IsIt x (world.answer (c_code g) w q)
  at_thread None e h =
      let none = get_none c.functions t old.threads.items w.threads q is.threads e in
      subst (λ (o : Option (world.Thread Own)). IsIt x (world.answer_at (c_code g) held w.shared q o)) (sym none)
      (subst (λ (y : Answer). IsIt y world.Over) (sym h) refl)
  at_thread (Some th) e h = some_as th e (get_some c.functions t old.threads.items w.threads q th is.threads e) h

  pub answered : AnswersAs c old q channels processes there x → IsIt x (world.answer (c_code g) w q)
  answered h = at_thread (slice_get old.threads.items q) refl h
