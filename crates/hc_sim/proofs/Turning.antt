-- Turns of the least process, one after the other, from the opening on; and that their lines begin the canonical text.
use Rattle.std.proofs.Common.{◌≡◌, ◌≢◌, ◌⊎◌, ◌<◌, inl, inr, refl, sym, ap, subst, ◌∙◌, ℕ, ◌+◌, ◌-◌, List, [], ◌∷◌, ◌++◌, length, take, drop, append_assoc, Option, Some, None, Bool, true, false, Result, Ok, Err}
use Rattle.std.proofs.Math.Seq.{drop-append_seam}
use Rattle.std.proofs.lemmas.List.{append-nil, take_rest}
use Rattle.hc_rational.specs.Words.{Rational}
use Rattle.hc_term.specs.declared.system.System.{System}
use Rattle.hc_term.specs.declared.task.Task.{Task}
use Rattle.hc_term.specs.declared.run.Item.{Item}
use Rattle.hc_term.specs.declared.run.Stop.{Stop}
use Rattle.hc_term.specs.declared.model.Configuration.{Configuration}
use Rattle.hc_term.specs.Canonical.{Course, canonical}
use Rattle.hc_term.specs.TraceText.{line_of_step, lines, text, header, end_line}
use Rattle.hc_world.specs.States.{SinkState}
use Rattle.hc_world.specs.Sinks.{IsCut}
use Rattle.hc_world.specs.Pieces.{IsBegun, IsUnderWay, PutsPiece}
use Rattle.hc_world.proofs.PieceLemmas.{begun_more, begun_whole, cut_at_piece, under_way_start}
use Rattle.hc_runs.specs.Turns.{LeastTurns, one_more, no_turn, event_behind}
use Rattle.hc_runs.proofs.Turning.{turns_are_run}
use Rattle.hc_runs.proofs.LeastTurns.{least_turns_are_turns, least_turns_begin, least_turns_are_canonical}
use Rattle.hc_trace.specs.InRange.{AreInRange, StopInRange}
use Rattle.hc_trace.proofs.RangeLemmas.{behaviours_are_in_range, runs_are_in_range}
use Rattle.hc_joint.specs.Seen.{Seen}
use Rattle.hc_joint.specs.Keeps.{IsReached, Keeps, opened, HasTurn, GoesForward, HasCourse}
use Rattle.hc_joint.proofs.Once.{reached_once}
use Rattle.hc_joint.proofs.Finishing.{left, turn_falls}
use Rattle.hc_sim.specs.Told.{canonical_text, history_text, text_at, BeginsCanonical, IsToldUpTo, IsCutShort, TellsTurn}

-- ---- the turns

-- the history is made of turns of the least process
pub record OnCourse (s : Seen) : Type 0 where
  pub reached : Configuration
  pub is_reached : IsReached s reached
  pub least : LeastTurns s.task s.turns s.history reached s.stop

opened_on_course : (t : Task) → OnCourse (opened t)
opened_on_course t = record { reached = _; is_reached = record { leads = refl; clock = refl }; least = no_turn }

pub untouched_on_course : (s : Seen) → s ≡ opened s.task → OnCourse s
untouched_on_course s e = subst OnCourse (sym e) (opened_on_course s.task)

pub turn_on_course : (s new : Seen) → s.stop ≡ None → OnCourse s → HasTurn s new → OnCourse new
turn_on_course s new going o h =
    let same : h.before ≡ o.reached = reached_once s.task s.history h.before o.reached h.is_reached.leads o.is_reached.leads in
    let before : LeastTurns s.task s.turns s.history h.before None =
    subst (λ (c : Configuration). LeastTurns s.task s.turns s.history c None) (sym same)
    (subst (λ (stop : Option Stop). LeastTurns s.task s.turns s.history o.reached stop) going o.least) in
    let e = event_behind s.history s.task h.process h.before in
    let after : LeastTurns s.task (s.turns + 1) (s.history ++ e.items) e.end e.stop = one_more s.turns s.history h.before h.process before h.least in
    let run = turns_are_run s.task (s.turns + 1) (s.history ++ e.items) e.end e.stop (least_turns_are_turns s.task (s.turns + 1) (s.history ++ e.items) e.end e.stop after) in
    subst OnCourse (sym h.after) (record {
      reached = e.end;
      is_reached = record { leads = run.leads; clock = refl };
      least = after;
    })

-- ---- what they are of the canonical run

begins_by : (t : Task) (n : ℕ) (items : List Item) (end : Configuration) (stop : Option Stop) → LeastTurns t n items end stop →
    (rest : List Item) × ((canonical t).items ≡ items ++ rest)
begins_by t n items end None least = (_, ap (λ (k : Course). k.items) (least_turns_begin t n items end least))
begins_by t n items end (Some stop) least = ([], ap (λ (k : Course). k.items) (least_turns_are_canonical t n items end stop least) ∙ sym (append-nil items))

-- the canonical run begins with them
pub begins : (s : Seen) → OnCourse s → BeginsCanonical s
begins s o = begins_by s.task s.turns s.history o.reached s.stop o.least

lines_both : (sys : System) (xs ys : List Item) → lines sys (xs ++ ys) ≡ lines sys xs ++ lines sys ys
lines_both sys [] ys = refl
lines_both sys (x ∷ xs) ys =
    let line = line_of_step sys x.at x.step in
    ap (λ bytes. line ++ bytes) (lines_both sys xs ys) ∙ sym (append_assoc line (lines sys xs) (lines sys ys))

-- more lines behind a text
text_more : (sys : System) (xs ys : List Item) → text sys (xs ++ ys) ≡ text sys xs ++ lines sys ys
text_more sys xs ys = ap (λ bytes. header ++ bytes) (lines_both sys xs ys) ∙ sym (append_assoc header (lines sys xs) (lines sys ys))

-- the canonical text begins with that of the history
text_begins : (s : Seen) → OnCourse s → (rest : List ℕ) × (canonical_text s.task ≡ text s.task.system s.history ++ rest)
text_begins s o =
    let sys = s.task.system in
    let run = canonical s.task in
    let end = end_line sys run.end.clock run.stop in
    let b = begins s o in (
      lines sys b.0 ++ end,
      ap (λ (items : List Item). text sys items ++ end) b.1 ∙ ap (λ bytes. bytes ++ end) (text_more sys s.history b.0)
          ∙ append_assoc (text sys s.history) (lines sys b.0) end,
    )

-- where a stop stands they are the canonical run
pub stopped_course : (s : Seen) (stop : Stop) → s.stop ≡ Some stop → (o : OnCourse s) →
    canonical s.task ≡ record { items = s.history; end = o.reached; stop = stop }
stopped_course s stop e o =
    least_turns_are_canonical s.task s.turns s.history o.reached stop
    (subst (λ (set : Option Stop). LeastTurns s.task s.turns s.history o.reached set) e o.least)

pub has_course : (s : Seen) (stop : Stop) → s.stop ≡ Some stop → OnCourse s → HasCourse s (canonical s.task)
has_course s stop e o =
    subst (λ (k : Course). HasCourse s k) (sym (stopped_course s stop e o)) (record { items = refl; clock = o.is_reached.clock; stop = e })

-- and its text is that of the history with the stop
stopped_text : (s : Seen) (stop : Stop) → s.stop ≡ Some stop → OnCourse s →
    canonical_text s.task ≡ text s.task.system s.history ++ end_line s.task.system s.clock stop
stopped_text s stop e o =
    let sys = s.task.system in
    ap (λ (k : Course). text sys k.items ++ end_line sys k.end.clock k.stop) (stopped_course s stop e o)
    ∙ ap (λ clock. text sys s.history ++ end_line sys clock stop) (sym o.is_reached.clock)

-- ---- a turn, as `forward` answers it

-- what a turn is that was taken, and one that wasn't, as a stop stands
pub taken : (s new : Seen) → GoesForward s.stop s new true → (s.stop ≡ None) × HasTurn s new
taken s new g = by s.stop refl g
  where
    by : (o : Option Stop) → s.stop ≡ o → GoesForward o s new true → (s.stop ≡ None) × HasTurn s new
    by (Some stop) is h = absurd (let wrong : true ≡ false = h.0 in cc)
    by None is h = (is, h.1)

pub refused : (s new : Seen) → GoesForward s.stop s new false → (stop : Stop) × (s.stop ≡ Some stop) × (new ≡ s)
refused s new g = by s.stop refl g
  where
    by : (o : Option Stop) → s.stop ≡ o → GoesForward o s new false → (stop : Stop) × (s.stop ≡ Some stop) × (new ≡ s)
    by (Some stop) is h = (stop, is, h.1)
    by None is h = absurd (let wrong : false ≡ true = h.0 in cc)

pub task_stays : (s new : Seen) → HasTurn s new → new.task ≡ s.task
task_stays s new h = ap (λ (x : Seen). x.task) h.after

-- what a stop names
pub stop_named : (s : Seen) → Keeps s → (stop : Stop) → s.stop ≡ Some stop → StopInRange s.task.system stop
stop_named s k stop e = (behaviours_are_in_range s.task s.history k.reached stop (k.stops stop e)).1

-- ---- the items of a turn

-- what is behind the old history in the new one
turn_items : (s new : Seen) → HasTurn s new → (more : List Item) × (new.history ≡ s.history ++ more)
turn_items s new h = (_, ap (λ (x : Seen). x.history) h.after)

behind_all : (xs ys zs : List Item) → zs ≡ xs ++ ys → take (length zs - length xs) (drop (length xs) zs) ≡ ys
behind_all xs ys zs is =
    take_rest zs (length xs) ∙ ap (λ (js : List Item). drop (length xs) js) is ∙ drop-append_seam xs ys

-- the items of a turn are those behind the ones that were there before it
pub turn_slice : (s new : Seen) (told shown : List Item) → told ≡ s.history → shown ≡ new.history → HasTurn s new →
    new.history ≡ s.history ++ take (length shown - length told) (drop (length told) shown)
turn_slice s new told shown before now h =
    let m = turn_items s new h in
    m.1 ∙ ap (λ (js : List Item). s.history ++ js) (sym (behind_all told m.0 shown (now ∙ m.1 ∙ ap (λ (js : List Item). js ++ m.0) (sym before))))

range_behind : (sys : System) (xs ys : List Item) → AreInRange sys (xs ++ ys) → AreInRange sys ys
range_behind sys [] ys all = all
range_behind sys (x ∷ xs) ys all = range_behind sys xs ys all.1

pub slice_in_range : (s new : Seen) (told shown : List Item) → told ≡ s.history → shown ≡ new.history → HasTurn s new → Keeps new →
    AreInRange new.task.system (take (length shown - length told) (drop (length told) shown))
slice_in_range s new told shown before now h k =
    let all = runs_are_in_range new.task new.history k.reached k.is_reached.leads in
    range_behind new.task.system s.history _
    (subst (λ (js : List Item). AreInRange new.task.system js) (turn_slice s new told shown before now h) all)

-- ---- with the text on the sink

module _ {O : Type 0} (state : O → SinkState) (before : O) where
  -- the lines of all turns so far stand, and those of all turns but the last stood before it
  pub record IsAlong (now : O) (s : Seen) : Type 0 where
    pub course : OnCourse s
    pub stop_in_range : (stop : Stop) → s.stop ≡ Some stop → StopInRange s.task.system stop
    pub begun : IsBegun state before now (text s.task.system s.history)
    pub told : (s ≡ opened s.task) ⊎ IsToldUpTo state before s

  pub along_from : (now : O) (s : Seen) → s ≡ opened s.task → IsBegun state before now (text s.task.system s.history) → IsAlong now s
  along_from now s e b = record {
    course = untouched_on_course s e;
    stop_in_range = λ stop is. absurd (none stop (sym (ap (λ (x : Seen). x.stop) e) ∙ is));
    begun = b;
    told = inl e;
  }
    where
      none : (stop : Stop) → (let n : Option Stop = None in n) ≡ Some stop → ⊥
      none stop never = cc

  told_before : (s new : Seen) → HasTurn s new → (now : O) → IsBegun state before now (text s.task.system s.history) → IsToldUpTo state before new
  told_before s new h now b = record {
    old = s;
    last = h;
    sink = now;
    stands = subst (λ (t : Task). IsBegun state before now (text t.system s.history)) (sym (task_stays s new h)) b;
  }

  -- the text of the history, and that of the turn that follows it
  longer : (s new : Seen) (more : List Item) → HasTurn s new → new.history ≡ s.history ++ more →
      text new.task.system new.history ≡ text s.task.system s.history ++ lines s.task.system more
  longer s new more h is =
      ap (λ (t : Task). text t.system new.history) (task_stays s new h) ∙ ap (text s.task.system) is ∙ text_more s.task.system s.history more

  -- with the lines of one turn more
  after_turn : (now after : O) (s new : Seen) (more : List Item) → IsAlong now s → s.stop ≡ None → HasTurn s new → Keeps new →
      new.history ≡ s.history ++ more → IsBegun state now after (lines s.task.system more) → IsAlong after new
  after_turn now after s new more a going h k is b = record {
    course = turn_on_course s new going a.course h;
    stop_in_range = stop_named new k;
    begun = subst (λ bytes. IsBegun state before after bytes) (sym (longer s new more h is)) (begun_more a.begun b);
    told = inr (told_before s new h now a.begun);
  }

  pub along_turn : {E : Type 0} (now after : O) (s new : Seen) (r : Result Bool E) → r ≡ Ok true →
      IsAlong now s → TellsTurn state now after s new r → IsAlong after new
  along_turn {E} now after s new r e a t =
      let u : TellsTurn state now after s new (let x : Result Bool E = Ok true in x) = subst (TellsTurn state now after s new) e t in
      let h = taken s new u.goes in
      after_turn now after s new u.more a h.0 h.1 u.keeps u.history u.puts

  -- a turn that falls
  pub turn_ends : {E : Type 0} (now after : O) (s new : Seen) (r : Result Bool E) → r ≡ Ok true → TellsTurn state now after s new r → left new < left s
  turn_ends {E} now after s new r e t =
      let u : TellsTurn state now after s new (let x : Result Bool E = Ok true in x) = subst (TellsTurn state now after s new) e t in
      let h = taken s new u.goes in turn_falls s new u.kept h.0 h.1

  pub turn_keeps : {E : Type 0} (now after : O) (s new : Seen) (r : Result Bool E) → TellsTurn state now after s new r → new.task ≡ s.task
  turn_keeps now after s new (Ok true) t = task_stays s new (taken s new t.goes).1
  turn_keeps now after s new (Ok false) t = ap (λ (x : Seen). x.task) (refused s new t.goes).2
  turn_keeps now after s new (Err e) t = task_stays s new (taken s new t.goes).1

  -- the text is cut in the lines of a turn
  pub cut_in_turn : {E : Type 0} (now after : O) (s new : Seen) (r : Result Bool E) (x : E) → r ≡ Err x → IsAlong now s →
      TellsTurn state now after s new r → IsCut state before after (canonical_text s.task) × IsCutShort state before new
  cut_in_turn {E} now after s new r x e a t =
      let u : TellsTurn state now after s new (let y : Result Bool E = Err x in y) = subst (TellsTurn state now after s new) e t in
      let h = taken s new u.goes in
      let sys = s.task.system in
      let course = turn_on_course s new h.0 a.course h.1 in
      let b = text_begins new course in
      let split : canonical_text s.task ≡ text sys s.history ++ (lines sys u.more ++ b.0) =
      ap canonical_text (sym (task_stays s new h.1)) ∙ b.1 ∙ ap (λ bytes. bytes ++ b.0) (longer s new u.more h.1 u.history)
      ∙ append_assoc (text sys s.history) (lines sys u.more) b.0 in
      let under : IsUnderWay state before now (canonical_text s.task) (lines sys u.more ++ b.0) =
      record { done = text sys s.history; split = split; begun = a.begun } in (
        cut_at_piece b.0 refl under u.puts,
        record { begins = begins new course; told = inr (told_before s new h.1 now a.begun) },
      )

  -- the text is cut before the first turn
  pub cut_in_text : (now : O) (s : Seen) → s ≡ opened s.task → IsCut state before now (text s.task.system s.history) →
      IsCut state before now (canonical_text s.task)
  cut_in_text now s e cut =
      let b = text_begins s (untouched_on_course s e) in
      cut_at_piece b.0 b.1 (under_way_start state before (canonical_text s.task)) cut

  pub cut_at_start : (s : Seen) → s ≡ opened s.task → IsCutShort state before s
  cut_at_start s e = record { begins = begins s (untouched_on_course s e); told = inl e }

  -- where this stop stands, and the end line is what is left
  pub record IsAtEnd (now : O) (s : Seen) (stop : Stop) : Type 0 where
    pub in_range : StopInRange s.task.system stop
    pub course : HasCourse s (canonical s.task)
    pub ends : (canonical s.task).stop ≡ stop
    pub rest : IsUnderWay state before now (canonical_text s.task) (end_line s.task.system s.clock stop)

  pub along_end : {E : Type 0} (now after : O) (s new : Seen) (r : Result Bool E) (stop : Stop) → r ≡ Ok false → new.stop ≡ Some stop →
      IsAlong now s → TellsTurn state now after s new r → IsAtEnd after new stop
  along_end {E} now after s new r stop e is a t =
      let u : TellsTurn state now after s new (let x : Result Bool E = Ok false in x) = subst (TellsTurn state now after s new) e t in
      let h = refused s new u.goes in
      let stands : s.stop ≡ Some stop = ap (λ (x : Seen). x.stop) (sym h.2) ∙ is in
      let same : text s.task.system s.history ++ lines s.task.system u.more ≡ text s.task.system s.history =
      sym (text_more s.task.system s.history u.more) ∙ ap (text s.task.system) (sym u.history ∙ ap (λ (x : Seen). x.history) h.2) in
      let begun = subst (λ bytes. IsBegun state before after bytes) same (begun_more a.begun u.puts) in
      subst (λ (x : Seen). IsAtEnd after x stop) (sym h.2) (record {
        in_range = a.stop_in_range stop stands;
        course = has_course s stop stands a.course;
        ends = ap (λ (k : Course). k.stop) (stopped_course s stop stands a.course);
        rest = record { done = text s.task.system s.history; split = stopped_text s stop stands a.course; begun = begun };
      })

  some_canonical : (t : Task) → canonical_text t ≢ []
  some_canonical t none = absurd cc

  -- what the end line does to a text that is under way
  pub end_there : (now : O) (s : Seen) (stop : Stop) → IsAtEnd now s stop → (t u : Task) (clock : Rational) → s.task ≡ t → u ≡ s.task → clock ≡ s.clock →
      (canonical_text t ≢ []) × IsUnderWay state before now (canonical_text t) (end_line u.system clock stop)
  end_there now s stop at t u clock of is moment =
      let rest = subst (λ (x : Task). IsUnderWay state before now (canonical_text x) (end_line s.task.system s.clock stop)) of at.rest in
      let system = subst (λ (x : Task). IsUnderWay state before now (canonical_text t) (end_line x.system s.clock stop)) (sym is) rest in
      (some_canonical t, subst (λ (q : Rational). IsUnderWay state before now (canonical_text t) (end_line u.system q stop)) (sym moment) system)

  pub ended_along : {E : Type 0} (now after : O) (s new : Seen) (r : Result Bool E) → r ≡ Ok false → IsAlong now s →
      TellsTurn state now after s new r → IsCutShort state before new
  ended_along {E} now after s new r e a t =
      let u : TellsTurn state now after s new (let x : Result Bool E = Ok false in x) = subst (TellsTurn state now after s new) e t in
      subst (λ (x : Seen). IsCutShort state before x) (sym (refused s new u.goes).2) (record { begins = begins s a.course; told = a.told })

  -- ---- a turn, told

  pub tells_nothing : {E : Type 0} (s new : Seen) → Keeps s → GoesForward s.stop s new false →
      TellsTurn state before before s new (let r : Result Bool E = Ok false in r)
  tells_nothing s new k g =
      let h = refused s new g in record {
        more = [];
        history = ap (λ (x : Seen). x.history) h.2 ∙ sym (append-nil s.history);
        kept = k;
        keeps = subst Keeps (sym h.2) k;
        goes = g;
        puts = begun_whole (under_way_start state before []);
      }

  -- the lines of the items behind the ones that were there stand, or a first part of them
  pub tells_turn : {E : Type 0} (after : O) (s new : Seen) (told shown : List Item) (t : Task) → t ≡ new.task → told ≡ s.history → shown ≡ new.history →
      Keeps s → Keeps new → GoesForward s.stop s new true →
      IsBegun state before after (lines t.system (take (length shown - length told) (drop (length told) shown))) →
      TellsTurn state before after s new (let r : Result Bool E = Ok true in r)
  tells_turn after s new told shown t same was now k l g b =
      let h = (taken s new g).1 in
      let slice = take (length shown - length told) (drop (length told) shown) in record {
        more = slice;
        history = turn_slice s new told shown was now h;
        kept = k;
        keeps = l;
        goes = g;
        puts = subst (λ (u : Task). IsBegun state before after (lines u.system slice)) (same ∙ task_stays s new h) b;
      }

  pub cuts_turn : {E : Type 0} (after : O) (s new : Seen) (told shown : List Item) (t : Task) (x : E) → t ≡ new.task → told ≡ s.history → shown ≡ new.history →
      Keeps s → Keeps new → GoesForward s.stop s new true →
      IsCut state before after (lines t.system (take (length shown - length told) (drop (length told) shown))) →
      TellsTurn state before after s new (let r : Result Bool E = Err x in r)
  cuts_turn after s new told shown t x same was now k l g b =
      let h = (taken s new g).1 in
      let slice = take (length shown - length told) (drop (length told) shown) in record {
        more = slice;
        history = turn_slice s new told shown was now h;
        kept = k;
        keeps = l;
        goes = g;
        puts = subst (λ (u : Task). IsCut state before after (lines u.system slice)) (same ∙ task_stays s new h) b;
      }

  -- ---- the text of a history

  told_text : (s : Seen) (stop : Stop) → s.stop ≡ Some stop → history_text s ≡ text s.task.system s.history ++ end_line s.task.system s.clock stop
  told_text s stop e = ap (λ (o : Option Stop). text_at o s) e

  pub some_text : (s : Seen) (stop : Stop) → s.stop ≡ Some stop → history_text s ≢ []
  some_text s stop e none = absurd (let wrong : text s.task.system s.history ++ end_line s.task.system s.clock stop ≡ [] = sym (told_text s stop e) ∙ none in cc)

  pub cut_in_history : (now : O) (s : Seen) (stop : Stop) → s.stop ≡ Some stop → IsCut state before now (text s.task.system s.history) →
      IsCut state before now (history_text s)
  cut_in_history now s stop e cut = cut_at_piece _ (told_text s stop e) (under_way_start state before (history_text s)) cut

  pub end_is_left : (now : O) (s : Seen) (stop : Stop) → s.stop ≡ Some stop → IsBegun state before now (text s.task.system s.history) →
      IsUnderWay state before now (history_text s) (end_line s.task.system s.clock stop)
  end_is_left now s stop e b = record { done = text s.task.system s.history; split = told_text s stop e; begun = b }

  -- the header, and behind it the lines of the steps
  pub cut_in_header : (now : O) (sys : System) (items : List Item) → IsCut state before now header → IsCut state before now (text sys items)
  cut_in_header now sys items cut = cut_at_piece (lines sys items) refl (under_way_start state before (text sys items)) cut

  pub lines_follow : {T E : Type 0} (now after : O) (sys : System) (items : List Item) (r : Result T E) → IsBegun state before now header →
      PutsPiece state now after r (lines sys items) → PutsPiece state before after r (text sys items)
  lines_follow now after sys items (Ok x) b puts = begun_more b puts
  lines_follow now after sys items (Err e) b puts =
      cut_at_piece [] (sym (append-nil (lines sys items))) (record { done = header; split = refl; begun = b }) puts
