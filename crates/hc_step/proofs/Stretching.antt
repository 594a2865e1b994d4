-- A stretch, step by step, is what the definition has.
use Rattle.std.proofs.Common.{◌≡◌, refl, sym, ap, ◌∙◌, subst, arith, ℕ, zero, suc, ◌+◌, ◌-◌, ◌<◌, ◌≤◌, Bool, true, false, if◌then◌else◌, List, [], ◌∷◌, ◌++◌, length, Option, Some, None, Ok, Err}
use Rattle.std.specs.Prelude.{replicate}
use Rattle.hc_rational.specs.Words.{Rational}
use Rattle.hc_term.specs.declared.run.Unfit.{Unfit}
use Rattle.hc_term.specs.declared.run.StretchEnd.{StretchEnd}
use Rattle.hc_term.specs.declared.run.StretchEnd.TheVariants as ends
use Rattle.hc_term.specs.declared.model.ProcessState.{ProcessState}
use Rattle.hc_term.specs.Process.{is_done}
use Rattle.hc_term.specs.Silent.{Outcome, Idle, Did, silent}
use Rattle.hc_term.specs.Silent as outcome
use Rattle.hc_term.specs.Event.{Progress, idle_end, with_silent, progress_by, spent_by, progress}
use Rattle.hc_code.specs.Stands.{Table}
use Rattle.hc_step.specs.declared.local.Local.{Local}
use Rattle.hc_step.specs.declared.look.Move.{Move}
use Rattle.hc_step.specs.declared.look.Move.TheVariants as move
use Rattle.hc_step.specs.declared.stretch.Stepped.TheVariants.{Took, Logged, Ends}
use Rattle.hc_step.specs.declared.stretch.Stretch.{Stretch}
use Rattle.hc_step.specs.Represents.{Represents, LeadsTo, Sees, logs_by, logs_of, Takes}
use Rattle.hc_step.specs.Stepping.{stepped, Steps, end_before}

-- ---- one step

module _ (t : Table) (clock : Rational) (q : ProcessState) (new : Local) where
  pub steps_taken : (o : Outcome) (m : Move) → Sees t q o (Ok (Some m)) →
      ((next : ProcessState) (logged : Option Rational) → LeadsTo t q m logged next → Represents t clock new next) → Steps t clock q o new (stepped m)
  steps_taken Idle m h f = absurd h
  steps_taken outcome.Unfit m h f = absurd h
  steps_taken (Did None next) (move.Goes place) h f = (refl, f next None h)
  steps_taken (Did None next) (move.Sets x v place) h f = (refl, f next None h)
  steps_taken (Did None next) (move.Picks place) h f = (refl, f next None h)
  steps_taken (Did None next) (move.Logs v place) h f = let e : None ≡ Some v = h.2 in cc
  steps_taken (Did (Some w) next) (move.Goes place) h f = let e : Some w ≡ None = h.2 in cc
  steps_taken (Did (Some w) next) (move.Sets x v place) h f = let e : Some w ≡ None = h.2 in cc
  steps_taken (Did (Some w) next) (move.Picks place) h f = let e : Some w ≡ None = h.2 in cc
  steps_taken (Did (Some w) next) (move.Logs v place) h f =
      let e : Some w ≡ Some v = h.2 in
      let same : v ≡ w = cc in
      (ap Logged same, f next (Some w) h)

  pub steps_idle : (o : Outcome) (e : StretchEnd) → Sees t q o (Ok None) → Represents t clock new q → e ≡ idle_end q → Steps t clock q o new (Ends e)
  steps_idle Idle e h r same = (ap Ends same, r)
  steps_idle outcome.Unfit e h r same = absurd h
  steps_idle (Did logged next) e h r same = absurd h

  pub steps_unfit : (o : Outcome) (u : Unfit) → Sees t q o (Err u) → Represents t clock new q → Steps t clock q o new (Ends ends.Unfit)
  steps_unfit Idle u h r = absurd h
  steps_unfit outcome.Unfit u h r = (refl, r)
  steps_unfit (Did logged next) u h r = absurd h

module _ (t : Table) (q : ProcessState) where
  pub spent_taken : (o : Outcome) (m : Move) → Sees t q o (Ok (Some m)) → ends.Spent ≡ end_before q o
  spent_taken Idle m h = absurd h
  spent_taken outcome.Unfit m h = absurd h
  spent_taken (Did logged next) m h = refl

  pub spent_idle : (o : Outcome) (e : StretchEnd) → Sees t q o (Ok None) → e ≡ idle_end q → e ≡ end_before q o
  spent_idle Idle e h same = same
  spent_idle outcome.Unfit e h same = absurd h
  spent_idle (Did logged next) e h same = absurd h

  pub spent_unfit : (o : Outcome) (u : Unfit) → Sees t q o (Err u) → ends.Unfit ≡ end_before q o
  spent_unfit Idle u h = absurd h
  spent_unfit outcome.Unfit u h = refl
  spent_unfit (Did logged next) u h = absurd h

-- ---- what a step makes of a stretch

-- the steps are counted, and the local stands for the configuration after them
record Counts (t : Table) (clock : Rational) (s : Stretch) (new : Local) (g : Progress) : Type 0 where
  pub counted : s.steps ≡ length g.logs
  pub ended : s.end ≡ g.end
  pub stands : Represents t clock new g.next

with_logs : (t : Table) (clock : Rational) (s : Stretch) (new : Local) (g : Progress) → Counts t clock s new g → g.logs ≡ logs_of s → Takes t clock s new g
with_logs t clock s new g h k = record { counted = h.counted; ended = h.ended; logged = k; stands = h.stands }

idle_logs : (n : ℕ) (done : Bool) → logs_by n (if done then ends.Ended else ends.Waits) ≡ replicate n None
idle_logs n true = refl
idle_logs n false = refl

module _ (t : Table) (clock : Rational) (q : ProcessState) (new : Local) (later : ProcessState → Progress) where
  takes_logged : (o : Outcome) (v : Rational) → Steps t clock q o new (Logged v) →
      Counts t clock (record { steps = 1; end = ends.Logged v }) new (progress_by q later o)
  takes_logged Idle v h = let e : Logged v ≡ Ends (idle_end q) = h.0 in cc
  takes_logged outcome.Unfit v h = let e : Logged v ≡ Ends ends.Unfit = h.0 in cc
  takes_logged (Did None next) v h = let e : Logged v ≡ Took = h.0 in cc
  takes_logged (Did (Some w) next) v h =
      let e : Logged v ≡ Logged w = h.0 in
      let same : v ≡ w = cc in
      record { counted = refl; ended = ap ends.Logged same; stands = h.1 }

  takes_end : (o : Outcome) (e : StretchEnd) → Steps t clock q o new (Ends e) →
      Counts t clock (record { steps = 0; end = e }) new (progress_by q later o)
  takes_end Idle e h =
      let same : e ≡ idle_end q = let k : Ends e ≡ Ends (idle_end q) = h.0 in cc in
      record { counted = refl; ended = same; stands = h.1 }
  takes_end outcome.Unfit e h =
      let same : e ≡ ends.Unfit = let k : Ends e ≡ Ends ends.Unfit = h.0 in cc in
      record { counted = refl; ended = same; stands = h.1 }
  takes_end (Did None next) e h = let k : Ends e ≡ Took = h.0 in cc
  takes_end (Did (Some w) next) e h = let k : Ends e ≡ Logged w = h.0 in cc

  takes_on : (o : Outcome) → Steps t clock q o new Took → (next : ProcessState) × Represents t clock new next × (progress_by q later o ≡ with_silent (later next))
  takes_on Idle h = let e : Took ≡ Ends (idle_end q) = h.0 in cc
  takes_on outcome.Unfit h = let e : Took ≡ Ends ends.Unfit = h.0 in cc
  takes_on (Did None next) h = (next, h.1, refl)
  takes_on (Did (Some w) next) h = let e : Took ≡ Logged w = h.0 in cc

  logs_logged : (o : Outcome) (v : Rational) → Steps t clock q o new (Logged v) → (progress_by q later o).logs ≡ Some v ∷ []
  logs_logged Idle v h = let e : Logged v ≡ Ends (idle_end q) = h.0 in cc
  logs_logged outcome.Unfit v h = let e : Logged v ≡ Ends ends.Unfit = h.0 in cc
  logs_logged (Did None next) v h = let e : Logged v ≡ Took = h.0 in cc
  logs_logged (Did (Some w) next) v h =
      let e : Logged v ≡ Logged w = h.0 in
      let same : w ≡ v = cc in
      ap (λ (x : Rational). Some x ∷ []) same

  logs_end : (o : Outcome) (e : StretchEnd) → Steps t clock q o new (Ends e) → (progress_by q later o).logs ≡ []
  logs_end Idle e h = refl
  logs_end outcome.Unfit e h = refl
  logs_end (Did None next) e h = let k : Ends e ≡ Took = h.0 in cc
  logs_end (Did (Some w) next) e h = let k : Ends e ≡ Logged w = h.0 in cc

  plain_end : (o : Outcome) (e : StretchEnd) (n : ℕ) → Steps t clock q o new (Ends e) → logs_by n e ≡ replicate n None
  plain_end Idle e n h =
      let same : e ≡ idle_end q = let k : Ends e ≡ Ends (idle_end q) = h.0 in cc in
      ap (logs_by n) same ∙ idle_logs n (is_done q.todo)
  plain_end outcome.Unfit e n h =
      let same : e ≡ ends.Unfit = let k : Ends e ≡ Ends ends.Unfit = h.0 in cc in
      ap (logs_by n) same
  plain_end (Did None next) e n h = let k : Ends e ≡ Took = h.0 in cc
  plain_end (Did (Some w) next) e n h = let k : Ends e ≡ Logged w = h.0 in cc

spent_logs : (q : ProcessState) (o : Outcome) → (spent_by q o).logs ≡ []
spent_logs q Idle = refl
spent_logs q outcome.Unfit = refl
spent_logs q (Did logged next) = refl

plain_spent : (q : ProcessState) (o : Outcome) (n : ℕ) → logs_by n (end_before q o) ≡ replicate n None
plain_spent q Idle n = idle_logs n (is_done q.todo)
plain_spent q outcome.Unfit n = refl
plain_spent q (Did logged next) n = refl

takes_spent : (t : Table) (clock : Rational) (q : ProcessState) (l : Local) (o : Outcome) (e : StretchEnd) → Represents t clock l q → e ≡ end_before q o →
    Counts t clock (record { steps = 0; end = e }) l (spent_by q o)
takes_spent t clock q l Idle e r same = record { counted = refl; ended = same; stands = r }
takes_spent t clock q l outcome.Unfit e r same = record { counted = refl; ended = same; stands = r }
takes_spent t clock q l (Did logged next) e r same = record { counted = refl; ended = same; stands = r }

-- ---- many steps

-- so many steps that log nothing, and then the rest
abbrev pub behind : ℕ → Progress → Progress
behind zero g = g
behind (suc n) g = behind n (with_silent g)

takes_behind : (t : Table) (clock : Rational) (new : Local) (end : StretchEnd) (n m : ℕ) (g : Progress) →
    Counts t clock (record { steps = m; end = end }) new g → Counts t clock (record { steps = n + m; end = end }) new (behind n g)
takes_behind t clock new end zero m g h = record { counted = omega (arith, h.counted); ended = h.ended; stands = h.stands }
takes_behind t clock new end (suc n) m g h =
    let k = takes_behind t clock new end n (m + 1) (with_silent g) (record { counted = omega (arith, h.counted); ended = h.ended; stands = h.stands }) in
    record { counted = omega (arith, k.counted); ended = k.ended; stands = k.stands }

one_later : (n : ℕ) (ls : List (Option Rational)) → replicate n None ++ None ∷ ls ≡ None ∷ (replicate n None ++ ls)
one_later zero ls = refl
one_later (suc n) ls = ap (λ l. None ∷ l) (one_later n ls)

logs_behind : (n : ℕ) (g : Progress) → (behind n g).logs ≡ replicate n None ++ g.logs
logs_behind zero g = refl
logs_behind (suc n) g = logs_behind n (with_silent g) ∙ one_later n g.logs

no_more : (n : ℕ) → replicate {A = Option Rational} n None ++ [] ≡ replicate n None
no_more zero = refl
no_more (suc n) = ap (λ l. None ∷ l) (no_more n)

-- after so many of the steps of a stretch, all of which logged nothing, the local stands for a configuration from which the rest goes on
pub record IsUnderWay (t : Table) (clock : Rational) (seed p most done : ℕ) (first : ProcessState) (l : Local) : Type 0 where
  pub now : ProcessState
  pub stands : Represents t clock l now
  pub rest : progress most seed p clock first ≡ behind done (progress (most - done) seed p clock now)

pub under_way : (t : Table) (clock : Rational) (seed p most : ℕ) (q : ProcessState) (l : Local) → Represents t clock l q → IsUnderWay t clock seed p most 0 q l
under_way t clock seed p most q l r =
    let same : most ≡ most - 0 = omega arith in
    record { now = q; stands = r; rest = ap (λ (n : ℕ). progress n seed p clock q) same }

module _ (t : Table) (clock : Rational) (seed p most done : ℕ) (first : ProcessState) (old new : Local) (w : IsUnderWay t clock seed p most done first old) where
  opened : done < most → progress most seed p clock first ≡
      behind done (progress_by w.now (progress (most - (done + 1)) seed p clock) (silent seed p clock w.now))
  opened h =
      let e : most - done ≡ suc (most - (done + 1)) = omega arith in
      w.rest ∙ ap (λ (n : ℕ). behind done (progress n seed p clock w.now)) e

  abbrev later : ProcessState → Progress
  later = progress (most - (done + 1)) seed p clock

  abbrev o : Outcome
  o = silent seed p clock w.now

  pub ends_logged : (v : Rational) (steps : ℕ) → done < most → steps ≡ done + 1 → Steps t clock w.now o new (Logged v) →
      Takes t clock (record { steps = steps; end = ends.Logged v }) new (progress most seed p clock first)
  ends_logged v steps h e s =
      let end : Stretch = record { steps = steps; end = ends.Logged v } in
      let front : done ≡ steps - 1 = omega (arith, e) in
      subst (λ (g : Progress). Takes t clock end new g) (sym (opened h))
      (with_logs t clock end new (behind done (progress_by w.now later o))
      (subst (λ (n : ℕ). Counts t clock (record { steps = n; end = ends.Logged v }) new (behind done (progress_by w.now later o))) (sym e)
      (takes_behind t clock new (ends.Logged v) done 1 (progress_by w.now later o) (takes_logged t clock w.now new later o v s)))
      (logs_behind done (progress_by w.now later o) ∙ ap (λ (ls : List (Option Rational)). replicate done None ++ ls) (logs_logged t clock w.now new later o v s)
      ∙ ap (λ (n : ℕ). replicate n None ++ Some v ∷ []) front))

  pub ends_otherwise : (end : StretchEnd) → done < most → Steps t clock w.now o new (Ends end) →
      Takes t clock (record { steps = done; end = end }) new (progress most seed p clock first)
  ends_otherwise end h s =
      let e : done + 0 ≡ done = omega arith in
      subst (λ (g : Progress). Takes t clock (record { steps = done; end = end }) new g) (sym (opened h))
      (with_logs t clock (record { steps = done; end = end }) new (behind done (progress_by w.now later o))
      (subst (λ (n : ℕ). Counts t clock (record { steps = n; end = end }) new (behind done (progress_by w.now later o))) e
      (takes_behind t clock new end done 0 (progress_by w.now later o) (takes_end t clock w.now new later o end s)))
      (logs_behind done (progress_by w.now later o) ∙ ap (λ (ls : List (Option Rational)). replicate done None ++ ls) (logs_end t clock w.now new later o end s)
      ∙ no_more done ∙ sym (plain_end t clock w.now new later o end done s)))

  pub goes_on : done < most → Steps t clock w.now (silent seed p clock w.now) new Took → IsUnderWay t clock seed p most (done + 1) first new
  goes_on h s =
      let k = takes_on t clock w.now new (progress (most - (done + 1)) seed p clock) (silent seed p clock w.now) s in
      let e : suc done ≡ done + 1 = omega arith in
      record {
        now = k.0;
        stands = k.1;
        rest = opened h ∙ ap (behind done) k.2
            ∙ ap (λ (n : ℕ). behind n (progress (most - (done + 1)) seed p clock k.0)) e;
      }

  pub ends_spent : (end : StretchEnd) → most ≤ done → done ≤ most → end ≡ end_before w.now o →
      Takes t clock (record { steps = most; end = end }) old (progress most seed p clock first)
  ends_spent end h k s =
      let none : most - done ≡ 0 = omega (arith, h) in
      let all : done + 0 ≡ most = omega (arith, h, k) in
      let same : done ≡ most = omega (arith, h, k) in
      let rest = w.rest ∙ ap (λ (n : ℕ). behind done (progress n seed p clock w.now)) none in
      subst (λ (g : Progress). Takes t clock (record { steps = most; end = end }) old g) (sym rest)
      (with_logs t clock (record { steps = most; end = end }) old (behind done (spent_by w.now o))
      (subst (λ (n : ℕ). Counts t clock (record { steps = n; end = end }) old (behind done (spent_by w.now o))) all
      (takes_behind t clock old end done 0 (spent_by w.now o) (takes_spent t clock w.now old o end w.stands s)))
      (logs_behind done (spent_by w.now o) ∙ ap (λ (ls : List (Option Rational)). replicate done None ++ ls) (spent_logs w.now o)
      ∙ no_more done ∙ ap (λ (n : ℕ). replicate n None) same ∙ sym (ap (logs_by most) s ∙ plain_spent w.now o most)))
