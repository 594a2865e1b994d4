-- Turns are pieces of one run, one behind the other; as long as none sets a stop, some process has the next.
use Rattle.std.proofs.Common.{◌≡◌, refl, subst, ℕ, zero, suc, ◌+◌, ◌-◌, Bool, true, false, if◌then◌else◌, List, [], ◌∷◌, ◌++◌, length, slice_get, Option, Some, None, arith}
use Rattle.hc_term.specs.declared.task.Task.{Task}
use Rattle.hc_term.specs.declared.run.Item.{Item}
use Rattle.hc_term.specs.declared.run.Stop.{Stop}
use Rattle.hc_term.specs.declared.model.ProcessState.{ProcessState}
use Rattle.hc_term.specs.declared.model.Configuration.{Configuration}
use Rattle.hc_term.specs.Process.{wants}
use Rattle.hc_term.specs.Step.{opening}
use Rattle.hc_term.specs.Canonical.{wanting_from}
use Rattle.hc_term.specs.Event.{EndsWell}
use Rattle.hc_term.proofs.Wanting.{least-wants}
use Rattle.hc_term.proofs.Pieces.{Piece, no_steps, piece_after}
use Rattle.hc_term.proofs.Clock.{clock_keeps_horizon}
use Rattle.hc_term.proofs.EventRuns.{event_is_run}
use Rattle.hc_term.proofs.Settled.{events_end_quiet, opening_is_quiet}
use Rattle.hc_runs.specs.Turns.{WantsAt, event_behind, no_turn, one_more, Turns}
use Rattle.hc_runs.specs.Laws.{AbleHasLeast, LeastWants, TurnsAreRun, TurnsStop, GoesOn, TurnsGoOn, TurnsKeep}
use Rattle.hc_runs.proofs.Parts.{runs_keep_rules}
use Rattle.hc_runs.proofs.Waking.{events_go_on, opening_goes_on}
use Rattle.hc_runs.proofs.Paired.{posts_are_paired}
use Rattle.hc_runs.proofs.RunsFit.{runs_keep_fractions}

-- ---- the least process that wants a step

abbrev IsSome : Option ℕ → Type 0
IsSome o = (p : ℕ) × (o ≡ Some p)

least_here : (from : ℕ) (later : Option ℕ) (b : Bool) → b ≡ true → IsSome (if b then Some from else later)
least_here from later true h = (from, refl)
least_here from later false h = cc

least_later : (from : ℕ) (later : Option ℕ) (b : Bool) → IsSome later → IsSome (if b then Some from else later)
least_later from later true h = (from, refl)
least_later from later false h = h

able-least : (from : ℕ) (qs : List ProcessState) (p : ℕ) (q : ProcessState) →
    slice_get qs p ≡ Some q → wants q ≡ true → IsSome (wanting_from from qs)
able-least from [] p q at h = cc
able-least from (r ∷ qs) zero q at h =
    let same : q ≡ r = cc in
    let wanting = subst (λ (x : ProcessState). wants x ≡ true) same h in
    least_here from (wanting_from (from + 1) qs) (wants r) wanting
able-least from (r ∷ qs) (suc p) q at h =
    least_later from (wanting_from (from + 1) qs) (wants r) (able-least (from + 1) qs p q at h)

pub able_has_least : AbleHasLeast
able_has_least c able = able-least 0 c.processes able.0 able.1.0 able.1.1 able.1.2

pub least_wants : LeastWants
least_wants c p least =
    let w = least-wants c.processes p least in
    (w.process, w.there, w.wanting)

-- ---- turns as a run

-- the items so far are a run, and the stop, where one was set, holds where it ends
abbrev Runs : Task → List Item → Configuration → Option Stop → Type 0
Runs t = Piece t t.limit (opening t)

turn-runs : (t : Task) (items : List Item) (p : ℕ) (c : Configuration) → Runs t items c None → WantsAt p c →
    let e = event_behind items t p c in Runs t (items ++ e.items) e.end e.stop
turn-runs t items p c k w =
    let room = t.limit - length items in
    let e = event_behind items t p c in
    let is = event_is_run room t p c w.0 w.1 in
    piece_after t t.limit room (opening t) c e.end items e.items e.stop (omega (arith, k.within)) k.leads
    (record { leads = is.0; within = is.1; ends = is.2 })

turns-run : (t : Task) (n : ℕ) (items : List Item) (end : Configuration) (stop : Option Stop) →
    Turns t n items end stop → Runs t items end stop
turns-run t _ _ _ _ no_turn = no_steps t t.limit (opening t) None (omega (arith, t.in_range.0))
turns-run t _ _ _ _ (one_more n items c p before w) = turn-runs t items p c (turns-run t n items c None before) w

pub turns_are_run : TurnsAreRun
turns_are_run t n items end stop turns =
    let k = turns-run t n items end stop turns in
    record { leads = k.leads; within = k.within }

pub turns_stop : TurnsStop
turns_stop t n items end stop turns =
    let k = turns-run t n items end (Some stop) turns in
    record { run = record { leads = k.leads; within = k.within }; stops = k.ends }

pub turns_keep : TurnsKeep
turns_keep t n items end stop turns =
    let leads = (turns-run t n items end stop turns).leads in
    let rules = runs_keep_rules t items end leads in
    record {
      ruled = rules.0;
      in_profile = rules.1;
      paired = posts_are_paired t items end leads;
      in_time = clock_keeps_horizon t items end leads;
      fractions = λ numbers. runs_keep_fractions t items end numbers leads;
    }

-- ---- the next turn

going_by : (t : Task) (n : ℕ) (items : List Item) (end : Configuration) (stop : Option Stop) →
    Turns t n items end stop → stop ≡ None → GoesOn t items end
going_by t _ _ _ _ no_turn f = record {
  quiet = opening_is_quiet t;
  able = (0, opening_goes_on t);
  room = omega (arith, t.in_range.0);
}
going_by t _ _ _ _ (one_more n items c p before w) f =
    let room = t.limit - length items in
    let e = event_behind items t p c in
    let k = turns-run t n items c None before in
    let short = (turn-runs t items p c k w).ends in
    record {
      quiet = events_end_quiet room t p c w.0 w.1 f;
      able = events_go_on room t items p c w.0 k.leads w.1 f;
      room = subst (λ (o : Option Stop). EndsWell t t.limit (length (items ++ e.items)) e.end o) f short;
    }

pub turns_go_on : TurnsGoOn
turns_go_on t n items end turns = going_by t n items end None turns refl
