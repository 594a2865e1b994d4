-- The processes and channels that steps and stops name belong to the system, for no step changes the number of processes.
use Rattle.std.proofs.Common.{◌≡◌, ◌≢◌, ℕ, zero, suc, ◌<◌, List, [], ◌∷◌, ◌++◌, length, get_or, Option, Some, None, inl, inr, refl, sym, ap, subst, ◌∙◌, arith}
use Rattle.std.specs.Prelude.{slice_get, IsTrue}
use Rattle.std.proofs.lemmas.List.{length-map, length-set}
use Rattle.std.proofs.lemmas.Option.{slice_get_within}
use Rattle.hc_rational.specs.Words.{Rational}
use Rattle.hc_term.specs.declared.system.System.{System}
use Rattle.hc_term.specs.declared.task.Task.{Task}
use Rattle.hc_term.specs.declared.run.Step.{Step}
use Rattle.hc_term.specs.declared.run.Step.TheVariants.{Silent, Comm, Delay}
use Rattle.hc_term.specs.declared.run.Item.{Item}
use Rattle.hc_term.specs.declared.run.Stop.{Stop}
use Rattle.hc_term.specs.declared.run.Stop.TheVariants.{Terminated, Deadlock, Horizon, Limit, Overflow}
use Rattle.hc_term.specs.declared.model.ProcessState.{ProcessState}
use Rattle.hc_term.specs.declared.model.Meeting.{Meeting}
use Rattle.hc_term.specs.declared.model.Configuration.{Configuration}
use Rattle.hc_term.specs.Silent.{Outcome, Idle, Unfit, Did}
use Rattle.hc_term.specs.Step.{Leads, Meets, StepTo, opening, opening_of, silent_by, silent_of, changed, replaced, met, delayed}
use Rattle.hc_term.specs.Communication.{sent, received, moved}
use Rattle.hc_term.specs.Ends.{is_joining, ends_of}
use Rattle.hc_term.specs.Stop.{Stops, StopsAt}
use Rattle.hc_term.specs.Canonical.{canonical}
use Rattle.hc_term.proofs.Pieces.{leads_on}
use Rattle.hc_term.proofs.Reached.{meetings_join_ends}
use Rattle.hc_term.proofs.Turns.{canonical_is_behaviour}
use Rattle.hc_trace.specs.InRange.{StepInRange, AreInRange, StopInRange}
use Rattle.hc_trace.specs.Laws.{RunsAreInRange, BehavioursAreInRange, CanonicalIsInRange}

-- a configuration has a state for each process of the task's system
abbrev pub HasAll : Task → Configuration → Type 0
HasAll t c = length c.processes ≡ length t.system.processes

-- ---- no step changes the number of processes

length-changed : (f : ProcessState → ProcessState) (p : ℕ) (qs : List ProcessState) → length (changed f p qs) ≡ length qs
length-changed f p [] = refl
length-changed f zero (q ∷ qs) = refl
length-changed f (suc p) (q ∷ qs) = ap (λ n. suc n) (length-changed f p qs)

opening_has_all : (t : Task) → HasAll t (opening t)
opening_has_all t = length-map t.system.processes opening_of

replaced_has_all : (t : Task) (c : Configuration) (p : ℕ) (q : ProcessState) → HasAll t c → HasAll t (replaced c p q)
replaced_has_all t c p q h = length-set c.processes p q ∙ h

met_has_all : (t : Task) (c : Configuration) (m : Meeting) → HasAll t c → HasAll t (met m c)
met_has_all t c m h =
    length-changed (sent m.channel) m.sender (changed (received m.channel m.value) m.receiver c.processes)
    ∙ length-changed (received m.channel m.value) m.receiver c.processes ∙ h

delayed_has_all : (t : Task) (c : Configuration) (d : Rational) → HasAll t c → HasAll t (delayed d c)
delayed_has_all t c d h = length-map c.processes (moved d) ∙ h

-- ---- the process of a silent step

found_by : (t : Task) (clock : Rational) (p : ℕ) (q : Option ProcessState) → silent_by t clock p q ≢ Idle
    → (state : ProcessState) × (q ≡ Some state)
found_by t clock p None some = absurd (some refl)
found_by t clock p (Some state) some = (state, refl)

-- a process that isn't idle is one of the system
busy_in_range : (t : Task) (c : Configuration) (p : ℕ) → HasAll t c → silent_of t c p ≢ Idle → p < length t.system.processes
busy_in_range t c p h some =
    let found = found_by t c.clock p (slice_get c.processes p) some in
    rw (← h) (slice_get_within c.processes p found.0 found.1)

did_some : (o : Outcome) (logged : Option Rational) (q : ProcessState) → o ≡ Did logged q → o ≢ Idle
did_some o logged q e none = cc

unfit_some : (o : Outcome) → o ≡ Unfit → o ≢ Idle
unfit_some o e none = cc

-- ---- runs

-- both ends of the channel of a communication are used
joins_ends : (t : Task) (before : List Item) (c : Configuration) (m : Meeting) → Leads t (opening t) before c
    → m.channel < length t.system.channels → Meets m c → IsTrue (is_joining (ends_of t.system m.channel))
joins_ends t before c m reached within meets = ap is_joining (meetings_join_ends t before c m reached within meets)

step_in_range : (t : Task) (before : List Item) (c : Configuration) (step : Step) (new : Configuration)
    → Leads t (opening t) before c → HasAll t c → StepTo t c step new → StepInRange t.system step × HasAll t new
step_in_range t before c (Silent p logged) new reached h (q, did, is) =
    (busy_in_range t c p h (did_some (silent_of t c p) logged q did), rw is (replaced_has_all t c p q h))
step_in_range t before c (Comm channel value) new reached h (m, is_channel, is_value, within, meets, is) =
    let own = subst (λ (i : ℕ). i < length t.system.channels) (sym is_channel) within in
    let joins = subst (λ (i : ℕ). IsTrue (is_joining (ends_of t.system i))) is_channel (joins_ends t before c m reached own meets) in
    ((within, joins), rw is (met_has_all t c m h))
step_in_range t before c (Delay d) new reached h (took, is) = (tt, rw is (delayed_has_all t c d h))

-- steps from a configuration that is reached are in range, and lead to one with all processes
leads_in_range : (t : Task) (before : List Item) (c : Configuration) (items : List Item) (new : Configuration)
    → Leads t (opening t) before c → HasAll t c → Leads t c items new → AreInRange t.system items × HasAll t new
leads_in_range t before c [] new reached h is = (tt, rw is h)
leads_in_range t before c (i ∷ is) new reached h (at, (mid, step, later)) =
    let first = step_in_range t before c i.step mid reached h step in
    let there = leads_on t (opening t) c mid before (i ∷ []) reached (at, (mid, step, refl)) in
    let rest = leads_in_range t (before ++ i ∷ []) mid is new there first.1 later in
    ((first.0, rest.0), rest.1)

run_in_range : (t : Task) (items : List Item) (end : Configuration) → Leads t (opening t) items end
    → AreInRange t.system items × HasAll t end
run_in_range t items end leads = leads_in_range t [] (opening t) items end refl (opening_has_all t) leads

pub runs_are_in_range : RunsAreInRange
runs_are_in_range t items end leads = (run_in_range t items end leads).0

stops_at_in_range : (t : Task) (c : Configuration) (stop : Stop) → HasAll t c → StopsAt t c stop → StopInRange t.system stop
stops_at_in_range t c Terminated h stops = tt
stops_at_in_range t c Deadlock h stops = tt
stops_at_in_range t c Horizon h stops = tt
stops_at_in_range t c Limit h stops = tt
stops_at_in_range t c (Overflow None) h stops = tt
stops_at_in_range t c (Overflow (Some p)) h stops = busy_in_range t c p h (unfit_some (silent_of t c p) stops)

stop_in_range : (t : Task) (n : ℕ) (c : Configuration) (stop : Stop) → HasAll t c → Stops t n c stop → StopInRange t.system stop
stop_in_range t n c stop h (inl limit) = rw limit.1 tt
stop_in_range t n c stop h (inr before) = stops_at_in_range t c stop h before.1

pub behaviours_are_in_range : BehavioursAreInRange
behaviours_are_in_range t items end stop behaviour =
    let led = run_in_range t items end behaviour.run.leads in
    (led.0, stop_in_range t (length items) end stop led.1 behaviour.stops)

-- the canonical run is a behaviour
pub canonical_is_in_range : CanonicalIsInRange
canonical_is_in_range t =
    let run = canonical t in behaviours_are_in_range t run.items run.end run.stop (canonical_is_behaviour t)

-- ---- one of many items

-- where all are in range, so is each
pub one_in_range : (sys : System) (items : List Item) (i : ℕ) (item : Item) → AreInRange sys items → i < length items
    → item ≡ get_or items i item → StepInRange sys item.step
one_in_range sys [] i item all within is = let false : ⊥ = omega (arith, within) in absurd false
one_in_range sys (j ∷ js) zero item all within is = rw is all.0
one_in_range sys (j ∷ js) (suc i) item all within is = one_in_range sys js i item all.1 (omega (arith, within)) is
