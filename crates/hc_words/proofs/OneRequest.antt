-- Words ask for one thing at most.
use denote.Struct.Props.{props}
use Rattle.std.proofs.Common.{◌≡◌, ◌≤◌, ℕ, Bool, List, slice_get, Option, Some, None, IsTrue, sym, ap, subst, ◌∙◌}
use Rattle.hc_limits.specs.Limits.{most_pairs, most_steps, most_machine_steps, most_workers}
use Rattle.clap.specs.Walk.{Text}
use Rattle.hc_rational.specs.Words.{Rational, is_positive}
use Rattle.hc_words.specs.declared.requests.Request.{Request}
use Rattle.hc_words.specs.declared.requests.Request.TheVariants.{Simulate, Channels, Verify, Make, Cexec}
use Rattle.hc_words.specs.declared.settings.ExecutionRequest.{ExecutionRequest}
use Rattle.hc_words.specs.declared.settings.Made.{Made}
use Rattle.hc_words.specs.declared.settings.RunRequest.{RunRequest}
use Rattle.hc_words.specs.declared.settings.Settings.{Settings}
use Rattle.hc_words.specs.Line.{Given, given}
use Rattle.hc_words.specs.Requests.{IsHorizon, AreSettings, IsMade, IsExecution, Asks, Ask, AskRun}
use Rattle.hc_words.specs.declared.actions.Action.{Action}
use Rattle.hc_words.specs.declared.actions.Action.TheVariants as act
use Rattle.hc_words.specs.Actions.{name_of_action}
use Rattle.hc_words.proofs.Asking.{one_action}
use Rattle.hc_words.proofs.OneFraction.{one_fraction}

one_value : {X : Type 0} (o : Option X) (x y : X) → o ≡ Some x → o ≡ Some y → x ≡ y
one_value o x y e f = cc (e, f)

one_horizon : (t : Option Text) (q r : Rational) → IsHorizon t q → IsHorizon t r → q ≡ r
one_horizon None q r e f = e ∙ sym f
one_horizon (Some t) q r e f = one_fraction t q r e.0 f.0

-- that the horizon is positive is one fact
one_fact : (q : Rational) (k l : IsTrue (is_positive q)) → k ≡ l
one_fact q = hlevel props

-- and so is that the limit is in range
one_range : (n : ℕ) (k l : (1 ≤ n) × (n ≤ most_steps)) → k ≡ l
one_range n = hlevel props

pub same_settings : (s u : Settings) → s.seed ≡ u.seed → s.horizon ≡ u.horizon → s.limit ≡ u.limit → s ≡ u
same_settings s u seed horizon limit = by s.seed s.horizon s.limit seed horizon limit s.positive s.in_range
  where
    by : (m : ℕ) (q : Rational) (n : ℕ) → m ≡ u.seed → q ≡ u.horizon → n ≡ u.limit → (k : IsTrue (is_positive q)) (l : (1 ≤ n) × (n ≤ most_steps)) →
        record { seed = m; horizon = q; limit = n; positive = k; in_range = l } ≡ u
    by m q n is_seed is_horizon is_limit =
        let Same : ℕ → Rational → ℕ → Type 0 =
        λ m q n. (k : IsTrue (is_positive q)) (l : (1 ≤ n) × (n ≤ most_steps)) → record { seed = m; horizon = q; limit = n; positive = k; in_range = l } ≡ u in
        let here : Same u.seed u.horizon u.limit =
        λ k l.
        ap (λ k. record { seed = u.seed; horizon = u.horizon; limit = u.limit; positive = k; in_range = l }) (one_fact u.horizon k u.positive)
        ∙ ap (λ l. record { seed = u.seed; horizon = u.horizon; limit = u.limit; positive = u.positive; in_range = l }) (one_range u.limit l u.in_range) in
        subst (λ m. Same m q n) (sym is_seed) (subst (λ q. Same u.seed q n) (sym is_horizon) (subst (λ n. Same u.seed u.horizon n) (sym is_limit) here))

one_simulation : (g : Given) (s u : Settings) → AreSettings g s → AreSettings g u → s ≡ u
one_simulation g s u x y =
    same_settings s u (one_value _ s.seed u.seed x.seed y.seed)
    (one_horizon g.horizon s.horizon u.horizon x.horizon y.horizon)
    (one_value _ s.limit u.limit x.limit y.limit)

-- that the pairs are in range is one fact
one_size : (n : ℕ) (k l : (1 ≤ n) × (n ≤ most_pairs)) → k ≡ l
one_size n = hlevel props

same_made : (m u : Made) → m.pairs ≡ u.pairs → m.seed ≡ u.seed → m ≡ u
same_made m u pairs seed = by m.pairs m.seed pairs seed m.in_range
  where
    by : (n s : ℕ) → n ≡ u.pairs → s ≡ u.seed → (l : (1 ≤ n) × (n ≤ most_pairs)) → record { pairs = n; seed = s; in_range = l } ≡ u
    by n s is_pairs is_seed =
        let Same : ℕ → ℕ → Type 0 = λ n s. (l : (1 ≤ n) × (n ≤ most_pairs)) → record { pairs = n; seed = s; in_range = l } ≡ u in
        let here : Same u.pairs u.seed = λ l. ap (λ l. record { pairs = u.pairs; seed = u.seed; in_range = l }) (one_size u.pairs l u.in_range) in
        subst (λ n. Same n s) (sym is_pairs) (subst (λ s. Same u.pairs s) (sym is_seed) here)

one_made : (g : Given) (m u : Made) → IsMade g m → IsMade g u → m ≡ u
one_made g m u x y = same_made m u (one_value _ m.pairs u.pairs x.pairs y.pairs) (one_value _ m.seed u.seed x.seed y.seed)

-- that the machine steps are in range is one fact
one_length : (n : ℕ) (k l : (1 ≤ n) × (n ≤ most_machine_steps)) → k ≡ l
one_length n = hlevel props

same_execution : (e u : ExecutionRequest) → e.seed ≡ u.seed → e.steps ≡ u.steps → e.report ≡ u.report → e ≡ u
same_execution e u seed steps report = by e.seed e.steps e.report seed steps report e.in_range
  where
    by : (s n : ℕ) (b : Bool) → s ≡ u.seed → n ≡ u.steps → b ≡ u.report → (l : (1 ≤ n) × (n ≤ most_machine_steps)) →
        record { seed = s; steps = n; report = b; in_range = l } ≡ u
    by s n b is_seed is_steps is_report =
        let Same : ℕ → ℕ → Bool → Type 0 = λ s n b. (l : (1 ≤ n) × (n ≤ most_machine_steps)) → record { seed = s; steps = n; report = b; in_range = l } ≡ u in
        let here : Same u.seed u.steps u.report =
        λ l. ap (λ l. record { seed = u.seed; steps = u.steps; report = u.report; in_range = l }) (one_length u.steps l u.in_range) in
        subst (λ s. Same s n b) (sym is_seed) (subst (λ n. Same u.seed n b) (sym is_steps) (subst (λ b. Same u.seed u.steps b) (sym is_report) here))

one_execution : (g : Given) (e u : ExecutionRequest) → IsExecution g e → IsExecution g u → e ≡ u
one_execution g e u x y =
    same_execution e u (one_value _ e.seed u.seed x.seed y.seed) (one_value _ e.steps u.steps x.steps y.steps) (x.report ∙ sym y.report)

-- that the workers are few is one fact
one_few : (n : ℕ) (k l : (1 ≤ n) × (n ≤ most_workers)) → k ≡ l
one_few n = hlevel props

same_run : (r u : RunRequest) → r.settings ≡ u.settings → r.workers ≡ u.workers → r.report ≡ u.report → r.channels ≡ u.channels → r ≡ u
same_run r u settings workers report channels = by r.settings r.workers r.report r.channels settings workers report channels r.few
  where
    by : (s : Settings) (n : ℕ) (b k : Bool) → s ≡ u.settings → n ≡ u.workers → b ≡ u.report → k ≡ u.channels → (l : (1 ≤ n) × (n ≤ most_workers)) →
        record { settings = s; workers = n; report = b; channels = k; few = l } ≡ u
    by s n b k is_settings is_workers is_report is_channels =
        let Same : Settings → ℕ → Bool → Bool → Type 0 =
        λ s n b k. (l : (1 ≤ n) × (n ≤ most_workers)) → record { settings = s; workers = n; report = b; channels = k; few = l } ≡ u in
        let here : Same u.settings u.workers u.report u.channels =
        λ l. ap (λ l. record { settings = u.settings; workers = u.workers; report = u.report; channels = u.channels; few = l }) (one_few u.workers l u.few) in
        subst (λ s. Same s n b k) (sym is_settings) (subst (λ n. Same u.settings n b k) (sym is_workers)
        (subst (λ b. Same u.settings u.workers b k) (sym is_report) (subst (λ k. Same u.settings u.workers u.report k) (sym is_channels) here)))

one_asked : (action : Action) (g : Given) (r s : Request) → Asks action g r → Asks action g s → r ≡ s
one_asked act.Check g r s x y = x ∙ sym y
one_asked act.Print g r s x y = x ∙ sym y
one_asked act.Simulate g r s x y = x.2 ∙ ap Simulate (one_simulation g x.0 y.0 x.1 y.1) ∙ sym y.2
one_asked act.Channels g r s x y = x.2 ∙ ap Channels (one_simulation g x.0 y.0 x.1 y.1) ∙ sym y.2
one_asked act.Convert g r s x y = x ∙ sym y
one_asked act.Verify g r s x y = x.2 ∙ ap Verify (one_simulation g x.0 y.0 x.1 y.1) ∙ sym y.2
one_asked act.Make g r s x y = x.2 ∙ ap Make (one_made g x.0 y.0 x.1 y.1) ∙ sym y.2
one_asked act.Cexec g r s x y = x.2 ∙ ap Cexec (one_execution g x.0 y.0 x.1 y.1) ∙ sym y.2

pub one_request : (words : List Text) (r s : Request) → Ask words r → Ask words s → r ≡ s
one_request words r s x y =
    let name = one_value (slice_get words 1) (name_of_action x.action) (name_of_action y.action) x.named y.named in
    let same : x.action ≡ y.action = one_action x.action y.action name in
    one_asked y.action (given words) r s (subst (λ action. Asks action (given words) r) same x.asked) y.asked

pub one_run : (words : List Text) (r s : RunRequest) → AskRun words r → AskRun words s → r ≡ s
one_run words r s x y =
    same_run r s (one_simulation (given words) r.settings s.settings x.asked.set y.asked.set)
    (one_value _ r.workers s.workers x.asked.workers y.asked.workers) (x.asked.report ∙ sym y.asked.report) (x.asked.channels ∙ sym y.asked.channels)
