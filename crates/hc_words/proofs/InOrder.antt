-- Words in order: clap takes them, and they ask for what their choices say.
use Rattle.std.proofs.Common.{◌≡◌, refl, ap, sym, subst, ◌∙◌, ℕ, ◌==◌, Bool, true, false, not, ◌||◌, List, [], ◌∷◌, map, Option, Some, None, slice_get}
use Rattle.std.specs.Prelude.{codes, flat_map, pos}
use Rattle.std.specs.List.{All, list_all}
use Rattle.std.proofs.lemmas.Bool.{and_from}
use Rattle.std.proofs.lemmas.List.{append-nil}
use Rattle.clap.specs.Walk.{Text, Row, first_of, has_row}
use Rattle.hc_rational.specs.Words.{Rational}
use Rattle.hc_rational.specs.Rational.{whole}
use Rattle.hc_words.specs.declared.actions.Action.{Action}
use Rattle.hc_words.specs.declared.actions.Action.TheVariants as act
use Rattle.hc_words.specs.declared.actions.Room.{Room}
use Rattle.hc_words.specs.declared.requests.Request.{Request}
use Rattle.hc_words.specs.declared.requests.Request.TheVariants.{Check, Print, Simulate, Channels, Convert, Verify, Make, Cexec}
use Rattle.hc_words.specs.declared.settings.ExecutionRequest.{ExecutionRequest}
use Rattle.hc_words.specs.declared.settings.Made.{Made}
use Rattle.hc_words.specs.declared.settings.RunRequest.{RunRequest}
use Rattle.hc_words.specs.declared.settings.Settings.{Settings}
use Rattle.hc_words.specs.Actions.{name_of_action, room_of, name_of_run, room_of_run, is_wanted, allows, fits, belongs}
use Rattle.hc_words.specs.Line.{Given, given, given_in, is_taken, is_yes}
use Rattle.hc_words.specs.Order.{Setting, number, seed, horizon, limit, workers, steps, report, channels, name_of, Choice, words_of, are_apart, IsRight, has, StandInOrder, AreInOrder, AreRunInOrder, said, given_by}
use Rattle.hc_words.specs.Requests.{Ask, Asks, AreSettings, IsMade, IsExecution, IsRun, AskRun, IsHorizon, pairs_in, limit_in, machine_steps_in, seed_in, workers_in}
use Rattle.hc_words.proofs.Asking.{pairs_within, workers_within, machine_steps_within, limits, positive}
use Rattle.hc_words.proofs.Rights.{BeginsPlain}
use Rattle.hc_words.proofs.Choices.{Leads, are_new, choices_lead, row_of_choice}
use Rattle.hc_words.proofs.Options.{shape, rule_at, number_is_word, is_option, is_flag_of}
use Rattle.hc_words.proofs.Passing.{acting, action_row, action_reached, led_free}
use Rattle.hc_words.proofs.Values.{IsRightIn, defaults_give, first_said, said_right, said_allowed, led_matches}

-- ---- an action with choices behind it

not_action : (cs : List Choice) (action : Text) → are_new (action_row action ∷ []) cs ≡ true
not_action [] action = refl
not_action (c ∷ cs) action = and_from _ _ (go c.setting) (not_action cs action)
  where
    go : (k : Setting) → not (has_row (name_of k) (action_row action ∷ [])) ≡ true
    go number = refl
    go seed = refl
    go horizon = refl
    go limit = refl
    go workers = refl
    go steps = refl
    go report = refl
    go channels = refl

-- the rows of an action with choices behind it are what the choices give
rows_give : (action : Text) (cs : List Choice) → given_in (action_row action ∷ map row_of_choice cs) ≡ given_by cs
rows_give action cs =
    let all : List Row = map row_of_choice cs in
    let end = append-nil all in
    let counted = ap (first_of (codes "N")) (sym end) ∙ first_said number cs [] refl in
    let first = ap (first_of (codes "seed")) (sym end) ∙ first_said seed cs [] refl in
    let second = ap (first_of (codes "horizon")) (sym end) ∙ first_said horizon cs [] refl in
    let third = ap (first_of (codes "limit")) (sym end) ∙ first_said limit cs [] refl in
    let fourth = ap (first_of (codes "workers")) (sym end) ∙ first_said workers cs [] refl in
    let fifth = ap (first_of (codes "steps")) (sym end) ∙ first_said steps cs [] refl in
    let told = ap (first_of (codes "report")) (sym end) ∙ first_said report cs [] refl in
    let listed = ap (first_of (codes "channels")) (sym end) ∙ first_said channels cs [] refl in
    rw (counted, first, second, third, fourth, fifth, told, listed) refl

module _ (x : ℕ) (v : Text) (e : (x == 45) ≡ false) (cs : List Choice) (right : All (λ c. IsRight c.setting c.value) cs) (apart : are_apart cs ≡ true) where
  led : Leads shape (acting (x ∷ v)) 2 (flat_map words_of cs) (action_row (x ∷ v) ∷ map row_of_choice cs)
  led =
      choices_lead shape rule_at is_option is_flag_of number_is_word cs (acting (x ∷ v)) (action_row (x ∷ v) ∷ []) 2 right
      (action_reached (x ∷ v)) (not_action cs (x ∷ v)) apart refl

  word_taken : (name : Text) → is_taken (name ∷ (x ∷ v) ∷ flat_map words_of cs) ≡ true
  word_taken name = led_free name x v (flat_map words_of cs) _ e led

  word_given : (name : Text) → given (name ∷ (x ∷ v) ∷ flat_map words_of cs) ≡ given_by cs
  word_given name = ap given_in (led_matches name x v (flat_map words_of cs) _ e led) ∙ defaults_give (action_row (x ∷ v) ∷ map row_of_choice cs) ∙ rows_give (x ∷ v) cs

-- a name of an action doesn't begin with `-`
action_plain : (a : Action) → BeginsPlain (name_of_action a)
action_plain act.Check = refl
action_plain act.Print = refl
action_plain act.Simulate = refl
action_plain act.Channels = refl
action_plain act.Convert = refl
action_plain act.Verify = refl
action_plain act.Make = refl
action_plain act.Cexec = refl

-- words in order are taken, they give what their choices give, and there is room for that
module _ (action : Text) (room : Room) (words : List Text) (order : StandInOrder action room words) where
  taken_in_order : BeginsPlain action → is_taken words ≡ true
  taken_in_order plain = ap is_taken order.words_are ∙ go action plain
    where
      go : (t : Text) → BeginsPlain t → is_taken (order.name ∷ t ∷ flat_map words_of order.choices) ≡ true
      go [] begins = absurd begins
      go (x ∷ v) begins = word_taken x v begins order.choices order.right order.apart order.name

  given_in_order : BeginsPlain action → given words ≡ given_by order.choices
  given_in_order plain = ap given order.words_are ∙ go action plain
    where
      go : (t : Text) → BeginsPlain t → given (order.name ∷ t ∷ flat_map words_of order.choices) ≡ given_by order.choices
      go [] begins = absurd begins
      go (x ∷ v) begins = word_given x v begins order.choices order.right order.apart order.name

-- ---- what they ask for

seed_found : (o : Option Text) → IsRightIn seed o → (n : ℕ) × (seed_in o ≡ Some n)
seed_found None h = (0, refl)
seed_found (Some t) h = h

workers_found : (o : Option Text) → IsRightIn workers o → (n : ℕ) × (workers_in o ≡ Some n)
workers_found None h = (64, refl)
workers_found (Some t) h = h

steps_found : (o : Option Text) → IsRightIn steps o → (n : ℕ) × (machine_steps_in o ≡ Some n)
steps_found None h = (100000, refl)
steps_found (Some t) h = h

limit_found : (o : Option Text) → IsRightIn limit o → (n : ℕ) × (limit_in o ≡ Some n)
limit_found None h = (10000, refl)
limit_found (Some t) h = h

horizon_found : (o : Option Text) → IsRightIn horizon o → (q : Rational) × IsHorizon o q
horizon_found None h = (whole (pos 100), refl)
horizon_found (Some t) h = (h.0, (h.1, h.2))

settings_found : (cs : List Choice) → All (λ c. IsRight c.setting c.value) cs → (s : Settings) × AreSettings (given_by cs) s
settings_found cs right =
    let first = seed_found (said seed cs) (said_right seed cs right) in
    let second = horizon_found (said horizon cs) (said_right horizon cs right) in
    let third = limit_found (said limit cs) (said_right limit cs right) in (
      record {
        seed = first.0;
        horizon = second.0;
        limit = third.0;
        positive = positive (said horizon cs) second.0 second.1;
        in_range = limits (said limit cs) third.0 third.1;
      },
      record { seed = first.1; horizon = second.1; limit = third.1 },
    )

pairs_found : (o : Option Text) → is_wanted true o ≡ true → IsRightIn number o → (n : ℕ) × (pairs_in o ≡ Some n)
pairs_found None wanted h = cc wanted
pairs_found (Some t) wanted h = h

made_found : (cs : List Choice) → is_wanted true (said number cs) ≡ true → All (λ c. IsRight c.setting c.value) cs → (m : Made) × IsMade (given_by cs) m
made_found cs wanted right =
    let first = pairs_found (said number cs) wanted (said_right number cs right) in
    let second = seed_found (said seed cs) (said_right seed cs right) in (
      record { pairs = first.0; seed = second.0; in_range = pairs_within (said number cs) first.0 first.1 },
      record { pairs = first.1; seed = second.1 },
    )

execution_found : (cs : List Choice) → All (λ c. IsRight c.setting c.value) cs → (e : ExecutionRequest) × IsExecution (given_by cs) e
execution_found cs right =
    let first = seed_found (said seed cs) (said_right seed cs right) in
    let second = steps_found (said steps cs) (said_right steps cs right) in (
      record {
        seed = first.0;
        steps = second.0;
        report = is_yes (said report cs);
        in_range = machine_steps_within (said steps cs) second.0 second.1;
      },
      record { seed = first.1; steps = second.1; report = refl },
    )

asked_by : (a : Action) (cs : List Choice) → is_wanted (room_of a).number (said number cs) ≡ true → All (λ c. IsRight c.setting c.value) cs →
    (r : Request) × Asks a (given_by cs) r
asked_by act.Check cs wanted right = (Check, refl)
asked_by act.Print cs wanted right = (Print, refl)
asked_by act.Simulate cs wanted right = let s = settings_found cs right in (Simulate s.0, (s.0, s.1, refl))
asked_by act.Channels cs wanted right = let s = settings_found cs right in (Channels s.0, (s.0, s.1, refl))
asked_by act.Convert cs wanted right = (Convert, refl)
asked_by act.Verify cs wanted right = let s = settings_found cs right in (Verify s.0, (s.0, s.1, refl))
asked_by act.Make cs wanted right = let m = made_found cs wanted right in (Make m.0, (m.0, m.1, refl))
asked_by act.Cexec cs wanted right = let e = execution_found cs right in (Cexec e.0, (e.0, e.1, refl))

run_found : (cs : List Choice) → All (λ c. IsRight c.setting c.value) cs → (r : RunRequest) × IsRun (given_by cs) r
run_found cs right =
    let set = settings_found cs right in
    let many = workers_found (said workers cs) (said_right workers cs right) in (
      record {
        settings = set.0;
        workers = many.0;
        report = is_yes (said report cs);
        channels = is_yes (said channels cs);
        few = workers_within (said workers cs) many.0 many.1;
      },
      record { set = set.1; workers = many.1; report = refl; channels = refl },
    )

-- a flag for which there is no room isn't said
flag_allowed : (room : Bool) (o : Option Text) → allows room o ≡ true → (room || not (is_yes o)) ≡ true
flag_allowed true o e = refl
flag_allowed false None e = refl
flag_allowed false (Some t) e = cc e

-- choices for which there is room fit its row of the table, where N is among them exactly where it is wanted
fitting : (room : Room) (cs : List Choice) → list_all (λ c. has room c.setting) cs ≡ true → is_wanted room.number (said number cs) ≡ true →
    fits room (given_by cs) ≡ true
fitting room cs belong wanted =
    and_from _ _ (and_from _ _ (and_from _ _ (and_from _ _ (and_from _ _ (and_from _ _ (and_from _ _ wanted
    (said_allowed room seed cs belong)) (said_allowed room horizon cs belong)) (said_allowed room limit cs belong))
    (said_allowed room workers cs belong)) (said_allowed room steps cs belong)) (flag_allowed room.report (said report cs) (said_allowed room report cs belong)))
    (flag_allowed room.channels (said channels cs) (said_allowed room channels cs belong))

pub in_order_ask : (words : List Text) (order : AreInOrder words) → (r : Request) × Ask words r × Asks order.action (given_by order.order.choices) r
in_order_ask words o =
    let order = o.order in
    let asks = asked_by o.action order.choices order.wanted order.right in
    let gives = given_in_order (name_of_action o.action) (room_of o.action) words order (action_plain o.action) in (
      asks.0,
      record {
        action = o.action;
        named = ap (λ ws. slice_get ws 1) order.words_are;
        taken = taken_in_order (name_of_action o.action) (room_of o.action) words order (action_plain o.action);
        belonging = ap (belongs o.action) gives ∙ fitting (room_of o.action) order.choices order.belong order.wanted;
        asked = subst (λ (g : Given). Asks o.action g asks.0) (sym gives) asks.1;
      },
      asks.1,
    )

pub run_in_order_asks : (words : List Text) (order : AreRunInOrder words) → (r : RunRequest) × AskRun words r × IsRun (given_by order.choices) r
run_in_order_asks words order =
    let asks = run_found order.choices order.right in
    let gives = given_in_order name_of_run room_of_run words order refl in (
      asks.0,
      record {
        named = ap (λ ws. slice_get ws 1) order.words_are;
        taken = taken_in_order name_of_run room_of_run words order refl;
        belonging = ap (fits room_of_run) gives ∙ fitting room_of_run order.choices order.belong order.wanted;
        asked = subst (λ (g : Given). IsRun g asks.0) (sym gives) asks.1;
      },
      asks.1,
    )
