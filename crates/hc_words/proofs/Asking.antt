-- What the words ask for, by their action and what stands behind it.
use Rattle.std.proofs.Common.{◌≡◌, refl, ℕ, Bool, true, false, ◌&&◌, nat_le, if◌then◌else◌, ◌∙◌, sym, subst, ap, ◌≤◌, ◌<◌, [], ◌∷◌, arith, length, slice_index_or, option_map, List, map, slice_get, Option, Some, None, is_some, IsTrue, Result, Ok, Err, is_ok, IsErrOf}
use Rattle.std.proofs.lemmas.Option.{slice_get-map, slice_get-get_or}
use Rattle.std.specs.Prelude.{codes}
use Rattle.std.specs.Str.{bytes_eq}
use Rattle.clap.specs.Walk.{Text}
use Rattle.std.specs.Str.Parse.{digits_value}
use Rattle.std.proofs.lemmas.Bool.{leb-true}
use Rattle.hc_limits.specs.Limits.{most_pairs, most_steps, most_machine_steps, most_workers}
use Rattle.hc_rational.specs.Words.{Rational, is_positive}
use Rattle.hc_words.specs.declared.requests.Request.{Request}
use Rattle.hc_words.specs.declared.requests.WordsStop.{WordsStop}
use Rattle.hc_words.specs.declared.settings.RunRequest.{RunRequest}
use Rattle.hc_words.specs.declared.requests.WordsStop.TheVariants.{Usage}
use Rattle.hc_words.specs.declared.actions.Action.{Action}
use Rattle.hc_words.specs.declared.actions.Action.TheVariants as act
use Rattle.hc_words.specs.Actions.{name_of_action, name_of_run, room_of_run, fits, belongs}
use Rattle.hc_words.specs.Seen.{IsRequested, IsRunRequested}
use Rattle.hc_words.specs.Line.{Given, is_taken, given}
use Rattle.hc_words.specs.Requests.{Ask, Asks, IsRun, AskRun, pairs_in, workers_in, limit_in, machine_steps_in, IsHorizon}
use Rattle.hc_words.specs.Numbers.{is_digits, number_within}
use Rattle.hc_words.proofs.Defaults.{hundred_positive}

-- what is asked for behind the second word is what the words ask for
pub ask : (words : List Text) (second name : Text) (g : Given) (r : Request) → slice_get words 1 ≡ Some second → IsTrue (is_taken words) →
    name ≡ second → g ≡ given words → IsRequested name g r → Ask words r
ask words second name g r named taken same is asked = record {
  action = asked.action;
  named = named ∙ ap Some (sym (asked.named ∙ same));
  taken = taken;
  belonging = subst (λ h. IsTrue (belongs asked.action h)) is asked.belonging;
  asked = subst (λ h. Asks asked.action h r) is asked.asked;
}

some_same : (a b : Text) → Some a ≡ Some b → a ≡ b
some_same a b e = cc

pub not_asked : (words : List Text) (second name : Text) (g : Given) → slice_get words 1 ≡ Some second → name ≡ second → g ≡ given words →
    ((r : Request) → IsRequested name g r → ⊥) → (r : Request) → Ask words r → ⊥
not_asked words second name g named same is none r asked = none r (record {
  action = asked.action;
  named = sym (some_same second (name_of_action asked.action) (sym named ∙ asked.named)) ∙ sym same;
  belonging = subst (λ h. IsTrue (belongs asked.action h)) (sym is) asked.belonging;
  asked = subst (λ h. Asks asked.action h r) (sym is) asked.asked;
})

-- the same of a run
pub ask_run : (words : List Text) (second name : Text) (g : Given) (r : RunRequest) → slice_get words 1 ≡ Some second → IsTrue (is_taken words) →
    name ≡ second → g ≡ given words → IsRunRequested name g r → AskRun words r
ask_run words second name g r named taken same is asked = record {
  named = named ∙ ap Some (sym same ∙ asked.named);
  taken = taken;
  belonging = subst (λ h. IsTrue (fits room_of_run h)) is asked.belonging;
  asked = subst (λ h. IsRun h r) is asked.asked;
}

pub run_not_asked : (words : List Text) (second name : Text) (g : Given) → slice_get words 1 ≡ Some second → name ≡ second → g ≡ given words →
    ((r : RunRequest) → IsRunRequested name g r → ⊥) → (r : RunRequest) → AskRun words r → ⊥
run_not_asked words second name g named same is none r asked = none r (record {
  named = same ∙ some_same second name_of_run (sym named ∙ asked.named);
  belonging = subst (λ h. IsTrue (fits room_of_run h)) (sym is) asked.belonging;
  asked = subst (λ h. IsRun h r) (sym is) asked.asked;
})

-- nothing is found where the answer is that the words ask for nothing
pub none_found : {X : Type 0} (o : Option X) (r : Result X WordsStop) → is_ok r ≡ is_some o → IsErrOf r Usage → o ≡ None
none_found None r same e = refl
none_found (Some x) (Ok y) same e = absurd (cc e)
none_found (Some x) (Err y) same e = absurd (cc same)

-- ---- actions by their names

-- the action of a name
action_of : Text → Option Action
action_of t =
    if bytes_eq t (codes "check") then Some act.Check else (if bytes_eq t (codes "print") then Some act.Print
    else (if bytes_eq t (codes "simulate") then Some act.Simulate else (if bytes_eq t (codes "channels") then Some act.Channels
    else (if bytes_eq t (codes "convert") then Some act.Convert else (if bytes_eq t (codes "verify") then Some act.Verify
    else (if bytes_eq t (codes "make") then Some act.Make else (if bytes_eq t (codes "cexec") then Some act.Cexec else None)))))))

its_name : (a : Action) → action_of (name_of_action a) ≡ Some a
unfolding action_of
its_name act.Check = refl
its_name act.Print = refl
its_name act.Simulate = refl
its_name act.Channels = refl
its_name act.Convert = refl
its_name act.Verify = refl
its_name act.Make = refl
its_name act.Cexec = refl

one_of : (a b : Action) → Some a ≡ Some b → a ≡ b
one_of a b e = cc

-- a name is that of one action at most
pub one_action : (a b : Action) → name_of_action a ≡ name_of_action b → a ≡ b
one_action a b e = one_of a b (sym (its_name a) ∙ ap action_of e ∙ its_name b)

-- the same for an action that was found by its name
pub found_action : (name : Text) (a : Action) (g : Given) (r : Request) → name_of_action a ≡ name → (asked : IsRequested name g r) → asked.action ≡ a
found_action name a g r named asked = one_action asked.action a (asked.named ∙ sym named)

-- the second word, read of each element by `f`
pub second_word : {S : Type 0} (f : S → Text) (items shown : List S) (x : S) → shown ≡ items → 2 ≤ length shown → x ≡ slice_index_or shown 1 x →
    slice_get (map f items) 1 ≡ Some (f x)
second_word f items shown x same len is =
    slice_get-map f items 1 ∙ ap (option_map f) (ap (λ xs. slice_get xs 1) (sym same) ∙ slice_get-get_or shown 1 x (omega (arith, len)) ∙ ap Some (sym is))

-- there is no second word
pub too_few : {S : Type 0} (f : S → Text) (items shown : List S) (action : Text) → shown ≡ items → length shown < 2 → slice_get (map f items) 1 ≡ Some action → ⊥
too_few f items [] action same len e = cc (ap (λ xs. slice_get (map f xs) 1) same ∙ e)
too_few f items (x ∷ []) action same len e = cc (ap (λ xs. slice_get (map f xs) 1) same ∙ e)
too_few f items (x ∷ y ∷ shown) action same len e = absurd (omega (arith, len))

within : (least most n : ℕ) (t : Text) → number_within least most t ≡ Some n → (least ≤ n) × (n ≤ most)
within least most n t e = go (is_digits t) (nat_le least (digits_value 10 t)) (nat_le (digits_value 10 t) most) refl refl e
  where
    go : (d a b : Bool) → nat_le least (digits_value 10 t) ≡ a → nat_le (digits_value 10 t) most ≡ b
        → (if d && (a && b) then Some (digits_value 10 t) else None) ≡ Some n → (least ≤ n) × (n ≤ most)
    go true true true i j e =
        let same : digits_value 10 t ≡ n = cc e in
        (omega (arith, same, leb-true least (digits_value 10 t) i), omega (arith, same, leb-true (digits_value 10 t) most j))
    go true true false i j e = cc e
    go true false b i j e = cc e
    go false a b i j e = cc e

-- pairs that are given are in range
pub pairs_within : (o : Option Text) (n : ℕ) → pairs_in o ≡ Some n → (1 ≤ n) × (n ≤ most_pairs)
pairs_within None n e = cc e
pairs_within (Some t) n e = within 1 most_pairs n t e

-- so are workers, given or not
pub workers_within : (o : Option Text) (n : ℕ) → workers_in o ≡ Some n → (1 ≤ n) × (n ≤ most_workers)
workers_within None n e = let same : 64 ≡ n = cc e in (omega (arith, same), omega (arith, same))
workers_within (Some t) n e = within 1 most_workers n t e

-- so are machine steps
pub machine_steps_within : (o : Option Text) (n : ℕ) → machine_steps_in o ≡ Some n → (1 ≤ n) × (n ≤ most_machine_steps)
machine_steps_within None n e = let same : 100000 ≡ n = cc e in (omega (arith, same), omega (arith, same))
machine_steps_within (Some t) n e = within 1 most_machine_steps n t e

-- a limit that is given or not is in range
pub limits : (o : Option Text) (n : ℕ) → limit_in o ≡ Some n → (1 ≤ n) × (n ≤ most_steps)
limits None n e = let same : 10000 ≡ n = cc e in (omega (arith, same), omega (arith, same))
limits (Some t) n e = within 1 most_steps n t e

-- a horizon that is given or not is positive
pub positive : (o : Option Text) (q : Rational) → IsHorizon o q → IsTrue (is_positive q)
positive None q e = subst (λ r. IsTrue (is_positive r)) (sym e) hundred_positive
positive (Some t) q h = h.1
