-- An action and choices behind it: the matches are the values of the choices.
use Rattle.std.proofs.Common.{◌≡◌, refl, ap, sym, subst, ◌∙◌, ℕ, ◌==◌, Bool, true, false, ◌||◌, List, [], ◌∷◌, ◌++◌, map, drop, take, Option, Some, None, cond, if◌then◌else◌}
use Rattle.std.specs.Prelude.{codes, find, fold, option_and_then, slice_get}
use Rattle.std.specs.List.{All, list_all}
use Rattle.std.specs.Str.{bytes_eq}
use Rattle.std.proofs.lemmas.Bool.{and_parts}
use Rattle.std.proofs.lemmas.List.{append-nil}
use Rattle.std.proofs.lemmas.Slice.Eq.{bytes_eq-Decides}
use Rattle.std.proofs.lemmas.List.Elements.{All-head, All-tail}
use Rattle.std.proofs.lemmas.Grind.{fold-append}
use Rattle.clap.specs.declared.builder.value_parser.Reading.TheVariants as reading
use Rattle.clap.specs.declared.parser.matches.ValueSource.TheVariants.{DefaultValue}
use Rattle.clap.specs.Walk.{Held, Row, Rule, Text, Walk, default_rows, finished, first_of, has_row, nothing_held, reading_by, walk, with_default}
use Rattle.clap.specs.Simple.{built, filled, matches_of, names_of}
use Rattle.clap.proofs.OnLiterals.{clap_on_literals}
use Rattle.hc_words.specs.Line.{hcsp, flag_rule, given_in, is_yes}
use Rattle.hc_words.specs.declared.actions.Room.{Room}
use Rattle.hc_words.specs.Actions.{allows}
use Rattle.hc_words.specs.Order.{Setting, number, seed, horizon, limit, workers, steps, report, channels, name_of, Choice, IsRight, has, said}
use Rattle.hc_words.proofs.Uses.{first_values}
use Rattle.hc_words.proofs.Steps.{Reached}
use Rattle.hc_words.proofs.Choices.{Leads, row_of_choice}
use Rattle.hc_words.proofs.Options.{shape}
use Rattle.hc_words.proofs.Passing.{acting, all_walked}

-- ---- defaults: the flags alone have one

abbrev pub flag_row : Text → Row
flag_row id = record {
  id = id;
  values = codes "false" ∷ [];
  count = None;
  source = Some DefaultValue;
  reading = reading.AsWritten;
}

abbrev is_none : List Text → Bool
is_none [] = true
is_none (v ∷ vs) = false

either_way : (b : Bool) (rows : List Row) → (if b then rows else rows) ≡ rows
either_way true rows = refl
either_way false rows = refl

no_default : (a : Rule) (values : List Text) (rows : List Row) → a.defaults ≡ values → is_none values ≡ true → with_default rows a ≡ rows
no_default a [] rows is empty =
    ap (λ (vs : List Text). if has_row a.id rows then rows else default_rows a.id (reading_by a) vs rows) is ∙ either_way (has_row a.id rows) rows
no_default a (v ∷ vs) rows is empty = cc empty

no_defaults : (rules : List Rule) (rows : List Row) → list_all (λ a. is_none a.defaults) rules ≡ true → fold with_default rows rules ≡ rows
no_defaults [] rows none = refl
no_defaults (a ∷ rules) rows none =
    let both = and_parts (is_none a.defaults) (list_all (λ (b : Rule). is_none b.defaults) rules) none in
    ap (λ more. fold with_default more rules) (no_default a a.defaults rows refl both.0) ∙ no_defaults rules rows both.1

rules_are : shape.rules ≡ take 7 shape.rules ++ filled (flag_rule (codes "report")) ∷ filled (flag_rule (codes "channels")) ∷ drop 9 shape.rules
unfolding shape hcsp clap_on_literals
rules_are = refl

none_before : list_all (λ (a : Rule). is_none a.defaults) (take 7 shape.rules) ≡ true
unfolding shape hcsp clap_on_literals
none_before = refl

none_behind : list_all (λ (a : Rule). is_none a.defaults) (drop 9 shape.rules) ≡ true
unfolding shape hcsp clap_on_literals
none_behind = refl

-- the rows with a flag's default behind them, where it isn't given
abbrev pub with_flag : Text → List Row → List Row
with_flag id rows = if has_row id rows then rows else rows ++ flag_row id ∷ []

-- so for each flag
abbrev pub defaulted : List Row → List Row
defaulted rows = with_flag (codes "channels") (with_flag (codes "report") rows)

flag_default : (id : Text) (rows : List Row) → with_default rows (filled (flag_rule id)) ≡ with_flag id rows
flag_default id rows = go (has_row id rows) refl
  where
    go : (b : Bool) → has_row id rows ≡ b → with_default rows (filled (flag_rule id)) ≡ with_flag id rows
    go true given = rw given refl
    go false none = rw none (first_values id reading.AsWritten DefaultValue (codes "false" ∷ []) rows none)

all_defaults : (rows : List Row) → fold with_default rows shape.rules ≡ defaulted rows
all_defaults rows =
    let first : Rule = filled (flag_rule (codes "report")) in
    let second : Rule = filled (flag_rule (codes "channels")) in
    ap (fold with_default rows) rules_are
    ∙ fold-append with_default rows (take 7 shape.rules) (first ∷ second ∷ drop 9 shape.rules)
    ∙ ap (λ more. fold with_default more (first ∷ second ∷ drop 9 shape.rules)) (no_defaults (take 7 shape.rules) rows none_before)
    ∙ ap (λ more. fold with_default more (second ∷ drop 9 shape.rules)) (flag_default (codes "report") rows)
    ∙ ap (λ more. fold with_default more (drop 9 shape.rules)) (flag_default (codes "channels") (with_flag (codes "report") rows))
    ∙ no_defaults (drop 9 shape.rules) (defaulted rows) none_behind

-- ---- the matches

rows_finished : (place : Held) (rows : List Row) → Reached shape place rows → finished shape.rules place ≡ defaulted rows
rows_finished place rows reached = ap (λ more. fold with_default more shape.rules) reached.rows_are ∙ all_defaults rows

no_names : names_of (built hcsp) ≡ []
unfolding hcsp
no_names = refl

matches_are : (name : Text) (words : List Text) → matches_of hcsp (name ∷ words) ≡ finished shape.rules (walk shape.rules [] nothing_held words).held
unfolding shape hcsp
matches_are name words = refl

pub led_matches : (name : Text) (x : ℕ) (v : Text) (words : List Text) (rows : List Row) → (x == 45) ≡ false → Leads shape (acting (x ∷ v)) 2 words rows →
    matches_of hcsp (name ∷ (x ∷ v) ∷ words) ≡ defaulted rows
led_matches name x v words rows e led =
    matches_are name ((x ∷ v) ∷ words) ∙ ap (λ (w : Walk). finished shape.rules w.held) (all_walked x v words rows e led)
    ∙ rows_finished led.place rows led.reached

-- ---- the values of choices

-- the setting of a name
setting_named : Text → Option Setting
setting_named t =
    if bytes_eq t (codes "N") then Some number else (if bytes_eq t (codes "seed") then Some seed else (if bytes_eq t (codes "horizon") then Some horizon
    else (if bytes_eq t (codes "limit") then Some limit else (if bytes_eq t (codes "workers") then Some workers
    else (if bytes_eq t (codes "steps") then Some steps else (if bytes_eq t (codes "report") then Some report
    else (if bytes_eq t (codes "channels") then Some channels else None)))))))

its_name : (k : Setting) → setting_named (name_of k) ≡ Some k
unfolding setting_named
its_name number = refl
its_name seed = refl
its_name horizon = refl
its_name limit = refl
its_name workers = refl
its_name steps = refl
its_name report = refl
its_name channels = refl

some_same : (j k : Setting) → Some j ≡ Some k → j ≡ k
some_same j k e = cc

-- settings of one name are one setting
same_setting : (j k : Setting) → bytes_eq (name_of j) (name_of k) ≡ true → j ≡ k
same_setting j k e =
    some_same j k (sym (its_name j) ∙ ap setting_named ((bytes_eq-Decides (name_of j) (name_of k)).0 e) ∙ its_name k)

-- the value of a setting that is found is the one that is said
pub first_said : (k : Setting) (cs : List Choice) (tail : List Row) → first_of (name_of k) tail ≡ None →
    first_of (name_of k) (map row_of_choice cs ++ tail) ≡ said k cs
first_said k [] tail none = none
first_said k (c ∷ cs) tail none = go (bytes_eq (name_of c.setting) (name_of k)) (map row_of_choice cs ++ tail) (first_said k cs tail none)
  where
    go : (b : Bool) (rest : List Row) → first_of (name_of k) rest ≡ said k cs →
        option_and_then (λ (r : Row). slice_get r.values 0) (cond b (Some (row_of_choice c)) (find (λ r. bytes_eq r.id (name_of k)) rest))
        ≡ (if b then Some c.value else said k cs)
    go true rest same = refl
    go false rest same = same

-- ---- what the flags' defaults add

-- a row of another name isn't found
behind_other : (id : Text) (r : Row) → bytes_eq r.id id ≡ false → (rows : List Row) → first_of id (rows ++ r ∷ []) ≡ first_of id rows
behind_other id r other [] = rw other refl
behind_other id r other (x ∷ rows) = go (bytes_eq x.id id) (behind_other id r other rows)
  where
    go : (b : Bool) → first_of id (rows ++ r ∷ []) ≡ first_of id rows →
        option_and_then (λ (y : Row). slice_get y.values 0) (cond b (Some x) (find (λ y. bytes_eq y.id id) (rows ++ r ∷ [])))
        ≡ option_and_then (λ (y : Row). slice_get y.values 0) (cond b (Some x) (find (λ y. bytes_eq y.id id) rows))
    go true same = refl
    go false same = same

-- where there is no row nothing is found, and behind it what follows
none_found : (id : Text) (rows tail : List Row) → has_row id rows ≡ false → first_of id (rows ++ tail) ≡ first_of id tail
none_found id [] tail none = refl
none_found id (r ∷ rows) tail none = go (bytes_eq r.id id) (none_found id rows tail) none
  where
    go : (b : Bool) → (has_row id rows ≡ false → first_of id (rows ++ tail) ≡ first_of id tail) → (b || has_row id rows) ≡ false →
        option_and_then (λ (r : Row). slice_get r.values 0) (cond b (Some r) (find (λ r. bytes_eq r.id id) (rows ++ tail))) ≡ first_of id tail
    go true same e = cc e
    go false same e = same e

-- the default of a flag changes no other value
flag_passed : (id flag : Text) → bytes_eq flag id ≡ false → (rows : List Row) → first_of id (with_flag flag rows) ≡ first_of id rows
flag_passed id flag other rows = go (has_row flag rows)
  where
    go : (b : Bool) → first_of id (if b then rows else rows ++ flag_row flag ∷ []) ≡ first_of id rows
    go true = refl
    go false = behind_other id (flag_row flag) other rows

-- and doesn't say that it's given
flag_kept : (flag : Text) → is_yes (first_of flag (flag_row flag ∷ [])) ≡ false → (rows : List Row) →
    is_yes (first_of flag (with_flag flag rows)) ≡ is_yes (first_of flag rows)
flag_kept flag unsaid rows = go (has_row flag rows) refl
  where
    go : (b : Bool) → has_row flag rows ≡ b → is_yes (first_of flag (if b then rows else rows ++ flag_row flag ∷ [])) ≡ is_yes (first_of flag rows)
    go true given = refl
    go false none =
        ap is_yes (none_found flag rows (flag_row flag ∷ []) none) ∙ unsaid
        ∙ sym (ap is_yes (ap (first_of flag) (sym (append-nil rows)) ∙ none_found flag rows [] none))

-- a value that isn't a flag's is the same with their defaults
value_kept : (id : Text) → bytes_eq (codes "report") id ≡ false → bytes_eq (codes "channels") id ≡ false → (rows : List Row) →
    first_of id (defaulted rows) ≡ first_of id rows
value_kept id first second rows = flag_passed id (codes "channels") second (with_flag (codes "report") rows) ∙ flag_passed id (codes "report") first rows

pub defaults_give : (rows : List Row) → given_in (defaulted rows) ≡ given_in rows
defaults_give rows =
    let counted = value_kept (codes "N") refl refl rows in
    let first = value_kept (codes "seed") refl refl rows in
    let second = value_kept (codes "horizon") refl refl rows in
    let third = value_kept (codes "limit") refl refl rows in
    let fourth = value_kept (codes "workers") refl refl rows in
    let fifth = value_kept (codes "steps") refl refl rows in
    let told = ap is_yes (flag_passed (codes "report") (codes "channels") refl (with_flag (codes "report") rows)) ∙ flag_kept (codes "report") refl rows in
    let listed = flag_kept (codes "channels") refl (with_flag (codes "report") rows) ∙ ap is_yes (flag_passed (codes "channels") (codes "report") refl rows) in
    cc (counted, first, second, third, fourth, fifth, told, listed)

-- a value that is said is right
abbrev pub IsRightIn : Setting → Option Text → Type 0
IsRightIn k None = Unit {0}
IsRightIn k (Some t) = IsRight k t

pub said_right : (k : Setting) (cs : List Choice) → All (λ c. IsRight c.setting c.value) cs → IsRightIn k (said k cs)
said_right k [] right = tt
said_right k (c ∷ cs) right =
    go (bytes_eq (name_of c.setting) (name_of k)) refl (All-head (λ (d : Choice). IsRight d.setting d.value) c cs right)
    (said_right k cs (All-tail (λ (d : Choice). IsRight d.setting d.value) c cs right))
  where
    go : (b : Bool) → bytes_eq (name_of c.setting) (name_of k) ≡ b → IsRight c.setting c.value → IsRightIn k (said k cs) →
        IsRightIn k (if b then Some c.value else said k cs)
    go true e here rest = subst (λ j. IsRight j c.value) (same_setting c.setting k e) here
    go false e here rest = rest

-- what is said has room
pub said_allowed : (room : Room) (k : Setting) (cs : List Choice) → list_all (λ c. has room c.setting) cs ≡ true → allows (has room k) (said k cs) ≡ true
said_allowed room k [] belong = refl
said_allowed room k (c ∷ cs) belong =
    let both = and_parts (has room c.setting) (list_all (λ (d : Choice). has room d.setting) cs) belong in
    go (bytes_eq (name_of c.setting) (name_of k)) refl both.0 (said_allowed room k cs both.1)
  where
    go : (b : Bool) → bytes_eq (name_of c.setting) (name_of k) ≡ b → has room c.setting ≡ true → allows (has room k) (said k cs) ≡ true →
        allows (has room k) (if b then Some c.value else said k cs) ≡ true
    go true e here rest = subst (λ j. has room j ≡ true) (same_setting c.setting k e) here
    go false e here rest = rest
