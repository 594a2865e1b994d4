-- Words that a simple command takes have no fault: each test of `takes` has its list of kinds, which is empty where the test passes.
use Rattle.std.proofs.Common.{◌≡◌, refl, ap, ◌∙◌, ℕ, ◌+◌, ◌==◌, ◌≤◌, arith, zero, suc, Bool, true, false, not, ◌&&◌, ◌||◌, List, [], ◌∷◌, length, drop, Option, Some, None, is_some, if◌then◌else◌, nat_le, slice_get}
use Rattle.std.specs.Prelude.{codes, encode_utf8, nat_lt, min}
use Rattle.std.specs.List.{list_all}
use Rattle.std.specs.Option.{option_map_or}
use Rattle.std.specs.Str.{bytes_eq, chars}
use Rattle.std.proofs.lemmas.Bool.{and_parts, leb-true}
use Rattle.std.proofs.lemmas.Bool.Decides.{nat_tests}
use Rattle.clap.specs.declared.builder.action.ArgAction.{ArgAction}
use Rattle.clap.specs.declared.builder.action.ArgAction.TheVariants as act
use Rattle.clap.specs.declared.builder.value_parser.ValueParser.{ValueParser}
use Rattle.clap.specs.declared.error.kind.ErrorKind.TheVariants as kind
use Rattle.clap.specs.Facts.{parser_of_value, unwrap_or_range}
use Rattle.clap.specs.Faults.{action_fault, bundle_step_fault, check_fault, count_fault, default_fault, defaults_fault, flags_fault, flag_word_fault, level_fault, long_fault, option_fault, other_fault, positional_fault, react_fault, repeat_fault, set_fault, settle_fault, short_fault, step_fault, stray_fault, turn_fault, use_fault, values_fault, walk_fault, word_fault, built_fault, entered_fault}
use Rattle.clap.specs.Kinds.{Kinds, or_else, range_kinds, request_kinds, value_kinds, values_kinds}
use Rattle.clap.specs.Lexer.{long_of, short_of}
use Rattle.clap.specs.Matches.{count_text}
use Rattle.clap.specs.Simple.{App, Shape, entered}
use Rattle.clap.specs.Takes.{action_passes, bundle_step_passes, count_passes, default_passes, flags_pass, flag_word_passes, long_passes, option_passes, other_passes, positional_passes, react_passes, set_passes, settle_passes, short_passes, step_passes, turn_passes, use_passes, values_pass, walk_passes, word_passes}
use Rattle.clap.specs.Values.{is_request, refused_kind}
use Rattle.clap.specs.ValueTests.{accepts}
use Rattle.clap.specs.Walk.{Held, Names, Row, Rule, Step, Text, Waiting, Walk, next, trailing, subcommand, value, action_of, arg_by_id, arg_by_index, arg_by_long, arg_by_short, attached_value, count_of, finished, has_row, is_empty, is_pending, most_values, nothing_held, reacted, settled, subcommand_met, takes_several, takes_values, values_or_missing, walk, walk_from, walked, with_default, word_met}

-- ---- lists of kinds

no_kind : (a b : Kinds) → a ≡ [] → b ≡ [] → or_else a b ≡ []
no_kind a b e f = ap (λ (k : Kinds). or_else k b) e ∙ f

-- ---- values

value_none : (ic : Bool) (p : ValueParser) (t : Text) → accepts ic p t ≡ true → value_kinds ic p t ≡ []
value_none ic p t e = ap (λ (b : Bool). if b then [] else refused_kind p ∷ []) e

values_none : (ic : Bool) (p : ValueParser) (vs : List Text) → list_all (accepts ic p) vs ≡ true → values_kinds ic p vs ≡ []
values_none ic p [] e = refl
values_none ic p (v ∷ vs) e =
    let both = and_parts (accepts ic p v) (list_all (accepts ic p) vs) e in
    no_kind (value_kinds ic p v) (values_kinds ic p vs) (value_none ic p v both.0) (values_none ic p vs both.1)

given_none : (a : Rule) (vs : List Text) → values_pass a vs ≡ true → values_fault a vs ≡ []
given_none a vs e = values_none a.ignore_case (parser_of_value a.parser) vs e

-- ---- one use of an argument

count_none : (a : Rule) (vs : List Text) (rows : List Row) → count_passes a vs rows ≡ true → count_fault a vs rows ≡ []
count_none a [] rows e = value_none a.ignore_case (parser_of_value a.parser) (count_text (min (count_of a.id rows + 1) 255)) e
count_none a (v ∷ vs) rows e = given_none a (v ∷ vs) e

repeat_none : (row again : Bool) → (not row || again) ≡ true → (if row && not again then kind.ArgumentConflict ∷ [] else []) ≡ []
repeat_none false again e = refl
repeat_none true true e = refl
repeat_none true false e = cc e

set_none : (again : Bool) (a : Rule) (vs : List Text) (rows : List Row) → set_passes again a vs rows ≡ true → set_fault again a vs rows ≡ []
set_none again a vs rows e =
    let both = and_parts (not (has_row a.id rows) || again) (values_pass a vs) e in
    no_kind (repeat_fault again a.id rows) (values_fault a vs) (repeat_none (has_row a.id rows) again both.0) (given_none a vs both.1)

action_none : (action : ArgAction) (again : Bool) (a : Rule) (vs : List Text) (rows : List Row) → action_passes action again a vs rows ≡ true → action_fault action again a vs rows ≡ []
action_none act.Set again a vs rows e = set_none again a vs rows e
action_none act.SetTrue again a vs rows e = set_none again a vs rows e
action_none act.SetFalse again a vs rows e = set_none again a vs rows e
action_none act.Append again a vs rows e = given_none a vs e
action_none act.Count again a vs rows e = count_none a vs rows e
action_none act.Help again a vs rows e = cc e
action_none act.HelpShort again a vs rows e = cc e
action_none act.HelpLong again a vs rows e = cc e
action_none act.Version again a vs rows e = cc e

range_none : (least most n : ℕ) → nat_le least n ≡ true → nat_le n most ≡ true → range_kinds least most n ≡ []
range_none least most n e f =
    let low = leb-true least n e in
    let high = leb-true n most f in
    go (nat_lt 0 least && n == 0) (least == most) (least == n) (nat_lt n least) (nat_lt most n) refl refl refl refl refl low high
  where
    go : (a b c d g : Bool) → (nat_lt 0 least && n == 0) ≡ a → (least == most) ≡ b → (least == n) ≡ c → nat_lt n least ≡ d → nat_lt most n ≡ g →
        least ≤ n → n ≤ most →
        (if a then kind.InvalidValue ∷ []
        else (if b then (if c then [] else kind.WrongNumberOfValues ∷ [])
        else (if d then kind.TooFewValues ∷ []
        else (if g then kind.TooManyValues ∷ [] else [])))) ≡ []
    go true b c d g i j k l m low high = absurd (grind (arith, nat_tests, i, low))
    go false true true d g i j k l m low high = refl
    go false true false d g i j k l m low high = absurd (grind (arith, nat_tests, j, k, low, high))
    go false false c true g i j k l m low high = absurd (grind (arith, nat_tests, l, low))
    go false false c false true i j k l m low high = absurd (grind (arith, nat_tests, m, high))
    go false false c false false i j k l m low high = refl

use_none : (again : Bool) (a : Rule) (vs : List Text) (rows : List Row) → use_passes again a vs rows ≡ true → use_fault again a vs rows ≡ []
use_none again a vs rows e =
    let outer = and_parts (nat_le (unwrap_or_range a.range).start_inclusive (length vs)) _ e in
    let inner = and_parts (nat_le (length vs) (most_values a)) (action_passes (action_of a) again a (values_or_missing a vs) rows) outer.1 in
    no_kind (range_kinds (unwrap_or_range a.range).start_inclusive (most_values a) (length vs)) (action_fault (action_of a) again a (values_or_missing a vs) rows)
    (range_none _ _ (length vs) outer.0 inner.0) (action_none (action_of a) again a (values_or_missing a vs) rows inner.1)

-- ---- the walk

module _ (c : List Rule) (again : Bool) where
  settle_none : (h : Held) → settle_passes c again h ≡ true → settle_fault c again h ≡ []
  settle_none h e = go h.pending e
    where
      at : (o : Option Rule) (p : Text × List Text) → option_map_or (λ a. use_passes again a p.1 h.rows) o true ≡ true →
          option_map_or (λ a. use_fault again a p.1 h.rows) o [] ≡ []
      at None p e = refl
      at (Some a) p e = use_none again a p.1 h.rows e

      go : (o : Option (Text × List Text)) → option_map_or (λ p. option_map_or (λ a. use_passes again a p.1 h.rows) (arg_by_id c p.0) true) o true ≡ true →
          option_map_or (λ p. option_map_or (λ a. use_fault again a p.1 h.rows) (arg_by_id c p.0) []) o [] ≡ []
      go None e = refl
      go (Some p) e = at (arg_by_id c p.0) p e

  react_none : (a : Rule) (vs : List Text) (h : Held) → react_passes c again a vs h ≡ true → react_fault c again a vs h ≡ []
  react_none a vs h e =
      let both = and_parts (settle_passes c again h) (use_passes again a vs (settled c h).rows) e in
      no_kind (settle_fault c again h) (use_fault again a vs (settled c h).rows) (settle_none h both.0) (use_none again a vs (settled c h).rows both.1)

  option_none : (a : Rule) (o : Option Text) (h : Held) → option_passes c again a o h ≡ true → option_fault c again a o h ≡ []
  option_none a None h e = settle_none h e
  option_none a (Some v) h e = react_none a (v ∷ []) h e

  flag_none : (a : Rule) (given : Bool) (h : Held) → (not given && react_passes c again a [] h) ≡ true →
      (if given then kind.TooManyValues ∷ [] else react_fault c again a [] h) ≡ []
  flag_none a true h e = cc e
  flag_none a false h e = react_none a [] h e

  long_none : (o : Option Rule) (v : Option Text) (h : Held) → long_passes c again o v h ≡ true → long_fault c again o v h ≡ []
  long_none None v h e = cc e
  long_none (Some a) v h e = go (takes_values a) e
    where
      go : (b : Bool) → (if b then option_passes c again a v h else (not (is_some v) && react_passes c again a [] h)) ≡ true →
          (if b then option_fault c again a v h else (if is_some v then kind.TooManyValues ∷ [] else react_fault c again a [] h)) ≡ []
      go true e = option_none a v h e
      go false e = flag_none a (is_some v) h e

  short_none : (o : Option Rule) (rest : Text) (h : Held) (next_passes : Held → Bool) (next_fault : Held → Kinds) →
      ((k : Held) → next_passes k ≡ true → next_fault k ≡ []) →
      short_passes c again o rest h next_passes ≡ true → short_fault c again o rest h next_fault ≡ []
  short_none None rest h next_passes next_fault after e = cc e
  short_none (Some a) rest h next_passes next_fault after e = go (takes_values a) e
    where
      go : (b : Bool) → (if b then option_passes c again a (attached_value rest) h else (react_passes c again a [] h && next_passes (reacted c a [] h))) ≡ true →
          (if b then option_fault c again a (attached_value rest) h else or_else (react_fault c again a [] h) (next_fault (reacted c a [] h))) ≡ []
      go true e = option_none a (attached_value rest) h e
      go false e =
          let both = and_parts (react_passes c again a [] h) (next_passes (reacted c a [] h)) e in
          no_kind (react_fault c again a [] h) (next_fault (reacted c a [] h)) (react_none a [] h both.0) (after (reacted c a [] h) both.1)

  bundle_none : (o : Option ℕ) (flags : Text) (skip : ℕ) (h : Held) (next_passes : Text → ℕ → Held → Bool) (next_fault : Text → ℕ → Held → Kinds) →
      ((t : Text) (n : ℕ) (k : Held) → next_passes t n k ≡ true → next_fault t n k ≡ []) →
      bundle_step_passes c again o flags skip h next_passes ≡ true → bundle_step_fault c again o flags skip h next_fault ≡ []
  bundle_none None flags skip h next_passes next_fault after e = refl
  bundle_none (Some x) flags zero h next_passes next_fault after e =
      let rest = drop (length (encode_utf8 x)) flags in
      short_none (arg_by_short c x) rest h (next_passes rest 0) (next_fault rest 0) (λ k. after rest 0 k) e
  bundle_none (Some x) flags (suc skip) h next_passes next_fault after e = after (drop (length (encode_utf8 x)) flags) skip h e

  flags_none : (k : ℕ) (flags : Text) (skip : ℕ) (h : Held) → flags_pass c again k flags skip h ≡ true → flags_fault c again k flags skip h ≡ []
  unfolding flags_pass flags_fault
  flags_none zero flags skip h e = refl
  flags_none (suc k) flags skip h e =
      bundle_none (slice_get (chars flags) 0) flags skip h (flags_pass c again k) (flags_fault c again k) (λ t n g. flags_none k t n g) e

  flag_word_none : (o : Option (Text × Option Text)) (word : Text) (h : Held) → flag_word_passes c again o word h ≡ true → flag_word_fault c again o word h ≡ []
  flag_word_none (Some p) word h e = long_none (arg_by_long c p.0) p.1 h e
  flag_word_none None word h e = go (short_of word) e
    where
      go : (o : Option Text) → option_map_or (λ flags. flags_pass c again (length flags) flags h.skip (record h { skip = 0 })) o true ≡ true →
          option_map_or (λ flags. flags_fault c again (length flags) flags h.skip (record h { skip = 0 })) o [] ≡ []
      go None e = refl
      go (Some flags) e = flags_none (length flags) flags h.skip (record h { skip = 0 }) e

  positional_none : (a : Rule) (h : Held) → positional_passes c again a h ≡ true → positional_fault c again a h ≡ []
  positional_none a h e = go (is_pending a h.pending && takes_several a) e
    where
      go : (b : Bool) → (b || settle_passes c again h) ≡ true → (if b then [] else settle_fault c again h) ≡ []
      go true e = refl
      go false e = settle_none h e

module _ (s : Shape) (names : Names) where
  other_none : (o : Option Text) (word : Text) (h : Held) → other_passes s o word h ≡ true → other_fault s o word h ≡ []
  other_none (Some name) word h e = go (bytes_eq name (codes "help")) s.disable_help_subcommand e
    where
      go : (b d : Bool) → (not b || d) ≡ true → (if b && not d then kind.DisplayHelp ∷ kind.InvalidSubcommand ∷ [] else []) ≡ []
      go false d e = refl
      go true true e = refl
      go true false e = cc e
  other_none None word h e = go (bytes_eq word (45 ∷ 45 ∷ [])) e
    where
      go : (b : Bool) → (b || flag_word_passes s.rules s.args_override_self (long_of word) word h) ≡ true →
          (if b then [] else flag_word_fault s.rules s.args_override_self (long_of word) word h) ≡ []
      go true e = refl
      go false e = flag_word_none s.rules s.args_override_self (long_of word) word h e

  word_none : (is_trailing : Bool) (waiting : Waiting) (word : Text) (h : Held) → word_passes s names is_trailing waiting word h ≡ true → word_fault s names is_trailing waiting word h ≡ []
  word_none true waiting word h e = refl
  word_none false waiting word h e = other_none (subcommand_met names waiting word) word h e

  step_none : (position : ℕ) (h : Held) (step : Step) → step_passes s position h step ≡ true → step_fault s position h step ≡ []
  step_none position h (next w) e = refl
  step_none position h (trailing n) e = refl
  step_none position h (subcommand t) e = refl
  step_none position h value e = go (arg_by_index s.rules position) e
    where
      go : (o : Option Rule) → option_map_or (λ a. positional_passes s.rules s.args_override_self a h) o false ≡ true →
          option_map_or (λ a. positional_fault s.rules s.args_override_self a h) o (stray_fault s) ≡ []
      go None e = cc e
      go (Some a) e = positional_none s.rules s.args_override_self a h e

  turn_none : (w : Walk) (word : Text) → turn_passes s names w word ≡ true → turn_fault s names w word ≡ []
  turn_none w word e = go (is_some w.stopped) e
    where
      met : Held × Step
      met = word_met s.rules names w.is_trailing w.waiting w.position word w.held

      go : (b : Bool) → (b || (word_passes s names w.is_trailing w.waiting word w.held && step_passes s w.position met.0 met.1)) ≡ true →
          (if b then [] else or_else (word_fault s names w.is_trailing w.waiting word w.held) (step_fault s w.position met.0 met.1)) ≡ []
      go true e = refl
      go false e =
          let both = and_parts (word_passes s names w.is_trailing w.waiting word w.held) (step_passes s w.position met.0 met.1) e in
          no_kind (word_fault s names w.is_trailing w.waiting word w.held) (step_fault s w.position met.0 met.1)
          (word_none w.is_trailing w.waiting word w.held both.0) (step_none w.position met.0 met.1 both.1)

  walk_none : (w : Walk) (words : List Text) → walk_passes s names w words ≡ true → walk_fault s names w words ≡ []
  unfolding walk_passes walk_fault
  walk_none w [] e = refl
  walk_none w (word ∷ rest) e =
      let both = and_parts (turn_passes s names w word) (walk_passes s names (walked s.rules names w word) rest) e in
      no_kind (turn_fault s names w word) (walk_fault s names (walked s.rules names w word) rest)
      (turn_none w word both.0) (walk_none (walked s.rules names w word) rest both.1)

-- ---- after the walk

request_none : (action : ArgAction) → not (is_request action) ≡ true → request_kinds action ≡ []
request_none act.Set e = refl
request_none act.SetTrue e = refl
request_none act.SetFalse e = refl
request_none act.Append e = refl
request_none act.Count e = refl
request_none act.Help e = cc e
request_none act.HelpShort e = cc e
request_none act.HelpLong e = cc e
request_none act.Version e = cc e

default_none : (rows : List Row) (a : Rule) → default_passes a ≡ true → default_fault rows a ≡ []
default_none rows a e = go (has_row a.id rows) (is_empty a.defaults) e
  where
    go : (b d : Bool) → (d || (not (is_request (action_of a)) && values_pass a a.defaults)) ≡ true →
        (if b || d then [] else or_else (request_kinds (action_of a)) (values_fault a a.defaults)) ≡ []
    go true d e = refl
    go false true e = refl
    go false false e =
        let both = and_parts (not (is_request (action_of a))) (values_pass a a.defaults) e in
        no_kind (request_kinds (action_of a)) (values_fault a a.defaults) (request_none (action_of a) both.0) (given_none a a.defaults both.1)

defaults_none : (rules : List Rule) (rows : List Row) → list_all default_passes rules ≡ true → defaults_fault rows rules ≡ []
unfolding defaults_fault
defaults_none [] rows e = refl
defaults_none (a ∷ rest) rows e =
    let both = and_parts (default_passes a) (list_all default_passes rest) e in
    no_kind (default_fault rows a) (defaults_fault (with_default rows a) rest) (default_none rows a both.0) (defaults_none rest (with_default rows a) both.1)

-- a level of the parse has no fault where what is behind it has none
pub level_none : (s : Shape) (words : List Text) → walk_passes s [] (walk_from nothing_held) words ≡ true →
    settle_passes s.rules s.args_override_self (walk s.rules [] nothing_held words).held ≡ true → list_all default_passes s.rules ≡ true →
    ((rows : List Row) → check_fault s rows false ≡ []) → level_fault s [] nothing_held words false [] ≡ []
level_none s words passes settles defaults checks =
    let end = (walk s.rules [] nothing_held words).held in
    no_kind (walk_fault s [] (walk_from nothing_held) words) _ (walk_none s [] (walk_from nothing_held) words passes)
    (no_kind (settle_fault s.rules s.args_override_self end) _ (settle_none s.rules s.args_override_self end settles)
    (no_kind (defaults_fault (settled s.rules end).rows s.rules) (check_fault s (finished s.rules end) false)
    (defaults_none s.rules (settled s.rules end).rows defaults) (checks (finished s.rules end))))

-- a command with no subcommand has the faults of its own level
pub leaf_none : (a : App) (words : List Text) → a.subs ≡ [] → level_fault a.top [] nothing_held words false [] ≡ [] → built_fault a nothing_held words ≡ []
leaf_none a words none e = ap (λ subs. built_fault (record a { subs = subs }) nothing_held words) none ∙ go (walk a.top.rules [] nothing_held words).stopped
  where
    go : (stop : Option (Text × List Text))
        → level_fault a.top [] nothing_held words (is_some (entered (record a { subs = [] }) stop)) (entered_fault (record a { subs = [] }) stop) ≡ []
    go None = e
    go (Some p) = e
