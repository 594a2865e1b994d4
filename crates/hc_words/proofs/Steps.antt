-- A word by its place, and one word or two of an option with its value: where the walk stands behind it, and that it passes.
use Rattle.std.proofs.Common.{◌≡◌, refl, ap, ◌∙◌, ℕ, ◌+◌, ◌==◌, Bool, true, false, ◌&&◌, ◌||◌, List, [], ◌∷◌, ◌++◌, Some, None}
use Rattle.std.specs.Prelude.{codes}
use Rattle.std.specs.Str.{bytes_eq}
use Rattle.std.proofs.lemmas.Bool.{and_from}
use Rattle.clap.specs.Lexer.{long_of}
use Rattle.clap.specs.Walk.{Held, Row, Rule, Step, Text, Waiting, Walk, idle, option, positional, value, after_step, arg_by_id, arg_by_index, arg_by_long, takes_values, takes_several, is_multiple, next_position, is_pending, most_values, has_row, used, settled, settled_rows, reacted, plain_word, word_met, walked}
use Rattle.clap.specs.Simple.{Shape}
use Rattle.clap.specs.Takes.{other_passes, settle_passes, step_passes, use_passes, turn_passes}
use Rattle.hc_words.proofs.Uses.{row_for}

-- the walk stands between two words, neither behind `--` nor in a subcommand
abbrev pub standing : Held → Waiting → ℕ → Walk
standing h waiting n = record { held = h; waiting = waiting; position = n; is_trailing = false; stopped = None }

-- the argument is an option with one value
pub record IsOption (s : Shape) (name : Text) (a : Rule) : Type 0 where
  pub by_long : arg_by_long s.rules name ≡ Some a
  pub by_id : arg_by_id s.rules name ≡ Some a
  pub takes : takes_values a ≡ true
  pub id : a.id ≡ name
  pub same : bytes_eq name a.id ≡ true
  pub most : most_values a ≡ 1
  pub passes : (v : Text) (rows : List Row) → has_row name rows ≡ false → use_passes s.args_override_self a (v ∷ []) rows ≡ true
  pub uses : (v : Text) (rows : List Row) → has_row name rows ≡ false → used a (v ∷ []) rows ≡ rows ++ row_for name v ∷ []

-- the argument is a flag
pub record IsFlag (s : Shape) (name : Text) (a : Rule) : Type 0 where
  pub by_long : arg_by_long s.rules name ≡ Some a
  pub takes : takes_values a ≡ false
  pub passes : (rows : List Row) → has_row name rows ≡ false → use_passes s.args_override_self a [] rows ≡ true
  pub uses : (rows : List Row) → has_row name rows ≡ false → used a [] rows ≡ rows ++ row_for name (codes "true") ∷ []

-- the argument is the word of this place, alone there
pub record IsWord (s : Shape) (n : ℕ) (name : Text) (a : Rule) : Type 0 where
  pub by_index : arg_by_index s.rules n ≡ Some a
  pub by_id : arg_by_id s.rules name ≡ Some a
  pub id : a.id ≡ name
  pub several : takes_several a ≡ false
  pub multiple : is_multiple a ≡ false
  pub next : next_position a n ≡ n + 1
  pub trailing : a.trailing_var_arg ≡ false
  pub passes : (v : Text) (rows : List Row) → has_row name rows ≡ false → use_passes s.args_override_self a (v ∷ []) rows ≡ true
  pub uses : (v : Text) (rows : List Row) → has_row name rows ≡ false → used a (v ∷ []) rows ≡ rows ++ row_for name v ∷ []

-- what is pending passes, and with it these are the rows
pub record Reached (s : Shape) (h : Held) (rows : List Row) : Type 0 where
  pub settles : settle_passes s.rules s.args_override_self h ≡ true
  pub rows_are : settled_rows s.rules h.pending h.rows ≡ rows

-- a word that doesn't begin with `-`
pub plain_met : (c : List Rule) (waiting : Waiting) (n x : ℕ) (v : Text) (h : Held) → (x == 45) ≡ false →
    word_met c [] false waiting n (x ∷ v) h ≡ plain_word c waiting (x ∷ v) h
plain_met c idle n x v h e = simp e
plain_met c (option id) n x v h e = simp e
plain_met c positional n x v h e = simp e

-- such a word passes where it is read
pub plain_passes : (s : Shape) (x : ℕ) (v : Text) (h : Held) → (x == 45) ≡ false → other_passes s None (x ∷ v) h ≡ true
plain_passes s x v h e = simp e

-- ---- a word by its place

not_both : (b : Bool) → (b && false) ≡ false
not_both true = refl
not_both false = refl

either : (b : Bool) → (b || true) ≡ true
either true = refl
either false = refl

module _ (s : Shape) (place : ℕ) (name : Text) (a : Rule) (o : IsWord s place name a) (h : Held) (rows : List Row) (reached : Reached s h rows)
    (none : has_row name rows ≡ false) where
  abbrev pub put : Text → Held
  put v = record (settled s.rules h) { pending = Some (name, v ∷ []) }

  word_placed : (v : Text) → after_step s.rules v (standing h idle place) h value ≡ standing (put v) idle (place + 1)
  word_placed v = rw (o.by_index, o.next, o.multiple, o.several, not_both (is_pending a h.pending), o.trailing, o.id) refl

  pub word_walked : (x : ℕ) (v : Text) → (x == 45) ≡ false → walked s.rules [] (standing h idle place) (x ∷ v) ≡ standing (put (x ∷ v)) idle (place + 1)
  unfolding walked
  word_walked x v e =
      ap (λ (m : Held × Step). after_step s.rules (x ∷ v) (standing h idle place) m.0 m.1) (plain_met s.rules idle place x v h e) ∙ word_placed (x ∷ v)

  placed_passes : step_passes s place h value ≡ true
  placed_passes = rw (o.by_index, reached.settles, either (is_pending a h.pending && takes_several a)) refl

  pub word_passes : (x : ℕ) (v : Text) → (x == 45) ≡ false → turn_passes s [] (standing h idle place) (x ∷ v) ≡ true
  word_passes x v e =
      and_from _ _ (plain_passes s x v h e)
      (ap (λ (m : Held × Step). step_passes s place m.0 m.1) (plain_met s.rules idle place x v h e) ∙ placed_passes)

  pub word_reached : (v : Text) → Reached s (put v) (rows ++ row_for name v ∷ [])
  word_reached v = record {
    settles = rw (o.by_id, reached.rows_are, o.passes v rows none) refl;
    rows_are = rw (o.by_id, reached.rows_are) (o.uses v rows none);
  }

-- ---- `--name=value`

module _ (s : Shape) (name : Text) (a : Rule) (o : IsOption s name a) (h : Held) (rows : List Row) (reached : Reached s h rows)
    (none : has_row name rows ≡ false) (n : ℕ) where
  abbrev pub joined : Text → Held
  joined v = reacted s.rules a (v ∷ []) h

  pub joined_walked : (word v : Text) → bytes_eq word (45 ∷ 45 ∷ []) ≡ false → long_of word ≡ Some (name, Some v) →
      walked s.rules [] (standing h idle n) word ≡ standing (joined v) idle n
  unfolding walked
  joined_walked word v dashes long = rw (dashes, long, o.by_long, o.takes) refl

  pub joined_passes : (word v : Text) → bytes_eq word (45 ∷ 45 ∷ []) ≡ false → long_of word ≡ Some (name, Some v) →
      turn_passes s [] (standing h idle n) word ≡ true
  joined_passes word v dashes long = rw (dashes, long, o.by_long, o.takes, reached.settles, reached.rows_are, o.passes v rows none) refl

  pub joined_reached : (v : Text) → Reached s (joined v) (rows ++ row_for name v ∷ [])
  joined_reached v = record {
    settles = refl;
    rows_are = ap (used a (v ∷ [])) reached.rows_are ∙ o.uses v rows none;
  }

  -- ---- `--name`, and then its value

  abbrev pub named : Held
  named = record (settled s.rules h) { pending = Some (name, []) }

  pub named_walked : (word : Text) → bytes_eq word (45 ∷ 45 ∷ []) ≡ false → long_of word ≡ Some (name, None) →
      walked s.rules [] (standing h idle n) word ≡ standing named (option name) n
  unfolding walked
  named_walked word dashes long = rw (dashes, long, o.by_long, o.takes, o.id) refl

  pub named_passes : (word : Text) → bytes_eq word (45 ∷ 45 ∷ []) ≡ false → long_of word ≡ Some (name, None) →
      turn_passes s [] (standing h idle n) word ≡ true
  named_passes word dashes long = rw (dashes, long, o.by_long, o.takes, reached.settles) refl

  abbrev pub valued : Text → Held
  valued v = record (settled s.rules h) { pending = Some (name, v ∷ []) }

  pub valued_walked : (x : ℕ) (v : Text) → (x == 45) ≡ false →
      walked s.rules [] (standing named (option name) n) (x ∷ v) ≡ standing (valued (x ∷ v)) idle n
  unfolding walked
  valued_walked x v e =
      let value_taken : after_step s.rules (x ∷ v) (standing named (option name) n) (plain_word s.rules (option name) (x ∷ v) named).0 (plain_word s.rules (option name) (x ∷ v) named).1
      ≡ standing (valued (x ∷ v)) idle n = rw (o.by_id, o.same, o.most) refl in
      ap (λ (m : Held × Step). after_step s.rules (x ∷ v) (standing named (option name) n) m.0 m.1) (plain_met s.rules (option name) n x v named e) ∙ value_taken

  pub valued_passes : (x : ℕ) (v : Text) → (x == 45) ≡ false →
      turn_passes s [] (standing named (option name) n) (x ∷ v) ≡ true
  valued_passes x v e =
      and_from _ _ (plain_passes s x v named e)
      (ap (λ (m : Held × Step). step_passes s n m.0 m.1) (plain_met s.rules (option name) n x v named e))

  pub valued_reached : (v : Text) → Reached s (valued v) (rows ++ row_for name v ∷ [])
  valued_reached v = record {
    settles = rw (o.by_id, reached.rows_are, o.passes v rows none) refl;
    rows_are = rw (o.by_id, reached.rows_are) (o.uses v rows none);
  }

-- ---- a flag

module _ (s : Shape) (name : Text) (a : Rule) (o : IsFlag s name a) (h : Held) (rows : List Row) (reached : Reached s h rows)
    (none : has_row name rows ≡ false) (n : ℕ) where
  abbrev pub raised : Held
  raised = reacted s.rules a [] h

  pub raised_walked : (word : Text) → bytes_eq word (45 ∷ 45 ∷ []) ≡ false → long_of word ≡ Some (name, None) →
      walked s.rules [] (standing h idle n) word ≡ standing raised idle n
  unfolding walked
  raised_walked word dashes long = rw (dashes, long, o.by_long, o.takes) refl

  pub raised_passes : (word : Text) → bytes_eq word (45 ∷ 45 ∷ []) ≡ false → long_of word ≡ Some (name, None) →
      turn_passes s [] (standing h idle n) word ≡ true
  raised_passes word dashes long = rw (dashes, long, o.by_long, o.takes, reached.settles, reached.rows_are, o.passes rows none) refl

  pub raised_reached : Reached s raised (rows ++ row_for name (codes "true") ∷ [])
  raised_reached = record {
    settles = refl;
    rows_are = ap (used a []) reached.rows_are ∙ o.uses rows none;
  }
