-- An action and choices behind it: clap takes them.
use Rattle.std.proofs.Common.{◌≡◌, refl, ap, subst, ◌∙◌, ℕ, ◌==◌, true, false, List, [], ◌∷◌, Some}
use Rattle.std.specs.Prelude.{codes, fold}
use Rattle.std.specs.List.{list_all}
use Rattle.std.proofs.lemmas.Bool.{and_from}
use Rattle.std.proofs.lemmas.List.{append-nil}
use Rattle.clap.specs.Walk.{Held, Row, Step, Text, Walk, idle, value, after_step, finished, nothing_held, walk, walk_from, walked}
use Rattle.clap.specs.Faults.{built_fault, check_fault, fault_of, level_fault}
use Rattle.clap.specs.Simple.{argument_words, built}
use Rattle.clap.specs.Takes.{built_takes, default_passes, is_valid, level_passes, settle_passes, step_passes, takes, turn_passes, walk_passes}
use Rattle.clap.proofs.OnLiterals.{clap_on_literals}
use Rattle.clap.proofs.TakesLemmas.{leaf_takes}
use Rattle.hc_words.specs.Line.{hcsp, is_nothing, is_taken}
use Rattle.hc_words.proofs.Command.{is_simple_hcsp}
use Rattle.hc_words.proofs.Uses.{row_for}
use Rattle.hc_words.proofs.Steps.{Reached, standing, plain_met, plain_passes}
use Rattle.hc_words.proofs.Choices.{Leads, passes_on}
use Rattle.hc_words.proofs.NoFault.{leaf_none, level_none}
use Rattle.hc_words.proofs.Options.{shape}

-- ---- the action

-- what is held behind the action
abbrev pub acting : Text → Held
acting action = record { rows = []; pending = Some (codes "ACTION", action ∷ []); skip = 0 }

abbrev pub action_row : Text → Row
action_row action = row_for (codes "ACTION") action

placed : (action : Text) → after_step shape.rules action (walk_from nothing_held) nothing_held value ≡ standing (acting action) idle 2
unfolding shape hcsp clap_on_literals
placed action = refl

action_walked : (x : ℕ) (v : Text) → (x == 45) ≡ false → walked shape.rules [] (walk_from nothing_held) (x ∷ v) ≡ standing (acting (x ∷ v)) idle 2
unfolding walked
action_walked x v e =
    ap (λ (m : Held × Step). after_step shape.rules (x ∷ v) (walk_from nothing_held) m.0 m.1) (plain_met shape.rules idle 1 x v nothing_held e) ∙ placed (x ∷ v)

placed_passes : step_passes shape 1 nothing_held value ≡ true
unfolding shape hcsp clap_on_literals
placed_passes = refl

action_passes : (x : ℕ) (v : Text) → (x == 45) ≡ false → turn_passes shape [] (walk_from nothing_held) (x ∷ v) ≡ true
action_passes x v e =
    and_from _ _ (plain_passes shape x v nothing_held e)
    (ap (λ (m : Held × Step). step_passes shape 1 m.0 m.1) (plain_met shape.rules idle 1 x v nothing_held e) ∙ placed_passes)

pub action_reached : (action : Text) → Reached shape (acting action) (action_row action ∷ [])
unfolding shape hcsp clap_on_literals
action_reached action = record { settles = refl; rows_are = refl }

-- ---- behind the words

defaults_pass : list_all default_passes shape.rules ≡ true
unfolding shape hcsp clap_on_literals
defaults_pass = refl

always_valid : (rows : List Row) → is_valid shape rows false ≡ true
unfolding shape hcsp clap_on_literals
always_valid rows = refl

no_subs : (built hcsp).subs ≡ []
unfolding hcsp
no_subs = refl

behind_name : (name : Text) (words : List Text) → argument_words hcsp (name ∷ words) ≡ words
unfolding hcsp
behind_name name words = refl

level : (words : List Text) (place : Held) (n : ℕ) → walk shape.rules [] nothing_held words ≡ standing place idle n → walk_passes shape [] (walk_from nothing_held) words ≡ true →
    settle_passes shape.rules shape.args_override_self place ≡ true → level_passes shape [] nothing_held words false ≡ true
level words place n walks passes settles =
    and_from _ _ passes
    (and_from _ _ (ap (λ (w : Walk). settle_passes shape.rules shape.args_override_self w.held) walks ∙ settles)
    (and_from _ _ defaults_pass (always_valid (finished shape.rules (walk shape.rules [] nothing_held words).held))))

taken_by_level : (name : Text) (words : List Text) → level_passes shape [] nothing_held words false ≡ true → takes hcsp (name ∷ words) ≡ true
unfolding shape
taken_by_level name words passes =
    and_from _ _ is_simple_hcsp (ap (built_takes (built hcsp) nothing_held) (behind_name name words) ∙ leaf_takes (built hcsp) nothing_held words no_subs passes)

-- ---- all of it

pub all_walked : (x : ℕ) (v : Text) (words : List Text) (rows : List Row) → (x == 45) ≡ false → (led : Leads shape (acting (x ∷ v)) 2 words rows) →
    walk shape.rules [] nothing_held ((x ∷ v) ∷ words) ≡ standing led.place idle led.position
all_walked x v words rows e led = ap (λ (w : Walk). fold (walked shape.rules []) w words) (action_walked x v e) ∙ led.walks

nothing_passes : (h : Held) (n : ℕ) → walk_passes shape [] (standing h idle n) [] ≡ true
unfolding walk_passes
nothing_passes h n = refl

all_passes : (x : ℕ) (v : Text) (words : List Text) (rows : List Row) → (x == 45) ≡ false → Leads shape (acting (x ∷ v)) 2 words rows →
    walk_passes shape [] (walk_from nothing_held) ((x ∷ v) ∷ words) ≡ true
all_passes x v words rows e led =
    passes_on shape (walk_from nothing_held) (standing (acting (x ∷ v)) idle 2) (x ∷ v) words (action_passes x v e) (action_walked x v e)
    (subst (λ ws. walk_passes shape [] (standing (acting (x ∷ v)) idle 2) ws ≡ true) (append-nil words) (led.passes [] (nothing_passes led.place led.position)))

pub led_taken : (name : Text) (x : ℕ) (v : Text) (words : List Text) (rows : List Row) → (x == 45) ≡ false → Leads shape (acting (x ∷ v)) 2 words rows →
    takes hcsp (name ∷ (x ∷ v) ∷ words) ≡ true
led_taken name x v words rows e led =
    taken_by_level name ((x ∷ v) ∷ words)
    (level ((x ∷ v) ∷ words) led.place led.position (all_walked x v words rows e led) (all_passes x v words rows e led) led.reached.settles)

-- ---- and finds nothing against them

nothing_required : (rows : List Row) → check_fault shape rows false ≡ []
unfolding shape hcsp clap_on_literals
nothing_required rows = refl

free_by_level : (name : Text) (words : List Text) → level_fault shape [] nothing_held words false [] ≡ [] → fault_of hcsp (name ∷ words) ≡ []
unfolding shape
free_by_level name words free = ap (built_fault (built hcsp) nothing_held) (behind_name name words) ∙ leaf_none (built hcsp) words no_subs free

pub led_free : (name : Text) (x : ℕ) (v : Text) (words : List Text) (rows : List Row) → (x == 45) ≡ false → Leads shape (acting (x ∷ v)) 2 words rows →
    is_taken (name ∷ (x ∷ v) ∷ words) ≡ true
led_free name x v words rows e led =
    let walks = all_walked x v words rows e led in
    let settles = ap (λ (w : Walk). settle_passes shape.rules shape.args_override_self w.held) walks ∙ led.reached.settles in
    ap is_nothing (free_by_level name ((x ∷ v) ∷ words)
    (level_none shape ((x ∷ v) ∷ words) (all_passes x v words rows e led) settles defaults_pass nothing_required))
