-- Choices in a row: clap's walk leads through their words, and finds a row for each.
use Rattle.std.proofs.Common.{◌≡◌, refl, ap, sym, subst, ◌∙◌, ℕ, Bool, true, false, not, ◌||◌, List, [], ◌∷◌, ◌++◌, map, Some, None, if◌then◌else◌, append_assoc}
use Rattle.std.specs.Prelude.{codes, flat_map, fold}
use Rattle.std.specs.List.{All, list_all}
use Rattle.std.specs.Str.{bytes_eq}
use Rattle.std.proofs.lemmas.Bool.{and_from, and_parts}
use Rattle.std.proofs.lemmas.List.{append-nil}
use Rattle.std.proofs.lemmas.List.Folds.{list_any-append}
use Rattle.std.proofs.lemmas.List.Elements.{All-head, All-tail}
use Rattle.std.proofs.lemmas.Grind.{fold-append}
use Rattle.clap.specs.Walk.{Held, Row, Rule, Text, Walk, idle, option, has_row, walked}
use Rattle.clap.specs.Lexer.{long_of}
use Rattle.clap.specs.Simple.{Shape}
use Rattle.clap.specs.Takes.{turn_passes, walk_passes}
use Rattle.hc_words.specs.Order.{Setting, number, seed, horizon, limit, workers, steps, report, channels, name_of, is_number, is_flag, Choice, words_of, IsRight, is_other, are_apart}
use Rattle.hc_words.proofs.Rights.{BeginsPlain, right_plain}
use Rattle.hc_words.proofs.Uses.{row_for}
use Rattle.hc_words.proofs.Steps.{IsFlag, IsOption, IsWord, Reached, raised, raised_walked, raised_passes, raised_reached, put, word_walked, word_passes, word_reached, standing, joined, joined_walked, joined_passes, joined_reached, named, named_walked, named_passes, valued, valued_walked, valued_passes, valued_reached}

-- the place of the next word: N is the second that stands by its place
abbrev pub position_in : List Row → ℕ
position_in rows = if has_row (codes "N") rows then 3 else 2

-- the walk leads through these words, and finds these rows in all
pub record Leads (s : Shape) (h : Held) (n : ℕ) (words : List Text) (rows : List Row) : Type 0 where
  pub place : Held
  pub position : ℕ
  pub counts : position ≡ position_in rows
  pub walks : fold (walked s.rules []) (standing h idle n) words ≡ standing place idle position
  pub passes : (rest : List Text) → walk_passes s [] (standing place idle position) rest ≡ true → walk_passes s [] (standing h idle n) (words ++ rest) ≡ true
  pub reached : Reached s place rows

-- ---- one word passes, and so do those behind it

pub passes_on : (s : Shape) (w after : Walk) (word : Text) (rest : List Text) → turn_passes s [] w word ≡ true → walked s.rules [] w word ≡ after →
    walk_passes s [] after rest ≡ true → walk_passes s [] w (word ∷ rest) ≡ true
unfolding walk_passes
passes_on s w after word rest turn is behind =
    and_from _ _ turn (ap (λ (v : Walk). walk_passes s [] v rest) is ∙ behind)

-- ---- places

one_more : (rows : List Row) (id v : Text) → has_row (codes "N") (rows ++ row_for id v ∷ []) ≡ (has_row (codes "N") rows || (bytes_eq id (codes "N") || false))
one_more rows id v = list_any-append (λ r. bytes_eq r.id (codes "N")) rows (row_for id v ∷ [])

same_position : (rows : List Row) (id v : Text) → bytes_eq id (codes "N") ≡ false → position_in (rows ++ row_for id v ∷ []) ≡ position_in rows
same_position rows id v other =
    ap (λ b. if b then 3 else 2) (one_more rows id v ∙ ap (λ b. has_row (codes "N") rows || (b || false)) other ∙ go (has_row (codes "N") rows))
  where
    go : (b : Bool) → (b || (false || false)) ≡ b
    go true = refl
    go false = refl

last_position : (rows : List Row) (v : Text) → position_in (rows ++ row_for (codes "N") v ∷ []) ≡ 3
last_position rows v = ap (λ b. if b then 3 else 2) (one_more rows (codes "N") v ∙ go (has_row (codes "N") rows))
  where
    go : (b : Bool) → (b || true) ≡ true
    go true = refl
    go false = refl

-- ---- the words of a choice

long_alone : (k : Setting) → long_of (45 ∷ 45 ∷ name_of k) ≡ Some (name_of k, None)
long_alone number = refl
long_alone seed = refl
long_alone horizon = refl
long_alone limit = refl
long_alone workers = refl
long_alone steps = refl
long_alone report = refl
long_alone channels = refl

long_joined : (k : Setting) (v : Text) → long_of (45 ∷ 45 ∷ name_of k ++ 61 ∷ v) ≡ Some (name_of k, Some v)
long_joined number v = refl
long_joined seed v = refl
long_joined horizon v = refl
long_joined limit v = refl
long_joined workers v = refl
long_joined steps v = refl
long_joined report v = refl
long_joined channels v = refl

alone_dashes : (k : Setting) → bytes_eq (45 ∷ 45 ∷ name_of k) (45 ∷ 45 ∷ []) ≡ false
alone_dashes number = refl
alone_dashes seed = refl
alone_dashes horizon = refl
alone_dashes limit = refl
alone_dashes workers = refl
alone_dashes steps = refl
alone_dashes report = refl
alone_dashes channels = refl

joined_dashes : (k : Setting) (v : Text) → bytes_eq (45 ∷ 45 ∷ name_of k ++ 61 ∷ v) (45 ∷ 45 ∷ []) ≡ false
joined_dashes number v = refl
joined_dashes seed v = refl
joined_dashes horizon v = refl
joined_dashes limit v = refl
joined_dashes workers v = refl
joined_dashes steps v = refl
joined_dashes report v = refl
joined_dashes channels v = refl

not_number : (k : Setting) → is_number k ≡ false → bytes_eq (name_of k) (codes "N") ≡ false
not_number number e = cc e
not_number seed e = refl
not_number horizon e = refl
not_number limit e = refl
not_number workers e = refl
not_number steps e = refl
not_number report e = refl
not_number channels e = refl

-- what is found for a choice
abbrev pub row_of_choice : Choice → Row
row_of_choice c = row_for (name_of c.setting) c.value

-- an option's own words, and N
module _ (s : Shape) (k : Setting) (a : Rule) (o : IsOption s (name_of k) a) (other : bytes_eq (name_of k) (codes "N") ≡ false)
    (h : Held) (rows : List Row) (n : ℕ) (reached : Reached s h rows) (none : has_row (name_of k) rows ≡ false) (counts : n ≡ position_in rows) where
  joined_leads : (v : Text) → Leads s h n ((45 ∷ 45 ∷ name_of k ++ 61 ∷ v) ∷ []) (rows ++ row_for (name_of k) v ∷ [])
  joined_leads v =
      let word : Text = 45 ∷ 45 ∷ name_of k ++ 61 ∷ v in
      let walks = joined_walked s (name_of k) a o h rows reached none n word v (joined_dashes k v) (long_joined k v) in
      let turn = joined_passes s (name_of k) a o h rows reached none n word v (joined_dashes k v) (long_joined k v) in
      record {
        place = joined s (name_of k) a o h rows reached none n v;
        position = n;
        counts = counts ∙ sym (same_position rows (name_of k) v other);
        walks = walks;
        passes = λ rest behind. passes_on s (standing h idle n) _ word rest turn walks behind;
        reached = joined_reached s (name_of k) a o h rows reached none n v;
      }

  apart_leads : (v : Text) → BeginsPlain v → Leads s h n ((45 ∷ 45 ∷ name_of k) ∷ v ∷ []) (rows ++ row_for (name_of k) v ∷ [])
  apart_leads [] plain = absurd plain
  apart_leads (x ∷ v) plain =
      let word : Text = 45 ∷ 45 ∷ name_of k in
      let first = named_walked s (name_of k) a o h rows reached none n word (alone_dashes k) (long_alone k) in
      let turn = named_passes s (name_of k) a o h rows reached none n word (alone_dashes k) (long_alone k) in
      let second = valued_walked s (name_of k) a o h rows reached none n x v plain in
      let turn_2 = valued_passes s (name_of k) a o h rows reached none n x v plain in
      let middle : Walk = standing (named s (name_of k) a o h rows reached none n) (option (name_of k)) n in
      record {
        place = valued s (name_of k) a o h rows reached none n (x ∷ v);
        position = n;
        counts = counts ∙ sym (same_position rows (name_of k) (x ∷ v) other);
        walks = ap (λ (w : Walk). walked s.rules [] w (x ∷ v)) first ∙ second;
        passes = λ rest behind. passes_on s (standing h idle n) middle word ((x ∷ v) ∷ rest) turn first
            (passes_on s middle _ (x ∷ v) rest turn_2 second behind);
        reached = valued_reached s (name_of k) a o h rows reached none n (x ∷ v);
      }

module _ (s : Shape) (k : Setting) (a : Rule) (o : IsFlag s (name_of k) a) (other : bytes_eq (name_of k) (codes "N") ≡ false)
    (h : Held) (rows : List Row) (n : ℕ) (reached : Reached s h rows) (none : has_row (name_of k) rows ≡ false) (counts : n ≡ position_in rows) where
  flag_leads : Leads s h n ((45 ∷ 45 ∷ name_of k) ∷ []) (rows ++ row_for (name_of k) (codes "true") ∷ [])
  flag_leads =
      let word : Text = 45 ∷ 45 ∷ name_of k in
      let walks = raised_walked s (name_of k) a o h rows reached none n word (alone_dashes k) (long_alone k) in
      let turn = raised_passes s (name_of k) a o h rows reached none n word (alone_dashes k) (long_alone k) in
      record {
        place = raised s (name_of k) a o h rows reached none n;
        position = n;
        counts = counts ∙ sym (same_position rows (name_of k) (codes "true") other);
        walks = walks;
        passes = λ rest behind. passes_on s (standing h idle n) _ word rest turn walks behind;
        reached = raised_reached s (name_of k) a o h rows reached none n;
      }

module _ (s : Shape) (a : Rule) (o : IsWord s 2 (codes "N") a) (h : Held) (rows : List Row) (reached : Reached s h rows)
    (none : has_row (codes "N") rows ≡ false) where
  number_leads : (n : ℕ) (v : Text) → BeginsPlain v → n ≡ position_in rows → Leads s h n (v ∷ []) (rows ++ row_for (codes "N") v ∷ [])
  number_leads n [] plain counts = absurd plain
  number_leads n (x ∷ v) plain counts =
      let walks = word_walked s 2 (codes "N") a o h rows reached none x v plain in
      let turn = word_passes s 2 (codes "N") a o h rows reached none x v plain in
      let second : n ≡ 2 = counts ∙ ap (λ b. if b then 3 else 2) none in
      subst (λ (m : ℕ). Leads s h m ((x ∷ v) ∷ []) (rows ++ row_for (codes "N") (x ∷ v) ∷ [])) (sym second) (record {
        place = put s 2 (codes "N") a o h rows reached none (x ∷ v);
        position = 3;
        counts = sym (last_position rows (x ∷ v));
        walks = walks;
        passes = λ rest behind. passes_on s (standing h idle 2) _ (x ∷ v) rest turn walks behind;
        reached = word_reached s 2 (codes "N") a o h rows reached none (x ∷ v);
      })

module _ (s : Shape) (rule : Setting → Rule) (options : (k : Setting) → is_number k ≡ false → is_flag k ≡ false → IsOption s (name_of k) (rule k))
    (flags : (k : Setting) → is_flag k ≡ true → IsFlag s (name_of k) (rule k)) (word : IsWord s 2 (codes "N") (rule number)) where
  option_leads : (k : Setting) (b : Bool) (v : Text) (h : Held) (rows : List Row) (n : ℕ) → is_number k ≡ false → is_flag k ≡ false → IsRight k v → Reached s h rows →
      has_row (name_of k) rows ≡ false → n ≡ position_in rows →
      Leads s h n (if b then (45 ∷ 45 ∷ name_of k ++ 61 ∷ v) ∷ [] else (45 ∷ 45 ∷ name_of k) ∷ v ∷ []) (rows ++ row_for (name_of k) v ∷ [])
  option_leads k true v h rows n e f right reached none counts = joined_leads s k (rule k) (options k e f) (not_number k e) h rows n reached none counts v
  option_leads k false v h rows n e f right reached none counts =
      apart_leads s k (rule k) (options k e f) (not_number k e) h rows n reached none counts v (right_plain k v right)

  raising_leads : (k : Setting) (v : Text) (h : Held) (rows : List Row) (n : ℕ) → is_number k ≡ false → is_flag k ≡ true → v ≡ codes "true" → Reached s h rows →
      has_row (name_of k) rows ≡ false → n ≡ position_in rows → Leads s h n ((45 ∷ 45 ∷ name_of k) ∷ []) (rows ++ row_for (name_of k) v ∷ [])
  raising_leads k v h rows n e f right reached none counts =
      subst (λ (t : Text). Leads s h n ((45 ∷ 45 ∷ name_of k) ∷ []) (rows ++ row_for (name_of k) t ∷ [])) (sym right)
      (flag_leads s k (rule k) (flags k f) (not_number k e) h rows n reached none counts)

  choice_leads : (k : Setting) (b : Bool) (v : Text) (h : Held) (rows : List Row) (n : ℕ) → IsRight k v → Reached s h rows → has_row (name_of k) rows ≡ false →
      n ≡ position_in rows → Leads s h n (words_of (record { setting = k; is_joined = b; value = v })) (rows ++ row_for (name_of k) v ∷ [])
  choice_leads number b v h rows n right reached none counts = number_leads s (rule number) word h rows reached none n v (right_plain number v right) counts
  choice_leads seed b v h rows n right reached none counts = option_leads seed b v h rows n refl refl right reached none counts
  choice_leads horizon b v h rows n right reached none counts = option_leads horizon b v h rows n refl refl right reached none counts
  choice_leads limit b v h rows n right reached none counts = option_leads limit b v h rows n refl refl right reached none counts
  choice_leads workers b v h rows n right reached none counts = option_leads workers b v h rows n refl refl right reached none counts
  choice_leads steps b v h rows n right reached none counts = option_leads steps b v h rows n refl refl right reached none counts
  choice_leads report b v h rows n right reached none counts = raising_leads report v h rows n refl refl right reached none counts
  choice_leads channels b v h rows n right reached none counts = raising_leads channels v h rows n refl refl right reached none counts

-- ---- choices in a row

nothing_leads : (s : Shape) (h : Held) (n : ℕ) (rows : List Row) → Reached s h rows → n ≡ position_in rows → Leads s h n [] rows
nothing_leads s h n rows reached counts =
    record { place = h; position = n; counts = counts; walks = refl; passes = λ rest behind. behind; reached = reached }

both_lead : (s : Shape) (h : Held) (n : ℕ) (xs ys : List Text) (rows more : List Row) (first : Leads s h n xs rows) → Leads s first.place first.position ys more →
    Leads s h n (xs ++ ys) more
both_lead s h n xs ys rows more first second = record {
  place = second.place;
  position = second.position;
  counts = second.counts;
  walks = fold-append (walked s.rules []) (standing h idle n) xs ys ∙ ap (λ (w : Walk). fold (walked s.rules []) w ys) first.walks ∙ second.walks;
  passes = λ rest behind. ap (λ ws. walk_passes s [] (standing h idle n) ws) (append_assoc xs ys rest) ∙ first.passes (ys ++ rest) (second.passes rest behind);
  reached = second.reached;
}

-- none of the choices has a row
abbrev pub are_new : List Row → List Choice → Bool
are_new rows = list_all (λ c. not (has_row (name_of c.setting) rows))

any_push : (rows : List Row) (r : Row) (id : Text) → has_row id rows ≡ false → bytes_eq r.id id ≡ false → has_row id (rows ++ r ∷ []) ≡ false
any_push rows r id none other = list_any-append (λ x. bytes_eq x.id id) rows (r ∷ []) ∙ rw (none, other) refl

not_true : (b : Bool) → not b ≡ true → b ≡ false
not_true true e = cc e
not_true false e = refl

still_new : (rows : List Row) (c : Choice) (cs : List Choice) → are_new rows cs ≡ true → list_all (is_other c) cs ≡ true →
    are_new (rows ++ row_of_choice c ∷ []) cs ≡ true
still_new rows c [] new other = refl
still_new rows c (d ∷ cs) new other =
    let here = and_parts (not (has_row (name_of d.setting) rows)) (are_new rows cs) new in
    let apart = and_parts (is_other c d) (list_all (is_other c) cs) other in
    let none = any_push rows (row_of_choice c) (name_of d.setting) (not_true _ here.0) (not_true _ apart.0) in
    and_from _ _ (ap not none) (still_new rows c cs here.1 apart.1)

module _ (s : Shape) (rule : Setting → Rule) (options : (k : Setting) → is_number k ≡ false → is_flag k ≡ false → IsOption s (name_of k) (rule k))
    (flags : (k : Setting) → is_flag k ≡ true → IsFlag s (name_of k) (rule k)) (word : IsWord s 2 (codes "N") (rule number)) where
  pub choices_lead : (cs : List Choice) (h : Held) (rows : List Row) (n : ℕ) → All (λ c. IsRight c.setting c.value) cs → Reached s h rows →
      are_new rows cs ≡ true → are_apart cs ≡ true → n ≡ position_in rows → Leads s h n (flat_map words_of cs) (rows ++ map row_of_choice cs)
  choices_lead [] h rows n right reached new apart counts =
      subst (λ (more : List Row). Leads s h n [] more) (sym (append-nil rows)) (nothing_leads s h n rows reached counts)
  choices_lead (c ∷ cs) h rows n right reached new apart counts =
      let here = and_parts (not (has_row (name_of c.setting) rows)) (are_new rows cs) new in
      let others = and_parts (list_all (is_other c) cs) (are_apart cs) apart in
      let mine = All-head (λ (d : Choice). IsRight d.setting d.value) c cs right in
      let first = choice_leads s rule options flags word c.setting c.is_joined c.value h rows n mine reached (not_true _ here.0) counts in
      let rest = choices_lead cs first.place (rows ++ row_of_choice c ∷ []) first.position (All-tail (λ (d : Choice). IsRight d.setting d.value) c cs right) first.reached (still_new rows c cs here.1 others.0) others.1 first.counts in
      subst (λ (more : List Row). Leads s h n (words_of c ++ flat_map words_of cs) more) (append_assoc rows (row_of_choice c ∷ []) (map row_of_choice cs))
      (both_lead s h n (words_of c) (flat_map words_of cs) _ _ first rest)
