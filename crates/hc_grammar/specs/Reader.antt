-- What is asked at each token of a text, beside its place in the grammar.
use Rattle.std.specs.Prelude.{◌≡◌, List, [], ◌∷◌, Option, None}
use Rattle.hc_grammar.specs.Texts.{Text, Read, Did}

-- a state that each token in its role and each mark changes
pub record Walk (T A B S : Type 0) : Type 0 where
  pub on_token : A → T → S → S
  pub on_mark : B → S → S

-- the state behind a text
abbrev pub walked : {T A B S : Type 0} → Walk T A B S → Text T A B → S → S
walked k [] s = s
walked k (Read t role ∷ w) s = walked k w (k.on_token role t s)
walked k (Did b ∷ w) s = walked k w (k.on_mark b s)

-- the state behind marks
abbrev pub marked : {T A B S : Type 0} → Walk T A B S → List B → S → S
marked k [] s = s
marked k (b ∷ marks) s = marked k marks (k.on_mark b s)

-- three questions at a token, in their order: as it stands, whether the grammar has it here, and in its role there
pub record Reader (T A B S R : Type 0) : Type 0 where
  pub walk : Walk T A B S
  -- what is wrong with the token as it stands, in the state behind the token before it
  pub early : T → S → Option R
  -- what is wrong where no text goes on with it
  pub syntax : R
  -- what is wrong with it in its role, in the state right before it
  pub judge : A → T → S → Option R

-- a mark changes nothing of the first question's answer
abbrev pub IsCalm : {T A B S R : Type 0} → Reader T A B S R → Type 0
IsCalm {T} {A} {B} {S} m = (b : B) (t : T) (s : S) → m.early t (m.walk.on_mark b s) ≡ m.early t s

-- nothing is wrong with any token of the text
abbrev pub Within : {T A B S R : Type 0} → Reader T A B S R → Text T A B → S → Type 0
Within m [] s = Unit {0}
Within m (Read t role ∷ w) s = (m.early t s ≡ None) × (m.judge role t s ≡ None) × Within m w (m.walk.on_token role t s)
Within m (Did b ∷ w) s = Within m w (m.walk.on_mark b s)
