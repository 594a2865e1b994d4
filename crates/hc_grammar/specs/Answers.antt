-- What reading a list of tokens has to answer, and that the machine answers it.
use Rattle.std.specs.Prelude.{◌≡◌, ◌↔◌, List, Result, Ok, Err}
use Rattle.hc_grammar.specs.Texts.{Text, tokens_of}
use Rattle.hc_grammar.specs.Ends.{Ends}
use Rattle.hc_grammar.specs.Reader.{Within, walked}
use Rattle.hc_grammar.specs.Refusals.{FirstRefusal}
use Rattle.hc_grammar.specs.Language.{Language, IsText, is_last, IsReadable}
use Rattle.hc_grammar.specs.Machine.{reads}

-- the tokens are those of a text with which nothing is wrong, and this is the value that it builds
pub record Accepted {K H A B T S R V : Type 0} (c : Language K H A B T S R V) (Is : Text T A B → Type 0)
    (ts : List T) (v : V) : Type 0 where
  pub text : Text T A B
  pub is_text : Is text
  pub tokens : tokens_of text ≡ ts
  pub within : Within c.reader text c.opening
  pub built : walked c.builder text c.blank ≡ v

-- the value of the tokens' text, or the first refusal
abbrev pub Answers : {K H A B T S R V : Type 0} → Language K H A B T S R V → (Text T A B → Type 0)
    → List T → Result V (R × T) → Type 0
Answers c Is ts (Ok v) = Accepted c Is ts v
Answers c Is ts (Err (r, t)) = FirstRefusal c.reader Is c.opening ts r t

-- to all tokens that a last one ends there is one answer, and it is the machine's
abbrev pub ReadsExactly : (K H A B T S R V : Type 0) → Type 0
ReadsExactly K H A B T S R V =
    (c : Language K H A B T S R V) → IsReadable c → (ts : List T) → Ends (is_last c) ts → (answer : Result V (R × T))
    → Answers c (IsText c) ts answer ↔ (reads c ts c.start c.opening c.blank ≡ answer)

-- all tokens that a last one ends are those of at most one text
abbrev pub HaveOneText : (K H A B T S R V : Type 0) → Type 0
HaveOneText K H A B T S R V =
    (c : Language K H A B T S R V) → IsReadable c → (ts : List T) → Ends (is_last c) ts → (w v : Text T A B)
    → IsText c w → IsText c v → tokens_of w ≡ ts → tokens_of v ≡ ts → w ≡ v
