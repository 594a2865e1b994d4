-- A readable language with its texts as whoever states a theorem says them.
use Rattle.hc_grammar.specs.Texts.{Text}
use Rattle.hc_grammar.specs.Language.{Language, IsText, IsReadable}

-- the texts `Is` are those that the table derives
pub record Setting {K H A B T S R V : Type 0} (c : Language K H A B T S R V) : Type 1 where
  pub law : IsReadable c
  pub Is : Text T A B → Type 0
  pub derived : (w : Text T A B) → Is w → IsText c w
  pub is : (w : Text T A B) → IsText c w → Is w

-- the derived texts themselves
abbrev pub plain : {K H A B T S R V : Type 0} {c : Language K H A B T S R V} → IsReadable c → Setting c
plain {c = c} law = record { law = law; Is = IsText c; derived = λ w d. d; is = λ w d. d }
