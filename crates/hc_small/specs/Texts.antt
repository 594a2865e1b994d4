-- Which tokens of the small language are accepted with which value, and where the others are refused.
use Rattle.std.specs.Prelude.{ℕ, List, Result}
use Rattle.hc_frac.specs.declared.place.Place.{Place}
use Rattle.hc_grammar.specs.Answers.{Accepted}
use Rattle.hc_grammar.specs.Refusals.{IsRefusedAt}
use Rattle.hc_grammar.specs.Exact as grammar
use Rattle.hc_grammar.specs.Stops.{told}
use Rattle.hc_grammar.specs.declared.whole.Stop.{Stop}
use Rattle.hc_small_grammar.specs.declared.letters.Token.{Token}
use Rattle.hc_small_grammar.specs.declared.letters.Flaw.{Flaw}
use Rattle.hc_small_grammar.specs.Grammar.{IsSpelling}
use Rattle.hc_small_grammar.specs.Language.{language}

module _ (ts : List Token) where
  -- nothing is wrong with the tokens, and this is their value
  abbrev pub IsValue : List ℕ → Type 0
  IsValue v = Accepted language IsSpelling ts v

  -- this is the first thing that is wrong, at this place
  abbrev pub IsRefused : Flaw × Place → Type 0
  IsRefused = IsRefusedAt language.reader IsSpelling language.opening (λ t. t.place) ts

  -- the value or the first refusal, and both are answered unless memory runs out
  abbrev pub IsExact : {X : Type 0} → (X → List ℕ) → Result X (Stop Flaw) → Type 0
  IsExact value = grammar.IsExact value told IsValue IsRefused
