-- What the tokens that are still to come will make of a text that is read so far.
use Rattle.std.specs.Prelude.{◌≡◌, List, ◌∷◌, Result, Err}
use Rattle.hc_grammar.specs.Table.{Symbols}
use Rattle.hc_grammar.specs.Language.{Language}
use Rattle.hc_grammar.specs.Machine.{feed, refused_or, at_taken, reads}
use Rattle.hc_grammar.specs.declared.language.Fault.{Fault}
use Rattle.hc_grammar.specs.declared.language.Fault.TheVariants.{Flaw, Memory}

module _ {K H A B T S R V : Type 0} (c : Language K H A B T S R V) where
  -- the value of a text, or the token at which it is refused, and why
  abbrev pub Answer : Type 0
  Answer = Result V (R × T)

  -- what further tokens make of it
  abbrev pub remaining : Symbols K H A B → S → V → List T → Answer
  remaining ss s v ts = reads c ts ss s v

  -- what a token and further ones make of it, where nothing is wrong with the token as it stands
  abbrev pub at_fit : Symbols K H A B → S → V → T → List T → Answer
  at_fit ss s v t ts = at_taken c t (feed c.table ss (c.kind t)) s v (λ ss' s' v'. reads c ts ss' s' v')

  -- what they make of it where the token is taken in a role, and these symbols are wanted next
  abbrev pub in_role : Symbols K H A B → S → V → A → T → List T → Answer
  in_role ss s v role t ts =
      refused_or (c.reader.judge role t s) t (reads c ts ss (c.reader.walk.on_token role t s) (c.builder.on_token role t v))

  -- the token is refused, whatever follows it
  abbrev pub Stops : Symbols K H A B → S → V → T → Fault R → Type 0
  Stops ss s v t (Flaw r) = (ts : List T) → remaining ss s v (t ∷ ts) ≡ Err (r, t)
  Stops ss s v t Memory = Unit {0}
