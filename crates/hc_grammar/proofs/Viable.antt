-- Each stack has a text, so that whatever was read can go on.
use Rattle.std.proofs.Common.{[], ◌∷◌}
use Rattle.hc_grammar.specs.declared.symbol.Symbol.TheVariants.{Token, Head, Mark}
use Rattle.hc_grammar.specs.Table.{Symbols, Table}
use Rattle.hc_grammar.specs.Texts.{Text, Read, Did}
use Rattle.hc_grammar.specs.Derives.{Derives, done, token, mark}
use Rattle.hc_grammar.specs.Ll1.{Examples}

module _ {K H A B T : Type 0} (g : Table K H A B) (kind : T → K) (examples : Examples g kind) where
  -- symbol by symbol, from the bottom
  pub completed : (ss : Symbols K H A B) → (w : Text T A B) × Derives g kind ss w
  completed [] = ([], done)
  completed (Token j role ∷ ss) =
      let (t, e) = examples.a_token j in let (w, d) = completed ss in (Read t role ∷ w, token e d)
  completed (Head h ∷ ss) = let (w, d) = completed ss in examples.a_phrase h ss w d
  completed (Mark b ∷ ss) = let (w, d) = completed ss in (Did b ∷ w, mark d)
