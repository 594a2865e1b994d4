-- The texts of a grammar.
use Rattle.std.specs.Prelude.{◌≡◌, true, [], ◌∷◌, ◌++◌}
use Rattle.hc_grammar.specs.declared.symbol.Symbol.TheVariants.{Token, Head, Mark}
use Rattle.hc_grammar.specs.Table.{Symbols, Table, Takes}
use Rattle.hc_grammar.specs.Texts.{Text, Read, Did, mark_then}

-- the texts that a list of symbols stands for, symbol by symbol
pub data Derives {K H A B T : Type 0} (g : Table K H A B) (kind : T → K) : Symbols K H A B → Text T A B → Type 0 where
  done : Derives g kind [] []
  -- a wanted token is there
  token : {j : K} {role : A} {t : T} {ss : Symbols K H A B} {w : Text T A B}
      → g.same j (kind t) ≡ true → Derives g kind ss w → Derives g kind (Token j role ∷ ss) (Read t role ∷ w)
  -- a mark costs no token
  mark : {b : B} {ss : Symbols K H A B} {w : Text T A B}
      → Derives g kind ss w → Derives g kind (Mark b ∷ ss) (Did b ∷ w)
  -- a phrase begins with its first token, and goes on by its row
  takes : {h : H} {t : T} {role : A} {p ss : Symbols K H A B} {w : Text T A B}
      → g.entry h (kind t) ≡ Takes role p → Derives g kind (p ++ ss) w → Derives g kind (Head h ∷ ss) (Read t role ∷ w)
  -- a phrase that may be empty is left out, and its mark stands in its place
  skips : {h : H} {ss : Symbols K H A B} {w : Text T A B}
      → g.empties h ≡ true → Derives g kind ss w → Derives g kind (Head h ∷ ss) (mark_then (g.left_out h) w)
