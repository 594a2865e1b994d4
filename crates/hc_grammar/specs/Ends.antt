-- Texts that one kind of token ends, and that have it nowhere else.
use Rattle.std.specs.Prelude.{◌≡◌, Bool, true, false, cond, ◌||◌, List, [], ◌∷◌}
use Rattle.hc_grammar.specs.declared.symbol.Symbol.TheVariants.{Token, Head, Mark}
use Rattle.hc_grammar.specs.Table.{Symbols, Takes, Table}

-- the last of the tokens is a last one, and no other is
abbrev pub Ends : {T : Type 0} → (T → Bool) → List T → Type 0
Ends is_last [] = ⊥
Ends is_last (t ∷ []) = is_last t ≡ true
Ends is_last (t ∷ u ∷ ts) = (is_last t ≡ false) × Ends is_last (u ∷ ts)

-- whether the symbols name the last kind
abbrev pub wants_last : {K H A B : Type 0} → Table K H A B → K → Symbols K H A B → Bool
wants_last g last [] = false
wants_last g last (Token j role ∷ ss) = g.same j last || wants_last g last ss
wants_last g last (Head h ∷ ss) = wants_last g last ss
wants_last g last (Mark b ∷ ss) = wants_last g last ss

-- whether there are no symbols
abbrev pub is_bare : {X : Type 0} → List X → Bool
is_bare [] = true
is_bare (s ∷ ss) = false

-- whether the symbols name the last kind as their last symbol, and before that nowhere
abbrev pub closes_by : {K H A B : Type 0} → Table K H A B → K → Symbols K H A B → Bool
closes_by g last [] = false
closes_by g last (Token j role ∷ ss) = cond (g.same j last) (is_bare ss) (closes_by g last ss)
closes_by g last (Head h ∷ ss) = closes_by g last ss
closes_by g last (Mark b ∷ ss) = closes_by g last ss

-- no phrase has a last token, and what takes one takes no other
pub record EndsBy {K H A B : Type 0} (g : Table K H A B) (last : K) : Type 0 where
  pub alike : (j k : K) → g.same j k ≡ true → g.same j last ≡ g.same last k
  pub never_first : (h : H) (k : K) (role : A) (p : Symbols K H A B) → g.entry h k ≡ Takes role p → g.same last k ≡ false
  pub never_later : (h : H) (k : K) (role : A) (p : Symbols K H A B) → g.entry h k ≡ Takes role p → wants_last g last p ≡ false
