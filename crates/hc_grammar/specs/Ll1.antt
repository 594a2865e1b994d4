-- What lets a table be read with one token seen ahead.
use Rattle.std.specs.Prelude.{◌≡◌, Bool, true, false, not, ◌&&◌, ◌||◌, [], ◌∷◌}
use Rattle.hc_grammar.specs.declared.symbol.Symbol.TheVariants.{Token, Head, Mark}
use Rattle.hc_grammar.specs.Table.{Symbols, Entry, Takes, Skips, Refuses, Table}
use Rattle.hc_grammar.specs.Texts.{Text}
use Rattle.hc_grammar.specs.Derives.{Derives}

-- whether a phrase takes a token by this row, where `behind` says whether what follows it would
abbrev pub takes_by : {K H A B : Type 0} → Entry K H A B → Bool → Bool
takes_by (Takes role p) behind = true
takes_by Skips behind = behind
takes_by Refuses behind = false

-- whether symbols take a token of kind k, where `behind` says whether what follows them would
abbrev pub accepts : {K H A B : Type 0} → Table K H A B → Symbols K H A B → K → Bool → Bool
accepts g [] k behind = behind
accepts g (Token j role ∷ p) k behind = g.same j k
accepts g (Head h ∷ p) k behind = takes_by (g.entry h k) (accepts g p k behind)
accepts g (Mark b ∷ p) k behind = accepts g p k behind

-- whether each phrase among the symbols has k in its follow where k may come behind it
abbrev pub fits : {K H A B : Type 0} → Table K H A B → Symbols K H A B → K → Bool → Bool
fits g [] k behind = true
fits g (Token j role ∷ p) k behind = fits g p k behind
fits g (Head h ∷ p) k behind = (not (accepts g p k behind) || g.follow h k) && fits g p k behind
fits g (Mark b ∷ p) k behind = fits g p k behind

-- only a phrase that may be empty is skipped; it is skipped before all that may follow it; and no row breaks what may follow
pub record IsLl1 {K H A B : Type 0} (g : Table K H A B) : Type 0 where
  pub empty : (h : H) (k : K) → g.entry h k ≡ Skips → g.empties h ≡ true
  pub apart : (h : H) (k : K) → g.empties h ≡ true → g.follow h k ≡ true → g.entry h k ≡ Skips
  pub fitting : (h : H) (k : K) (role : A) (p : Symbols K H A B) → g.entry h k ≡ Takes role p
      → (j : K) → fits g p j (g.follow h j) ≡ true

-- each kind has a token that it takes, and each phrase has a text
pub record Examples {K H A B T : Type 0} (g : Table K H A B) (kind : T → K) : Type 0 where
  pub a_token : (k : K) → (t : T) × (g.same k (kind t) ≡ true)
  pub a_phrase : (h : H) (ss : Symbols K H A B) (w : Text T A B) → Derives g kind ss w
      → (v : Text T A B) × Derives g kind (Head h ∷ ss) v
