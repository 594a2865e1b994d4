-- A grammar as a table: what a phrase is, once its first token is seen.
use Rattle.std.specs.Prelude.{Bool, List, ◌++◌, Option}
use Rattle.hc_grammar.specs.declared.symbol.Symbol.{Symbol}

-- kinds of tokens K, heads of phrases H, roles of tokens A, marks between tokens B
abbrev pub Symbols : (K H A B : Type 0) → Type 0
Symbols K H A B = List (Symbol K H A B)

-- before a token a phrase takes it, in a role, and goes on by these symbols; or it is empty; or it can't stand there
pub data Entry (K H A B : Type 0) : Type 0 where
  Takes : A → Symbols K H A B → Entry K H A B
  Skips : Entry K H A B
  Refuses : Entry K H A B

-- the same phrase, and then these symbols
abbrev pub with_more : {K H A B : Type 0} → Symbols K H A B → Entry K H A B → Entry K H A B
with_more q (Takes role p) = Takes role (p ++ q)
with_more q Skips = Skips
with_more q Refuses = Refuses

-- which phrase may stand where
pub record Table (K H A B : Type 0) : Type 0 where
  -- whether the first kind, which is wanted, takes a token of the second
  pub same : K → K → Bool
  -- what the phrase is before a token of this kind
  pub entry : H → K → Entry K H A B
  -- whether the phrase may be empty
  pub empties : H → Bool
  -- the mark that stands in its place where it is empty, if there is one
  pub left_out : H → Option B
  -- whether a token of this kind may come right behind the phrase
  pub follow : H → K → Bool
