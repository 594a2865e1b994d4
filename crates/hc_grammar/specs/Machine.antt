-- The machine that reads by a table: a stack of symbols that are still wanted.
use Rattle.std.specs.Prelude.{cond, List, [], ◌∷◌, ◌++◌, Option, None, Some, Result, Ok, Err}
use Rattle.hc_grammar.specs.declared.symbol.Symbol.TheVariants.{Token, Head, Mark}
use Rattle.hc_grammar.specs.Table.{Symbols, Entry, Takes, Skips, Refuses, Table}
use Rattle.hc_grammar.specs.Reader.{marked}
use Rattle.hc_grammar.specs.Language.{Language}

-- a token was taken behind these marks, in this role, and this is wanted next
pub record Taken (K H A B : Type 0) : Type 0 where
  pub marks : List B
  pub role : A
  pub rest : Symbols K H A B

-- behind one mark more
abbrev pub with_mark : {K H A B : Type 0} → B → Option (Taken K H A B) → Option (Taken K H A B)
with_mark b None = None
with_mark b (Some f) = Some (record { marks = b ∷ f.marks; role = f.role; rest = f.rest })

-- behind the mark in the place of a phrase that is left out, if there is one
abbrev pub with_left : {K H A B : Type 0} → Option B → Option (Taken K H A B) → Option (Taken K H A B)
with_left None o = o
with_left (Some b) o = with_mark b o

-- by a row of the table, with the stack below and what that makes of the token
abbrev pub at_entry : {K H A B : Type 0} → Entry K H A B → Symbols K H A B → Option (Taken K H A B) → Option (Taken K H A B)
at_entry (Takes role p) ss below = Some (record { marks = []; role = role; rest = p ++ ss })
at_entry Skips ss below = below
at_entry Refuses ss below = None

-- one token of kind k: the stack gives up what is above the symbol that takes it
abbrev pub feed : {K H A B : Type 0} → Table K H A B → Symbols K H A B → K → Option (Taken K H A B)
feed g [] k = None
feed g (Token j role ∷ ss) k = cond (g.same j k) (Some (record { marks = []; role = role; rest = ss })) None
feed g (Head h ∷ ss) k = at_entry (g.entry h k) ss (with_left (g.left_out h) (feed g ss k))
feed g (Mark b ∷ ss) k = with_mark b (feed g ss k)

-- a refusal of the token where there is one, else what comes next
abbrev pub refused_or : {T R V : Type 0} → Option R → T → Result V (R × T) → Result V (R × T)
refused_or (Some r) t next = Err (r, t)
refused_or None t next = next

-- the token as it was taken: the marks, the question in its role, and the state and value behind it
abbrev pub at_taken : {K H A B T S R V : Type 0} → Language K H A B T S R V → T → Option (Taken K H A B) → S → V
    → (Symbols K H A B → S → V → Result V (R × T)) → Result V (R × T)
at_taken c t None s v next = Err (c.reader.syntax, t)
at_taken c t (Some f) s v next =
    let s1 = marked c.reader.walk f.marks s in
    refused_or (c.reader.judge f.role t s1) t
    (next f.rest (c.reader.walk.on_token f.role t s1) (c.builder.on_token f.role t (marked c.builder f.marks v)))

-- token by token: the value of all of them, or the refusal of one
abbrev pub reads : {K H A B T S R V : Type 0} → Language K H A B T S R V → List T → Symbols K H A B → S → V → Result V (R × T)
reads c [] ss s v = Ok v
reads c (t ∷ ts) ss s v =
    refused_or (c.reader.early t s) t (at_taken c t (feed c.table ss (c.kind t)) s v (λ ss' s' v'. reads c ts ss' s' v'))
