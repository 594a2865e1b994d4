-- A text as its tokens, each in its role, with the marks that stand between them.
use Rattle.std.specs.Prelude.{List, [], ◌∷◌, Option, None, Some}

-- a token in the role that it plays, or a mark
pub data Item (T A B : Type 0) : Type 0 where
  Read : T → A → Item T A B
  Did : B → Item T A B

-- one after another
abbrev pub Text : (T A B : Type 0) → Type 0
Text T A B = List (Item T A B)

-- the tokens alone
abbrev pub tokens_of : {T A B : Type 0} → Text T A B → List T
tokens_of [] = []
tokens_of (Read t role ∷ w) = t ∷ tokens_of w
tokens_of (Did b ∷ w) = tokens_of w

-- a mark, if there is one, then more
abbrev pub mark_then : {T A B : Type 0} → Option B → Text T A B → Text T A B
mark_then None w = w
mark_then (Some b) w = Did b ∷ w

-- marks, then a token in its role, then more
abbrev pub items_of : {T A B : Type 0} → List B → T → A → Text T A B → Text T A B
items_of [] t role w = Read t role ∷ w
items_of (b ∷ marks) t role w = Did b ∷ items_of marks t role w
