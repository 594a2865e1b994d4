-- The limits along a text: open items and nodes, with something that holds of each token.
use Rattle.std.proofs.Common.{◌≡◌, ◌<◌, ℕ, ◌+◌, ◌-◌, [], ◌∷◌}
use Rattle.hc_grammar.specs.Texts.{Read, Did}
use Rattle.hc_token.specs.declared.token.Token.{Token}
use Rattle.hc_ast.specs.declared.role.Role.{Role}
use Rattle.hc_ast.specs.declared.role.Role.TheVariants as r
use Rattle.hc_ast.specs.declared.role.Mark.{Mark}
use Rattle.hc_ast.specs.declared.role.Mark.TheVariants as m
use Rattle.hc_ast.specs.Leaves.{Spelled}

-- there is room for a token in its role, behind d open items and n nodes
abbrev pub Room : Role → ℕ → ℕ → Type 0
Room r.Prefix d n = (d < 64) × (n < 200)
Room r.Begin d n = d < 64
Room r.Open d n = d < 64
Room r.Leaf d n = n < 200
Room r.Operator d n = n < 200
Room _ d n = Unit {0}

-- the open items and the nodes behind it
abbrev pub open_behind : Role → ℕ → ℕ
open_behind r.Prefix d = d + 1
open_behind r.Begin d = d + 1
open_behind r.Open d = d + 1
open_behind r.Close d = d - 1
open_behind _ d = d

abbrev pub nodes_behind : Role → ℕ → ℕ
nodes_behind r.Prefix n = n + 1
nodes_behind r.Leaf n = n + 1
nodes_behind r.Operator n = n + 1
nodes_behind _ n = n

-- and behind a mark
abbrev pub open_at : Mark → ℕ → ℕ
open_at m.Negate d = d - 1
open_at m.Not d = d - 1
open_at _ d = d

abbrev pub nodes_at : Mark → ℕ → ℕ
nodes_at m.Fresh n = 0
nodes_at _ n = n

-- there is room for each token of a text, and P holds of it
abbrev pub Walks : (Token → Type 0) → Spelled → ℕ → ℕ → Type 0
Walks P [] d n = Unit {0}
Walks P (Read t role ∷ w) d n = P t × Room role d n × Walks P w (open_behind role d) (nodes_behind role n)
Walks P (Did b ∷ w) d n = Walks P w (open_at b d) (nodes_at b n)

-- the same at other numbers
pub walks_at : (P : Token → Type 0) (w : Spelled) (d e n m : ℕ) → d ≡ e → n ≡ m → Walks P w d n → Walks P w e m
walks_at P w d e n m f g h = rw (← f, ← g) h
