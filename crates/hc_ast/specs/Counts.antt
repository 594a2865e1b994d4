-- What is counted along a source: open items, and the nodes of one outermost expression or condition.
use Rattle.std.specs.Prelude.{ℕ, ◌+◌, ◌-◌, Bool, true, false, ◌&&◌, if◌then◌else◌, nat_le, Option, Some, None}
use Rattle.hc_limits.specs.Limits.{most_open_items, most_nodes}
use Rattle.hc_grammar.specs.Reader.{Reader}
use Rattle.hc_token.specs.declared.kind.Kind.{Kind}
use Rattle.hc_token.specs.declared.kind.Kind.TheVariants as k
use Rattle.hc_token.specs.declared.token.Token.{Token}
use Rattle.hc_token.specs.Lexemes.{kind_of}
use Rattle.hc_ast.specs.declared.flaw.Flaw.{Flaw}
use Rattle.hc_ast.specs.declared.flaw.Flaw.TheVariants as wrong
use Rattle.hc_ast.specs.declared.role.Role.{Role}
use Rattle.hc_ast.specs.declared.role.Role.TheVariants as r
use Rattle.hc_ast.specs.declared.role.Mark.{Mark}
use Rattle.hc_ast.specs.declared.role.Mark.TheVariants as m

pub record Counts : Type 0 where
  pub open_items : ℕ
  pub nodes : ℕ

-- before the first token
abbrev pub opening : Counts
opening = record { open_items = 0; nodes = 0 }

-- whether a token in this role opens an item; whether it is a node
abbrev pub opens : Role → Bool
opens r.Prefix = true
opens r.Begin = true
opens r.Open = true
opens _ = false

abbrev pub is_node : Role → Bool
is_node r.Leaf = true
is_node r.Operator = true
is_node r.Prefix = true
is_node _ = false

-- behind a token in its role
abbrev pub after_token : Role → Counts → Counts
after_token r.Close n = record { open_items = n.open_items - 1; nodes = n.nodes }
after_token role n = record {
  open_items = n.open_items + (if opens role then 1 else 0);
  nodes = n.nodes + (if is_node role then 1 else 0);
}

-- behind a mark: a sign before its part is done with the part, and an outermost expression begins with no nodes
abbrev pub after_mark : Mark → Counts → Counts
after_mark m.Negate n = record { open_items = n.open_items - 1; nodes = n.nodes }
after_mark m.Not n = record { open_items = n.open_items - 1; nodes = n.nodes }
after_mark m.Fresh n = record { open_items = n.open_items; nodes = 0 }
after_mark _ n = n

-- as it stands: a word that is too long, a number out of range
abbrev pub unfit : Kind → Option Flaw
unfit k.LongWord = Some wrong.NameTooLong
unfit k.LargeNumber = Some wrong.NumberUnfit
unfit _ = None

-- in its role: with it there are more open items, or more nodes, than the limit
abbrev pub beyond : Role → Counts → Option Flaw
beyond role n =
    if opens role && nat_le most_open_items n.open_items then Some wrong.TooDeep
    else (if is_node role && nat_le most_nodes n.nodes then Some wrong.TooManyNodes else None)

-- the questions at each token of a source
abbrev pub reader : Reader Token Role Mark Counts Flaw
reader = record {
  walk = record { on_token = λ role t n. after_token role n; on_mark = after_mark };
  early = λ t n. unfit (kind_of t.lexeme);
  syntax = wrong.Syntax;
  judge = λ role t n. beyond role n;
}
