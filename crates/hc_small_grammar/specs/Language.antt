-- The small language: its table, what is asked at each token, and the value of a text.
use Rattle.std.specs.Prelude.{ℕ, ◌+◌, ◌-◌, if◌then◌else◌, Bool, true, false, ◌||◌, nat_le, ◌==◌, List, [], ◌∷◌, ◌++◌, Option, Some, None}
use Rattle.std.specs.List.{list_any}
use Rattle.hc_grammar.specs.Reader.{Walk, Reader}
use Rattle.hc_grammar.specs.Language as grammar
use Rattle.hc_small_grammar.specs.declared.letters.Kind.{Kind}
use Rattle.hc_small_grammar.specs.declared.letters.Kind.TheVariants as k
use Rattle.hc_small_grammar.specs.declared.letters.Role.{Role}
use Rattle.hc_small_grammar.specs.declared.letters.Role.TheVariants as r
use Rattle.hc_small_grammar.specs.declared.letters.Mark.{Mark}
use Rattle.hc_small_grammar.specs.declared.letters.Head.{Head}
use Rattle.hc_small_grammar.specs.declared.letters.Token.{Token}
use Rattle.hc_small_grammar.specs.declared.letters.Flaw.{Flaw}
use Rattle.hc_small_grammar.specs.declared.letters.Flaw.TheVariants as wrong
use Rattle.hc_small_grammar.specs.Table.{table, start}

-- the names that are declared so far, and the brackets that are open
pub record State : Type 0 where
  pub names : List ℕ
  pub open_items : ℕ

abbrev pub opening : State
opening = record { names = []; open_items = 0 }

abbrev pub after_token : Role → Token → State → State
after_token r.Declares t s = record { names = s.names ++ t.name ∷ []; open_items = s.open_items }
after_token r.Open t s = record { names = s.names; open_items = s.open_items + 1 }
after_token r.Close t s = record { names = s.names; open_items = s.open_items - 1 }
after_token _ t s = s

-- a word that is too long, wherever it stands
abbrev pub unfit : Kind → Option Flaw
unfit k.LongWord = Some wrong.TooLong
unfit _ = None

abbrev pub is_it : Kind → Bool
is_it k.It = true
is_it _ = false

-- a name that isn't declared before; `it` needs no declaration
abbrev pub undeclared : Token → List ℕ → Option Flaw
undeclared t names = if is_it t.kind || list_any (λ x. x == t.name) names then None else Some wrong.Names

abbrev pub judge : Role → Token → State → Option Flaw
judge r.Uses t s = undeclared t s.names
judge r.Open t s = if nat_le 3 s.open_items then Some wrong.TooDeep else None
judge _ t s = None

abbrev pub reader : Reader Token Role Mark State Flaw
reader = record {
  walk = record { on_token = after_token; on_mark = λ b s. s };
  early = λ t s. unfit t.kind;
  syntax = wrong.Syntax;
  judge = judge;
}

-- the names that are used, the last one first, with a 0 for brackets around one and for a value that isn't said
abbrev pub used : Role → Token → List ℕ → List ℕ
used r.Uses t v = t.name ∷ v
used _ t v = v

abbrev pub builder : Walk Token Role Mark (List ℕ)
builder = record { on_token = used; on_mark = λ b v. 0 ∷ v }

abbrev pub language : grammar.Language Kind Head Role Mark Token State Flaw (List ℕ)
language = record {
  table = table;
  kind = λ t. t.kind;
  start = start;
  last = k.End;
  reader = reader;
  opening = opening;
  builder = builder;
  blank = [];
}
