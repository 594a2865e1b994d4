-- A language that a table reads token by token.
use Rattle.std.specs.Prelude.{◌≡◌, Bool, true, false}
use Rattle.hc_grammar.specs.Table.{Symbols, Table}
use Rattle.hc_grammar.specs.Texts.{Text}
use Rattle.hc_grammar.specs.Derives.{Derives}
use Rattle.hc_grammar.specs.Ll1.{fits, IsLl1, Examples}
use Rattle.hc_grammar.specs.Ends.{closes_by, EndsBy}
use Rattle.hc_grammar.specs.Reader.{Walk, Reader, IsCalm}

-- a grammar with its start and its last kind of token, what is asked at each token, and the value that a text builds
pub record Language (K H A B T S R V : Type 0) : Type 0 where
  pub table : Table K H A B
  pub kind : T → K
  pub start : Symbols K H A B
  pub last : K
  pub reader : Reader T A B S R
  pub opening : S
  pub builder : Walk T A B V
  pub blank : V

-- the texts of the language
abbrev pub IsText : {K H A B T S R V : Type 0} → Language K H A B T S R V → Text T A B → Type 0
IsText c w = Derives c.table c.kind c.start w

-- whether a token is of the last kind
abbrev pub is_last : {K H A B T S R V : Type 0} → Language K H A B T S R V → T → Bool
is_last c t = c.table.same c.last (c.kind t)

-- the next token alone always decides how a text goes on, and a last token ends it
pub record IsReadable {K H A B T S R V : Type 0} (c : Language K H A B T S R V) : Type 0 where
  pub ll1 : IsLl1 c.table
  pub examples : Examples c.table c.kind
  pub start_fits : (k : K) → fits c.table c.start k false ≡ true
  pub ends : EndsBy c.table c.last
  pub start_closes : closes_by c.table c.last c.start ≡ true
  pub calm : IsCalm c.reader
