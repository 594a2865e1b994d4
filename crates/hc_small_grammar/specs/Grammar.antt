-- The published grammar of the small language, and how its texts are spelled.
use Rattle.std.specs.Prelude.{◌≡◌, true, [], ◌∷◌}
use Rattle.hc_grammar.specs.Texts.{Text, Read, Did}
use Rattle.hc_small_grammar.specs.declared.letters.Kind.{Kind}
use Rattle.hc_small_grammar.specs.declared.letters.Kind.TheVariants as k
use Rattle.hc_small_grammar.specs.declared.letters.Role.{Role}
use Rattle.hc_small_grammar.specs.declared.letters.Role.TheVariants as r
use Rattle.hc_small_grammar.specs.declared.letters.Mark.{Mark}
use Rattle.hc_small_grammar.specs.declared.letters.Mark.TheVariants as m
use Rattle.hc_small_grammar.specs.declared.letters.Token.{Token}
use Rattle.hc_small_grammar.specs.Table.{same}

-- a token that a kind takes
abbrev pub Of : Kind → Type 0
Of wanted = (t : Token) × (same wanted t.kind ≡ true)

-- value = NAME or `it`, or `(` value `)`
pub data Value : Type 0 where
  name : Of k.AnyName → Value
  brackets : Of k.OpenRound → Value → Of k.CloseRound → Value

-- first = `=` value, or nothing
pub data First : Type 0 where
  unsaid : First
  said : Of k.Equal → Value → First

-- lines = nothing, or `let` NAME first `;` lines, or `use` value `;` lines, or `drop` (NAME or `it`) `;` lines
pub data Lines : Type 0 where
  none : Lines
  declared : Of k.Let → Of k.Name → First → Of k.Semicolon → Lines → Lines
  used : Of k.Use → Value → Of k.Semicolon → Lines → Lines
  dropped : Of k.Drop → Of k.AnyName → Of k.Semicolon → Lines → Lines

abbrev pub Spelled : Type 0
Spelled = Text Token Role Mark

-- each in front of what follows it
abbrev pub value : Value → Spelled → Spelled
value (name t) w = Read t.0 r.Uses ∷ w
value (brackets bracket x close) w = Read bracket.0 r.Open ∷ value x (Read close.0 r.Close ∷ Did m.Bracketed ∷ w)

abbrev pub first : First → Spelled → Spelled
first unsaid w = Did m.Unsaid ∷ w
first (said sign x) w = Read sign.0 r.Plain ∷ value x w

abbrev pub lines : Lines → Spelled → Spelled
lines none w = w
lines (declared word t x semicolon more) w =
    Read word.0 r.Plain ∷ Read t.0 r.Declares ∷ first x (Read semicolon.0 r.Plain ∷ lines more w)
lines (used word x semicolon more) w = Read word.0 r.Plain ∷ value x (Read semicolon.0 r.Plain ∷ lines more w)
lines (dropped word t semicolon more) w =
    Read word.0 r.Plain ∷ Read t.0 r.Uses ∷ Read semicolon.0 r.Plain ∷ lines more w

-- lines, and then the end of the text
abbrev pub IsSpelling : Spelled → Type 0
IsSpelling w = (x : Lines) × (end : Of k.End) × (w ≡ lines x (Read end.0 r.Plain ∷ []))
