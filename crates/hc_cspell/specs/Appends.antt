-- What a writer has written more.
use Rattle.std.specs.Prelude.{◌≡◌, ℕ, List, ◌++◌}
use Rattle.hc_cspell.specs.declared.writer.Writer.{Writer}
use Rattle.hc_cspell.specs.Tokens.{Lexemes, written}

-- behind the old bytes stand those that `f` puts in front of what follows, and no others
abbrev pub Appends : Writer → Writer → (List ℕ → List ℕ) → Type 0
Appends old new f = (z : List ℕ) → new.bytes.items ++ z ≡ old.bytes.items ++ f z

-- behind the old bytes stand the tokens that `f` puts in front of what follows, and no others
abbrev pub Writes : Writer → Writer → (Lexemes → Lexemes) → Type 0
Writes old new f = (w : Lexemes) → new.bytes.items ++ written w ≡ old.bytes.items ++ written (f w)
