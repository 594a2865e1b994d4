-- What can be written: a lexeme that is read as it is spelled.
use Rattle.std.proofs.Common.{◌≤◌, Bool, true, false, List, [], ◌∷◌}
use Rattle.hc_ctoken.specs.declared.fixed.Fixed.{Fixed}
use Rattle.hc_ctoken.specs.declared.token.Lexeme.{Lexeme}
use Rattle.hc_ctoken.specs.declared.token.Lexeme.TheVariants as lex
use Rattle.hc_ctoken.specs.declared.token.Token.{Token}
use Rattle.hc_cspell.specs.Tokens.{Lexemes, only_if}
pub use Rattle.hc_cwrite.specs.Sayable.{IsReadAs, IsQuoted, IsInRange, IsSayable}

abbrev pub IsFine : Lexeme → Type 0
IsFine l = IsSayable l

abbrev pub AreFine : Lexemes → Type 0
AreFine [] = Unit {0}
AreFine (l ∷ w) = IsFine l × AreFine w

-- the names and the numbers that a token of a text says are such
abbrev pub IsSoundAs : Lexeme → Type 0
IsSoundAs (lex.Array w) = IsReadAs w (lex.Array w)
IsSoundAs (lex.Function w) = IsReadAs w (lex.Function w)
IsSoundAs (lex.Local w) = IsReadAs w (lex.Local w)
IsSoundAs (lex.Thread n) = n ≤ 18446744073709551615
IsSoundAs (lex.Number n) = IsInRange n
IsSoundAs (lex.Text w) = IsQuoted w
IsSoundAs _ = Unit {0}

abbrev pub IsSound : Token → Type 0
IsSound t = IsSoundAs t.lexeme

abbrev pub AllSound : List Token → Type 0
AllSound [] = Unit {0}
AllSound (t ∷ ts) = IsSound t × AllSound ts

pub only_if_fine : (needed : Bool) (one : Fixed) (w : Lexemes) → AreFine w → AreFine (only_if needed one w)
only_if_fine true one w fine = (tt, fine)
only_if_fine false one w fine = fine
