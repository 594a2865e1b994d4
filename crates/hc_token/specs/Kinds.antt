-- Keywords and signs, and how each is spelled.
use Rattle.std.specs.Prelude.{ℕ, List, [], ◌∷◌, Option, codes}
use Rattle.hc_scan.specs.Spelling.{spelled, in_front}
use Rattle.hc_token.specs.declared.fixed.Fixed.{Fixed}
use Rattle.hc_token.specs.declared.fixed.Fixed.TheVariants as fix

-- how a keyword or a sign is spelled
abbrev pub text_of : Fixed → List ℕ
text_of fix.Module = codes "module"
text_of fix.EndModule = codes "endmodule"
text_of fix.Begin = codes "begin"
text_of fix.EndBody = codes "end"
text_of fix.System = codes "system"
text_of fix.EndSystem = codes "endsystem"
text_of fix.Ch = codes "ch"
text_of fix.Val = codes "val"
text_of fix.Skip = codes "skip"
text_of fix.Wait = codes "wait"
text_of fix.Log = codes "log"
text_of fix.If = codes "if"
text_of fix.Then = codes "then"
text_of fix.Else = codes "else"
text_of fix.EndIf = codes "endif"
text_of fix.True = codes "true"
text_of fix.False = codes "false"
text_of fix.Arrow = codes "-->"
text_of fix.ColonEqual = codes ":="
text_of fix.BarBar = codes "||"
text_of fix.BarGreater = codes "|>"
text_of fix.PlusPlus = codes "++"
text_of fix.StarStar = codes "**"
text_of fix.EmptySquare = codes "[]"
text_of fix.AndAnd = codes "&&"
text_of fix.LessEqual = codes "<="
text_of fix.GreaterEqual = codes ">="
text_of fix.EqualEqual = codes "=="
text_of fix.NotEqual = codes "!="
text_of fix.OpenRound = codes "("
text_of fix.CloseRound = codes ")"
text_of fix.OpenCurly = codes "{"
text_of fix.CloseCurly = codes "}"
text_of fix.OpenSquare = codes "["
text_of fix.CloseSquare = codes "]"
text_of fix.Less = codes "<"
text_of fix.Greater = codes ">"
text_of fix.Comma = codes ","
text_of fix.Semicolon = codes ";"
text_of fix.Colon = codes ":"
text_of fix.Equal = codes "="
text_of fix.And = codes "&"
text_of fix.Exclamation = codes "!"
text_of fix.Question = codes "?"
text_of fix.Plus = codes "+"
text_of fix.Minus = codes "-"
text_of fix.Star = codes "*"
text_of fix.Slash = codes "/"

-- the keywords
unfoldable pub keywords : List Fixed
keywords =
    fix.Module ∷ fix.EndModule ∷ fix.Begin ∷ fix.EndBody ∷ fix.System ∷ fix.EndSystem ∷ fix.Ch ∷ fix.Val ∷ fix.Skip ∷ fix.Wait ∷ fix.Log
    ∷ fix.If ∷ fix.Then ∷ fix.Else ∷ fix.EndIf ∷ fix.True ∷ fix.False ∷ []

-- the signs, the longer ones first
unfoldable pub signs : List Fixed
signs =
    fix.Arrow ∷ fix.ColonEqual ∷ fix.BarBar ∷ fix.BarGreater ∷ fix.PlusPlus ∷ fix.StarStar ∷ fix.EmptySquare ∷ fix.AndAnd
    ∷ fix.LessEqual ∷ fix.GreaterEqual ∷ fix.EqualEqual ∷ fix.NotEqual
    ∷ fix.OpenRound ∷ fix.CloseRound ∷ fix.OpenCurly ∷ fix.CloseCurly ∷ fix.OpenSquare ∷ fix.CloseSquare ∷ fix.Less ∷ fix.Greater
    ∷ fix.Comma ∷ fix.Semicolon ∷ fix.Colon ∷ fix.Equal ∷ fix.And ∷ fix.Exclamation ∷ fix.Question ∷ fix.Plus ∷ fix.Minus ∷ fix.Star ∷ fix.Slash ∷ []

-- the keyword that a word is, if it is one
unfoldable pub keyword : List ℕ → Option Fixed
keyword w = spelled text_of keywords w

-- the longest sign that the text begins with
unfoldable pub sign : List ℕ → Option (Fixed × ℕ)
sign z = in_front text_of signs z
