-- Keywords and signs, and how each is spelled.
use Rattle.std.specs.Prelude.{ℕ, List, [], ◌∷◌, Option, codes}
use Rattle.hc_scan.specs.Spelling.{spelled, in_front}
use Rattle.hc_ctoken.specs.declared.fixed.Fixed.{Fixed}
use Rattle.hc_ctoken.specs.declared.fixed.Fixed.TheVariants as fix

-- how a keyword or a sign is spelled
abbrev pub text_of : Fixed → List ℕ
text_of fix.Static = codes "static"
text_of fix.Int = codes "int"
text_of fix.Const = codes "const"
text_of fix.Char = codes "char"
text_of fix.Void = codes "void"
text_of fix.If = codes "if"
text_of fix.Else = codes "else"
text_of fix.While = codes "while"
text_of fix.Switch = codes "switch"
text_of fix.Case = codes "case"
text_of fix.Break = codes "break"
text_of fix.Default = codes "default"
text_of fix.Return = codes "return"
text_of fix.ChanName = codes "chan_name"
text_of fix.ProcName = codes "proc_name"
text_of fix.HcThreads = codes "hc_threads"
text_of fix.Main = codes "main"
text_of fix.HcMain = codes "hc_main"
text_of fix.BarBar = codes "||"
text_of fix.AndAnd = codes "&&"
text_of fix.LessEqual = codes "<="
text_of fix.GreaterEqual = codes ">="
text_of fix.EqualEqual = codes "=="
text_of fix.NotEqual = codes "!="
text_of fix.OpenRound = codes "("
text_of fix.CloseRound = codes ")"
text_of fix.OpenCurly = codes "{"
text_of fix.CloseCurly = codes "}"
text_of fix.OpenSquare = codes "["
text_of fix.CloseSquare = codes "]"
text_of fix.Less = codes "<"
text_of fix.Greater = codes ">"
text_of fix.Comma = codes ","
text_of fix.Semicolon = codes ";"
text_of fix.Colon = codes ":"
text_of fix.Equal = codes "="
text_of fix.Exclamation = codes "!"
text_of fix.Plus = codes "+"
text_of fix.Minus = codes "-"
text_of fix.Star = codes "*"

-- the keywords
unfoldable pub keywords : List Fixed
keywords =
    fix.Static ∷ fix.Int ∷ fix.Const ∷ fix.Char ∷ fix.Void ∷ fix.If ∷ fix.Else ∷ fix.While ∷ fix.Switch ∷ fix.Case
    ∷ fix.Break ∷ fix.Default ∷ fix.Return ∷ fix.ChanName ∷ fix.ProcName ∷ fix.HcThreads ∷ fix.Main ∷ fix.HcMain ∷ []

-- the signs, the longer ones first
unfoldable pub signs : List Fixed
signs =
    fix.BarBar ∷ fix.AndAnd ∷ fix.LessEqual ∷ fix.GreaterEqual ∷ fix.EqualEqual ∷ fix.NotEqual ∷ fix.OpenRound
    ∷ fix.CloseRound ∷ fix.OpenCurly ∷ fix.CloseCurly ∷ fix.OpenSquare ∷ fix.CloseSquare ∷ fix.Less ∷ fix.Greater ∷ fix.Comma
    ∷ fix.Semicolon ∷ fix.Colon ∷ fix.Equal ∷ fix.Exclamation ∷ fix.Plus ∷ fix.Minus ∷ fix.Star ∷ []

-- the keyword that a word is, if it is one
unfoldable pub keyword : List ℕ → Option Fixed
keyword w = spelled text_of keywords w

-- the longest sign that the text begins with
unfoldable pub sign : List ℕ → Option (Fixed × ℕ)
sign z = in_front text_of signs z
