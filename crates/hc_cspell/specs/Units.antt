-- The canonical spelling of programs, each part in front of w.
use Rattle.std.specs.Prelude.{ℕ, ◌+◌, Bool, true, false, List, [], ◌∷◌, length, codes}
use Rattle.hc_cast.specs.declared.program.CProgram.{CProgram}
use Rattle.hc_cast.specs.declared.program.CArray.{CArray}
use Rattle.hc_cast.specs.declared.program.CFunction.{CFunction}
use Rattle.hc_cast.specs.declared.program.CBody.{CBody}
use Rattle.hc_ctoken.specs.declared.fixed.Fixed.{Fixed}
use Rattle.hc_ctoken.specs.declared.fixed.Fixed.TheVariants as fix
use Rattle.hc_ctoken.specs.declared.token.Lexeme.TheVariants as lex
use Rattle.hc_cgrammar.specs.Leaves.{Word}
use Rattle.hc_cspell.specs.Tokens.{Lexemes, fixed, numbered, written}
use Rattle.hc_cspell.specs.Stmts.{Spells, stmts}

abbrev pub array : CArray → Spells
array a w =
    fixed fix.Static ∷ fixed fix.Int ∷ lex.Array a.name ∷ fixed fix.OpenSquare ∷ numbered a.length ∷ fixed fix.CloseSquare
    ∷ fixed fix.Semicolon ∷ w

abbrev pub arrays : List CArray → Spells
arrays [] w = w
arrays (a ∷ xs) w = array a (arrays xs w)

-- further strings, each behind a comma; strings with commas between them
abbrev pub more_strings : List Word → Spells
more_strings [] w = w
more_strings (x ∷ xs) w = fixed fix.Comma ∷ lex.Text x ∷ more_strings xs w

abbrev pub strings : List Word → Spells
strings [] w = w
strings (x ∷ xs) w = lex.Text x ∷ more_strings xs w

-- how the strings of `chan_name` or `proc_name` begin and how they end
abbrev pub head_of_names : Fixed → ℕ → Spells
head_of_names word n w =
    fixed fix.Const ∷ fixed fix.Char ∷ fixed fix.Star ∷ fixed fix.Const ∷ fixed word ∷ fixed fix.OpenSquare ∷ numbered n
    ∷ fixed fix.CloseSquare ∷ fixed fix.Equal ∷ fixed fix.OpenCurly ∷ w

abbrev pub end_of_names : Spells
end_of_names w = fixed fix.CloseCurly ∷ fixed fix.Semicolon ∷ w

-- without channels there is the one empty string
abbrev pub channels : List Word → Spells
channels [] w = head_of_names fix.ChanName 1 (lex.EmptyText ∷ end_of_names w)
channels (x ∷ xs) w = head_of_names fix.ChanName (length (x ∷ xs)) (strings (x ∷ xs) (end_of_names w))

abbrev pub processes : List Word → Spells
processes xs w = head_of_names fix.ProcName (length xs) (strings xs (end_of_names w))

abbrev pub locals : List Word → Spells
locals [] w = w
locals (x ∷ xs) w =
    fixed fix.Int ∷ lex.Local x ∷ fixed fix.Equal ∷ numbered 0 ∷ fixed fix.Semicolon ∷ locals xs w

abbrev pub body : CBody → Spells
body b w = fixed fix.OpenCurly ∷ locals b.locals (stmts b.statements (fixed fix.CloseCurly ∷ w))

abbrev pub more_params : List Word → Spells
more_params [] w = w
more_params (x ∷ xs) w = fixed fix.Comma ∷ fixed fix.Int ∷ lex.Local x ∷ more_params xs w

abbrev pub params : List Word → Spells
params [] w = fixed fix.Void ∷ w
params (x ∷ xs) w = fixed fix.Int ∷ lex.Local x ∷ more_params xs w

-- the word before a function's name
abbrev pub given : Bool → Fixed
given true = fix.Int
given false = fix.Void

abbrev pub function : CFunction → Spells
function f w =
    fixed fix.Static ∷ fixed (given f.gives) ∷ lex.Function f.name ∷ fixed fix.OpenRound
    ∷ params f.params (fixed fix.CloseRound ∷ body f.body w)

abbrev pub functions : List CFunction → Spells
functions [] w = w
functions (f ∷ fs) w = function f (functions fs w)

-- the thread of this number
abbrev pub thread : ℕ → CBody → Spells
thread k b w =
    fixed fix.Static ∷ fixed fix.Void ∷ fixed fix.Star ∷ lex.Thread k ∷ fixed fix.OpenRound ∷ fixed fix.Void ∷ fixed fix.Star
    ∷ lex.Local (codes "v_u") ∷ fixed fix.CloseRound ∷ body b w

-- threads, numbered from k on
abbrev pub threads_from : ℕ → List CBody → Spells
threads_from k [] w = w
threads_from k (b ∷ bs) w = thread k b (threads_from (k + 1) bs w)

-- their names in the table, each behind a comma; their names with commas between them
abbrev pub more_listed : ℕ → List CBody → Spells
more_listed k [] w = w
more_listed k (b ∷ bs) w = fixed fix.Comma ∷ lex.Thread k ∷ more_listed (k + 1) bs w

abbrev pub listed : List CBody → Spells
listed [] w = w
listed (b ∷ bs) w = lex.Thread 0 ∷ more_listed 1 bs w

abbrev pub table : List CBody → Spells
table bs w =
    fixed fix.Static ∷ fixed fix.Void ∷ fixed fix.Star ∷ fixed fix.OpenRound ∷ fixed fix.Star ∷ fixed fix.Const
    ∷ fixed fix.HcThreads ∷ fixed fix.OpenSquare ∷ numbered (length bs) ∷ fixed fix.CloseSquare ∷ fixed fix.CloseRound
    ∷ fixed fix.OpenRound ∷ fixed fix.Void ∷ fixed fix.Star ∷ fixed fix.CloseRound ∷ fixed fix.Equal ∷ fixed fix.OpenCurly
    ∷ listed bs (fixed fix.CloseCurly ∷ fixed fix.Semicolon ∷ w)

abbrev pub main : ℕ → Spells
main n w =
    fixed fix.Int ∷ fixed fix.Main ∷ fixed fix.OpenRound ∷ fixed fix.Void ∷ fixed fix.CloseRound ∷ fixed fix.OpenCurly
    ∷ fixed fix.Return ∷ fixed fix.HcMain ∷ fixed fix.OpenRound ∷ numbered n ∷ fixed fix.Comma ∷ fixed fix.HcThreads
    ∷ fixed fix.CloseRound ∷ fixed fix.Semicolon ∷ fixed fix.CloseCurly ∷ w

-- the tokens of a program
abbrev pub unit : CProgram → Lexemes
unit p =
    arrays p.arrays
    (channels p.channels
    (processes p.processes
    (functions p.functions (threads_from 0 p.threads (table p.threads (main (length p.threads) []))))))

-- the canonical spelling of a program
abbrev pub canonical : CProgram → List ℕ
canonical p = written (unit p)
