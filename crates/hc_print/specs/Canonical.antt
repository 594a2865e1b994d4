-- The canonical spelling of a source.
use Rattle.std.specs.Prelude.{ℕ, List, [], ◌∷◌}
use Rattle.hc_token.specs.declared.fixed.Fixed.{Fixed}
use Rattle.hc_token.specs.declared.fixed.Fixed.TheVariants as fix
use Rattle.hc_ast.specs.declared.tree.ParamKind.{ParamKind}
use Rattle.hc_ast.specs.declared.tree.ParamKind.TheVariants as stands_for
use Rattle.hc_ast.specs.declared.tree.Tree.{Tree}
use Rattle.hc_ast.specs.Bare.{BareExpr, BareParam, BareModule, BareBody, inline, call, BareProcess, BareTree}
use Rattle.hc_ast.specs.Unplaced.{bare}
use Rattle.hc_print.specs.declared.level.Level.TheVariants as at
use Rattle.hc_print.specs.Lexemes.{Lexemes, fixed, named}
use Rattle.hc_print.specs.Written.{written}
use Rattle.hc_print.specs.CanonExprs.{expr}
use Rattle.hc_print.specs.CanonStmts.{stmts}

-- the word before a parameter
abbrev pub param_sign : ParamKind → Fixed
param_sign stands_for.Channel = fix.Ch
param_sign stands_for.Value = fix.Val

-- each in front of w
abbrev pub param : BareParam → Lexemes → Lexemes
param p w = fixed (param_sign p.kind) ∷ named p.name ∷ w

abbrev pub more_params : List BareParam → Lexemes → Lexemes
more_params [] w = w
more_params (p ∷ ps) w = fixed fix.Comma ∷ param p (more_params ps w)

abbrev pub params : List BareParam → Lexemes → Lexemes
params [] w = w
params (p ∷ ps) w = param p (more_params ps w)

-- a module up to its colon
abbrev pub head : BareModule → Lexemes → Lexemes
head m w =
    fixed fix.Module ∷ named m.name ∷ fixed fix.OpenRound ∷ params m.params (fixed fix.CloseRound ∷ fixed fix.Colon ∷ w)

abbrev pub module_of : BareModule → Lexemes → Lexemes
module_of m w = head m (fixed fix.Begin ∷ stmts m.body (fixed fix.EndBody ∷ fixed fix.EndModule ∷ w))

abbrev pub modules : List BareModule → Lexemes → Lexemes
modules [] w = w
modules (m ∷ ms) w = module_of m (modules ms w)

abbrev pub more_arguments : List BareExpr → Lexemes → Lexemes
more_arguments [] w = w
more_arguments (e ∷ es) w = fixed fix.Comma ∷ expr e at.Alone (more_arguments es w)

abbrev pub arguments : List BareExpr → Lexemes → Lexemes
arguments [] w = w
arguments (e ∷ es) w = expr e at.Alone (more_arguments es w)

abbrev pub body : BareBody → Lexemes → Lexemes
body (inline ss) w = fixed fix.OpenRound ∷ stmts ss (fixed fix.CloseRound ∷ w)
body (call named_by es) w = named named_by ∷ fixed fix.OpenRound ∷ arguments es (fixed fix.CloseRound ∷ w)

abbrev pub process : BareProcess → Lexemes → Lexemes
process p w = named p.name ∷ fixed fix.Equal ∷ body p.body w

abbrev pub more_processes : List BareProcess → Lexemes → Lexemes
more_processes [] w = w
more_processes (p ∷ ps) w = fixed fix.BarBar ∷ process p (more_processes ps w)

abbrev pub processes : List BareProcess → Lexemes → Lexemes
processes [] w = w
processes (p ∷ ps) w = process p (more_processes ps w)

-- the tokens of a source
abbrev pub source : BareTree → Lexemes
source t = modules t.modules (fixed fix.System ∷ processes t.processes (fixed fix.EndSystem ∷ []))

-- the canonical spelling of a tree
abbrev pub canonical : Tree → List ℕ
canonical t = written (source (bare t))
