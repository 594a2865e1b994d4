-- The canonical spelling of statements.
use Rattle.std.specs.Prelude.{List, [], ◌∷◌}
use Rattle.hc_token.specs.declared.fixed.Fixed.TheVariants as fix
use Rattle.hc_ast.specs.Bare.{BareIo, send, receive, BareRate, BareStmt, BareStmts, no_more, then, BareBranches, no_other, or_else}
use Rattle.hc_ast.specs.Bare as b
use Rattle.hc_print.specs.declared.level.Level.TheVariants as at
use Rattle.hc_print.specs.Lexemes.{Lexemes, fixed, named, rated}
use Rattle.hc_print.specs.CanonExprs.{expr, cond}

-- each in front of w
abbrev pub io : BareIo → Lexemes → Lexemes
io (send channel value) w = named channel ∷ fixed fix.Exclamation ∷ expr value at.Alone w
io (receive channel target) w = named channel ∷ fixed fix.Question ∷ named target ∷ w

abbrev pub rate : BareRate → Lexemes → Lexemes
rate r w = rated r.variable ∷ fixed fix.Equal ∷ expr r.value at.Alone w

-- further rates, each behind a comma
abbrev pub more_rates : List BareRate → Lexemes → Lexemes
more_rates [] w = w
more_rates (r ∷ rs) w = fixed fix.Comma ∷ rate r (more_rates rs w)

-- rates with commas between them
abbrev pub rates : List BareRate → Lexemes → Lexemes
rates [] w = w
rates (r ∷ rs) w = rate r (more_rates rs w)

abbrev mutual
  -- statements with semicolons between them
  pub stmts : BareStmts → Lexemes → Lexemes
  stmts no_more w = w
  stmts (then s ss) w = stmt s (more_stmts ss w)

  -- further statements, each behind a semicolon
  pub more_stmts : BareStmts → Lexemes → Lexemes
  more_stmts no_more w = w
  more_stmts (then s ss) w = fixed fix.Semicolon ∷ stmt s (more_stmts ss w)

  pub stmt : BareStmt → Lexemes → Lexemes
  stmt b.skip w = fixed fix.Skip ∷ w
  stmt (b.assign x e) w = named x ∷ fixed fix.ColonEqual ∷ expr e at.Alone w
  stmt (b.wait e) w = fixed fix.Wait ∷ fixed fix.OpenRound ∷ expr e at.Alone (fixed fix.CloseRound ∷ w)
  stmt (b.io i) w = io i w
  stmt (b.log e) w = fixed fix.Log ∷ fixed fix.OpenRound ∷ expr e at.Alone (fixed fix.CloseRound ∷ w)
  stmt (b.when c ss) w = fixed fix.If ∷ cond c at.Alone (fixed fix.Then ∷ stmts ss (fixed fix.EndIf ∷ w))
  stmt (b.choose c ss rs) w =
      fixed fix.If ∷ cond c at.Alone (fixed fix.Then ∷ stmts ss (fixed fix.Else ∷ stmts rs (fixed fix.EndIf ∷ w)))
  stmt (b.pick ss rs) w =
      fixed fix.OpenRound ∷ stmts ss
      (fixed fix.CloseRound ∷ fixed fix.PlusPlus ∷ fixed fix.OpenRound ∷ stmts rs (fixed fix.CloseRound ∷ w))
  stmt (b.forever ss) w = fixed fix.OpenRound ∷ stmts ss (fixed fix.CloseRound ∷ fixed fix.StarStar ∷ w)
  stmt (b.loop c ss) w =
      fixed fix.OpenRound ∷ stmts ss
      (fixed fix.CloseRound ∷ fixed fix.OpenCurly ∷ cond c at.Alone (fixed fix.CloseCurly ∷ fixed fix.StarStar ∷ w))
  stmt (b.choice bs) w = fixed fix.EmptySquare ∷ fixed fix.OpenRound ∷ branches bs (fixed fix.CloseRound ∷ w)
  stmt (b.evolve rs c bs) w =
      fixed fix.Less ∷ rates rs (fixed fix.And ∷ cond c at.Alone (fixed fix.Greater ∷ interrupt bs w))

  -- what may end an evolution: nothing is written where there are no branches
  pub interrupt : BareBranches → Lexemes → Lexemes
  interrupt no_other w = w
  interrupt (or_else i ss bs) w =
      fixed fix.BarGreater ∷ fixed fix.EmptySquare ∷ fixed fix.OpenRound
      ∷ io i (fixed fix.Arrow ∷ stmts ss (more_branches bs (fixed fix.CloseRound ∷ w)))

  -- branches with commas between them
  pub branches : BareBranches → Lexemes → Lexemes
  branches no_other w = w
  branches (or_else i ss bs) w = io i (fixed fix.Arrow ∷ stmts ss (more_branches bs w))

  -- further branches, each behind a comma
  pub more_branches : BareBranches → Lexemes → Lexemes
  more_branches no_other w = w
  more_branches (or_else i ss bs) w = fixed fix.Comma ∷ io i (fixed fix.Arrow ∷ stmts ss (more_branches bs w))
