-- What a tree of a source keeps: statements.
use Rattle.std.proofs.Common.{◌<◌, ◌≤◌, ℕ, ◌+◌, List, [], ◌∷◌}
use Rattle.hc_ast.specs.Bare.{BareExpr, BareCond, BareIo, send, receive, BareRate, BareStmt, BareStmts, no_more, then, BareBranches, no_other, or_else}
use Rattle.hc_ast.specs.Bare as b
use Rattle.hc_print.specs.declared.level.Level.TheVariants as at
use Rattle.hc_print.proofs.KeptExprs.{GoodExpr, GoodCond}
use Rattle.hc_print.proofs.Peaks.{peak, size, cond_peak, cond_size}
use Rattle.hc_print.proofs.Sound.{GoodName, GoodRate}

-- an expression of its own behind d open items
pub record OkExpr (e : BareExpr) (d : ℕ) : Type 0 where
  pub good : GoodExpr e
  pub deep : d + peak e at.Alone ≤ 64
  pub few : size e ≤ 200

pub record OkCond (c : BareCond) (d : ℕ) : Type 0 where
  pub good : GoodCond c
  pub deep : d + cond_peak c at.Alone ≤ 64
  pub few : cond_size c ≤ 200

abbrev pub OkIo : BareIo → ℕ → Type 0
OkIo (send x e) d = GoodName x × OkExpr e d
OkIo (receive x y) d = GoodName x × GoodName y

abbrev pub OkRate : BareRate → ℕ → Type 0
OkRate x d = GoodRate x.variable × OkExpr x.value d

abbrev pub OkRates : List BareRate → ℕ → Type 0
OkRates [] d = Unit {0}
OkRates (x ∷ xs) d = OkRate x d × OkRates xs d

-- there is one at least
abbrev pub AreSome : BareStmts → Type 0
AreSome no_more = ⊥
AreSome (then s ss) = Unit {0}

abbrev mutual
  pub OkStmt : BareStmt → ℕ → Type 0
  OkStmt b.skip d = Unit {0}
  OkStmt (b.assign x e) d = GoodName x × OkExpr e d
  OkStmt (b.wait e) d = OkExpr e d
  OkStmt (b.io i) d = OkIo i d
  OkStmt (b.log e) d = OkExpr e d
  OkStmt (b.when c ss) d = (d < 64) × OkCond c (d + 1) × (AreSome ss × OkStmts ss (d + 1))
  OkStmt (b.choose c ss rs) d =
      (d < 64) × OkCond c (d + 1) × (AreSome ss × OkStmts ss (d + 1)) × (AreSome rs × OkStmts rs (d + 1))
  OkStmt (b.pick ss rs) d = (d < 64) × (AreSome ss × OkStmts ss (d + 1)) × (AreSome rs × OkStmts rs (d + 1))
  OkStmt (b.forever ss) d = (d < 64) × (AreSome ss × OkStmts ss (d + 1))
  OkStmt (b.loop c ss) d = (d < 64) × (AreSome ss × OkStmts ss (d + 1)) × OkCond c (d + 1)
  OkStmt (b.choice no_other) d = ⊥
  OkStmt (b.choice (or_else i ss bs)) d =
      (d < 64) × OkIo i (d + 1) × (AreSome ss × OkStmts ss (d + 1)) × OkBranches bs (d + 1)
  OkStmt (b.evolve [] c bs) d = ⊥
  OkStmt (b.evolve (x ∷ xs) c bs) d =
      (d < 64) × OkRate x (d + 1) × OkRates xs (d + 1) × OkCond c (d + 1) × OkBranches bs (d + 1)

  pub OkStmts : BareStmts → ℕ → Type 0
  OkStmts no_more d = Unit {0}
  OkStmts (then s ss) d = OkStmt s d × OkStmts ss d

  pub OkBranches : BareBranches → ℕ → Type 0
  OkBranches no_other d = Unit {0}
  OkBranches (or_else i ss bs) d = OkIo i d × (AreSome ss × OkStmts ss d) × OkBranches bs d
