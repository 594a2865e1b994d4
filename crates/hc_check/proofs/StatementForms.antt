-- When a statement without others inside keeps the rules.
use Rattle.std.proofs.Common.{rules, ◌≡◌, ℕ, ◌+◌, nat_le, true, ◌&&◌}
use Rattle.hc_term.specs.declared.expr.Expr.{Expr}
use Rattle.hc_term.specs.declared.stmt.Io.{Io}
use Rattle.hc_term.specs.declared.stmt.Stmt.{Stmt}
use Rattle.hc_term.specs.declared.stmt.Stmt as stmts
use Rattle.hc_term.specs.declared.stmt.Stmt.TheVariants as a
use Rattle.hc_term.specs.Profile.{is_expr, is_io}
use Rattle.hc_term.specs.Rules.{is_stmt}

module _ (channels n : ℕ) where
  pub ruled-Skip : is_stmt channels n a.Skip ≡ true
  ruled-Skip = search (rules, stmts.the_lemmas)

  pub ruled-Assign : (x : ℕ) (t : Expr) → is_stmt channels n (a.Assign x t) ≡ (nat_le (x + 1) n && is_expr n t)
  ruled-Assign x t = search (rules, stmts.the_lemmas)

  pub ruled-Wait : (t : Expr) → is_stmt channels n (a.Wait t) ≡ is_expr n t
  ruled-Wait t = search (rules, stmts.the_lemmas)

  pub ruled-Io : (i : Io) → is_stmt channels n (a.Io i) ≡ is_io channels n i
  ruled-Io i = search (rules, stmts.the_lemmas)

  pub ruled-Log : (t : Expr) → is_stmt channels n (a.Log t) ≡ is_expr n t
  ruled-Log t = search (rules, stmts.the_lemmas)
