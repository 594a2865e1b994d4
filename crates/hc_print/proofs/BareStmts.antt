-- What the phrases of statements say without places.
use Rattle.std.proofs.Common.{List, [], ◌∷◌}
use Rattle.hc_ast.specs.Bare.{BareIo, send, receive, BareRate, BareStmt, BareStmts, no_more, then, BareBranches, no_other, or_else}
use Rattle.hc_ast.specs.Bare as b
use Rattle.hc_ast.specs.Stmts as g
use Rattle.hc_print.proofs.BareExprs.{expr_bare, cond_bare}

abbrev pub io_bare : g.Io → BareIo
io_bare (g.send x t e) = send x.1 (expr_bare e)
io_bare (g.receive x t y) = receive x.1 y.1

abbrev pub rate_bare : g.Rate → BareRate
rate_bare (g.rate x t e) = record { variable = x.1; value = expr_bare e }

abbrev pub rates_bare : g.Rates → List BareRate
rates_bare g.no_rate = []
rates_bare (g.next_rate t x xs) = rate_bare x ∷ rates_bare xs

abbrev mutual
  pub seq_bare : g.Seq → BareStmts
  seq_bare (g.seq x xs) = then (stmt_bare x) (more_bare xs)

  pub more_bare : g.More → BareStmts
  more_bare g.no_more = no_more
  more_bare (g.next t x xs) = then (stmt_bare x) (more_bare xs)

  pub stmt_bare : g.Stmt → BareStmt
  stmt_bare (g.skip t) = b.skip
  stmt_bare (g.assign x t e) = b.assign x.1 (expr_bare e)
  stmt_bare (g.wait t a e z) = b.wait (expr_bare e)
  stmt_bare (g.log t a e z) = b.log (expr_bare e)
  stmt_bare (g.communicate i) = b.io (io_bare i)
  stmt_bare (g.when t c u x z) = b.when (cond_bare c) (seq_bare x)
  stmt_bare (g.choose t c u x v y z) = b.choose (cond_bare c) (seq_bare x) (seq_bare y)
  stmt_bare (g.pick a x z t u y v) = b.pick (seq_bare x) (seq_bare y)
  stmt_bare (g.forever a x z t) = b.forever (seq_bare x)
  stmt_bare (g.loop a x z u c v t) = b.loop (cond_bare c) (seq_bare x)
  stmt_bare (g.select (g.choice t a (g.branch i s x) xs z)) = b.choice (or_else (io_bare i) (seq_bare x) (branches_bare xs))
  stmt_bare (g.evolve a x xs t c z i) = b.evolve (rate_bare x ∷ rates_bare xs) (cond_bare c) (interrupt_bare i)

  pub interrupt_bare : g.Interrupt → BareBranches
  interrupt_bare g.none = no_other
  interrupt_bare (g.on u (g.choice t a (g.branch i s x) xs z)) = or_else (io_bare i) (seq_bare x) (branches_bare xs)

  pub branches_bare : g.Branches → BareBranches
  branches_bare g.no_other = no_other
  branches_bare (g.other t (g.branch i s x) xs) = or_else (io_bare i) (seq_bare x) (branches_bare xs)
