-- Each text of the grammar derives in the table: statements.
use Rattle.std.proofs.Common.{refl, ap, List, [], ◌∷◌}
use Rattle.hc_grammar.specs.declared.symbol.Symbol.TheVariants.{Head, Mark}
use Rattle.hc_grammar.specs.Table.{with_more}
use Rattle.hc_grammar.specs.Derives.{token, mark, takes, skips}
use Rattle.hc_token.specs.declared.fixed.Fixed.TheVariants as fix
use Rattle.hc_token.specs.declared.kind.Kind.TheVariants as k
use Rattle.hc_ast.specs.declared.role.Mark.TheVariants as m
use Rattle.hc_ast.specs.Leaves.{Spelled}
use Rattle.hc_ast.specs.Stmts as g
use Rattle.hc_ast.specs.StmtRoles as spell
use Rattle.hc_table.specs.declared.head.Head.TheVariants as h
use Rattle.hc_table.specs.Symbols.{Rule, a_seq}
use Rattle.hc_table.specs.Rows.{stmt, named, else_part, after, branch, meet, branches, rate, rates, interrupt, more}
use Rattle.hc_table.proofs.Leaves.{name_kind, rate_kind}
use Rattle.hc_table.proofs.Derive.{D, is, is_name, begins, expr_text, cond_text}

-- a communication that begins a statement, and one that begins a branch
io_stmt : (i : g.Io) {ss : List Rule} {w : Spelled} → D (Mark m.Io ∷ ss) w → D (Head h.Stmt ∷ ss) (spell.io i w)
io_stmt (g.send x s e) d = takes (ap stmt (name_kind x)) (takes (ap named s.1) (mark (expr_text e (mark d))))
io_stmt (g.receive x s y) d = takes (ap stmt (name_kind x)) (takes (ap named s.1) (token (is_name y) (mark d)))

rate_text : (x : g.Rate) {ss : List Rule} {w : Spelled} → D ss w → D (Head h.Rate ∷ ss) (spell.rate x w)
rate_text (g.rate x s e) d = takes (ap rate (rate_kind x)) (token (is (k.Fixed fix.Equal) s refl) (mark (expr_text e (mark d))))

rates_text : (xs : g.Rates) {ss : List Rule} {w : Spelled} → D (Head h.Rates ∷ ss) w → D (Head h.Rates ∷ ss) (spell.rates xs w)
rates_text g.no_rate d = d
rates_text (g.next_rate t x xs) d = takes (ap rates t.1) (rate_text x (rates_text xs d))

mutual
  pub seq_text : (x : g.Seq) {ss : List Rule} {w : Spelled} → D ss w → D (a_seq ss) (spell.seq x w)
  seq_text (g.seq x xs) d =
      mark (begins h.Stmt h.Seq (Head h.More ∷ []) refl (λ kind role p e. ap (with_more (Head h.More ∷ [])) e) (stmt_text x (more_text xs d)))

  pub more_text : (xs : g.More) {ss : List Rule} {w : Spelled} → D ss w → D (Head h.More ∷ ss) (spell.more xs w)
  more_text g.no_more d = skips refl d
  more_text (g.next t x xs) d = takes (ap more t.1) (stmt_text x (more_text xs d))

  pub stmt_text : (x : g.Stmt) {ss : List Rule} {w : Spelled} → D ss w → D (Head h.Stmt ∷ ss) (spell.stmt x w)
  stmt_text (g.skip t) d = takes (ap stmt t.1) (mark d)
  stmt_text (g.assign x s e) d = takes (ap stmt (name_kind x)) (takes (ap named s.1) (mark (expr_text e (mark d))))
  stmt_text (g.wait t a e b) d =
      takes (ap stmt t.1) (token (is (k.Fixed fix.OpenRound) a refl) (mark (expr_text e (token (is (k.Fixed fix.CloseRound) b refl) (mark d)))))
  stmt_text (g.log t a e b) d =
      takes (ap stmt t.1) (token (is (k.Fixed fix.OpenRound) a refl) (mark (expr_text e (token (is (k.Fixed fix.CloseRound) b refl) (mark d)))))
  stmt_text (g.communicate i) d = io_stmt i (mark d)
  stmt_text (g.when t c u x b) d =
      takes (ap stmt t.1) (mark (cond_text c (token (is (k.Fixed fix.Then) u refl) (seq_text x (takes (ap else_part b.1) (mark d))))))
  stmt_text (g.choose t c u x v y b) d =
      takes (ap stmt t.1)
      (mark (cond_text c (token (is (k.Fixed fix.Then) u refl)
      (seq_text x (takes (ap else_part v.1) (seq_text y (token (is (k.Fixed fix.EndIf) b refl) (mark d))))))))
  stmt_text (g.pick a x b t u y v) d =
      takes (ap stmt a.1)
      (seq_text x (token (is (k.Fixed fix.CloseRound) b refl)
      (takes (ap after t.1) (token (is (k.Fixed fix.OpenRound) u refl) (seq_text y (token (is (k.Fixed fix.CloseRound) v refl) (mark d)))))))
  stmt_text (g.forever a x b t) d =
      takes (ap stmt a.1) (seq_text x (token (is (k.Fixed fix.CloseRound) b refl) (takes (ap after t.1) (mark d))))
  stmt_text (g.loop a x b u c v t) d =
      takes (ap stmt a.1)
      (seq_text x (token (is (k.Fixed fix.CloseRound) b refl)
      (takes (ap after u.1) (mark (cond_text c (token (is (k.Fixed fix.CloseCurly) v refl) (token (is (k.Fixed fix.StarStar) t refl) (mark d))))))))
  stmt_text (g.select (g.choice t a x xs b)) d =
      takes (ap stmt t.1) (token (is (k.Fixed fix.OpenRound) a refl) (mark (branch_text x (branches_text xs (takes (ap branches b.1) (mark d))))))
  stmt_text (g.evolve a x xs t c b i) d =
      takes (ap stmt a.1)
      (mark (rate_text x (rates_text xs
      (takes (ap rates t.1) (mark (cond_text c (token (is (k.Fixed fix.Greater) b refl) (interrupt_text i (mark d)))))))))

  pub interrupt_text : (i : g.Interrupt) {ss : List Rule} {w : Spelled} → D ss w → D (Head h.Interrupt ∷ ss) (spell.interrupt i w)
  interrupt_text g.none d = skips refl d
  interrupt_text (g.on u (g.choice t a x xs b)) d =
      takes (ap interrupt u.1)
      (token (is (k.Fixed fix.EmptySquare) t refl) (token (is (k.Fixed fix.OpenRound) a refl) (branch_text x (branches_text xs (takes (ap branches b.1) d)))))

  pub branches_text : (xs : g.Branches) {ss : List Rule} {w : Spelled} → D (Head h.Branches ∷ ss) w → D (Head h.Branches ∷ ss) (spell.branches xs w)
  branches_text g.no_other d = d
  branches_text (g.other t x xs) d = takes (ap branches t.1) (branch_text x (branches_text xs d))

  pub branch_text : (x : g.Branch) {ss : List Rule} {w : Spelled} → D ss w → D (Head h.Branch ∷ ss) (spell.branch x w)
  branch_text (g.branch (g.send x s e) t y) d =
      takes (ap branch (name_kind x)) (takes (ap meet s.1) (mark (expr_text e (mark (token (is (k.Fixed fix.Arrow) t refl) (seq_text y (mark d)))))))
  branch_text (g.branch (g.receive x s z) t y) d =
      takes (ap branch (name_kind x))
      (takes (ap meet s.1) (token (is_name z) (mark (token (is (k.Fixed fix.Arrow) t refl) (seq_text y (mark d))))))
