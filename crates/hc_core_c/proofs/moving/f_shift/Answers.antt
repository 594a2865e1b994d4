use Rattle.hc_core_c.proofs.moving.f_shift.Goals as goal

-- each call makes what its word says
pub returns : goal.returns
returns c = (c.answers.ensures _ _ _ (c.name_then-3.ensures _ (c.name_then-2.ensures _ (c.name_then.ensures _ c.no_names.ensures))) (c.name_then-4.ensures _ c.no_names-2.ensures) (c.stmt_then-5.ensures _ _ (c.takes.ensures _ (c.expr_then-4.ensures _ _ c.number.ensures (c.expr_then-3.ensures _ _ c.number-2.ensures (c.expr_then-2.ensures _ _ c.local.ensures (c.expr_then.ensures _ _ c.number-3.ensures c.no_exprs.ensures))))) (c.stmt_then-4.ensures _ _ (c.when.ensures _ _ (c.some.ensures _ c.local-2.ensures) (c.stmt_then.ensures _ _ (c.takes-2.ensures _ (c.expr_then-8.ensures _ _ c.number-4.ensures (c.expr_then-7.ensures _ _ c.number-5.ensures (c.expr_then-6.ensures _ _ c.local-3.ensures (c.expr_then-5.ensures _ _ c.number-6.ensures c.no_exprs-2.ensures))))) c.no_stmts.ensures)) (c.stmt_then-3.ensures _ _ (c.keeps.ensures _ c.local-4.ensures) (c.stmt_then-2.ensures _ _ (c.gives_back.ensures _ c.local-5.ensures) c.no_stmts-2.ensures)))))
