use Rattle.hc_core_c.proofs.moving.f_move.Goals as goal

-- each call makes what its word says
pub returns : goal.returns
returns c = (c.answers.ensures _ _ _ (c.name_then.ensures _ c.no_names.ensures) (c.name_then-6.ensures _ (c.name_then-5.ensures _ (c.name_then-4.ensures _ (c.name_then-3.ensures _ (c.name_then-2.ensures _ c.no_names-2.ensures))))) (c.stmt_then-16.ensures _ _ (c.set.ensures _ c.number.ensures) (c.stmt_then-15.ensures _ _ (c.counted.ensures _ (c.stmt_then-5.ensures _ _ (c.when.ensures _ _ (c.some.ensures _ c.local.ensures) (c.stmt_then.ensures _ _ (c.takes.ensures _ (c.expr_then-2.ensures _ _ c.local-2.ensures (c.expr_then.ensures _ _ c.local-3.ensures c.no_exprs.ensures))) c.no_stmts.ensures)) (c.stmt_then-4.ensures _ _ (c.when-2.ensures _ _ (c.binary.ensures _ _ (c.some-2.ensures _ c.local-4.ensures) (c.some-3.ensures _ (c.elem.ensures _ c.local-5.ensures))) (c.stmt_then-2.ensures _ _ (c.takes-2.ensures _ (c.expr_then-4.ensures _ _ c.local-6.ensures (c.expr_then-3.ensures _ _ c.local-7.ensures c.no_exprs-2.ensures))) c.no_stmts-2.ensures)) (c.stmt_then-3.ensures _ _ c.counts_up.ensures c.no_stmts-3.ensures)))) (c.stmt_then-14.ensures _ _ (c.counted-2.ensures _ (c.stmt_then-12.ensures _ _ (c.when-3.ensures _ _ (c.binary-2.ensures _ _ (c.some-4.ensures _ c.local-8.ensures) (c.some-5.ensures _ c.send_of.ensures)) (c.stmt_then-10.ensures _ _ (c.takes-3.ensures _ (c.expr_then-5.ensures _ _ c.send_of-2.ensures c.no_exprs-3.ensures)) (c.stmt_then-9.ensures _ _ (c.set-2.ensures _ (c.binary-3.ensures _ _ c.its.ensures (c.branch_of.ensures _ c.send_of-3.ensures))) (c.stmt_then-8.ensures _ _ (c.takes-4.ensures _ (c.expr_then-8.ensures _ _ c.local-9.ensures (c.expr_then-7.ensures _ _ (c.binary-4.ensures _ _ c.local-10.ensures c.number-2.ensures) (c.expr_then-6.ensures _ _ c.local-11.ensures c.no_exprs-4.ensures)))) (c.stmt_then-7.ensures _ _ (c.set-3.ensures _ c.number-3.ensures) (c.stmt_then-6.ensures _ _ (c.set-4.ensures _ c.number-4.ensures) c.no_stmts-4.ensures)))))) (c.stmt_then-11.ensures _ _ c.counts_up-2.ensures c.no_stmts-5.ensures))) (c.stmt_then-13.ensures _ _ (c.gives_back.ensures _ c.local-12.ensures) c.no_stmts-6.ensures)))))
