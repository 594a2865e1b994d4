use Rattle.hc_core_c.proofs.asking.f_least.Goals as goal

-- each call makes what its word says
pub returns : goal.returns
returns c = (c.answers.ensures _ _ _ c.no_names.ensures (c.name_then-4.ensures _ (c.name_then-3.ensures _ (c.name_then-2.ensures _ (c.name_then.ensures _ c.no_names-2.ensures)))) (c.stmt_then-13.ensures _ _ (c.counted.ensures _ (c.stmt_then-3.ensures _ _ (c.when.ensures _ _ (c.some.ensures _ (c.elem.ensures _ c.local.ensures)) (c.stmt_then.ensures _ _ (c.set.ensures _ c.number.ensures) c.no_stmts.ensures)) (c.stmt_then-2.ensures _ _ c.counts_up.ensures c.no_stmts-2.ensures))) (c.stmt_then-12.ensures _ _ (c.counted-2.ensures _ (c.stmt_then-10.ensures _ _ (c.when-3.ensures _ _ (c.some-2.ensures _ (c.elem-2.ensures _ c.local-2.ensures)) (c.stmt_then-8.ensures _ _ (c.takes.ensures _ (c.expr_then-3.ensures _ _ c.number-2.ensures (c.expr_then-2.ensures _ _ c.its.ensures (c.expr_then.ensures _ _ c.number-3.ensures c.no_exprs.ensures)))) (c.stmt_then-7.ensures _ _ (c.when-2.ensures _ _ (c.binary-3.ensures _ _ (c.binary.ensures _ _ c.local-3.ensures c.number-4.ensures) (c.binary-2.ensures _ _ c.local-4.ensures c.number-5.ensures)) (c.stmt_then-4.ensures _ _ (c.calls.ensures _ (c.expr_then-7.ensures _ _ c.number-6.ensures (c.expr_then-6.ensures _ _ c.number-7.ensures (c.expr_then-5.ensures _ _ c.number-8.ensures (c.expr_then-4.ensures _ _ c.its-2.ensures c.no_exprs-2.ensures))))) c.no_stmts-3.ensures)) (c.stmt_then-6.ensures _ _ (c.set-2.ensures _ c.number-9.ensures) (c.stmt_then-5.ensures _ _ (c.set-3.ensures _ c.number-10.ensures) c.no_stmts-4.ensures))))) (c.stmt_then-9.ensures _ _ c.counts_up-2.ensures c.no_stmts-5.ensures))) (c.stmt_then-11.ensures _ _ (c.gives_back.ensures _ c.local-5.ensures) c.no_stmts-6.ensures))))
