use Rattle.hc_core_c.proofs.moving.f_drift.Goals as goal

-- each call makes what its word says
pub returns : goal.returns
returns c = (c.answers.ensures _ _ _ (c.name_then-2.ensures _ (c.name_then.ensures _ c.no_names.ensures)) (c.name_then-4.ensures _ (c.name_then-3.ensures _ c.no_names-2.ensures)) (c.stmt_then-6.ensures _ _ (c.set.ensures _ c.number.ensures) (c.stmt_then-5.ensures _ _ (c.counted.ensures _ (c.stmt_then-3.ensures _ _ (c.when.ensures _ _ (c.binary-2.ensures _ _ (c.some.ensures _ c.local.ensures) (c.some-2.ensures _ (c.elem.ensures _ (c.binary.ensures _ _ (c.times.ensures _ c.local-2.ensures) c.local-3.ensures)))) (c.stmt_then.ensures _ _ (c.takes.ensures _ (c.expr_then-3.ensures _ _ (c.binary-3.ensures _ _ (c.times-2.ensures _ c.local-4.ensures) c.local-5.ensures) (c.expr_then-2.ensures _ _ (c.binary-4.ensures _ _ c.its.ensures c.local-6.ensures) (c.expr_then.ensures _ _ c.local-7.ensures c.no_exprs.ensures)))) c.no_stmts.ensures)) (c.stmt_then-2.ensures _ _ c.counts_up.ensures c.no_stmts-2.ensures))) (c.stmt_then-4.ensures _ _ (c.gives_back.ensures _ c.local-8.ensures) c.no_stmts-3.ensures))))
