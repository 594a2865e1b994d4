use Rattle.hc_core_c.proofs.asking.f_stand.Goals as goal

-- each call makes what its word says
pub returns : goal.returns
returns c = (c.does.ensures _ _ _ c.no_names.ensures (c.name_then-2.ensures _ (c.name_then.ensures _ c.no_names-2.ensures)) (c.stmt_then-5.ensures _ _ (c.counted.ensures _ (c.stmt_then-3.ensures _ _ (c.when.ensures _ _ (c.binary.ensures _ _ (c.elem.ensures _ c.local.ensures) c.number.ensures) (c.stmt_then.ensures _ _ (c.set.ensures _ c.number-2.ensures) c.no_stmts.ensures)) (c.stmt_then-2.ensures _ _ c.counts_up.ensures c.no_stmts-2.ensures))) (c.stmt_then-4.ensures _ _ (c.calls.ensures _ (c.expr_then-2.ensures _ _ c.local-2.ensures (c.expr_then.ensures _ _ c.minus_one.ensures c.no_exprs.ensures))) c.no_stmts-3.ensures)))
