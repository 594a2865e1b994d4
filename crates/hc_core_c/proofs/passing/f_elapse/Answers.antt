use Rattle.hc_core_c.proofs.passing.f_elapse.Goals as goal

-- each call makes what its word says
pub returns : goal.returns
returns c = (c.does.ensures _ _ _ c.no_names.ensures (c.name_then-2.ensures _ (c.name_then.ensures _ c.no_names-2.ensures)) (c.stmt_then-12.ensures _ _ (c.takes.ensures _ c.no_exprs.ensures) (c.stmt_then-11.ensures _ _ (c.when_else-3.ensures _ _ _ (c.none.ensures _ c.local.ensures) (c.stmt_then.ensures _ _ (c.calls.ensures _ c.no_exprs-2.ensures) c.no_stmts.ensures) (c.stmt_then-10.ensures _ _ (c.takes-2.ensures _ (c.expr_then-3.ensures _ _ c.number.ensures (c.expr_then-2.ensures _ _ c.number-2.ensures (c.expr_then.ensures _ _ c.number-3.ensures c.no_exprs-3.ensures)))) (c.stmt_then-9.ensures _ _ (c.when_else-2.ensures _ _ _ (c.binary.ensures _ _ c.local-2.ensures c.number-4.ensures) (c.stmt_then-3.ensures _ _ c.stops.ensures (c.stmt_then-2.ensures _ _ (c.set.ensures _ c.number-5.ensures) c.no_stmts-2.ensures)) (c.stmt_then-8.ensures _ _ (c.takes-3.ensures _ (c.expr_then-4.ensures _ _ c.local-3.ensures c.no_exprs-4.ensures)) (c.stmt_then-7.ensures _ _ (c.when_else.ensures _ _ _ (c.some.ensures _ c.local-4.ensures) (c.stmt_then-4.ensures _ _ (c.calls-2.ensures _ c.no_exprs-5.ensures) c.no_stmts-3.ensures) (c.stmt_then-5.ensures _ _ c.stops-2.ensures c.no_stmts-4.ensures)) (c.stmt_then-6.ensures _ _ (c.set-2.ensures _ c.number-6.ensures) c.no_stmts-5.ensures)))) c.no_stmts-6.ensures))) c.no_stmts-7.ensures)))
