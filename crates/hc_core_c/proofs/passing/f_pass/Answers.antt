use Rattle.hc_core_c.proofs.passing.f_pass.Goals as goal

-- each call makes what its word says
pub returns : goal.returns
returns c = (c.does.ensures _ _ _ c.no_names.ensures (c.name_then-2.ensures _ (c.name_then.ensures _ c.no_names-2.ensures)) (c.stmt_then-10.ensures _ _ (c.counted.ensures _ (c.stmt_then-2.ensures _ _ (c.store.ensures _ _ c.local.ensures c.number.ensures) (c.stmt_then.ensures _ _ c.counts_up.ensures c.no_stmts.ensures))) (c.stmt_then-9.ensures _ _ (c.when_else.ensures _ _ _ (c.binary.ensures _ _ c.first_of.ensures c.first_of-2.ensures) c.no_stmts-2.ensures (c.stmt_then-3.ensures _ _ c.stops.ensures c.no_stmts-3.ensures)) (c.stmt_then-8.ensures _ _ (c.calls.ensures _ c.no_exprs.ensures) (c.stmt_then-7.ensures _ _ (c.takes.ensures _ c.no_exprs-2.ensures) (c.stmt_then-6.ensures _ _ (c.when.ensures _ _ (c.binary-2.ensures _ _ (c.none.ensures _ c.first_of-3.ensures) (c.none-2.ensures _ c.local-2.ensures)) (c.stmt_then-4.ensures _ _ (c.calls-2.ensures _ c.no_exprs-3.ensures) c.no_stmts-4.ensures)) (c.stmt_then-5.ensures _ _ (c.calls-3.ensures _ c.no_exprs-4.ensures) c.no_stmts-5.ensures)))))))
