use Rattle.hc_core_c.proofs.meeting.f_stop.Goals as goal

-- each call makes what its word says
pub returns : goal.returns
returns c = (c.does.ensures _ _ _ (c.name_then-2.ensures _ (c.name_then.ensures _ c.no_names.ensures)) c.no_names-2.ensures (c.stmt_then-2.ensures _ _ (c.calls.ensures _ (c.expr_then-4.ensures _ _ c.local.ensures (c.expr_then-3.ensures _ _ c.number.ensures (c.expr_then-2.ensures _ _ c.number-2.ensures (c.expr_then.ensures _ _ c.local-2.ensures c.no_exprs.ensures))))) (c.stmt_then.ensures _ _ (c.store.ensures _ _ c.number-3.ensures (c.binary.ensures _ _ c.local-3.ensures c.number-4.ensures)) c.no_stmts.ensures)))
