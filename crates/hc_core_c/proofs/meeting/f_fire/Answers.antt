use Rattle.hc_core_c.proofs.meeting.f_fire.Goals as goal

-- each call makes what its word says
pub returns : goal.returns
returns c = (c.does.ensures _ _ _ c.no_names.ensures (c.name_then.ensures _ c.no_names-2.ensures) (c.stmt_then-4.ensures _ _ (c.counted.ensures _ (c.stmt_then-3.ensures _ _ (c.when.ensures _ _ (c.binary-2.ensures _ _ (c.binary.ensures _ _ (c.none.ensures _ c.first_of.ensures) (c.some.ensures _ c.send_of.ensures)) (c.some-2.ensures _ c.receive_of.ensures)) (c.stmt_then.ensures _ _ (c.calls.ensures _ (c.expr_then.ensures _ _ c.local.ensures c.no_exprs.ensures)) c.no_stmts.ensures)) (c.stmt_then-2.ensures _ _ c.counts_up.ensures c.no_stmts-2.ensures))) c.no_stmts-3.ensures))
