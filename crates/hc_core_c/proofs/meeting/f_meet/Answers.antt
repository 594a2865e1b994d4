use Rattle.hc_core_c.proofs.meeting.f_meet.Goals as goal

-- each call makes what its word says
pub returns : goal.returns
returns c = (c.does.ensures _ _ _ (c.name_then.ensures _ c.no_names.ensures) (c.name_then-4.ensures _ (c.name_then-3.ensures _ (c.name_then-2.ensures _ c.no_names-2.ensures))) (c.stmt_then-11.ensures _ _ (c.takes.ensures _ (c.expr_then.ensures _ _ c.send_of.ensures c.no_exprs.ensures)) (c.stmt_then-10.ensures _ _ (c.takes-2.ensures _ (c.expr_then-2.ensures _ _ c.receive_of.ensures c.no_exprs-2.ensures)) (c.stmt_then-9.ensures _ _ (c.set.ensures _ (c.branch_of.ensures _ c.send_of-2.ensures)) (c.stmt_then-8.ensures _ _ (c.store.ensures _ _ c.local.ensures c.local-2.ensures) (c.stmt_then-7.ensures _ _ (c.store-2.ensures _ _ c.local-3.ensures (c.branch_of-2.ensures _ c.receive_of-2.ensures)) (c.stmt_then-6.ensures _ _ (c.set-2.ensures _ (c.binary.ensures _ _ c.its.ensures c.local-4.ensures)) (c.stmt_then-5.ensures _ _ (c.calls.ensures _ (c.expr_then-8.ensures _ _ c.number.ensures (c.expr_then-7.ensures _ _ c.number-2.ensures (c.expr_then-6.ensures _ _ c.local-5.ensures (c.expr_then-5.ensures _ _ c.local-6.ensures (c.expr_then-4.ensures _ _ c.local-7.ensures (c.expr_then-3.ensures _ _ c.local-8.ensures c.no_exprs-3.ensures))))))) (c.stmt_then-4.ensures _ _ (c.calls-2.ensures _ (c.expr_then-12.ensures _ _ c.number-3.ensures (c.expr_then-11.ensures _ _ (c.binary-2.ensures _ _ (c.times.ensures _ c.local-9.ensures) (c.elem.ensures _ c.local-10.ensures)) (c.expr_then-10.ensures _ _ c.number-4.ensures (c.expr_then-9.ensures _ _ c.local-11.ensures c.no_exprs-4.ensures))))) (c.stmt_then-3.ensures _ _ (c.calls-3.ensures _ (c.expr_then-13.ensures _ _ c.local-12.ensures c.no_exprs-5.ensures)) (c.stmt_then-2.ensures _ _ (c.calls-4.ensures _ (c.expr_then-14.ensures _ _ c.local-13.ensures c.no_exprs-6.ensures)) (c.stmt_then.ensures _ _ (c.calls-5.ensures _ c.no_exprs-7.ensures) c.no_stmts.ensures))))))))))))
