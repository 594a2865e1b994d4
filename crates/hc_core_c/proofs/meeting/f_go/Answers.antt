use Rattle.hc_core_c.proofs.meeting.f_go.Goals as goal

-- each call makes what its word says
pub returns : goal.returns
returns c = (c.does.ensures _ _ _ (c.name_then.ensures _ c.no_names.ensures) (c.name_then-2.ensures _ c.no_names-2.ensures) (c.stmt_then-7.ensures _ _ (c.store.ensures _ _ c.local.ensures c.number.ensures) (c.stmt_then-6.ensures _ _ (c.store-2.ensures _ _ c.local-2.ensures c.number-2.ensures) (c.stmt_then-5.ensures _ _ (c.store-3.ensures _ _ c.local-3.ensures c.number-3.ensures) (c.stmt_then-4.ensures _ _ (c.counted.ensures _ (c.stmt_then-2.ensures _ _ (c.store-4.ensures _ _ (c.binary.ensures _ _ (c.times.ensures _ c.local-4.ensures) c.local-5.ensures) c.number-4.ensures) (c.stmt_then.ensures _ _ c.counts_up.ensures c.no_stmts.ensures))) (c.stmt_then-3.ensures _ _ c.mutes.ensures c.no_stmts-2.ensures))))))
