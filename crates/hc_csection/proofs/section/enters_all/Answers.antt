use Rattle.hc_csection.proofs.section.enters_all.Goals as goal

-- each call makes what its word says
pub returns : goal.returns
returns c = (c.stmt_then-3.ensures _ _ (c.store.ensures _ _ c.number.ensures (c.binary.ensures _ _ c.first_of.ensures c.local.ensures)) (c.stmt_then-2.ensures _ _ c.logs.ensures (c.stmt_then.ensures _ _ (c.when.ensures _ _ (c.binary-3.ensures _ _ (c.binary-2.ensures _ _ c.local-2.ensures c.number-2.ensures) c.has_room.ensures) c.overflows.ensures) c.no_stmts.ensures)))
