use Rattle.hc_core_c.proofs.places.clears.Goals as goal

-- each call makes what its word says
pub returns : goal.returns
returns c = (c.when.ensures _ _ (c.binary-4.ensures _ _ (c.binary.ensures _ _ (c.times.ensures _ c.local.ensures) (c.elem.ensures _ c.local-2.ensures)) (c.binary-3.ensures _ _ (c.elem-2.ensures _ c.local-3.ensures) (c.binary-2.ensures _ _ (c.times-2.ensures _ c.local-4.ensures) c.number.ensures))) (c.stmt_then.ensures _ _ (c.store.ensures _ _ c.local-5.ensures c.number-2.ensures) c.no_stmts.ensures))
