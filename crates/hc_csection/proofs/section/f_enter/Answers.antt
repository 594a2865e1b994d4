use Rattle.hc_csection.proofs.section.f_enter.Goals as goal

-- each call makes what its word says
pub returns : goal.returns
returns c = (c.does.ensures _ _ _ (c.name_then-3.ensures _ (c.name_then-2.ensures _ (c.name_then.ensures _ c.no_names.ensures))) c.no_names-2.ensures (c.stmt_then-2.ensures _ _ (c.when_else.ensures _ _ _ (c.binary-2.ensures _ _ (c.binary.ensures _ _ c.first_of.ensures c.first_of-2.ensures) c.local.ensures) (c.stmt_then.ensures _ _ (c.store.ensures _ _ c.number.ensures c.first_of-3.ensures) c.no_stmts.ensures) c.enters_all.ensures) c.no_stmts-2.ensures))
