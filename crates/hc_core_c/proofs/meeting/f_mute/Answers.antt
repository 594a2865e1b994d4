use Rattle.hc_core_c.proofs.meeting.f_mute.Goals as goal

-- each call makes what its word says
pub returns : goal.returns
returns c = (c.does.ensures _ _ _ (c.name_then.ensures _ c.no_names.ensures) (c.name_then-2.ensures _ c.no_names-2.ensures) (c.stmt_then-4.ensures _ _ (c.counted.ensures _ (c.stmt_then-3.ensures _ _ c.clears.ensures (c.stmt_then-2.ensures _ _ c.clears-2.ensures (c.stmt_then.ensures _ _ c.counts_up.ensures c.no_stmts.ensures)))) c.no_stmts-2.ensures))
