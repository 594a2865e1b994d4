use Rattle.hc_core_c.proofs.tree.core_tree.Goals as goal

-- each call makes what its word says
pub returns : goal.returns
returns c = (c.function_then-21.ensures _ _ c.f_owner.ensures (c.function_then-20.ensures _ _ c.f_stop.ensures (c.function_then-19.ensures _ _ c.f_count.ensures (c.function_then-18.ensures _ _ c.f_mute.ensures (c.function_then-17.ensures _ _ c.f_go.ensures (c.function_then-16.ensures _ _ c.f_meet.ensures (c.function_then-15.ensures _ _ c.f_fire.ensures (c.function_then-14.ensures _ _ c.f_able.ensures (c.function_then-13.ensures _ _ c.f_any.ensures (c.function_then-12.ensures _ _ c.f_least.ensures (c.function_then-11.ensures _ _ c.f_shift.ensures (c.function_then-10.ensures _ _ c.f_drift.ensures (c.function_then-9.ensures _ _ c.f_lower.ensures (c.function_then-8.ensures _ _ c.f_move.ensures (c.function_then-7.ensures _ _ c.f_due.ensures (c.function_then-6.ensures _ _ c.f_stand.ensures (c.function_then-5.ensures _ _ c.f_length.ensures (c.function_then-4.ensures _ _ c.f_delay.ensures (c.function_then-3.ensures _ _ c.f_elapse.ensures (c.function_then-2.ensures _ _ c.f_wakes.ensures (c.function_then.ensures _ _ c.f_pass.ensures c.no_functions.ensures)))))))))))))))))))))
