use Rattle.hc_csection.proofs.section.section_tree.Goals as goal

-- each call makes what its word says
pub returns : goal.returns
returns c = (c.function_then-2.ensures _ _ c.f_enter.ensures (c.function_then.ensures _ _ c.f_idle.ensures c.no_functions.ensures))
