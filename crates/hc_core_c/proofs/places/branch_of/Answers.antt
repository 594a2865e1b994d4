use Rattle.hc_core_c.proofs.places.branch_of.Goals as goal

-- each call makes what its word says
pub returns : goal.returns
returns c code_is p_code = (c.binary.ensures _ _ p_code (c.times.ensures _ c.local.ensures))
