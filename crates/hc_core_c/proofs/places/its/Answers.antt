use Rattle.hc_core_c.proofs.places.its.Goals as goal

-- each call makes what its word says
pub returns : goal.returns
returns c = (c.binary.ensures _ _ (c.times.ensures _ c.local.ensures) c.number.ensures)
