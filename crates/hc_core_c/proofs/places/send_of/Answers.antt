use Rattle.hc_core_c.proofs.places.send_of.Goals as goal

-- each call makes what its word says
pub returns : goal.returns
returns c = (c.elem.ensures _ c.local.ensures)
