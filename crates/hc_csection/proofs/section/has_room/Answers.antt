use Rattle.hc_csection.proofs.section.has_room.Goals as goal

-- each call makes what its word says
pub returns : goal.returns
returns c = (c.binary.ensures _ _ c.first_of.ensures c.first_of-2.ensures)
