use Rattle.hc_core_c.proofs.places.rests.Goals as goal

-- each call makes what its word says
pub returns : goal.returns
returns c = (c.takes.ensures _ (c.expr_then-4.ensures _ _ c.number.ensures (c.expr_then-3.ensures _ _ c.number-2.ensures (c.expr_then-2.ensures _ _ c.number-3.ensures (c.expr_then.ensures _ _ c.number-4.ensures c.no_exprs.ensures)))))
