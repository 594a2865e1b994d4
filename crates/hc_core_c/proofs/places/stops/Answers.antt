use Rattle.hc_core_c.proofs.places.stops.Goals as goal

-- each call makes what its word says
pub returns : goal.returns
returns c = (c.calls.ensures _ (c.expr_then-2.ensures _ _ c.number.ensures (c.expr_then.ensures _ _ c.minus_one.ensures c.no_exprs.ensures)))
