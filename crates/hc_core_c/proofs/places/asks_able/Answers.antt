use Rattle.hc_core_c.proofs.places.asks_able.Goals as goal

-- each call makes what its word says
pub returns : goal.returns
returns c = (c.takes.ensures _ (c.expr_then.ensures _ _ c.local.ensures c.no_exprs.ensures))
