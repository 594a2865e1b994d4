use Rattle.hc_csection.proofs.section.logs.Goals as goal

-- each call makes what its word says
pub returns : goal.returns
returns c = (c.when.ensures _ _ (c.binary.ensures _ _ c.local.ensures c.number.ensures) (c.stmt_then.ensures _ _ (c.calls.ensures _ (c.expr_then-4.ensures _ _ c.local-2.ensures (c.expr_then-3.ensures _ _ c.number-2.ensures (c.expr_then-2.ensures _ _ c.local-3.ensures (c.expr_then.ensures _ _ c.number-3.ensures c.no_exprs.ensures))))) c.no_stmts.ensures))
