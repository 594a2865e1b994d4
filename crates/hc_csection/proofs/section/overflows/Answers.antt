use Rattle.hc_csection.proofs.section.overflows.Goals as goal

-- each call makes what its word says
pub returns : goal.returns
returns c = (c.stmt_then-2.ensures _ _ (c.calls.ensures _ (c.expr_then-2.ensures _ _ c.number.ensures (c.expr_then.ensures _ _ c.local.ensures c.no_exprs.ensures))) (c.stmt_then.ensures _ _ (c.calls-2.ensures _ c.no_exprs-2.ensures) c.no_stmts.ensures))
