use Rattle.hc_core_c.proofs.moving.f_lower.Goals as goal

-- each call makes what its word says
pub returns : goal.returns
returns c = (c.answers.ensures _ _ _ (c.name_then-2.ensures _ (c.name_then.ensures _ c.no_names.ensures)) (c.name_then-3.ensures _ c.no_names-2.ensures) (c.stmt_then-3.ensures _ _ (c.takes.ensures _ (c.expr_then-4.ensures _ _ c.number.ensures (c.expr_then-3.ensures _ _ c.number-2.ensures (c.expr_then-2.ensures _ _ c.its.ensures (c.expr_then.ensures _ _ c.number-3.ensures c.no_exprs.ensures))))) (c.stmt_then-2.ensures _ _ (c.keeps.ensures _ c.its-2.ensures) (c.stmt_then.ensures _ _ (c.gives_back.ensures _ c.local.ensures) c.no_stmts.ensures))))
