use Rattle.hc_csection.proofs.section.f_idle.Goals as goal

-- each call makes what its word says
pub returns : goal.returns
returns c = (c.answers.ensures _ _ _ (c.name_then.ensures _ c.no_names.ensures) (c.name_then-2.ensures _ c.no_names-2.ensures) (c.stmt_then-2.ensures _ _ (c.takes.ensures _ (c.expr_then.ensures _ _ c.local.ensures c.no_exprs.ensures)) (c.stmt_then.ensures _ _ (c.gives_back.ensures _ (c.binary-3.ensures _ _ (c.binary.ensures _ _ (c.none.ensures _ c.first_of.ensures) (c.none-2.ensures _ c.local-2.ensures)) (c.binary-2.ensures _ _ (c.elem.ensures _ c.local-3.ensures) c.number.ensures))) c.no_stmts.ensures)))
