use Rattle.hc_core_c.proofs.asking.f_any.Goals as goal

-- each call makes what its word says
pub returns : goal.returns
returns c = (c.answers.ensures _ _ _ c.no_names.ensures (c.name_then-3.ensures _ (c.name_then-2.ensures _ (c.name_then.ensures _ c.no_names-2.ensures))) (c.stmt_then-7.ensures _ _ (c.counted.ensures _ (c.stmt_then-5.ensures _ _ c.asks_able.ensures (c.stmt_then-4.ensures _ _ (c.when.ensures _ _ (c.some.ensures _ c.local.ensures) (c.stmt_then.ensures _ _ (c.set.ensures _ c.number.ensures) c.no_stmts.ensures)) (c.stmt_then-3.ensures _ _ (c.set-2.ensures _ c.number-2.ensures) (c.stmt_then-2.ensures _ _ c.counts_up.ensures c.no_stmts-2.ensures))))) (c.stmt_then-6.ensures _ _ (c.gives_back.ensures _ c.local-2.ensures) c.no_stmts-3.ensures)))
