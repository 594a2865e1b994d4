use Rattle.std.proofs.Common.{refl, ap, List}
use Rattle.hc_term.specs.declared.expr.Expr.{Expr}
use Rattle.hc_code.specs.declared.code.Way.{Way}
use Rattle.hc_code.specs.declared.code.Instr.TheVariants as instr
use Rattle.hc_code.proofs.Heads.{skip_heads, assign_heads, wait_heads, log_heads, io_heads}
use Rattle.hc_code.proofs.Arms.{leaf_adds}
use Rattle.hc_code.proofs.emit.emit_leaf.Goals as goal

pub returns-in_ok-put-in-Skip-clause-adds : goal.returns-in_ok-put-in-Skip-clause-adds
returns-in_ok-put-in-Skip-clause-adds c =
    leaf_adds c.in_ok-put-in-Skip.ensures.put refl c.in-Skip.is (skip_heads _ _)

pub returns-in_ok-put-in-Assign-clause-adds : goal.returns-in_ok-put-in-Assign-clause-adds
returns-in_ok-put-in-Assign-clause-adds c =
    leaf_adds c.in_ok-put-in-Assign.ensures.put (ap (λ (e : Expr). instr.Assign c.in-Assign.variable e c.args.next) c.in_ok-value-in-Assign.ensures) c.in-Assign.is (assign_heads _ _ _ _)

pub returns-in_ok-put-in-Wait-clause-adds : goal.returns-in_ok-put-in-Wait-clause-adds
returns-in_ok-put-in-Wait-clause-adds c =
    leaf_adds c.in_ok-put-in-Wait.ensures.put (ap (λ (e : Expr). instr.Wait e c.args.next) c.in_ok-time-in-Wait.ensures) c.in-Wait.is (wait_heads _ _ _)

pub returns-in_ok-put-in-Log-clause-adds : goal.returns-in_ok-put-in-Log-clause-adds
returns-in_ok-put-in-Log-clause-adds c =
    leaf_adds c.in_ok-put-in-Log.ensures.put (ap (λ (e : Expr). instr.Log e c.args.next) c.in_ok-value-in-Log.ensures) c.in-Log.is (log_heads _ _ _)

pub returns-in_ok-put-in-Io-clause-adds : goal.returns-in_ok-put-in-Io-clause-adds
returns-in_ok-put-in-Io-clause-adds c =
    leaf_adds c.in_ok-put-in-Io.ensures.put (ap (λ (ws : List Way). instr.Meet ws) c.in_ok-branches-in-Io.ensures) c.in-Io.is (io_heads _ _ _)
