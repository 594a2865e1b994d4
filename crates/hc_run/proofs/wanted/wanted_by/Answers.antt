-- Each process adds its worker's mark.
use Rattle.std.proofs.Common.{◌+◌, ◌∙◌, arith, sym, subst}
use Rattle.std.proofs.Math.Nat.{mod-lt}
use Rattle.hc_run.proofs.Marks.{Marks, next, skip}
use Rattle.hc_run.proofs.wanted.wanted_by.Goals as goal
use Rattle.hc_run.proofs.wanted.wanted_by.Goals.{then-able, else-able}

pub loop-process-preserved : goal.loop-process-preserved
loop-process-preserved c =
    let s = c.args.joint.now in
    let used = c.args.used in
    let n = c.loop-process.process in
    let before = c.loop-process.wanted in
    let so_far = c.loop-process.invariant in
    let in_range = mod-lt n c.requires.some in
    elim c.if-able.branch [
      | then-able w ↦ subst (λ ws. Marks s used (n + 1) ws) (sym w.wanted-is)
          (next s used n before so_far (omega (arith, in_range, c.requires.few)) (λ at is. sym w.if-able.true ∙ c.able.ensures at is))
      | else-able w ↦ subst (λ ws. Marks s used (n + 1) ws) (sym w.wanted-is)
          (skip s used n before so_far (λ at is. sym w.if-able.false ∙ c.able.ensures at is))
    ]
