use Rattle.std.proofs.Common.{List, ◌≡◌, sym, ap, ap₂, ◌∙◌, add-one, arith}
use Rattle.std.proofs.Math.ListN.{get_or, set}
use Rattle.hc_term.proofs.Fronts.{front, get_or-front, set-front, front-all}
use Rattle.hc_cexec.specs.declared.thread.Thread.{Thread}
use Rattle.hc_cexec.specs.Applied.{stirred_in}
use Rattle.hc_cexec.proofs.kernel.stir.Goals as goal

module _ (c : goal.After-stir) where
  -- the thread at hand is still as it was at the start
  here : get_or c.loop-at.threads c.loop-at.at c.index-threads-at.result ≡ get_or c.args.threads.now c.loop-at.at c.index-threads-at.result
  here =
      ap (λ (xs : List Thread). get_or xs c.loop-at.at c.index-threads-at.result) c.loop-at.invariant
      ∙ get_or-front (stirred_in c.args.on) c.loop-at.at c.args.threads.now c.index-threads-at.result

pub loop-at-preserved : goal.loop-at-preserved
loop-at-preserved c =
    let f = stirred_in c.args.on in
    let xs = c.args.threads.now in
    ap₂ (λ (ys : List Thread) (y : Thread). set ys c.loop-at.at y) c.loop-at.invariant (c.stir.ensures ∙ ap f (here c))
    ∙ set-front f c.loop-at.at xs c.index-threads-at.result c.loop-at-test.true
    ∙ ap (λ n. front f n xs) (sym (add-one c.loop-at.at))

pub returns : goal.returns
returns c =
    c.loop-at.invariant ∙ front-all (stirred_in c.args.on) c.loop-at.at c.args.threads.now (omega (arith, c.loop-at-test.false))
