use Rattle.std.proofs.Common.{◌≡◌, ◌<◌, ◌+◌, arith, sym, ◌∙◌, map, take}
use Rattle.hc_modules.specs.Expansion.{flat_process}
use Rattle.hc_modules.specs.Sizes.{all_statements, process_statements}
use Rattle.hc_modules.proofs.Shapes.{total}
use Rattle.hc_modules.proofs.StatementCount.{statements_before, ends_beyond, goes_on_within}
use Rattle.hc_modules.proofs.sizes.count_statements.Goals as goal

pub loop-process-preserved : goal.loop-process-preserved
loop-process-preserved c =
    let f = flat_process c.args.modules.now in
    let ps = c.args.processes.now in
    let i = c.loop-process.process-index in
    let x = c.process-item.result in
    let here : total c.uncalled.result.now ≡ process_statements (f x) = c.uncalled.ensures in
    let before = statements_before f ps i x c.loop-process-test.true c.process-item.is in
    let counted : c.saturating_add-counted.result ≡ all_statements (map f (take (i + 1) ps)) =
    omega (
      arith,
      here,
      before,
      c.loop-process.invariant.counted,
      c.statements_of_all-here.ensures,
      c.saturating_add-counted.ensures,
      c.if-counted-gt-MOST_STATEMENTS.false,
    ) in
    record {
      rest = c.loop-process.invariant.rest
          ∙ goes_on_within f ps i x c.loop-process-test.true c.process-item.is (all_statements (map f ps))
          (omega (arith, counted, c.if-counted-gt-MOST_STATEMENTS.false));
      counted = counted;
      few = c.if-counted-gt-MOST_STATEMENTS.false;
    }

pub returns-then-counted-gt-MOST_STATEMENTS : goal.returns-then-counted-gt-MOST_STATEMENTS
returns-then-counted-gt-MOST_STATEMENTS c =
    let f = flat_process c.args.modules.now in
    let ps = c.args.processes.now in
    let i = c.loop-process.process-index in
    let x = c.process-item.result in
    let here : total c.uncalled.result.now ≡ process_statements (f x) = c.uncalled.ensures in
    let before = statements_before f ps i x c.loop-process-test.true c.process-item.is in
    let many : 10000 < all_statements (map f (take (i + 1) ps)) =
    omega (
      arith,
      here,
      before,
      c.loop-process.invariant.counted,
      c.statements_of_all-here.ensures,
      c.saturating_add-counted.ensures,
      c.if-counted-gt-MOST_STATEMENTS.true,
    ) in
    ends_beyond f ps i x c.loop-process-test.true c.process-item.is (all_statements (map f ps)) many ∙ sym c.loop-process.invariant.rest
