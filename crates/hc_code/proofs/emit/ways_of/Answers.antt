use Rattle.std.proofs.Common.{sum_by, ap, arith}
use Rattle.hc_term.specs.declared.stmt.Branch.{Branch, out-Branch}
use Rattle.hc_term.specs.Rules.{statements}
use Rattle.hc_code.specs.Pieces.{all_statements}
use Rattle.hc_code.proofs.Ways.{ways_next}
use Rattle.hc_code.proofs.Sums.{more, within}
use Rattle.hc_code.proofs.emit.ways_of.Goals as goal

pub count_all-requires : goal.count_all-requires
count_all-requires c =
    let inside = within (λ (b : Branch). sum_by statements (out-Branch b).body) c.args.branches.now c.loop-branch.branch-index c.branch-item.result c.loop-branch-test.true c.branch-item.is in
    let body = ap all_statements c.as_slice-body.ensures in
    omega arith

pub loop-branch-preserved : goal.loop-branch-preserved
loop-branch-preserved c =
    let bs = c.args.branches.now in
    let i = c.loop-branch.branch-index in
    let b = c.branch-item.result in
    let body = c.as_slice-body.ensures in
    let counted = more (λ (d : Branch). sum_by statements (out-Branch d).body) bs i b c.loop-branch-test.true c.branch-item.is in
    let size = ap all_statements body in
    record {
      ways =
          ways_next c.args.here c.args.next bs i b c.loop-branch.ways c.push.new.self c.in_ok-copy.field-0 c.loop-branch.place c.entry_of.result c.as_slice-body.result.now
          c.loop-branch-test.true c.branch-item.is c.loop-branch.invariant.ways c.loop-branch.invariant.place c.in_ok-copy.ensures body c.entry_of.ensures c.in_ok-push.ensures.ok;
      place = omega arith;
    }
