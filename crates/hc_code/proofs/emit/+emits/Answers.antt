use Rattle.std.proofs.Common.{◌≡◌, ◌+◌, ◌-◌, ap₂, length-drop, ℕ, List, ap, ◌∙◌, length, take, drop, arith}
use Rattle.std.proofs.lemmas.List.{take_all}
use Rattle.hc_term.specs.declared.stmt.Stmt.{Stmt}
use Rattle.hc_term.specs.declared.stmt.Branch.{Branch, out-Branch}
use Rattle.hc_term.specs.Rules.{statements}
use Rattle.hc_code.specs.Pieces.{all_statements, branch_statements, entry}
use Rattle.hc_code.proofs.Sums.{more}
use Rattle.hc_code.proofs.Growing.{not_yet, nothing}
use Rattle.hc_term.proofs.Sizes.{statements-Pick, statements-Forever, statements-Loop, statements-Choice, statements-Evolve}
use Rattle.hc_code.proofs.Arms.{two_add, if_adds, pick_adds, forever_adds, loop_adds, choice_adds, evolve_adds}
use Rattle.hc_code.proofs.Steps.{one_more, branch_more}
use Rattle.hc_code.proofs.emit.+emits.Goals as goal

pub emit_all-loop-at-init : goal.emit_all-loop-at-init
emit_all-loop-at-init t c = record { grown = omega arith; adds = not_yet c.args.code.now (entry (length c.args.code.now) c.args.next c.args.stmts.now) }

pub emit_all-loop-at-preserved : goal.emit_all-loop-at-preserved
emit_all-loop-at-preserved t c =
    let counted : all_statements (take (c.loop-at.at + 1) c.args.stmts.now) ≡ all_statements (take c.loop-at.at c.args.stmts.now) + statements c.index-stmts-at.result =
    more statements c.args.stmts.now c.loop-at.at c.index-stmts-at.result c.loop-at-test.true c.index-stmts-at.is in
    let grown = c.in_ok-emit_one.ensures.grown in
    let left : take (length c.args.stmts.now - (c.loop-at.at + 1)) (drop (c.loop-at.at + 1) c.args.stmts.now) ≡ drop (c.loop-at.at + 1) c.args.stmts.now =
    take_all _ _ (omega (arith, length-drop (c.loop-at.at + 1) c.args.stmts.now)) in
    let place : c.len.result + c.count_one.result ≡ length c.emit_one.new.code = omega arith in
    record {
      grown = omega arith;
      adds =
          one_more c.args.code.now c.loop-at.code c.emit_one.new.code c.args.next (entry (length c.args.code.now) c.args.next c.args.stmts.now) c.entry_of-after.result
          c.args.stmts.now c.loop-at.at c.index-stmts-at.result c.loop-at-test.true c.index-stmts-at.is c.loop-at.invariant.adds c.in_ok-emit_one.ensures.adds
          (c.entry_of-after.ensures ∙ ap₂ (λ (k : ℕ) (ss : List Stmt). entry k c.args.next ss) place left);
    }

pub emit_branches-loop-branch-init : goal.emit_branches-loop-branch-init
emit_branches-loop-branch-init t c = record { grown = omega arith; adds = nothing c.args.code.now c.args.next }

pub emit_branches-loop-branch-preserved : goal.emit_branches-loop-branch-preserved
emit_branches-loop-branch-preserved t c =
    let bs = c.args.branches.now in
    let i = c.loop-branch.branch-index in
    let counted : branch_statements (take (i + 1) bs) ≡ branch_statements (take i bs) + all_statements (out-Branch c.branch-item.result).body =
    more (λ (d : Branch). all_statements (out-Branch d).body) c.args.branches.now c.loop-branch.branch-index c.branch-item.result c.loop-branch-test.true c.branch-item.is in
    let size : all_statements c.as_slice.result.now ≡ all_statements (out-Branch c.branch-item.result).body = ap all_statements c.as_slice.ensures in
    let grown = c.in_ok-emit_all.ensures.grown in
    record {
      grown = omega arith;
      adds =
          branch_more c.args.code.now c.loop-branch.code c.emit_all.new.code c.args.next c.args.branches.now c.loop-branch.branch-index c.branch-item.result
          c.loop-branch-test.true c.branch-item.is c.loop-branch.invariant.grown c.loop-branch.invariant.adds c.as_slice.result.now c.as_slice.ensures c.in_ok-emit_all.ensures.adds;
    }

pub emit_one-returns-in_ok-emit_all-in-Forever-clause-grown : goal.emit_one-returns-in_ok-emit_all-in-Forever-clause-grown
emit_one-returns-in_ok-emit_all-in-Forever-clause-grown t c =
    let counted = statements-Forever _ _ c.in-Forever.is in
    let inside = ap all_statements c.as_slice-body.ensures in
    let head = c.in_ok-put_forever-in-Forever.ensures.grown in
    let grown = c.in_ok-emit_all-in-Forever.ensures.grown in
    omega arith

pub emit_one-returns-in_ok-emit_all-in-Forever-clause-adds : goal.emit_one-returns-in_ok-emit_all-in-Forever-clause-adds
emit_one-returns-in_ok-emit_all-in-Forever-clause-adds t c =
    forever_adds c.len-here.result c.in-Forever.is c.as_slice-body.ensures c.len-here.ensures
    c.in_ok-put_forever-in-Forever.ensures.put c.in_ok-emit_all-in-Forever.ensures.adds

pub emit_one-returns-in_ok-emit_all-in-Loop-clause-grown : goal.emit_one-returns-in_ok-emit_all-in-Loop-clause-grown
emit_one-returns-in_ok-emit_all-in-Loop-clause-grown t c =
    let counted = statements-Loop _ _ _ c.in-Loop.is in
    let inside = ap all_statements c.as_slice-body-in-Loop.ensures in
    let head = c.in_ok-put_loop-in-Loop.ensures.grown in
    let grown = c.in_ok-emit_all-in-Loop.ensures.grown in
    omega arith

pub emit_one-returns-in_ok-emit_all-in-Loop-clause-adds : goal.emit_one-returns-in_ok-emit_all-in-Loop-clause-adds
emit_one-returns-in_ok-emit_all-in-Loop-clause-adds t c =
    loop_adds c.len-here.result c.in-Loop.is c.as_slice-body-in-Loop.ensures c.len-here.ensures
    c.in_ok-put_loop-in-Loop.ensures.put c.in_ok-emit_all-in-Loop.ensures.adds

pub emit_one-returns-in_ok-emit_all-in-If-2-clause-adds : goal.emit_one-returns-in_ok-emit_all-in-If-2-clause-adds
emit_one-returns-in_ok-emit_all-in-If-2-clause-adds t c =
    if_adds c.in-If.is c.as_slice-yes.ensures c.as_slice-no.ensures c.in_ok-put_if-in-If.ensures.put
    (two_add c.in_ok-emit_all-in-If.ensures.adds c.in_ok-emit_all-in-If-2.ensures.adds c.in_ok-emit_all-in-If.ensures.grown)

pub emit_one-returns-in_ok-emit_all-in-Pick-2-clause-grown : goal.emit_one-returns-in_ok-emit_all-in-Pick-2-clause-grown
emit_one-returns-in_ok-emit_all-in-Pick-2-clause-grown t c =
    let counted = statements-Pick _ _ _ c.in-Pick.is in
    let first = ap all_statements c.as_slice-left.ensures in
    let second = ap all_statements c.as_slice-right.ensures in
    let head = c.in_ok-put_pick-in-Pick.ensures.grown in
    let grown = c.in_ok-emit_all-in-Pick.ensures.grown in
    let more = c.in_ok-emit_all-in-Pick-2.ensures.grown in
    omega arith

pub emit_one-returns-in_ok-emit_all-in-Pick-2-clause-adds : goal.emit_one-returns-in_ok-emit_all-in-Pick-2-clause-adds
emit_one-returns-in_ok-emit_all-in-Pick-2-clause-adds t c =
    pick_adds c.in-Pick.is c.as_slice-left.ensures c.as_slice-right.ensures c.in_ok-put_pick-in-Pick.ensures.put
    (two_add c.in_ok-emit_all-in-Pick.ensures.adds c.in_ok-emit_all-in-Pick-2.ensures.adds c.in_ok-emit_all-in-Pick.ensures.grown)

pub emit_one-returns-in_ok-emit_branches-in-Choice-clause-grown : goal.emit_one-returns-in_ok-emit_branches-in-Choice-clause-grown
emit_one-returns-in_ok-emit_branches-in-Choice-clause-grown t c =
    let counted = statements-Choice _ _ c.in-Choice.is in
    let inside = ap branch_statements c.as_slice-branches.ensures in
    let head = c.in_ok-put_choice-in-Choice.ensures.grown in
    let grown = c.in_ok-emit_branches-in-Choice.ensures.grown in
    omega arith

pub emit_one-returns-in_ok-emit_branches-in-Choice-clause-adds : goal.emit_one-returns-in_ok-emit_branches-in-Choice-clause-adds
emit_one-returns-in_ok-emit_branches-in-Choice-clause-adds t c =
    choice_adds c.in-Choice.is c.as_slice-branches.ensures c.in_ok-put_choice-in-Choice.ensures.put c.in_ok-emit_branches-in-Choice.ensures.adds

pub emit_one-returns-in_ok-emit_branches-in-Evolve-clause-grown : goal.emit_one-returns-in_ok-emit_branches-in-Evolve-clause-grown
emit_one-returns-in_ok-emit_branches-in-Evolve-clause-grown t c =
    let counted = statements-Evolve _ _ _ _ c.in-Evolve.is in
    let inside = ap branch_statements c.as_slice-branches-in-Evolve.ensures in
    let head = c.in_ok-put_evolve-in-Evolve.ensures.grown in
    let grown = c.in_ok-emit_branches-in-Evolve.ensures.grown in
    omega arith

pub emit_one-returns-in_ok-emit_branches-in-Evolve-clause-adds : goal.emit_one-returns-in_ok-emit_branches-in-Evolve-clause-adds
emit_one-returns-in_ok-emit_branches-in-Evolve-clause-adds t c =
    evolve_adds c.in-Evolve.is c.as_slice-rates.ensures c.as_slice-branches-in-Evolve.ensures c.in_ok-put_evolve-in-Evolve.ensures.put
    c.in_ok-emit_branches-in-Evolve.ensures.adds
