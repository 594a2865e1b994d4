use Rattle.std.proofs.Common.{rules, arith, ◌-◌, take}
use Rattle.hc_cast.specs.declared.stmt.CStmt.{the_lemmas}
use Rattle.hc_ccode.proofs.Forms.{in_first, in_other, in_while, in_cases, in_default, ok_behind, if_adds, else_adds, while_adds, switch_adds, none_yet, one_before, no_cases, case_more}
use Rattle.hc_ccode.proofs.emit.+emits.Goals as goal

pub emit_all-loop-left-init : goal.emit_all-loop-left-init
emit_all-loop-left-init t c = record {
  within = omega arith;
  adds = none_yet c.args.program.now c.args.names.now c.args.known c.args.code.now c.args.next c.args.stmts.now;
}

pub emit_all-loop-left-preserved : goal.emit_all-loop-left-preserved
emit_all-loop-left-preserved t c =
    let within = c.loop-left.invariant.within in
    let some = c.loop-left-test.true in
    record {
      within = omega arith;
      adds =
          one_before c.args.program.now c.args.names.now c.args.known c.args.code.now c.loop-left.code c.emit_one.new.code c.args.next c.in_ok-place.place
          c.loop-left.place (c.loop-left.left - 1) c.loop-left.left c.args.stmts.now c.index-stmts-left.result (omega arith) (omega arith) c.index-stmts-left.is
          c.loop-left.invariant.adds c.in_ok-place.ensures;
    }

pub emit_cases-loop-case-init : goal.emit_cases-loop-case-init
emit_cases-loop-case-init t c =
    no_cases c.args.program.now c.args.names.now c.args.known c.args.code.now c.args.next c.new-found.result c.new-found.ensures

pub emit_cases-loop-case-preserved : goal.emit_cases-loop-case-preserved
emit_cases-loop-case-preserved t c =
    case_more c.args.program.now c.args.names.now c.args.known c.args.code.now c.loop-case.code c.emit_all.new.code c.args.next c.in_ok-place.place
    c.loop-case.case-index c.loop-case.found c.push.new.self c.case_at.result c.args.cases.now c.case-item.result c.as_slice.result.now c.loop-case-test.true
    c.case-item.is c.loop-case.invariant c.as_slice.ensures c.in_ok-place.ensures c.case_at.ensures c.in_ok-push.ensures.ok

pub emit_one-emit_all-requires-in-While : goal.emit_one-emit_all-requires-in-While
emit_one-emit_all-requires-in-While t c = (
  search (rules, the_lemmas),
  (
    c.requires.within,
    in_while (take c.args.known c.args.program.now.functions) c.args.stmt.now c.in-While.test c.requires.called
        c.in-While.body c.as_slice-in-While.result.now c.in-While.is c.as_slice-in-While.ensures,
  ),
)

pub emit_one-emit_cases-requires : goal.emit_one-emit_cases-requires
emit_one-emit_cases-requires t c = (
  search (rules, the_lemmas),
  (
    c.requires.within,
    in_cases (take c.args.known c.args.program.now.functions) c.args.stmt.now c.in-Switch.on c.requires.called
        c.in-Switch.cases c.as_slice-in-Switch.result.now c.in-Switch.otherwise c.in-Switch.is c.as_slice-in-Switch.ensures,
  ),
)

pub emit_one-emit_all-requires-in-Switch : goal.emit_one-emit_all-requires-in-Switch
emit_one-emit_all-requires-in-Switch t c = (
  search (rules, the_lemmas),
  (
    c.requires.within,
    in_default (take c.args.known c.args.program.now.functions) c.args.stmt.now c.in-Switch.on c.requires.called
        c.in-Switch.cases c.in-Switch.otherwise c.as_slice-in-Switch-2.result.now c.in-Switch.is c.as_slice-in-Switch-2.ensures,
  ),
)

pub emit_one-emit_all-requires : goal.emit_one-emit_all-requires
emit_one-emit_all-requires t c = (
  search (rules, the_lemmas),
  (
    c.requires.within,
    in_first (take c.args.known c.args.program.now.functions) c.args.stmt.now c.in-If.test c.requires.called
        c.in-If.yes c.as_slice.result.now c.in-If.no c.in-If.is c.as_slice.ensures,
  ),
)

pub emit_one-emit_all-requires-in-Some : goal.emit_one-emit_all-requires-in-Some
emit_one-emit_all-requires-in-Some t c = (
  search (rules, the_lemmas),
  (
    c.requires.within,
    in_other (take c.args.known c.args.program.now.functions) c.args.stmt.now c.in-If.test c.requires.called
        c.in-If.yes c.in-Some.no c.as_slice-in-Some.result.now c.in-If.no c.in-If.is c.in-Some.is c.as_slice-in-Some.ensures,
  ),
)

pub emit_one-returns-in-None : goal.emit_one-returns-in-None
emit_one-returns-in-None t c =
    ok_behind c.put_branch.result c.emit_all.new.code c.put_branch.new.code _ _ c.put_branch.ensures.put c.put_branch.ensures.place
    (if_adds c.args.program.now c.args.names.now c.args.known c.args.code.now c.emit_all.new.code c.put_branch.new.code c.args.next c.in_ok-yes-in-If.yes
    c.args.stmt.now c.in-If.test c.in-If.yes c.as_slice.result.now c.as_slice.ensures c.in-If.no c.in-If.is c.in-None.is c.in_ok-yes-in-If.ensures)

pub emit_one-returns-in_ok-no-in-Some : goal.emit_one-returns-in_ok-no-in-Some
emit_one-returns-in_ok-no-in-Some t c =
    ok_behind c.put_branch-in-Some.result c.emit_all-in-Some.new.code c.put_branch-in-Some.new.code _ _ c.put_branch-in-Some.ensures.put
    c.put_branch-in-Some.ensures.place
    (else_adds c.args.program.now c.args.names.now c.args.known c.args.code.now c.emit_all.new.code c.put_branch-in-Some.new.code c.args.next
    c.in_ok-yes-in-If.yes c.args.stmt.now c.in-If.test c.in-If.yes c.as_slice.result.now c.as_slice.ensures c.emit_all-in-Some.new.code
    c.in_ok-no-in-Some.no c.in-Some.no c.as_slice-in-Some.result.now c.in-If.no c.as_slice-in-Some.ensures c.in-If.is c.in-Some.is
    c.in_ok-yes-in-If.ensures c.in_ok-no-in-Some.ensures)

pub emit_one-returns-in_ok-set_loop-in-While : goal.emit_one-returns-in_ok-set_loop-in-While
emit_one-returns-in_ok-set_loop-in-While t c =
    while_adds c.args.program.now c.args.names.now c.args.known c.args.code.now c.put.new.code c.set_loop.new.code c.args.next c.in_ok-body-in-While.body
    c.args.stmt.now c.in-While.test c.in-While.body c.as_slice-in-While.result.now c.as_slice-in-While.ensures c.emit_all-in-While.new.code
    c.in_ok-here-in-While.here c.in-While.is c.in_ok-here-in-While.ensures.put c.in_ok-here-in-While.ensures.place c.in_ok-body-in-While.ensures
    c.in_ok-set_loop-in-While.ensures

pub emit_one-returns-in_ok-otherwise-in-Switch : goal.emit_one-returns-in_ok-otherwise-in-Switch
emit_one-returns-in_ok-otherwise-in-Switch t c =
    ok_behind c.put_switch.result c.emit_all-in-Switch.new.code c.put_switch.new.code _ _ c.put_switch.ensures.put c.put_switch.ensures.place
    (switch_adds c.args.program.now c.args.names.now c.args.known c.args.code.now c.emit_cases.new.code c.emit_all-in-Switch.new.code c.put_switch.new.code
    c.args.next c.in_ok-otherwise-in-Switch.otherwise c.args.stmt.now c.in-Switch.on c.in_ok-cases-in-Switch.cases c.in-Switch.cases
    c.as_slice-in-Switch.result.now c.in-Switch.otherwise c.as_slice-in-Switch-2.result.now c.in-Switch.is c.as_slice-in-Switch.ensures
    c.as_slice-in-Switch-2.ensures c.in_ok-cases-in-Switch.ensures c.in_ok-otherwise-in-Switch.ensures)
