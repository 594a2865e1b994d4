use Rattle.std.proofs.Common.{refl}
use Rattle.hc_code.proofs.Whole.{stands, kept, each, measured}
use Rattle.hc_code.proofs.emit.compile.Goals as goal

pub returns-clause-stands : goal.returns-clause-stands
returns-clause-stands c =
    stands c.new-instrs.result c.emit_all.new.code c.push.new.self c.as_slice-body.result.now c.args.process.now.body c.count_all-end.result c.new-instrs.ensures c.as_slice-body.ensures c.in_ok-emit_all.ensures.adds c.in_ok-emit_all.ensures.grown c.count_all-end.ensures c.in_ok-push.ensures.ok

pub returns-clause-one_each : goal.returns-clause-one_each
returns-clause-one_each c =
    each c.new-instrs.result c.emit_all.new.code c.push.new.self c.as_slice-body.result.now c.args.process.now.body c.count_all-end.result c.new-instrs.ensures c.as_slice-body.ensures c.in_ok-emit_all.ensures.adds c.in_ok-emit_all.ensures.grown c.count_all-end.ensures c.in_ok-push.ensures.ok c.args.process.now refl

pub returns-clause-kept : goal.returns-clause-kept
returns-clause-kept c =
    kept c.new-instrs.result c.emit_all.new.code c.push.new.self c.as_slice-body.result.now c.args.process.now.body c.count_all-end.result c.new-instrs.ensures c.as_slice-body.ensures c.in_ok-emit_all.ensures.adds c.in_ok-emit_all.ensures.grown c.count_all-end.ensures c.in_ok-push.ensures.ok

pub returns-clause-measured : goal.returns-clause-measured
returns-clause-measured c =
    measured c.new-instrs.result c.emit_all.new.code c.push.new.self c.as_slice-body.result.now c.args.process.now.body c.count_all-end.result c.new-instrs.ensures c.as_slice-body.ensures c.in_ok-emit_all.ensures.adds c.in_ok-emit_all.ensures.grown c.count_all-end.ensures c.in_ok-push.ensures.ok c.args.process.now refl
