-- One place more.
use Rattle.std.proofs.Common.{rules, arith, ◌<◌, length}
use Rattle.hc_cstep.specs.Premises.{has_code, in_range}
use Rattle.hc_cstep.proofs.CasesMore.{found_there, all_there, one_more_case}
use Rattle.hc_cstep.proofs.body.cases_of.Goals as goal

pub case_of-requires-clause-coded : goal.case_of-requires-clause-coded
case_of-requires-clause-coded g c =
    all_there (has_code (g.B.Blocks.parts c.args.blocks.now)) c.args.code.now.instrs c.loop-place.place c.at.result.now c.requires.coded c.at.ensures

pub case_of-requires-clause-ranged : goal.case_of-requires-clause-ranged
case_of-requires-clause-ranged g c = all_there in_range c.args.code.now.instrs c.loop-place.place c.at.result.now c.requires.ranged c.at.ensures

pub loop-place-preserved : goal.loop-place-preserved
loop-place-preserved g c =
    let code = c.args.code.now.instrs in
    let less : c.loop-place.place < length code = search rules in
    one_more_case (g.B.Blocks.parts c.args.blocks.now) c.args.p c.args.seed code c.loop-place.place c.at.result.now c.loop-place.cases c.push.new.self
    c.in_ok-body.body _ less (found_there code c.loop-place.place c.at.result.now c.at.ensures) c.loop-place.invariant c.in_ok-body.ensures (search rules) c.in_ok-push.ensures.ok
