-- One place more.
use Rattle.std.proofs.Common.{rules, ◌<◌, length}
use Rattle.hc_cpost.specs.Written.{is_small}
use Rattle.hc_cpost.specs.Taking.{take_case}
use Rattle.hc_cpost.proofs.Built.{few_next, one_case_more}
use Rattle.hc_cstep.proofs.CasesMore.{found_there, all_there}
use Rattle.hc_cpost.proofs.take.take_cases.Goals as goal

pub take_case-requires : goal.take_case-requires
take_case-requires c = record { few = few_next c.at.result.now (all_there is_small c.args.code.now.instrs c.loop-place.place c.at.result.now c.requires.small c.at.ensures) }

pub loop-place-preserved : goal.loop-place-preserved
loop-place-preserved c =
    let code = c.args.code.now.instrs in
    let less : c.loop-place.place < length code = search rules in
    one_case_more (take_case c.args.p) code c.loop-place.place c.at.result.now c.loop-place.found c.push.new.self
    c.in_ok-body.body c.case.result less (found_there code c.loop-place.place c.at.result.now c.at.ensures) c.loop-place.invariant c.in_ok-body.ensures c.case.ensures c.in_ok-push.ensures.ok
