-- One place more.
use Rattle.std.proofs.Common.{rules, ◌<◌, length}
use Rattle.hc_cpost.specs.Written.{is_small, show_case}
use Rattle.hc_cpost.proofs.Built.{few_ways, few_rates, one_case_more}
use Rattle.hc_cstep.proofs.CasesMore.{found_there, all_there}
use Rattle.hc_cpost.proofs.post.show_cases.Goals as goal

pub show_case-requires-clause-few : goal.show_case-requires-clause-few
show_case-requires-clause-few c = few_ways c.at.result.now (all_there is_small c.args.code.now.instrs c.loop-place.place c.at.result.now c.requires.small c.at.ensures)

pub show_case-requires-clause-variables : goal.show_case-requires-clause-variables
show_case-requires-clause-variables c = few_rates c.at.result.now (all_there is_small c.args.code.now.instrs c.loop-place.place c.at.result.now c.requires.small c.at.ensures)

pub loop-place-preserved : goal.loop-place-preserved
loop-place-preserved c =
    let code = c.args.code.now.instrs in
    let less : c.loop-place.place < length code = search rules in
    one_case_more (show_case c.args.p) code c.loop-place.place c.at.result.now c.loop-place.found c.push.new.self
    c.in_ok-body.body c.case.result less (found_there code c.loop-place.place c.at.result.now c.at.ensures) c.loop-place.invariant c.in_ok-body.ensures c.case.ensures c.in_ok-push.ensures.ok
