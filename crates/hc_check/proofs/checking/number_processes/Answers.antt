use Rattle.std.proofs.Common.{◌≡◌, ap, sym, ◌∙◌, ◌++◌, [], ◌∷◌, length, map, take, arith}
use Rattle.std.proofs.lemmas.Slice.Zip.{zip_turn}
use Rattle.std.proofs.lemmas.List.{length_push}
use Rattle.hc_finds.specs.Limits.{channels_of, variables_of}
use Rattle.hc_check.specs.Numbered.{process_over}
use Rattle.hc_check.proofs.FromRefusals.{few_channels}
use Rattle.hc_check.proofs.InStep.{at_one_place, one_further, few_at}
use Rattle.hc_check.proofs.checking.number_processes.Goals as goal

pub number_process-requires-clause-channels : goal.number_process-requires-clause-channels
number_process-requires-clause-channels c =
    let few = few_channels c.args.processes.now c.requires.nothing_found in
    omega (arith, few, ap length c.requires.channels)

pub number_process-requires-clause-variables : goal.number_process-requires-clause-variables
number_process-requires-clause-variables c =
    let turn = zip_turn c.args.tables.now.variables c.args.processes.now c.loop-variables.yielded
    c.into_iter-variables-iterator.result c.loop-variables.variables-iterator c.next.new.self c.next.result (cc) (cc)
    c.loop-variables.yielded_by (c.in-Some.variables, c.in-Some.process) c.in-Some.is c.next.ensures.steps in
    at_one_place (λ s. s.keys) variables_of c.args.tables.now.variables c.args.processes.now (length c.loop-variables.yielded)
    c.in-Some.variables.now c.in-Some.process.now c.requires.variables turn.0 turn.1 (turn.2 _) (turn.3 _)

pub number_process-requires-clause-few : goal.number_process-requires-clause-few
number_process-requires-clause-few c =
    let turn = zip_turn c.args.tables.now.variables c.args.processes.now c.loop-variables.yielded
    c.into_iter-variables-iterator.result c.loop-variables.variables-iterator c.next.new.self c.next.result (cc) (cc)
    c.loop-variables.yielded_by (c.in-Some.variables, c.in-Some.process) c.in-Some.is c.next.ensures.steps in
    let same = at_one_place (λ s. s.keys) variables_of c.args.tables.now.variables c.args.processes.now (length c.loop-variables.yielded)
    c.in-Some.variables.now c.in-Some.process.now c.requires.variables turn.0 turn.1 (turn.2 _) (turn.3 _) in
    let few = few_at c.args.processes.now (length c.loop-variables.yielded) c.in-Some.process.now c.requires.nothing_found turn.1 (turn.3 _) in
    omega (arith, few, ap length same)

pub loop-variables-preserved : goal.loop-variables-preserved
loop-variables-preserved c =
    let turn = zip_turn c.args.tables.now.variables c.args.processes.now c.loop-variables.yielded
    c.into_iter-variables-iterator.result c.loop-variables.variables-iterator c.next.new.self c.next.result (cc) (cc)
    c.loop-variables.yielded_by (c.in-Some.variables, c.in-Some.process) c.in-Some.is c.next.ensures.steps in
    let ps = c.args.processes.now in
    let numbered : c.push.new.self ≡ c.loop-variables.found ++ process_over (channels_of ps) c.in-Some.process.now ∷ [] =
    (c.in_ok-push.ensures {u = tt}).ok
    ∙ ap (λ p. c.loop-variables.found ++ p ∷ []) (c.in_ok-number_process.ensures {u = tt} ∙ ap (λ cs. process_over cs c.in-Some.process.now) c.requires.channels) in
    one_further (process_over (channels_of ps)) ps (length c.loop-variables.yielded) c.in-Some.process.now c.loop-variables.found c.push.new.self
    turn.1 (turn.3 _) c.loop-variables.invariant numbered
    ∙ ap (λ n. map (process_over (channels_of ps)) (take n ps)) (sym (length_push c.loop-variables.yielded (c.in-Some.variables, c.in-Some.process)))
