use Rattle.std.proofs.Common.{rules, arith, ◌≡◌, List, [], subst, ap, ◌∙◌, flat_map, get_or}
use Rattle.std.proofs.lemmas.List.{take_all}
use Rattle.hc_modules.specs.declared.flat.FlatProcess.{FlatProcess}
use Rattle.hc_finds.specs.Names.{first_occurrences}
use Rattle.hc_finds.specs.Limits.{limited_parts, channels_named}
use Rattle.hc_finds.specs.Tally.{over_along, with_names}
use Rattle.hc_finds.proofs.Noted.{noted-first}
use Rattle.hc_finds.proofs.Tallied.{named_before, stop-found, limits-later, names-later, maps-later}
use Rattle.hc_finds.proofs.tables.within_limits.Goals as goal

pub returns-in_err-named-clause-stop : goal.returns-in_err-named-clause-stop
returns-in_err-named-clause-stop c =
    let found = stop-found c.args.processes.now c.loop-process.process-index c.process-item.result (omega arith)
    c.loop-process.tables.channels.keys c.loop-process.invariant.channels in
    search (rules, found)

pub loop-process-preserved : goal.loop-process-preserved
loop-process-preserved c =
    let ps = c.args.processes.now in
    let i = c.loop-process.process-index in
    let p = c.process-item.result in
    let names = c.loop-process.tables.channels.keys in
    let new = c.in_ok-named.named.channels.keys in
    let noted = c.loop-process.invariant.channels in
    let same : p ≡ get_or ps i p = cc in
    let told = c.in_ok-named.ensures {u = tt} in record {
      found = limits-later ps i p (omega arith) names noted c.loop-process.invariant.found
          (subst (λ (q : FlatProcess). over_along names [] (limited_parts q) ≡ []) same told.ok);
      channels = names-later ps i p (omega arith) names noted new
          (subst (λ (q : FlatProcess). new ≡ with_names names (channels_named q)) same told.channels);
      variables = search (rules, maps-later);
    }

pub returns-clause-channels : goal.returns-clause-channels
returns-clause-channels c =
    c.loop-process.invariant.channels ∙ noted-first (named_before c.args.processes.now c.loop-process.process-index)
    ∙ ap (λ (ps : List FlatProcess). first_occurrences (flat_map channels_named ps)) (take_all c.loop-process.process-index c.args.processes.now (omega arith))
