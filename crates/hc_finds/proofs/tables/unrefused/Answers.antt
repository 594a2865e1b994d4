use Rattle.std.proofs.Common.{rules, ap, sym, subst, ◌∙◌, List, [], flat_map, map}
use Rattle.hc_modules.proofs.Rows.{rows}
use Rattle.hc_modules.specs.Outermost.{in_a_row}
use Rattle.hc_finds.specs.declared.stop.CheckStop.{CheckStop}
use Rattle.hc_modules.specs.Found.{first_of, IsFirst}
use Rattle.hc_finds.specs.First.{told}
use Rattle.hc_finds.specs.Parts.{Part}
use Rattle.hc_finds.specs.Rules as rule
use Rattle.hc_finds.specs.Limits.{beyond_limits}
use Rattle.hc_finds.specs.Uses.{Use, uses_in, uses_of}
use Rattle.hc_finds.specs.Refusals.{parts_in, all_parts, bad_ends, refusals}
use Rattle.hc_finds.specs.Seen.{each_seen, all_uses}
use Rattle.hc_finds.proofs.Ends.{uses_alike}
use Rattle.hc_finds.proofs.InTurn.{by-second, by-third, by-none}
use Rattle.hc_finds.proofs.tables.unrefused.Goals as goal

pub returns-in_err-rules_kept-clause-stop : goal.returns-in_err-rules_kept-clause-stop
returns-in_err-rules_kept-clause-stop c =
    let ps = c.args.processes.now in
    let parts = ap each_seen c.as_slice.ensures.value ∙ c.in_ok-parts.ensures {u = tt} in
    let kept = c.rules_kept.ensures
    ∙ ap (λ (xs : List Part). first_of (flat_map (λ r. rule.broken r xs) rule.rules)) (ap in_a_row parts ∙ rows parts_in ps) in
    let found = by-second (beyond_limits [] ps) (flat_map (λ r. rule.broken r (all_parts ps)) rule.rules) (bad_ends (map uses_of ps)) c.in_err-rules_kept.field-0.0
    (c.in_ok-tables.ensures {u = tt}).ok (sym kept ∙ c.in_err-rules_kept.was) in
    search (rules, found)

pub returns-in_err-no_bad_end-clause-stop : goal.returns-in_err-no_bad_end-clause-stop
returns-in_err-no_bad_end-clause-stop c =
    let ps = c.args.processes.now in
    let parts = ap each_seen c.as_slice.ensures.value ∙ c.in_ok-parts.ensures {u = tt} in
    let kept = c.rules_kept.ensures
    ∙ ap (λ (xs : List Part). first_of (flat_map (λ r. rule.broken r xs) rule.rules)) (ap in_a_row parts ∙ rows parts_in ps) in
    let seen = ap each_seen c.as_slice-2.ensures.value ∙ c.in_ok-parts.ensures {u = tt} in
    let uses = ap all_uses c.as_slice-3.ensures.value ∙ c.in_ok-uses.ensures {u = tt} ∙ ap (map (flat_map uses_in)) seen ∙ uses_alike ps in
    let found : (s : CheckStop) → IsFirst told (bad_ends (all_uses c.as_slice-3.result.now)) s → IsFirst told (refusals ps) s =
    λ s h. by-third (beyond_limits [] ps) (flat_map (λ r. rule.broken r (all_parts ps)) rule.rules) (bad_ends (map uses_of ps)) s
    (c.in_ok-tables.ensures {u = tt}).ok (sym kept ∙ c.in_ok-rules_kept.was) (subst (λ (us : List (List Use)). IsFirst told (bad_ends us) s) uses h) in
    search (rules, found)

pub returns-clause-ok : goal.returns-clause-ok
returns-clause-ok c =
    let ps = c.args.processes.now in
    let parts = ap each_seen c.as_slice.ensures.value ∙ c.in_ok-parts.ensures {u = tt} in
    let kept = c.rules_kept.ensures
    ∙ ap (λ (xs : List Part). first_of (flat_map (λ r. rule.broken r xs) rule.rules)) (ap in_a_row parts ∙ rows parts_in ps) in
    let seen = ap each_seen c.as_slice-2.ensures.value ∙ c.in_ok-parts.ensures {u = tt} in
    let uses = ap all_uses c.as_slice-3.ensures.value ∙ c.in_ok-uses.ensures {u = tt} ∙ ap (map (flat_map uses_in)) seen ∙ uses_alike ps in
    by-none (beyond_limits [] ps) (flat_map (λ r. rule.broken r (all_parts ps)) rule.rules) (bad_ends (map uses_of ps))
    (c.in_ok-tables.ensures {u = tt}).ok (sym kept ∙ c.in_ok-rules_kept.was) (sym (ap bad_ends uses) ∙ (c.in_ok-no_bad_end.ensures {u = tt}).ok)
