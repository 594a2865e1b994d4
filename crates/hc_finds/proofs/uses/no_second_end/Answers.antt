use Rattle.std.proofs.Common.{arith, take, ◌∙◌, ◌≡◌, sym, ap, subst, map, List, ◌++◌}
use Rattle.hc_modules.specs.Found.{first_of, IsFirst}
use Rattle.hc_modules.specs.Outermost.{in_a_row}
use Rattle.hc_modules.proofs.Firsts.{first_found}
use Rattle.hc_finds.specs.declared.uses.Use as code
use Rattle.hc_finds.specs.First.{told}
use Rattle.hc_finds.specs.Refusals.{second_end}
use Rattle.hc_finds.specs.Seen.{uses_seen, all_uses, AreEnds}
use Rattle.hc_finds.specs.Uses.{shared_in, shared_ends}
use Rattle.hc_finds.proofs.Ends.{process_here, process_later, process_ends}
use Rattle.hc_finds.proofs.InTurn.{tells_itself}
use Rattle.hc_finds.proofs.uses.no_second_end.Goals as goal

pub returns-in-Err-clause-stop : goal.returns-in-Err-clause-stop
returns-in-Err-clause-stop c =
    let ps = c.args.processes.now in
    let i = c.loop-uses.uses-index in
    let found = c.unshared.ensures (all_uses (take i ps)) c.loop-uses.invariant.ends in
    let seen : first_of (shared_in c.args.sends (all_uses (take i ps)) (uses_seen c.uses-item.result.items)) ≡ c.unshared.result =
    ap (λ (xs : List code.Use). first_of (shared_in c.args.sends (all_uses (take i ps)) (uses_seen xs))) (sym c.deref.ensures.value) ∙ sym found in
    subst (IsFirst told (map (second_end c.args.sends) (shared_ends c.args.sends (all_uses ps)))) (sym c.second_end.ensures)
    (first_found told tells_itself (second_end c.args.sends) (shared_ends c.args.sends (all_uses ps)) c.in-Err.place
    (ap first_of c.loop-uses.invariant.found
    ∙ process_here c.args.sends ps i c.uses-item.result (omega arith) (cc) c.in-Err.place (seen ∙ c.in-Err.is)))

pub loop-uses-preserved : goal.loop-uses-preserved
loop-uses-preserved c =
    let ps = c.args.processes.now in
    let i = c.loop-uses.uses-index in
    let found = c.unshared.ensures (all_uses (take i ps)) c.loop-uses.invariant.ends in
    let seen : first_of (shared_in c.args.sends (all_uses (take i ps)) (uses_seen c.uses-item.result.items)) ≡ c.unshared.result =
    ap (λ (xs : List code.Use). first_of (shared_in c.args.sends (all_uses (take i ps)) (uses_seen xs))) (sym c.deref.ensures.value) ∙ sym found in
    record {
      ends = process_ends c.args.sends ps i c.uses-item.result (omega arith) (cc) c.add_all.new.self
          (subst (λ (xs : List code.Use). AreEnds c.add_all.new.self (in_a_row (all_uses (take i ps)) ++ uses_seen xs))
          c.deref-in-loop-uses.ensures.value (c.in_ok-add_all.ensures {u = tt} (in_a_row (all_uses (take i ps))) c.loop-uses.invariant.ends));
      found = c.loop-uses.invariant.found
          ∙ process_later c.args.sends ps i c.uses-item.result (omega arith) (cc) (seen ∙ c.in_default.is);
    }
