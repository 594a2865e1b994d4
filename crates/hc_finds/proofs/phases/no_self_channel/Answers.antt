use Rattle.std.proofs.Common.{rules, arith, ap, sym, subst, ◌∙◌, List, map, flat_map}
use Rattle.hc_modules.specs.Found.{IsFirst}
use Rattle.hc_frac.specs.declared.place.Place.{Place}
use Rattle.hc_finds.specs.declared.stop.CheckStop.{CheckStop}
use Rattle.hc_finds.specs.declared.stop.CheckStop.TheVariants as stop
use Rattle.hc_finds.specs.declared.uses.Use as code
use Rattle.hc_finds.specs.First.{told}
use Rattle.hc_finds.specs.Seen.{uses_seen, all_uses}
use Rattle.hc_finds.specs.Uses.{self_channels}
use Rattle.hc_finds.proofs.Ends.{each_first, each_later}
use Rattle.hc_finds.proofs.phases.no_self_channel.Goals as goal

pub returns-in_err-no_turn-clause-stop : goal.returns-in_err-no_turn-clause-stop
returns-in_err-no_turn-clause-stop c =
    let ps = c.args.processes.now in
    let found : (s : CheckStop) → IsFirst told (map stop.SelfChannel (self_channels (uses_seen c.deref.result.now))) s
    → IsFirst told (map stop.SelfChannel (flat_map self_channels (all_uses ps))) s =
    λ s h. subst (λ (xs : List Place). IsFirst told (map stop.SelfChannel xs) s) (sym c.loop-uses.invariant)
    (each_first self_channels ps c.loop-uses.uses-index c.uses-item.result (omega arith) (cc) told stop.SelfChannel s
    (subst (λ (us : List code.Use). IsFirst told (map stop.SelfChannel (self_channels (uses_seen us))) s) c.deref.ensures.value h)) in
    search (rules, found)

pub loop-uses-preserved : goal.loop-uses-preserved
loop-uses-preserved c =
    c.loop-uses.invariant
    ∙ each_later self_channels c.args.processes.now c.loop-uses.uses-index c.uses-item.result (omega arith) (cc)
    (ap (λ (us : List code.Use). self_channels (uses_seen us)) (sym c.deref.ensures.value) ∙ (c.in_ok-no_turn.ensures {u = tt}).ok)
