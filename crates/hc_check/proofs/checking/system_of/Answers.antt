use Rattle.std.proofs.Common.{◌≡◌, ap, ap₂, ◌∙◌, map}
use Rattle.hc_term.specs.Rules.{keeps_rules}
use Rattle.hc_modules.proofs.WellFacts.{well}
use Rattle.hc_finds.specs.Limits.{channels_of}
use Rattle.hc_check.specs.Numbered.{process_over}
use Rattle.hc_check.proofs.Kept.{kept}
use Rattle.hc_check.proofs.checking.system_of.Goals as goal

pub new-requires : goal.new-requires
new-requires c =
    let flat = c.args.flat.now in
    let channels : c.in_ok-channels.channels ≡ channels_of flat.processes = c.in_ok-channels.ensures {u = tt} ∙ c.requires.channels in
    let numbered : c.in_ok-processes.processes ≡ map (process_over (channels_of flat.processes)) flat.processes =
    c.in_ok-processes.ensures {u = tt} ∙ ap (λ ps. map (process_over (channels_of ps)) ps) c.as_slice.ensures in
    record { ruled = ap₂ keeps_rules numbered channels ∙ kept flat (well flat c.requires.flat) c.requires.nothing_found }
