use Rattle.std.proofs.Common.{ap, sym, ◌∙◌}
use Rattle.hc_modules.specs.Finds.{only_if}
use Rattle.hc_modules.specs.Found.{first_of}
use Rattle.hc_finds.specs.Looks as look
use Rattle.hc_finds.specs.Seen.{part_of}
use Rattle.hc_finds.proofs.rules.repeated_guard.Goals as goal

pub returns-in-Guard : goal.returns-in-Guard
returns-in-Guard c =
    c.refused_if.ensures ∙ ap (λ b. first_of (only_if b c.in-Guard.place)) c.is_guarded.ensures
    ∙ ap (λ x. first_of (look.repeated_guard (part_of x))) (sym c.in-Guard.is)
