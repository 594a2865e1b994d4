use Rattle.std.proofs.Common.{◌≡◌, drop, map}
use Rattle.std.specs.List.{list_any}
use Rattle.hc_finds.specs.Looks as look
use Rattle.hc_finds.specs.Seen.{io_in}
use Rattle.hc_finds.proofs.rules.is_guarded.Given as goal

abbrev pub invariant-loop-branch : goal.invariant-loop-branch
invariant-loop-branch l =
    list_any (λ j. look.same_way j l.io) (map io_in l.branches) ≡ list_any (λ j. look.same_way j l.io) (map io_in (drop l.branch-index l.branches))
