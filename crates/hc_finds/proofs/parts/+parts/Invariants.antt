use Rattle.std.proofs.Common.{◌≡◌, ◌++◌, [], take, drop, map}
use Rattle.hc_finds.specs.Seen.{seen, io_in}
use Rattle.hc_finds.specs.Parts as spec
use Rattle.hc_finds.proofs.parts.+parts.Given as goal

abbrev pub invariant-add_all-loop-stmt : goal.invariant-add_all-loop-stmt
invariant-add_all-loop-stmt l =
    seen l.parts.items ≡ seen l.initial.parts.items ++ spec.parts_of l.tests_first (take l.stmt-index l.stmts)

abbrev pub invariant-add_guards-loop-at : goal.invariant-add_guards-loop-at
invariant-add_guards-loop-at l =
    seen l.parts.items ++ spec.guards_from l.rates (map io_in (take l.at l.branches)) (map (spec.guard_of l.tests_first) (drop l.at l.branches))
    ≡ seen l.initial.parts.items ++ spec.guards_from l.rates [] (map (spec.guard_of l.tests_first) l.branches)
