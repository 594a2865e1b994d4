use Rattle.std.proofs.Common.{◌≡◌, ◌+◌, take}
use Rattle.hc_code.specs.Pieces.{branch_statements, ways_at}
use Rattle.hc_code.proofs.emit.ways_of.Given as goal

abbrev pub invariant-loop-branch : goal.invariant-loop-branch
invariant-loop-branch l = record {
  ways : l.ways ≡ ways_at l.here l.next (take l.branch-index l.branches);
  place : l.place ≡ l.here + branch_statements (take l.branch-index l.branches);
}
