use Rattle.std.proofs.Common.{◌≡◌, flat_map, drop}
use Rattle.hc_modules.specs.Tables.{writes_among}
use Rattle.hc_modules.specs.Found.{first_of}
use Rattle.hc_modules.specs.Outermost.{written, branch_written}
use Rattle.hc_modules.proofs.written.+writes.Given as goal

abbrev pub invariant-write_of_stmts-loop-stmt : goal.invariant-write_of_stmts-loop-stmt
invariant-write_of_stmts-loop-stmt l =
    first_of (flat_map (writes_among l.values.keys) (flat_map written l.stmts))
    ≡ first_of (flat_map (writes_among l.values.keys) (flat_map written (drop l.stmt-index l.stmts)))

abbrev pub invariant-write_of_branches-loop-branch : goal.invariant-write_of_branches-loop-branch
invariant-write_of_branches-loop-branch l =
    first_of (flat_map (writes_among l.values.keys) (flat_map branch_written l.branches))
    ≡ first_of (flat_map (writes_among l.values.keys) (flat_map branch_written (drop l.branch-index l.branches)))
