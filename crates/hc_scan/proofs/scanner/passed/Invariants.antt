use Rattle.std.proofs.Common.{◌≡◌, ◌+◌, ◌≤◌, take, fold}
use Rattle.hc_scan.specs.Places.{after}
use Rattle.hc_scan.proofs.scanner.passed.Given as goal

abbrev pub invariant-loop-byte : goal.invariant-loop-byte
invariant-loop-byte l =
    (l.here ≡ fold after l.fn.place (take l.byte-index l.byte-items))
    × (l.here.line ≤ l.fn.place.line + l.byte-index)
    × (l.here.column ≤ l.fn.place.column + l.byte-index)
