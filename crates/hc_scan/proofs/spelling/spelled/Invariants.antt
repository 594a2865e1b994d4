use Rattle.std.proofs.Common.{◌≡◌, drop}
use Rattle.hc_scan.specs.Spelling.{spelled}
use Rattle.hc_scan.proofs.spelling.spelled.Given as goal

abbrev pub invariant-loop-one : goal.invariant-loop-one
invariant-loop-one g l =
    spelled g.F.HasSpelling.spelling (drop l.one-index l.ones) l.word ≡ spelled g.F.HasSpelling.spelling l.ones l.word
