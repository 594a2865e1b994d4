use Rattle.std.proofs.Common.{◌≡◌, drop}
use Rattle.hc_scan.specs.Spelling.{in_front}
use Rattle.hc_scan.proofs.spelling.in_front.Given as goal

abbrev pub invariant-loop-one : goal.invariant-loop-one
invariant-loop-one g l =
    in_front g.F.HasSpelling.spelling (drop l.one-index l.ones) l.text ≡ in_front g.F.HasSpelling.spelling l.ones l.text
