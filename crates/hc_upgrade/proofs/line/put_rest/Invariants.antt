use Rattle.std.proofs.Common.{◌≡◌, ◌++◌, drop}
use Rattle.hc_upgrade.specs.Tails.{tail}
use Rattle.hc_upgrade.proofs.line.put_rest.Given as goal

abbrev pub invariant-loop-word : goal.invariant-loop-word
invariant-loop-word l = l.fn.text.items ++ tail l.rest ≡ l.text.items ++ tail (drop l.word-index l.rest)
