use Rattle.std.proofs.Common.{◌≡◌, ◌+◌, drop}
use Rattle.hc_upgrade.specs.Written.{behind, lines_text}
use Rattle.hc_upgrade.proofs.whole.put_lines.Given as goal

abbrev pub invariant-loop-place : goal.invariant-loop-place
invariant-loop-place l =
    behind l.fn.text.items (lines_text l.routes 2 l.lines) ≡ behind l.text.items (lines_text l.routes (2 + l.place) (drop l.place l.lines))
