use Rattle.std.proofs.Common.{◌≡◌, ◌++◌, drop}
use Rattle.hc_det.specs.Text.{handed_lines}
use Rattle.hc_det.proofs.text.put_meetings.Given as goal

abbrev pub invariant-loop-meeting : goal.invariant-loop-meeting
invariant-loop-meeting l = l.fn.text.items ++ handed_lines l.meetings ≡ l.text.items ++ handed_lines (drop l.meeting-index l.meetings)
