use Rattle.std.proofs.Common.{sym}
use Rattle.hc_trace.proofs.LineLemmas.{words_tail}
use Rattle.hc_trace.proofs.lines.line_of.Goals as goal

pub loop-word-init : goal.loop-word-init
loop-word-init c = rw c.push_str.ensures.bytes (rw c.new-line.ensures (sym (words_tail c.args.first.now c.args.rest.now)))
