use Rattle.std.proofs.Common.{◌≡◌, ◌∷◌, ◌++◌, map, drop}
use Rattle.hc_term.specs.TraceText.{words}
use Rattle.hc_trace.proofs.LineLemmas.{tail}
use Rattle.hc_trace.proofs.lines.line_of.Given as goal

abbrev pub invariant-loop-word : goal.invariant-loop-word
invariant-loop-word l = l.line.bytes ++ tail (drop l.word-index l.rest) ≡ words (l.first ∷ map (λ v. v.now) l.rest)
