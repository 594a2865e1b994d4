use Rattle.std.proofs.Common.{◌≡◌, length}
use Rattle.hc_grammar.specs.Remaining.{remaining}
use Rattle.hc_grammar.proofs.whole.read.Given as goal

-- the tokens that are left make of what is read what all tokens make
abbrev pub invariant-loop-token : goal.invariant-loop-token
invariant-loop-token g l =
    let r = g.R.Reader in
    remaining r.language l.reading.stack (r.state l.reading.reader) (r.value l.reading.reader) (g.I.Source.left l.source)
    ≡ remaining r.language r.language.start r.language.opening r.language.blank (g.I.Source.left l.fn.source)

abbrev pub decreases-loop-token : goal.decreases-loop-token
decreases-loop-token g l = length (g.I.Source.left l.source)
