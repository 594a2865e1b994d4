use Rattle.std.proofs.Common.{◌≡◌, List, ◌∷◌, length}
use Rattle.hc_grammar.specs.Remaining.{remaining, at_fit}
use Rattle.hc_grammar.proofs.reading.Reading.take.Given as goal

-- what is left of the stack does with the token what the whole stack did
abbrev pub invariant-loop-symbol : goal.invariant-loop-symbol
invariant-loop-symbol g l =
    let r = g.R.Reader in
    let before = l.initial.self in
    (ts : List _) → remaining r.language before.stack (r.state before.reader) (r.value before.reader) (l.token ∷ ts)
    ≡ at_fit r.language l.self.stack (r.state l.self.reader) (r.value l.self.reader) l.token ts

abbrev pub decreases-loop-symbol : goal.decreases-loop-symbol
decreases-loop-symbol g l = length l.self.stack
