use Rattle.hc_grammar.proofs.OneAnswerLemmas.{one_answer}
use Rattle.hc_grammar.proofs.theorems.has_one_answer.Goals as goal

pub returns : goal.returns
returns g c =
    let law = g.met.R.Reader in
    one_answer (record { law = law.readable; Is = g.R.Reader.Is; derived = law.derived; is = law.is })
