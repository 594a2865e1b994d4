use Rattle.std.proofs.Common.{sym, ◌∙◌, ap, subst, Err}
use Rattle.hc_grammar.proofs.Settings.{Setting}
use Rattle.hc_grammar.specs.declared.whole.Stop.{Stop}
use Rattle.hc_grammar.specs.Remaining.{remaining}
use Rattle.hc_grammar.proofs.Answered.{Exact, all_exact, faulty, stop_exact}
use Rattle.hc_grammar.proofs.whole.read.Given.{Over}
use Rattle.hc_grammar.proofs.whole.read.Goals as goal

-- the language with its published texts, by its laws
abbrev pub setting : (g : Over) → Setting g.R.Reader.language
setting g =
    let law = g.met.R.Reader in
    record { law = law.readable; Is = g.R.Reader.Is; derived = law.derived; is = law.is }

-- all tokens are read
pub returns : goal.returns
returns g c =
    let r = c.loop-token.reading in
    let e = sym c.loop-token.invariant
    ∙ ap (remaining g.R.Reader.language r.stack (g.R.Reader.state r.reader) (g.R.Reader.value r.reader)) c.in_default-next.ensures in
    all_exact (setting g) (g.I.Source.left c.args.source.now) c.requires.ended g.R.Reader.place g.R.Reader.value r.reader e

-- the token has a fault
pub returns-in-Err : goal.returns-in-Err
returns-in-Err g c =
    let r = c.loop-token.reading in
    let x = setting g in
    let ts = g.I.Source.left c.args.source.now in
    let f = faulty x ts c.requires.ended g.R.Reader.place g.R.Reader.value c.in-Some.token
    c.place-place.result c.place-place.ensures r.stack (g.R.Reader.state r.reader) (g.R.Reader.value r.reader)
    (g.I.Source.left c.loop-token.source) (g.I.Source.left c.next.new.self) c.loop-token.invariant c.in-Some.ensures
    c.in-Err.fault c.in-Err.ensures.err in
    subst (λ (s : Stop _). Exact x ts c.requires.ended g.R.Reader.place g.R.Reader.value (Err s)) (sym c.stop_at.ensures)
    (stop_exact x ts c.requires.ended g.R.Reader.place g.R.Reader.value c.in-Some.token
    c.place-place.result c.place-place.ensures c.in-Err.fault f)
