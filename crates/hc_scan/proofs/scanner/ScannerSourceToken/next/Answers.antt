use Rattle.std.proofs.Common.{◌∷◌, sym, ◌∙◌, ap, rules}
use Rattle.hc_scan.specs.Tokens.{with_piece, tokens_from}
use Rattle.hc_scan.proofs.Passing.{one_piece, not_ended}
use Rattle.hc_scan.proofs.scanner.ScannerSourceToken.next.Goals as goal

pub returns-in-Some : goal.returns-in-Some
returns-in-Some g c =
    let x = g.L.Lexer in
    let s = c.args.self.now in
    let f = c.front-len in
    let rest = tokens_from x.piece x.token_at x.end 0 c.passed.result.1 c.passed.result.0.now in
    let step = one_piece x.piece x.token_at x.end c.loop-here.place c.passed.result.1 c.loop-here.left.now c.passed.result.0.now f.result
    f.ensures.piece (search rules) f.ensures.within.0 c.passed.ensures.left c.passed.ensures.place in
    not_ended x.piece x.token_at x.end s.is_ended s.place s.left.now c.if-self.false
    ∙ sym c.loop-here.invariant.2 ∙ step ∙ ap (λ l. with_piece x.piece x.token_at x.end c.loop-here.place l rest) c.in-Some.is
    ∙ ap (λ t. t ∷ rest) (sym c.token.ensures)

pub loop-here-preserved : goal.loop-here-preserved
loop-here-preserved g c =
    let x = g.L.Lexer in
    let f = c.front-len in
    let rest = tokens_from x.piece x.token_at x.end 0 c.passed.result.1 c.passed.result.0.now in
    let step = one_piece x.piece x.token_at x.end c.loop-here.place c.passed.result.1 c.loop-here.left.now c.passed.result.0.now f.result
    f.ensures.piece (search rules) f.ensures.within.0 c.passed.ensures.left c.passed.ensures.place in
    let gap = ap (λ l. with_piece x.piece x.token_at x.end c.loop-here.place l rest) c.in_default.is in
    (c.passed.ensures.lines, c.passed.ensures.columns, sym (step ∙ gap) ∙ c.loop-here.invariant.2)
