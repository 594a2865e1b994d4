use Rattle.hc_scan.proofs.Passing.{tokens_end}
use Rattle.hc_scan.proofs.scanner.Scanner.new_at.Goals as goal

pub returns-clause-ended : goal.returns-clause-ended
returns-clause-ended g c =
    let x = g.L.Lexer in
    λ is_end tells. tokens_end x.piece x.token_at x.end is_end tells 0 c.args.place c.args.text.now
