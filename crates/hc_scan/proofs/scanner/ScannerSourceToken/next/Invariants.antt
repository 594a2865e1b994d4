use Rattle.std.proofs.Common.{◌≡◌, ◌+◌, ◌<◌, ◌^◌, length}
use Rattle.hc_scan.specs.Tokens.{tokens_from}
use Rattle.hc_scan.proofs.scanner.ScannerSourceToken.next.Given as goal

-- what is left has the tokens that are still to come
abbrev pub invariant-loop-here : goal.invariant-loop-here
invariant-loop-here g l =
    let x = g.L.Lexer in
    (l.place.line + length l.left < 2 ^ 32)
    × (l.place.column + length l.left < 2 ^ 32)
    × (tokens_from x.piece x.token_at x.end 0 l.place l.left
    ≡ tokens_from x.piece x.token_at x.end 0 l.fn.self.place l.fn.self.left.now)

abbrev pub decreases-loop-here : goal.decreases-loop-here
decreases-loop-here g l = length l.left
