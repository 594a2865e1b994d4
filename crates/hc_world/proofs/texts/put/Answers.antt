use Rattle.std.proofs.Common.{◌≢◌, [], ap, length, rules}
use Rattle.hc_world.proofs.PieceLemmas.{puts_at_once}
use Rattle.hc_world.proofs.texts.put.Goals as goal

pub returns : goal.returns
returns g c =
    let some : c.args.text.now ≢ [] = λ none. let no_bytes = ap length none in search rules in
    puts_at_once c.finish.new.sink c.finish.result some c.in_ok-put_piece.ensures c.finish.ensures
