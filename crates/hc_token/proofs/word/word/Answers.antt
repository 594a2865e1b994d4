use Rattle.std.proofs.Common.{arith, refl}
use Rattle.hc_token.proofs.Fronts.{front_is_word}
use Rattle.hc_token.proofs.word.word.Goals as goal

pub named-requires-then-is_name : goal.named-requires-then-is_name
named-requires-then-is_name c =
    let requires = c.requires in
    front_is_word c.args.word.now requires.letter_first requires.all (omega arith)
    (c.if-not-ends_with.ensures.bound refl) cc
