use Rattle.std.proofs.Common.{◌∙◌, sym}
use Rattle.hc_ctoken.proofs.SourceWords.{said_first}
use Rattle.hc_ctoken.proofs.quoted.source_word.Goals as goal

pub returns : goal.returns
returns c =
    said_first c.args.word.now c.in-Some.token _ c.requires.letter_first c.requires.all
    (sym c.new.ensures.tokens ∙ c.in-Some.ensures)
