use Rattle.hc_frac.proofs.Words.{word_text}
use Rattle.hc_frac.proofs.name.Name.new.Goals as goal

pub returns-in_default-from_utf8 : goal.returns-in_default-from_utf8
returns-in_default-from_utf8 c = λ word. c.in_default-from_utf8.ensures.cases.0 (word_text _ word.all)
