use Rattle.std.proofs.Common.{arith}
use Rattle.hc_ctoken.proofs.SourceWords.{long_quoted}
use Rattle.hc_ctoken.proofs.quoted.quoted.Goals as goal

pub returns-then-word-gt-MOST_WORD_BYTES : goal.returns-then-word-gt-MOST_WORD_BYTES
returns-then-word-gt-MOST_WORD_BYTES c = long_quoted c.args.word.now (grind arith)
