use Rattle.hc_board.proofs.Bitwise.{lowest}
use Rattle.hc_board.proofs.bits.least_bit.Goals as goal

pub returns-else-word-eq0-clause-least : goal.returns-else-word-eq0-clause-least
returns-else-word-eq0-clause-least c = lowest c.args.word c.if-word-eq0.false c.ranges.word.fits
