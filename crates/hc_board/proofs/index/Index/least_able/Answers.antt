use Rattle.hc_board.proofs.AbleIndex.{least_told}
use Rattle.hc_board.proofs.index.Index.least_able.Goals as goal

pub returns : goal.returns
returns c ps told within = least_told c.args.self.now ps told within c.least_bit.result c.least_bit.ensures.least c.least_bit.ensures.none
