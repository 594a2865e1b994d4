use Rattle.hc_board.proofs.IndexOf.{timed_any}
use Rattle.hc_board.proofs.index.Index.is_some_waiting.Goals as goal

pub returns : goal.returns
returns c ps told within = timed_any c.args.self.now ps told within
