use Rattle.hc_board.proofs.BoardLaw.{each_is_meeting_board}
use Rattle.hc_board.proofs.laws.board_laws.Goals as goal

pub returns : goal.returns
returns c = each_is_meeting_board
