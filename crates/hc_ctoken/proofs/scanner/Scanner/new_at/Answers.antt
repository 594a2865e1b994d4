use Rattle.hc_ctoken.specs.Tokens.{is_end}
use Rattle.hc_ctoken.proofs.Ended.{tells_end}
use Rattle.hc_ctoken.proofs.scanner.Scanner.new_at.Goals as goal

pub returns-clause-ended : goal.returns-clause-ended
returns-clause-ended c = c.new_at.ensures.ended is_end tells_end
