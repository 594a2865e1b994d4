use Rattle.hc_token.specs.Tokens.{first_place}
use Rattle.hc_token.proofs.Ended.{tokens_end}
use Rattle.hc_token.proofs.scanner.Scanner.new.Goals as goal

pub returns-clause-ended : goal.returns-clause-ended
returns-clause-ended c = tokens_end 0 first_place c.args.text.now
