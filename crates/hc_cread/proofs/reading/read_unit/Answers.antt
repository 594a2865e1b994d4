use Rattle.std.proofs.Common.{sym, subst, Ok, Err}
use Rattle.hc_grammar.specs.Ends.{Ends}
use Rattle.hc_grammar.specs.Language.{is_last}
use Rattle.hc_ctoken.specs.Tokens.{tokens_from}
use Rattle.hc_cread.specs.Language.{language}
use Rattle.hc_cread.specs.Stops.{IsExact}
use Rattle.hc_cread.proofs.Answered.{IsRead, program_exact, stop_exact}
use Rattle.hc_cread.proofs.OneAnswer.{ended}
use Rattle.hc_cread.proofs.reading.read_unit.Goals as goal

pub read-requires-clause-ended : goal.read-requires-clause-ended
read-requires-clause-ended c κs =
    subst (λ ts. Ends (is_last language) ts) (sym c.new_at-tokens.ensures.tokens)
    (ended (tokens_from c.args.from c.args.bytes.now) c.new_at-tokens.ensures.ended)

pub returns-in-Ok : goal.returns-in-Ok
returns-in-Ok c =
    subst (λ p. IsExact c.args.from c.args.bytes.now (Ok p)) (sym c.program.ensures)
    (program_exact c.args.from c.args.bytes.now c.in-Ok.text
    (subst (λ ts. IsRead ts (Ok c.in-Ok.text)) c.new_at-tokens.ensures.tokens c.in-Ok.ensures))

pub returns-in-Err : goal.returns-in-Err
returns-in-Err c =
    subst (λ s. IsExact c.args.from c.args.bytes.now (Err s)) (sym c.stop_of.ensures)
    (stop_exact c.args.from c.args.bytes.now c.in-Err.stop
    (subst (λ ts. IsRead ts (Err c.in-Err.stop)) c.new_at-tokens.ensures.tokens c.in-Err.ensures))
