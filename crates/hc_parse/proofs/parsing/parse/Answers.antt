use Rattle.std.proofs.Common.{sym, subst, List, Result, Ok, Err}
use Rattle.hc_grammar.specs.Ends.{Ends}
use Rattle.hc_grammar.specs.Language.{is_last}
use Rattle.hc_token.specs.Tokens.{tokens_of}
use Rattle.hc_parse.specs.Language.{language}
use Rattle.hc_parse.specs.Stops.{IsExact}
use Rattle.hc_parse.proofs.Answered.{IsRead, tree_exact, stop_exact}
use Rattle.hc_parse.proofs.OneAnswer.{ended}
use Rattle.hc_parse.proofs.parsing.parse.Goals as goal

pub read-requires-clause-ended : goal.read-requires-clause-ended
read-requires-clause-ended c κs =
    subst (λ ts. Ends (is_last language) ts) (sym c.new-tokens.ensures.tokens)
    (ended (tokens_of c.args.bytes.now) c.new-tokens.ensures.ended)

pub returns-in-Ok : goal.returns-in-Ok
returns-in-Ok c =
    subst (λ t. IsExact c.args.bytes.now (Ok t)) (sym c.tree.ensures)
    (tree_exact c.args.bytes.now c.in-Ok.text (subst (λ ts. IsRead ts (Ok c.in-Ok.text)) c.new-tokens.ensures.tokens c.in-Ok.ensures))

pub returns-in-Err : goal.returns-in-Err
returns-in-Err c =
    subst (λ s. IsExact c.args.bytes.now (Err s)) (sym c.stop_of.ensures)
    (stop_exact c.args.bytes.now c.in-Err.stop (subst (λ ts. IsRead ts (Err c.in-Err.stop)) c.new-tokens.ensures.tokens c.in-Err.ensures))
