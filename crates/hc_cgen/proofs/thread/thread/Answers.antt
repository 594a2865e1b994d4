-- The thread, out of its parts.
use Rattle.hc_cpost.proofs.Built.{all_small}
use Rattle.hc_cgen.proofs.Making.{thread_made}
use Rattle.hc_cgen.proofs.thread.thread.Goals as goal

pub post_code-requires-clause-small : goal.post_code-requires-clause-small
post_code-requires-clause-small c = all_small c.requires.ruled.0 c.args.count c.requires.few c.args.code.now.instrs c.requires.ruled.1

pub take_code-requires-clause-small : goal.take_code-requires-clause-small
take_code-requires-clause-small c = all_small c.requires.ruled.0 c.args.count c.requires.few c.args.code.now.instrs c.requires.ruled.1

pub returns : goal.returns
returns c =
    thread_made c.args.task.now c.args.n c.args.count c.args.code.now.instrs c.in_ok-private.private c.in_ok-stretch.stretch c.in_ok-show.show c.in_ok-report.report
    c.in_ok-take.take c.in_ok-round.round c.in_ok-statements.statements c.in_ok-locals.locals c.requires.counted c.in_ok-private.ensures c.in_ok-stretch.ensures
    c.in_ok-show.ensures c.in_ok-report.ensures c.in_ok-take.ensures c.in_ok-round.ensures c.in_ok-statements.ensures c.in_ok-locals.ensures
