-- There is code for every instruction of a process that keeps the rules.
use Rattle.hc_cprivate.proofs.Bodies.{all_coded, all_in_range}
use Rattle.hc_cprivate.proofs.body.private_statements.Goals as goal

pub private_code-requires-clause-coded : goal.private_code-requires-clause-coded
private_code-requires-clause-coded c =
    all_coded c.args.p c.requires.ruled.0 c.args.variables c.requires.few c.args.code.now.instrs c.requires.ruled.1

pub private_code-requires-clause-ranged : goal.private_code-requires-clause-ranged
private_code-requires-clause-ranged c =
    all_in_range c.args.p c.requires.ruled.0 c.args.variables c.requires.few c.args.code.now.instrs c.requires.ruled.1
