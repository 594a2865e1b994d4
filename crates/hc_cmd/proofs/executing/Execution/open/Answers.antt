use Rattle.hc_cmd.proofs.executing.Execution.open.Goals as goal

pub returns-clause-opened : goal.returns-clause-opened
returns-clause-opened c = c.in_ok-machine.ensures
