use Rattle.hc_cfacts.proofs.Units.{programs_call_back, programs_keep_limits}
use Rattle.hc_cfacts.proofs.laws.program_laws.Goals as goal

pub returns-clause-calls : goal.returns-clause-calls
returns-clause-calls c = programs_call_back

pub returns-clause-limits : goal.returns-clause-limits
returns-clause-limits c = programs_keep_limits
