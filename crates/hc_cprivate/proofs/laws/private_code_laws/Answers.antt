use Rattle.hc_cprivate.proofs.Private.{private_code_stands, limit_is_enough, parts_are_quick}
use Rattle.hc_cprivate.proofs.Bodies.{bodies_take_steps}
use Rattle.hc_cprivate.proofs.laws.private_code_laws.Goals as goal

pub returns-clause-stands : goal.returns-clause-stands
returns-clause-stands c = private_code_stands

pub returns-clause-limit : goal.returns-clause-limit
returns-clause-limit c = limit_is_enough

pub returns-clause-quick : goal.returns-clause-quick
returns-clause-quick c = parts_are_quick

pub returns-clause-bodies : goal.returns-clause-bodies
returns-clause-bodies c = bodies_take_steps
